-- A reader of a round, and what the pass that lends it makes of it. Contracts see it as a pass that holds no lane and has no update left. In the example
-- the pass that put 0 in lends a reader, which has both of its snapshots and no change of its own.
use Rattle.std.specs.Prelude.{◌≡◌, []}
use Rattle.aug_trie.specs.Pass.{PassFacts}
use Rattle.aug_trie.specs.Snapshot.{HasSnapshot, set_at}
use Rattle.aug_trie.specs.declared.queries.snapshot.Snapshot.{Snapshot}

-- the reader knows what the pass knows of the rounds of its table, and of their words; it has accepted nothing and made no step. So it has the same snapshots
pub record Lends (pass reader : PassFacts) : Type 0 where
  pub reader_is : reader ≡ record pass { lane = reader.lane; knows = record pass.knows { accepted = [] }; spent = reader.spent; steps = [] }
  pub snapshots : (s : Snapshot) → HasSnapshot pass s → HasSnapshot reader s
  pub same_sets : (s : Snapshot) → HasSnapshot pass s → set_at reader s ≡ set_at pass s

-- where both are of one round, the pass has each snapshot that the reader has, and it shows the same
abbrev pub TakesUp : PassFacts → PassFacts → Type 0
TakesUp reader pass = reader.round.era ≡ pass.round.era → (s : Snapshot) → HasSnapshot reader s → HasSnapshot pass s × (set_at pass s ≡ set_at reader s)
