-- What contracts see of a table that lasts, whose records are used again: it is one round, that of its opening, so its passes have no budget.
use Rattle.std.specs.Prelude.{◌≡◌, Option, Some, None, IfSome, option_map, ℕ, ◌+◌, ◌*◌, ◌^◌, ◌<◌, ◌≤◌, List, [], ◌∷◌, ◌++◌, length, slice_index}
use Rattle.aug_core.specs.Kinds.{load_node}
use Rattle.aug_core.specs.Layout.{IsWithin}
use Rattle.aug_core.specs.Places.{table_words}
use Rattle.aug_core.specs.Prefixes.{IsPrefix}
use Rattle.aug_core.specs.declared.step.StepTaken.{StepTaken}
use Rattle.aug_model.specs.Keys.{list_of}
use Rattle.aug_model.specs.Queries.{weight_of}
use Rattle.aug_model.specs.declared.outcome.Outcome.TheVariants as outcome
use Rattle.aug_words.specs.Stocks.{StockFacts, scan_steps, IsHeld, birth_in_word}
use Rattle.aug_trie.specs.Knowledge.{Knowledge}
use Rattle.aug_trie.specs.Pass.{PassFacts}
use Rattle.aug_trie.specs.Pops.{member_at}
use Rattle.aug_trie.specs.Round.{root_of}
use Rattle.aug_trie.specs.Snapshot.{HasSnapshot, set_at, snapshot_cut}
use Rattle.aug_trie.specs.Updates.{ComesTo, TakesSnapshot}
use Rattle.aug_trie.specs.declared.queries.snapshot.Snapshot.{Snapshot}
use Rattle.aug_trie.specs.declared.rounds.pop.Pop.{Pop}
use Rattle.aug_trie.specs.declared.rounds.pop.Pop.TheVariants as pop
use Rattle.aug_trie.specs.declared.rounds.pop.Side.{Side}
use Rattle.aug_trie.specs.declared.updates.request.Request.TheVariants as request

-- a pass, of which nothing is spent, the stock of its lane, and the snapshot that it holds
pub record LastingFacts : Type 0 where
  pub pass : PassFacts
  pub stock : StockFacts
  pub look : Option Snapshot

-- a table that lasts would have more than 2 ^ 26 words: beside those of a table for all keys below 2 ^ bits that uses no record again, it has 24 words for
-- each worker, for the reservations and the era
abbrev pub IsTooLarge : ℕ → ℕ → ℕ → Type 0
IsTooLarge bits workers updates = IsWithin 1 16 bits × IsWithin 1 64 workers × IsWithin 1 65536 updates × (2 ^ 26 < table_words bits workers updates (2 ^ bits) + 24 * workers)

-- the most steps of an update: at each level at most two tries of 26 steps; and to load the leaf and to change it, to retire what was replaced, to reserve an era
-- and to let go of it, and before that perhaps to move the era on and to load all reservations
abbrev pub most_lasting_steps : ℕ → ℕ → ℕ
most_lasting_steps bits workers = bits * 52 + workers + 9

-- and those of a look: it reserves an era, loads the root's word and reserves anew twice at most, and then for all later eras
abbrev pub look_steps : ℕ
look_steps = 11

-- and those of a pop: a look, which is asked for a member at one end and for its weight and then ended, and an update
abbrev pub most_pop_steps : ℕ → ℕ → ℕ
most_pop_steps bits workers = look_steps + (bits + 6) + 1 + most_lasting_steps bits workers

-- the last of some steps loads the root's word, and finds this
abbrev pub LoadsRootLast : PassFacts → ℕ → PassFacts → Type 0
LoadsRootLast old found new = (before : List StepTaken) × (new.steps ≡ old.steps ++ (before ++ load_node (root_of old.round) found ∷ []))

-- the stock has too few records for an update, once all reservations were loaded: of its others each is held by one of these
pub record IsShort (old new : LastingFacts) : Type 0 where
  pub few : new.stock.free < new.pass.round.bits
  pub eras : ℕ → ℕ
  pub more : List StepTaken
  pub steps : new.pass.steps ≡ old.pass.steps ++ more ++ scan_steps new.pass.words.shape eras new.pass.round.workers
  pub held : (i : ℕ) → new.stock.free ≤ i → i < length new.stock.words → (slot : ℕ) × (slot < new.pass.round.workers) × IsHeld (eras slot) (birth_in_word (slice_index new.stock.words i)) (slice_index new.stock.deaths i)

-- it is short of them, and nothing was changed
pub record IsFull (old new : LastingFacts) : Type 0 where
  pub short : IsShort old new
  pub same_size : length new.stock.words ≡ length old.stock.words
  pub same_knowledge : new.pass.knows ≡ old.pass.knows

-- a member that was seen, with its weight, is taken out if it still weighs that. If none was seen, nothing is done
abbrev pub TakesSeen : Option (ℕ × ℕ) → Pop → Knowledge → Knowledge → Type 0
TakesSeen None pop.Empty old new = new ≡ old
TakesSeen (Some p) (pop.Member key weight) old new = ((key, weight) ≡ p) × ComesTo (request.Take weight) key outcome.Accepted old new
TakesSeen (Some p) pop.Refused old new = ComesTo (request.Take p.1) p.0 outcome.Refused old new
TakesSeen seen done old new = ⊥

-- the pass looks, and asks the look for its member at one end and what that weighs
pub record LooksFor (side : Side) (seen : Option (ℕ × ℕ)) (old looked : PassFacts) : Type 0 where
  pub snapshot : Snapshot
  pub takes : TakesSnapshot old.knows looked.knows (snapshot_cut looked snapshot)
  pub loads : LoadsRootLast old snapshot.number looked
  pub known : HasSnapshot looked snapshot
  pub key : member_at side (list_of (set_at looked snapshot)) ≡ option_map (λ p. p.0) seen
  pub weighs : IfSome seen (λ p. weight_of (set_at looked snapshot).pairs p.0 ≡ Some p.1)

-- and takes that member out once the look is at an end
pub record LastingPops (side : Side) (done : Pop) (old new : PassFacts) : Type 0 where
  pub seen : Option (ℕ × ℕ)
  pub looked : PassFacts
  pub looks : LooksFor side seen old looked
  pub takes_seen : TakesSeen seen done looked.knows new.knows

-- or it saw one, and once the look is at an end its stock has too few records to take that out
pub record IsFullAfter (side : Side) (old new : LastingFacts) : Type 0 where
  pub seen : ℕ × ℕ
  pub looked : PassFacts
  pub looks : LooksFor side (Some seen) old.pass looked
  pub ended : LastingFacts
  pub same_knowledge : ended.pass.knows ≡ looked.knows
  pub steps_stay : IsPrefix looked.steps ended.pass.steps
  pub same_stock : ended.stock ≡ record old.stock { era = 0 }
  pub full : IsFull ended new
