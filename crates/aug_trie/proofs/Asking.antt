-- What a query on a snapshot comes to for the pass that was asked.
use Rattle.std.proofs.Common.{◌≡◌, ℕ, ◌+◌, ◌*◌, ◌≤◌, Option, Some, sym, refl, ap, ◌∙◌, subst, arith}
use Rattle.atomic_table.specs.Seated.{TableId}
use Rattle.aug_monoid.specs.Parts.{Parts}
use Rattle.aug_model.specs.Folds.{summary_of}
use Rattle.aug_core.specs.Counts.{changes_of}
use Rattle.aug_core.specs.Faces.{face}
use Rattle.aug_words.specs.Seats.{Known}
use Rattle.aug_trie.specs.Node.{Reads}
use Rattle.aug_trie.specs.inside.NodeWords.{IsNodeAt}
use Rattle.aug_trie.specs.Pass.{PassFacts}
use Rattle.aug_trie.specs.Snapshot.{HasSnapshot, set_at}
use Rattle.aug_trie.specs.inside.Counted.{HasCounts}
use Rattle.aug_trie.specs.inside.Goes.{KnowsRecords, Looks}
use Rattle.aug_trie.specs.inside.NamedCuts.{cut_named}
use Rattle.aug_trie.specs.inside.PassState.{pass_facts, known_in, HoldsPass}
use Rattle.aug_trie.specs.inside.SnapshotWalk.{set_seen, HasWalk, IsWalk, Walking}
use Rattle.aug_trie.specs.declared.queries.snapshot.Snapshot.{Snapshot}
use Rattle.aug_trie.proofs.Passing.{pass_records, pass_told}
use Rattle.aug_trie.proofs.SnapshotWalks.{WalkDescends}
use Rattle.aug_trie.proofs.Looking.{holds_plainly, reads_plainly}
use Rattle.aug_trie.proofs.Trees.{named_set, top_is, reads_by, still_by}

-- the set that a walk goes over is the snapshot's
pub same_set : (words : Option Known) (walk : Walking) (s : Snapshot) (left : ℕ) (now : PassFacts) → words ≡ Some walk.words → walk.snapshot ≡ s → pass_facts (known_in words) left ≡ now → set_seen walk.words.view walk.snapshot ≡ set_at now s
same_set words walk s left now there same facts =
    ap (λ (z : Snapshot). set_seen walk.words.view z) same ∙ ap (λ (z : Option Known). set_at (pass_facts (known_in z) left) s) (sym there) ∙ ap (λ (z : PassFacts). set_at z s) facts

module _ {A B : Type 0} (parts_a : Parts A) (parts_b : Parts B) where
  -- who knows a round and has a snapshot may walk it
  pub walks_by : (k : Known) (bits left : ℕ) (s : Snapshot) → KnowsRecords (face parts_a parts_b) k.view → bits ≡ k.view.shape.bits → HasSnapshot (pass_facts k left) s → IsWalk (face parts_a parts_b) (λ word. word) k.view s bits
  walks_by k bits left s kn bits_are has = record {
    bits_are = bits_are;
    top = record {
      reads = reads_plainly (face parts_a parts_b) k.view kn;
      is_tree_set = named_set (face parts_a parts_b) k.view s kn.knows_table;
      holds = holds_plainly k.view kn.keeps_records (cut_named k.view.shape k.view.seen s) bits 0 s.number
          (subst (λ (z : ℕ). IsNodeAt k.view.shape k.view.seen (cut_named k.view.shape k.view.seen s) z 0 s.number) (sym bits_are) (top_is parts_a parts_b k.view s kn.knows_table has));
    };
  }

  -- a pass that holds its words may be walked
  pub may_walk : (words : Option Known) (leaves bits next left : ℕ) (now : PassFacts) (s : Snapshot) → HoldsPass (face parts_a parts_b) words leaves bits next left → pass_facts (known_in words) left ≡ now → HasSnapshot now s → HasWalk (face parts_a parts_b) (λ word. word) words s bits
  may_walk words leaves bits next left now s h facts has =
      let k : Known = h.known in let t = pass_told (face parts_a parts_b) words k leaves bits next left now h h.there facts in
      record { known = k; there = h.there; is_walk = walks_by k bits left s (pass_records t.0) t.0.bits_are (subst (λ (z : PassFacts). HasSnapshot z s) (sym t.1) has) }

  -- what a descent loaded, the pass looked at
  pub looks_of : {number : ℕ → ℕ} (n c s p : ℕ) (walk new : Walking) → WalkDescends (face parts_a parts_b) number n c s p walk new → Looks (n + c + 3 * s + 2 * p) walk.words.view new.words.view
  looks_of n c s p walk new d = let keeps = d.keeps_rest in
      record { more = keeps.more; is = keeps.steps; few = omega (arith, keeps.few_steps, d.few_nodes, d.few_counts, d.few_summaries, d.few_passed) }

  -- the pass is one still, with the same counts
  pub still_pass : {number : ℕ → ℕ} (words : Option Known) (walk new : Walking) (leaves bits next left inserts removals n c s p : ℕ) → HoldsPass (face parts_a parts_b) words leaves bits next left → HasCounts (changes_of (known_in words).view.held) inserts removals → words ≡ Some walk.words
      → WalkDescends (face parts_a parts_b) number n c s p walk new → HoldsPass (face parts_a parts_b) (Some new.words) leaves bits next left × HasCounts (changes_of new.words.view.held) inserts removals
  still_pass words walk new leaves bits next left inserts removals n c s p h counts there d =
      let f = face parts_a parts_b in
      let t = pass_told f words walk.words leaves bits next left (pass_facts (known_in words) left) h there refl in
      still_by f walk.words new.words leaves bits next left inserts removals (n + c + 3 * s + 2 * p) t.0 (subst (λ (z : Option Known). HasCounts (changes_of (known_in z).view.held) inserts removals) there counts) (looks_of n c s p walk new d)

  -- and it only read
  pub reads_of : {number : ℕ → ℕ} (words : Option Known) (walk new : Walking) (left n c s p most : ℕ) (now : PassFacts) → words ≡ Some walk.words → pass_facts (known_in words) left ≡ now → WalkDescends (face parts_a parts_b) number n c s p walk new → n + c + 3 * s + 2 * p ≤ most
      → Reads (summary_of parts_a parts_b) most now (pass_facts new.words left)
  reads_of words walk new left n c s p most now there facts d enough =
      let reads = reads_by parts_a parts_b walk.words new.words.view left (n + c + 3 * s + 2 * p) (looks_of n c s p walk new d) in
      let all = subst (λ (z : PassFacts × TableId). Reads (summary_of parts_a parts_b) (n + c + 3 * s + 2 * p) z.0 (pass_facts (record { table = z.1; view = new.words.view }) left))
      (λ j. ((ap (λ (z : Option Known). pass_facts (known_in z) left) (sym there) ∙ facts) j, sym d.keeps_rest.same_table j)) reads in
      record { stays = all.stays; few_steps = let few = all.few_steps in omega (arith, few, enough) }
