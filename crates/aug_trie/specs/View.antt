-- What a query over a view keeps of its pass. It makes at most four steps for each call: one that asks for the root and for its left child makes at
-- most eight.
use Rattle.std.specs.Prelude.{◌≡◌, ℕ, ◌+◌, ◌*◌, ◌≤◌, List, length}
use Rattle.std.specs.Borrow.{MutBor}
use Rattle.aug_model.specs.declared.summary.Summary.{Summary}
use Rattle.aug_trie.specs.Pass.{PassFacts}
use Rattle.aug_trie.specs.Node.{Stays}
use Rattle.aug_trie.specs.declared.queries.snapshot.Snapshot.{Snapshot}

module _ {A B : Type 0} (summary_of : List (ℕ × ℕ) → Summary A B) where
  -- the view is of the same pass and snapshot, and the pass has made at most four steps for each call since, from which it learned nothing new
  pub record KeepsPass (first now : MutBor PassFacts) (s_first s_now : Snapshot) (calls_first calls_now : ℕ) : Type 0 where
    pub same_reference : now.ghost_name ≡ first.ghost_name
    pub same_snapshot : s_now ≡ s_first
    pub stays : Stays summary_of first.now now.now
    pub few_steps : length now.now.steps + 4 * calls_first ≤ length first.now.steps + 4 * calls_now
