-- Keys that go down a tree together, each with the node that covers it.
use Rattle.std.specs.Prelude.{ℕ, ◌/◌, ◌^◌}
use Rattle.aug_model.specs.Keys.{SetFacts, list_of}
use Rattle.aug_model.specs.Queries.{rank_of}
use Rattle.aug_model.specs.NodeKeys.{first_key}
use Rattle.aug_batch.specs.declared.together.Way.{Way}
use Rattle.aug_batch.specs.declared.together.Ways.{Ways}

module _ {Tree Name : Type 0} (set_of : Tree → SetFacts) (Names : Tree → ℕ → ℕ → Name → Type 0) (Counts : ℕ → ℕ → Type 0) where
  -- a key's way has come to the node at a level that covers it, with what it has counted of the members before that node
  pub record IsWay (tree : Tree) (level key : ℕ) (way : Way Name) : Type 0 where
    pub node : Names tree level (key / 2 ^ level) way.node
    pub counted : Counts way.counted (rank_of (list_of (set_of tree)) (first_key level (key / 2 ^ level)))

  -- those of four keys have
  pub record AreWays (tree : Tree) (level p q r s : ℕ) (ways : Ways Name) : Type 0 where
    pub way_p : IsWay tree level p ways.p
    pub way_q : IsWay tree level q ways.q
    pub way_r : IsWay tree level r ways.r
    pub way_s : IsWay tree level s ways.s
