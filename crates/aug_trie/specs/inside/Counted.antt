-- The numbers that a pass or a crew keeps of its changes as it runs.
use Rattle.std.specs.Prelude.{◌≡◌, ℕ, List}
use Rattle.aug_core.specs.declared.view.Change.{Change}
use Rattle.aug_model.specs.declared.outcome.Outcome.{Outcome}
use Rattle.aug_model.specs.declared.outcome.Outcome.TheVariants.{Accepted, Replaced}
use Rattle.aug_trie.specs.Knowledge.{inserts_of, removals_of}
use Rattle.aug_trie.specs.declared.updates.request.Request.{Request}
use Rattle.aug_trie.specs.declared.updates.request.Request.TheVariants.{Insert, Remove, Put, Add, Sub, Take}

-- `inserts` of the changes are insertions, and `removals` are removals
pub record HasCounts (changes : List Change) (inserts removals : ℕ) : Type 0 where
  pub inserts_are : inserts ≡ inserts_of changes
  pub removals_are : removals ≡ removals_of changes

-- how many insertions and how many removals an update makes: a replacement is one of each
abbrev pub insertions_by : Request → Outcome → ℕ
insertions_by Insert Accepted = 1
insertions_by Remove Accepted = 0
insertions_by (Put weight) Accepted = 1
insertions_by (Add amount) Accepted = 1
insertions_by (Sub amount) Accepted = 0
insertions_by (Take weight) Accepted = 0
insertions_by request Replaced = 1
insertions_by request done = 0

abbrev pub removals_by : Request → Outcome → ℕ
removals_by Insert Accepted = 0
removals_by Remove Accepted = 1
removals_by (Put weight) Accepted = 0
removals_by (Add amount) Accepted = 0
removals_by (Sub amount) Accepted = 1
removals_by (Take weight) Accepted = 1
removals_by request Replaced = 1
removals_by request done = 0
