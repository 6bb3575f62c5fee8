-- When two lists have the same changes.
use Rattle.std.specs.Prelude.{◌≡◌, Bool, List, filter, length}
use Rattle.aug_core.specs.declared.view.Change.{Change}

-- two lists have the same changes, in whatever order: each test passes as many of both
abbrev pub SameChanges : List Change → List Change → Type 0
SameChanges xs ys = (test : Change → Bool) → length (filter test xs) ≡ length (filter test ys)
