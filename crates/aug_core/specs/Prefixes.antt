-- Lists with which others begin. What is known here only ever grows at its end: each list of a book, and each history.
use Rattle.std.specs.Prelude.{◌≡◌, List, ◌++◌}

-- the first list is a prefix of the second
abbrev pub IsPrefix : {A : Type 0} → List A → List A → Type 0
IsPrefix {A} front list = (more : List A) × (list ≡ front ++ more)
