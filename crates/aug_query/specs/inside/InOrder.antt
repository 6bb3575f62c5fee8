-- What members come to, rising or falling: `head_of Falling` is the last of a list.
use Rattle.std.specs.Prelude.{ℕ, ◌+◌, List, Option}
use Rattle.aug_model.specs.Queries.{first_of, last_of}
use Rattle.aug_model.specs.NodeKeys.{first_key, end_key}
use Rattle.aug_query.specs.declared.descent.neighbours.Order.{Order}
use Rattle.aug_query.specs.declared.descent.neighbours.Order.TheVariants.{Rising, Falling}

-- the member that comes first
abbrev pub head_of : Order → List ℕ → Option ℕ
head_of Rising = first_of
head_of Falling = last_of

-- where the keys of a node begin: at the first one, or behind the last one
abbrev pub start_of : Order → ℕ → ℕ → ℕ
start_of Rising = first_key
start_of Falling = end_key

-- and where a single key begins
abbrev pub start_at : Order → ℕ → ℕ
start_at Rising key = key
start_at Falling key = key + 1
