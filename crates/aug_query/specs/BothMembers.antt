-- How many members a list and a set have together, and what a comparison of both loads. If the example is the list, and the set has 0 and 3, they have
-- three from 1 on, and a page of what changed from 1 on loads at most 17 nodes and 9 counts.
use Rattle.std.specs.Prelude.{ℕ, ◌+◌, ◌*◌, ◌^◌, length}
use Rattle.aug_model.specs.Keys.{SetFacts}
use Rattle.aug_model.specs.Queries.{weighted_range_of}
use Rattle.aug_query.specs.Descend.{Loads, loads}

-- how many members from k on both have, among the keys of the later one
abbrev pub members_of_both : SetFacts → SetFacts → ℕ → ℕ
members_of_both earlier later k = length (weighted_range_of earlier.pairs k (2 ^ later.bits)) + length (weighted_range_of later.pairs k (2 ^ later.bits))

-- how much a page of changes from k on loads of the set's tree at most
abbrev pub since_loads : SetFacts → SetFacts → ℕ → Loads
since_loads earlier later k = loads (2 * later.bits * (members_of_both earlier later k + 1) + 1) (later.bits * (members_of_both earlier later k + 1) + 1) 0 0
