-- What is asked of the keys of an array, and what is written of a member.
use Rattle.std.specs.Prelude.{ℕ, Bool, true, false, List, get_or}
use Rattle.aug_trie.specs.declared.updates.request.Request.{Request}
use Rattle.aug_trie.specs.declared.updates.request.Request.TheVariants as request

-- what is asked of a key with a weight, where this is asked of each
abbrev pub request_by : Request → ℕ → Request
request_by (request.Put other) weight = request.Put weight
request_by each weight = each

-- what is asked of the key with an index
abbrev pub requests_of : Request → List ℕ → ℕ → Request
requests_of asked weights place = request_by asked (get_or weights place 0)

-- the weight of a member, or its key
abbrev pub member_part : Bool → ℕ × ℕ → ℕ
member_part true pair = pair.1
member_part false pair = pair.0
