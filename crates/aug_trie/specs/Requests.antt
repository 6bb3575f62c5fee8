-- The requests of updates, and what an update makes of a leaf. A put of 1 with the weight 5 makes `3 * 2^32 + 5` of `2^32 + 1`. What additions,
-- subtractions and takes make of a leaf with the serial 1, whose key weighs 7, and of one with the serial 2, whose key is no member; `-` stands for a leaf that
-- stays:
--
--     request      | serial 1, weight 7  | serial 2, weight 0
--     -------------+---------------------+--------------------
--     Add 5        | 3, 12      Replaced | 3, 5       Accepted
--     Add 2^32 - 8 | 3, 2^32-1  Replaced | 3, 2^32-8  Accepted
--     Add 2^32 - 7 | -          TooGreat | 3, 2^32-7  Accepted
--     Sub 5        | 3, 2       Replaced | -          TooLittle
--     Sub 7        | 2, 0       Accepted | -          TooLittle
--     Sub 8        | -         TooLittle | -          TooLittle
--     Add 0, Sub 0 | -         Unchanged | -          Unchanged
--     Take 7       | 2, 0       Accepted | -          Refused
--     Take 5       | -         Refused   | -          Refused
use Rattle.std.specs.Prelude.{ℕ, ◌+◌, ◌-◌, ◌%◌, ◌^◌, ◌==◌, ◌&&◌, nat_lt, nat_le, Bool, true, false, if◌then◌else◌, List, [], ◌∷◌, Option, Some, None}
use Rattle.aug_core.specs.Book.{word_of_leaf}
use Rattle.aug_core.specs.Counts.{change}
use Rattle.aug_core.specs.declared.view.Change.{Change}
use Rattle.aug_model.specs.declared.outcome.Outcome.{Outcome}
use Rattle.aug_model.specs.declared.outcome.Outcome.TheVariants.{Accepted, Replaced, Refused, Unchanged, TooGreat, TooLittle}
use Rattle.aug_trie.specs.LeafWords.{serial_in_word, weight_in_word}
use Rattle.aug_trie.specs.declared.updates.request.Request.{Request}
use Rattle.aug_trie.specs.declared.updates.request.Request.TheVariants.{Insert, Remove, Put, Add, Sub, Take}

-- whether an update continues from a leaf with this word: an insertion if the key is not there, a removal if it is, and a put always; an addition if the
-- sum is a weight, where a key that is not there weighs 0, and a subtraction if the key is there and weighs as much as that. Neither does with nothing. A
-- take continues if the key is there and weighs just this
abbrev pub goes_from : Request → ℕ → Bool
goes_from Insert word = serial_in_word word % 2 == 0
goes_from Remove word = serial_in_word word % 2 == 1
goes_from (Put weight) word = true
goes_from (Add amount) word = nat_lt 0 amount && nat_lt (weight_in_word word + amount) (2 ^ 32)
goes_from (Sub amount) word = nat_lt 0 amount && (serial_in_word word % 2 == 1 && nat_le amount (weight_in_word word))
goes_from (Take weight) word = serial_in_word word % 2 == 1 && weight_in_word word == weight

-- the outcomes with which nothing was stored
abbrev pub stores_nothing : Outcome → Bool
stores_nothing Accepted = false
stores_nothing Replaced = false
stores_nothing done = true

-- the outcome of an update that does not continue
abbrev pub outcome_at_once : Request → Outcome
outcome_at_once (Add amount) = if amount == 0 then Unchanged else TooGreat
outcome_at_once (Sub amount) = if amount == 0 then Unchanged else TooLittle
outcome_at_once request = Refused

-- the serial that prevents an update that stores nothing: the one in the word that was found, or the next one if the update would have continued from
-- the word that was found
abbrev pub in_the_way : Request → ℕ → ℕ
in_the_way request word = if goes_from request word then serial_in_word word + 1 else serial_in_word word

-- the word that it makes of a leaf's word: with the next serial, or with the one after that if the weight of a key that is there is replaced
abbrev pub word_after : Request → ℕ → ℕ → ℕ
word_after Insert key word = word_of_leaf (serial_in_word word + 1) key
word_after Remove key word = word_of_leaf (serial_in_word word + 1) 0
word_after (Put weight) key word = word_of_leaf (if serial_in_word word % 2 == 1 then serial_in_word word + 2 else serial_in_word word + 1) weight
word_after (Add amount) key word = word_of_leaf (if serial_in_word word % 2 == 1 then serial_in_word word + 2 else serial_in_word word + 1) (weight_in_word word + amount)
word_after (Sub amount) key word = word_of_leaf (if nat_lt amount (weight_in_word word) then serial_in_word word + 2 else serial_in_word word + 1) (weight_in_word word - amount)
word_after (Take weight) key word = word_of_leaf (serial_in_word word + 1) 0

-- the word that it leaves if it comes to this
abbrev pub word_left : Request → ℕ → ℕ → Outcome → ℕ
word_left request key word done = if stores_nothing done then word else word_after request key word

-- the weight that a leaf's word tells of its key, if that is a member
abbrev pub weight_told : ℕ → Option ℕ
weight_told word = if serial_in_word word % 2 == 1 then Some (weight_in_word word) else None

-- the changes that it makes if it comes to this: one to the next serial, or two if the weight of a key that is there is replaced
abbrev pub changes_by : Request → ℕ → ℕ → Outcome → List Change
changes_by request key word Accepted = change key (serial_in_word word + 1) (weight_in_word (word_after request key word)) ∷ []
changes_by request key word Replaced = change key (serial_in_word word + 1) 0 ∷ change key (serial_in_word word + 2) (weight_in_word (word_after request key word)) ∷ []
changes_by request key word done = []

-- the outcome of the update if the leaf still had the word that was loaded
abbrev pub outcome_by : Request → ℕ → Outcome
outcome_by (Put weight) word = if serial_in_word word % 2 == 1 then Replaced else Accepted
outcome_by (Add amount) word = if serial_in_word word % 2 == 1 then Replaced else Accepted
outcome_by (Sub amount) word = if nat_lt amount (weight_in_word word) then Replaced else Accepted
outcome_by request word = Accepted

-- the outcome that an update has by the word that it found, if no other change of the key comes first
abbrev pub outcome_from : Request → ℕ → Outcome
outcome_from request word = if goes_from request word then outcome_by request word else outcome_at_once request
