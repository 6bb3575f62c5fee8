-- What a node gives to a page: those of its members that are in the stretch that is listed, in its order.
use Rattle.std.specs.Prelude.{ℕ, ◌+◌, ◌-◌, ◌*◌, ◌<◌, min, max, List, reverse}
use Rattle.aug_model.specs.Queries.{weighted_range_of}
use Rattle.aug_query.specs.declared.descent.pages.Stretch.{Stretch}
use Rattle.aug_query.specs.declared.descent.pages.Stretch.TheVariants.{From, Below}

-- the key
abbrev pub key_of : Stretch → ℕ
key_of (From k) = k
key_of (Below k) = k

-- the members x with a <= x and x < b in the stretch
abbrev pub part_of : Stretch → List (ℕ × ℕ) → ℕ → ℕ → List (ℕ × ℕ)
part_of (From k) pairs a b = weighted_range_of pairs (max a k) b
part_of (Below k) pairs a b = reverse (weighted_range_of pairs a (min b k))

-- some key from a on and below b is in the stretch
abbrev pub Reaches : Stretch → ℕ → ℕ → Type 0
Reaches (From k) a b = k < b
Reaches (Below k) a b = a < k

-- 1 if some of these keys are in the stretch, and others are not
abbrev pub crosses : Stretch → ℕ → ℕ → ℕ
crosses stretch a b = min 1 (min (key_of stretch - a) (b - key_of stretch))

-- the place of the child whose members come first, and that of the other one
abbrev pub place_of_first : Stretch → ℕ → ℕ
place_of_first (From k) place = 2 * place
place_of_first (Below k) place = 2 * place + 1

abbrev pub place_of_second : Stretch → ℕ → ℕ
place_of_second (From k) place = 2 * place + 1
place_of_second (Below k) place = 2 * place
