-- The lanes of a trie, as more of their handles are done.
use Rattle.std.proofs.Common.{◌≡◌, ℕ, zero, suc, List, [], ◌∷◌, ◌++◌, length, refl, sym, ap, ◌∙◌, subst, arith}
use Rattle.std.specs.Prelude.{map, reverse}
use mathlib.Core.Option.{some, some-injective, some-ne-none}
use lib.ListN.{get_elem?}
use Rattle.aug_core.proofs.PrefixLemmas.{prefix_refl, prefix_trans}
use Rattle.aug_trie.proofs.Chaining.{part_refl, part_trans}
use Rattle.aug_live.specs.LiveTries.{KeepsHandles, KnowsMore, LaneGoesOn, LaneKnown, LanesGoOn, TrieFacts, ids_of}
use Rattle.aug_live.specs.inside.LaneKnowledge.{EndFacts, lane_by}
use Rattle.aug_live.specs.inside.Rolls.{given_all, kept_of}

goes_on : (x : LaneKnown) → LaneGoesOn x x
goes_on x = record { id = refl; number = omega arith; done = prefix_refl x.done }

pub lanes_refl : (xs : List LaneKnown) → LanesGoOn xs xs
lanes_refl [] = tt
lanes_refl (x ∷ xs) = (goes_on x, lanes_refl xs)

pub lanes_trans : (xs ys zs : List LaneKnown) → LanesGoOn xs ys → LanesGoOn ys zs → LanesGoOn xs zs
lanes_trans [] [] zs a b = b
lanes_trans [] (y ∷ ys) zs a b = absurd a
lanes_trans (x ∷ xs) [] zs a b = absurd a
lanes_trans (x ∷ xs) (y ∷ ys) [] a b = absurd b
lanes_trans (x ∷ xs) (y ∷ ys) (z ∷ zs) a b = (record { id = b.0.id ∙ a.0.id; number = (let l = a.0.number in let m = b.0.number in omega arith); done = prefix_trans x.done y.done z.done a.0.done b.0.done }, lanes_trans xs ys zs a.1 b.1)

pub lanes_same : (xs ys : List LaneKnown) → ys ≡ xs → LanesGoOn xs ys
lanes_same xs ys same = subst (LanesGoOn xs) (sym same) (lanes_refl xs)

-- one of them goes on
pub lanes_at : (a b : List LaneKnown) (x y : LaneKnown) → LaneGoesOn x y → LanesGoOn (a ++ x ∷ b) (a ++ y ∷ b)
lanes_at [] b x y on = (on, lanes_refl b)
lanes_at (c ∷ a) b x y on = (goes_on c, lanes_at a b x y on)

-- they keep their identities, and there are as many
pub ids_same : (xs ys : List LaneKnown) → LanesGoOn xs ys → map (λ (l : LaneKnown). l.id) ys ≡ map (λ (l : LaneKnown). l.id) xs
ids_same [] [] on = refl
ids_same [] (y ∷ ys) on = absurd on
ids_same (x ∷ xs) [] on = absurd on
ids_same (x ∷ xs) (y ∷ ys) on = λ i. on.0.id i ∷ ids_same xs ys on.1 i

pub as_many : (xs ys : List LaneKnown) → LanesGoOn xs ys → length ys ≡ length xs
as_many [] [] on = refl
as_many [] (y ∷ ys) on = absurd on
as_many (x ∷ xs) [] on = absurd on
as_many (x ∷ xs) (y ∷ ys) on = ap suc (as_many xs ys on.1)

-- the lane at a place, where more was known of it later, and what was known of it before
pub known_before : (xs ys : List LaneKnown) → LanesGoOn xs ys → (k : ℕ) (y : LaneKnown) → get_elem? ys k ≡ some y → (x : LaneKnown) × (get_elem? xs k ≡ some x) × LaneGoesOn x y
known_before [] [] on k y at = absurd (some-ne-none y (sym at))
known_before [] (z ∷ ys) on k y at = absurd on
known_before (x ∷ xs) [] on k y at = absurd on
known_before (x ∷ xs) (z ∷ ys) on zero y at = (x, refl, subst (LaneGoesOn x) (some-injective z y at) on.0)
known_before (x ∷ xs) (z ∷ ys) on (suc k) y at = known_before xs ys on.1 k y at

-- what an end keeps says all of its lane
pub lanes_of_kept : (es : List EndFacts) → map lane_by (map kept_of es) ≡ map lane_by es
lanes_of_kept [] = refl
lanes_of_kept (e ∷ es) = λ i. lane_by e ∷ lanes_of_kept es i

-- the identities of the lanes are those of their locks
pub ids_are : (es : List EndFacts) → map (λ (l : LaneKnown). l.id) (map lane_by es) ≡ map (λ (e : EndFacts). e.lock) es
ids_are [] = refl
ids_are (e ∷ es) = λ i. e.lock ∷ ids_are es i

-- a lane of which the same is known
pub lane_same : (x y : LaneKnown) → y ≡ x → LaneGoesOn x y
lane_same x y same = subst (LaneGoesOn x) (sym same) (goes_on x)

-- the lanes of a trie whose round rolled over
lanes_given : (es : List EndFacts) → map lane_by (map given_all es) ≡ map lane_by (map kept_of es)
lanes_given [] = refl
lanes_given (e ∷ es) = λ i. lane_by e ∷ lanes_given es i

pub rolled_lanes : (ports ports' back : List EndFacts) → map kept_of (reverse back) ≡ map kept_of ports → map kept_of ports' ≡ map given_all (reverse back) → LanesGoOn (map lane_by ports) (map lane_by ports')
rolled_lanes ports ports' back took dealt = lanes_same (map lane_by ports) (map lane_by ports')
    (sym (lanes_of_kept ports') ∙ ap (map lane_by) dealt ∙ lanes_given (reverse back) ∙ ap (map lane_by) took ∙ lanes_of_kept ports)

-- what is known of a trie, as it goes on
pub more_self : (t : TrieFacts) → KnowsMore t t
more_self t = record { closed = λ c. c; table = refl; bits = refl; lanes = lanes_refl t.lanes; part = part_refl t.rounds }

pub more_on : (a b c : TrieFacts) → KnowsMore a b → KnowsMore b c → KnowsMore a c
more_on a b c x y = record { closed = λ d. y.closed (x.closed d); table = y.table ∙ x.table; bits = y.bits ∙ x.bits; lanes = lanes_trans a.lanes b.lanes c.lanes x.lanes y.lanes; part = part_trans a.rounds b.rounds c.rounds x.part y.part }

pub keeps_self : (t : TrieFacts) → KeepsHandles t t
keeps_self t = record { more = more_self t; given = refl }

pub keeps_on : (a b c : TrieFacts) → KeepsHandles a b → KeepsHandles b c → KeepsHandles a c
keeps_on a b c x y = record { more = more_on a b c x.more y.more; given = y.given ∙ x.given }

-- the same by equal states
pub keeps_by : (own mine was new : TrieFacts) → mine ≡ own → KeepsHandles mine was → new ≡ was → KeepsHandles own new
keeps_by own mine was new same k is = subst (λ (z : TrieFacts × TrieFacts). KeepsHandles z.0 z.1) (λ i. (same i, sym is i)) k

pub ids_more : (a b : TrieFacts) → KnowsMore a b → ids_of b ≡ ids_of a
ids_more a b more = ids_same a.lanes b.lanes more.lanes
