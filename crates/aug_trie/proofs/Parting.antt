-- Where the ways of two keys to the root part, and the steps of ways that join.
use Rattle.std.proofs.Common.{◌≡◌, ℕ, zero, suc, ◌+◌, ◌-◌, ◌*◌, ◌/◌, ◌%◌, ◌^◌, ◌<◌, ◌≤◌, Bool, if◌then◌else◌, List, [], ◌∷◌, length, get_or, eq-eqb, ne_eqb, sym, refl, ap, ◌∙◌, subst, ⊎_elim, arith}
use Rattle.std.proofs.lemmas.Bool.{cases_eq}
use Rattle.std.proofs.lemmas.Nat.{pow-add}
use Rattle.std.proofs.Math.Nat.{two-pow-succ, mul_comm, div-add-mod, mod-lt, div-lt_iff_lt-mul, div-div-eq-div-mul}
use Rattle.aug_core.specs.Places.{Shape, node_place}
use Rattle.aug_core.specs.inside.Shows.{above}
use Rattle.aug_core.proofs.CutsUnder.{above_is}
use Rattle.aug_core.proofs.Sizes.{some_leaf}
use Rattle.aug_trie.specs.Pass.{most_rise_steps}
use Rattle.aug_trie.specs.UpdateBatches.{apart, most_rises}

-- the ways of two keys are one at each level above this one
abbrev pub AreOneAbove : ℕ → Shape → ℕ → ℕ → Type 0
AreOneAbove level s key next = (l : ℕ) → level < l → l ≤ s.bits → above s key l ≡ above s next l

-- ways that join at the next level, or go on apart
pub apart_joins : (levels key next : ℕ) → key / 2 ≡ next / 2 → apart (suc levels) key next ≡ 0
unfolding apart
apart_joins levels key next same = ap (λ (b : Bool). if b then 0 else suc (apart levels (key / 2) (next / 2))) (eq-eqb (key / 2) (next / 2) same)

pub apart_more : (levels key next : ℕ) → (key / 2 ≡ next / 2 → ⊥) → apart (suc levels) key next ≡ suc (apart levels (key / 2) (next / 2))
unfolding apart
apart_more levels key next other = ap (λ (b : Bool). if b then 0 else suc (apart levels (key / 2) (next / 2))) (ne_eqb (key / 2) (next / 2) other)

pub apart_none : (key next : ℕ) → apart 0 key next ≡ 0
unfolding apart
apart_none key next = refl

pub apart_few : (levels key next : ℕ) → apart levels key next ≤ levels
apart_few zero key next = let none = apart_none key next in omega (arith, none)
apart_few (suc levels) key next = ⊎_elim (λ (same : key / 2 ≡ next / 2). let is = apart_joins levels key next same in omega (arith, is))
    (λ other. let is = apart_more levels key next other in let few = apart_few levels (key / 2) (next / 2) in omega (arith, is, few)) (cases_eq (key / 2) (next / 2))

-- two ways that were apart up to a level: none, and one level more
pub apart_start : (bits key next : ℕ) → 0 + apart (bits - 0) key next ≡ apart bits key next
apart_start bits key next = let e : bits - 0 ≡ bits = omega arith in let is = ap (λ (z : ℕ). apart z key next) e in omega (arith, is)

pub apart_here : (bits key next level node other : ℕ) → level < bits → level + apart (bits - level) node other ≡ apart bits key next → node / 2 ≡ other / 2 → level ≡ apart bits key next
apart_here bits key next level node other up is same = let e : bits - level ≡ suc (bits - suc level) = omega (arith, up) in
    let none = ap (λ (z : ℕ). apart z node other) e ∙ apart_joins (bits - suc level) node other same in omega (arith, is, none)

pub apart_on : (bits key next level node other : ℕ) → level < bits → level + apart (bits - level) node other ≡ apart bits key next → (node / 2 ≡ other / 2 → ⊥) → level + 1 + apart (bits - (level + 1)) (node / 2) (other / 2) ≡ apart bits key next
apart_on bits key next level node other up is not_same = let e : bits - level ≡ suc (bits - (level + 1)) = omega (arith, up) in
    let more = ap (λ (z : ℕ). apart z node other) e ∙ apart_more (bits - (level + 1)) node other not_same in omega (arith, is, more)

pub apart_end : (bits key next level node other : ℕ) → level ≡ bits → level + apart (bits - level) node other ≡ apart bits key next → bits ≡ apart bits key next
apart_end bits key next level node other past is = let e : bits - level ≡ 0 = omega (arith, past) in let none = ap (λ (z : ℕ). apart z node other) e ∙ apart_none node other in omega (arith, is, none, past)

pub few_levels : (bits key next levels : ℕ) → levels ≡ apart bits key next → levels ≤ bits
few_levels bits key next levels is = let few = apart_few bits key next in omega (arith, is, few)

halved : (key level : ℕ) → key / 2 ^ suc level ≡ key / 2 / 2 ^ level
halved key level = let t = two-pow-succ level in let e : 2 ^ suc level ≡ 2 * 2 ^ level = omega (arith, t) in ap (λ (z : ℕ). key / z) e ∙ sym (div-div-eq-div-mul key 2 (2 ^ level))

-- above where they join the keys are below one node
below_one : (levels key next level : ℕ) → apart levels key next < level → level ≤ levels → key / 2 ^ level ≡ next / 2 ^ level
below_one levels key next zero past up = absurd (omega (arith, past))
below_one zero key next (suc level) past up = absurd (omega (arith, up))
below_one (suc levels) key next (suc level) past up = halved key level ∙ ⊎_elim (λ (same : key / 2 ≡ next / 2). ap (λ (z : ℕ). z / 2 ^ level) same)
    (λ other. let is = apart_more levels key next other in below_one levels (key / 2) (next / 2) level (omega (arith, is, past)) (omega (arith, up))) (cases_eq (key / 2) (next / 2)) ∙ sym (halved next level)

-- the word above a key, by the place of that on its level
above_at : (s : Shape) (key level : ℕ) → key < 2 ^ s.bits → level ≤ s.bits → above s key level ≡ node_place s level (key / 2 ^ level)
above_at s key level low up = let some : 0 < 2 ^ level = (let h = some_leaf level in omega (arith, h)) in
    let rest = s.bits - level in let e : s.bits ≡ rest + level = omega (arith, up) in let all : 2 ^ s.bits ≡ 2 ^ rest * 2 ^ level = ap (λ (z : ℕ). 2 ^ z) e ∙ pow-add 2 rest level in
    above_is s key level (key / 2 ^ level) (key % 2 ^ level) (node_place s level (key / 2 ^ level))
    record { level_fits = up; place_fits = (div-lt_iff_lt-mul {k = 2 ^ level} {x = key} {y = 2 ^ rest} some).1 (omega (arith, low, all)); is = refl }
    (let is = div-add-mod key (2 ^ level) in let swap = mul_comm (2 ^ level) (key / 2 ^ level) in omega (arith, is, swap)) (mod-lt key some)

pub one_above : (s : Shape) (key next : ℕ) → key < 2 ^ s.bits → next < 2 ^ s.bits → AreOneAbove (apart s.bits key next) s key next
one_above s key next low small = λ l past up. above_at s key l low up ∙ ap (node_place s l) (below_one s.bits key next l past up) ∙ sym (above_at s next l small up)

-- ---- the most steps of the first ways

pub first_rises : ℕ → List ℕ → ℕ → ℕ
first_rises bits keys zero = 0
first_rises bits keys (suc i) = first_rises bits keys i + most_rise_steps (apart bits (get_or keys i 0) (get_or keys (suc i) 0))

pub more_rises : (bits : ℕ) (keys : List ℕ) (i : ℕ) → first_rises bits keys (i + 1) ≡ first_rises bits keys i + most_rise_steps (apart bits (get_or keys i 0) (get_or keys (i + 1) 0))
unfolding first_rises
more_rises bits keys i = let e : suc i ≡ i + 1 = omega arith in subst (λ (z : ℕ). first_rises bits keys z ≡ first_rises bits keys i + most_rise_steps (apart bits (get_or keys i 0) (get_or keys z 0))) e refl

later_rises : (bits key : ℕ) (keys : List ℕ) (i : ℕ) → first_rises bits (key ∷ keys) (suc i) ≡ most_rise_steps (apart bits key (get_or keys 0 0)) + first_rises bits keys i
unfolding first_rises
later_rises bits key keys zero = omega arith
later_rises bits key keys (suc i) = let before = later_rises bits key keys i in omega (arith, before)

-- and the whole way of the last key
pub all_rises : (bits : ℕ) (keys : List ℕ) (i : ℕ) → i + 1 ≡ length keys → first_rises bits keys i + most_rise_steps bits ≡ most_rises bits keys
unfolding first_rises most_rises
all_rises bits [] i all = absurd (omega (arith, all))
all_rises bits (key ∷ []) zero all = omega arith
all_rises bits (key ∷ []) (suc i) all = absurd (omega (arith, all))
all_rises bits (key ∷ next ∷ keys) zero all = absurd (omega (arith, all))
all_rises bits (key ∷ next ∷ keys) (suc i) all = let later = later_rises bits key (next ∷ keys) i in let rest = all_rises bits (next ∷ keys) i (omega (arith, all)) in omega (arith, later, rest)
