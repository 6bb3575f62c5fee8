-- The node over a band, level by level, and what it counts.
use Rattle.std.proofs.Common.{◌≡◌, ℕ, ◌+◌, ◌-◌, ◌*◌, ◌^◌, ◌/◌, ◌<◌, ◌≤◌, min, length, one-mul, refl, ap, sym, ◌∙◌, arith, inl, inr}
use Rattle.std.proofs.Math.Nat.{div-one, div-mul-le_self, le_trans, le_of_eq, mul-le-mul_right, mul-le-mul_left}
use Rattle.std.proofs.Math.Pow.{pow_mono}
use Rattle.std.proofs.lemmas.Bool.{cases_lt}
use Rattle.std.proofs.lemmas.Nat.{pow-add}
use Rattle.aug_model.specs.Keys.{SetFacts, list_of}
use Rattle.aug_model.specs.NodeKeys.{first_key, end_key, keys_below}
use Rattle.aug_model.specs.Queries.{range_of}
use Rattle.aug_model.proofs.Ranges.{AllBelow, all_below_from, range_clipped, range_none, range_whole}
use Rattle.aug_query.specs.Tree.{IsTreeSet}
use Rattle.aug_query.proofs.Nodes.{top_first}

-- at a band's own level its node stands at its number
pub own_place : (band deep : ℕ) → deep ≡ 0 → band / 2 ^ deep ≡ band
own_place band deep e = ap (λ n. band / 2 ^ n) e ∙ div-one band

-- a band that no node covers begins past all keys
begins_past : (band level low bits : ℕ) → low ≤ level → low ≤ bits → 0 < band / 2 ^ (bits - low) → 2 ^ bits ≤ first_key level band
begins_past band level low bits h l n =
    let wide = 2 ^ (bits - low) in
    let once : 1 * wide ≤ band / wide * wide = mul-le-mul_right wide n in
    let many : wide ≤ band = omega (arith, once, div-mul-le_self band wide) in
    let sum : bits ≡ bits - low + low = omega (arith, l) in
    let all : 2 ^ bits ≡ wide * 2 ^ low = ap (λ n. 2 ^ n) sum ∙ pow-add 2 (bits - low) low in
    le_trans (le_of_eq all) (le_trans (mul-le-mul_right (2 ^ low) many) (mul-le-mul_left band (pow_mono h)))

-- the members of a tree's set are below the end of its keys
below_end : {set : SetFacts} → IsTreeSet set → AllBelow (2 ^ set.bits) (list_of set)
below_end {set = set} is = all_below_from (2 ^ set.bits) (list_of set) is.is_key_set.below

-- so it has no members
pub past_none : (set : SetFacts) (level band low bits : ℕ) → IsTreeSet set → bits ≡ set.bits → low ≡ min level bits → 0 < band / 2 ^ (bits - low) → 0 ≡ length (keys_below (list_of set) level band)
past_none set level band low bits is e f n =
    let keys = list_of set in
    let first = first_key level band in
    let past : 2 ^ bits ≤ first = begins_past band level low bits (omega (arith, f)) (omega (arith, f)) n in
    let end : 2 ^ set.bits ≤ first = le_trans (le_of_eq (ap (λ n. 2 ^ n) (sym e))) past in
    let more : first ≤ end_key level band = mul-le-mul_right (2 ^ level) (omega arith) in
    sym (ap length (range_clipped keys first (end_key level band) (2 ^ set.bits) (below_end is) (le_trans end more) ∙ range_none keys first (2 ^ set.bits) end))

-- the first band of a level has all members if that is at the top or above it
all_of_first : (set : SetFacts) (level : ℕ) → IsTreeSet set → set.bits ≤ level → keys_below (list_of set) level 0 ≡ list_of set
all_of_first set level is h =
    let keys = list_of set in
    let wide : 2 ^ set.bits ≤ end_key level 0 = le_trans (pow_mono h) (le_of_eq (sym (one-mul (2 ^ level)))) in
    ap (λ a. range_of keys a (end_key level 0)) (top_first level 0 refl) ∙ range_clipped keys 0 (end_key level 0) (2 ^ set.bits) (below_end is) wide ∙ range_whole keys (2 ^ set.bits) (below_end is)

-- a band has the members that its node covers, which is the top if the band is wider
pub node_keys : (set : SetFacts) (level band low bits : ℕ) → IsTreeSet set → bits ≡ set.bits → low ≡ min level bits → band / 2 ^ (bits - low) ≡ 0 → keys_below (list_of set) low band ≡ keys_below (list_of set) level band
node_keys set level band low bits is e f n =
    let keys = list_of set in
    elim (cases_lt bits level) [
      | inl wide ↦
          let flat : bits - low ≡ 0 = omega (arith, f, wide) in
          let first : band ≡ 0 = sym (own_place band (bits - low) flat) ∙ n in
          ap (keys_below keys low) first ∙ all_of_first set low is (omega (arith, e, f, wide)) ∙ sym (all_of_first set level is (omega (arith, e, wide))) ∙ ap (keys_below keys level) (sym first)
      | inr narrow ↦ let same : low ≡ level = omega (arith, f, narrow) in ap (λ l. keys_below keys l band) same
    ]

-- and so it counts them
pub counted : (set other : SetFacts) (level band low bits n : ℕ) → IsTreeSet set → other ≡ set → bits ≡ set.bits → low ≡ min level bits → band / 2 ^ (bits - low) ≡ 0 → n ≡ length (keys_below (list_of other) low band) → n ≡ length (keys_below (list_of set) level band)
counted set other level band low bits n is same e f z is_counted =
    is_counted ∙ ap (λ s. length (keys_below (list_of s) low band)) same ∙ ap length (node_keys set level band low bits is e f z)
