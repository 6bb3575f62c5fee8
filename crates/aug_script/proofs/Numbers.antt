-- A number of a script is below 10 to the power of its length.
use Rattle.std.proofs.Common.{◌≡◌, ℕ, ◌+◌, ◌-◌, ◌*◌, ◌^◌, ◌<◌, ◌≤◌, IsTrue, ◌&&◌, nat_le, List, length, get_or, arith, lit<, add-one}
use Rattle.std.proofs.Math.Nat.{pow-suc, pow-le-pow_right}
use Rattle.std.proofs.lemmas.List.Sums.{AllPass-from_list_all}
use Rattle.std.proofs.lemmas.Str.{digit_value_digit}
use Rattle.std.proofs.lemmas.Bool.{and_parts, leb-true}
use Rattle.std.specs.List.{list_all}
use Rattle.std.specs.Char.{digit_value, is_ascii_digit}
use Rattle.aug_script.specs.Script.{is_number}

-- what a digit of a number at a place is
pub record IsDigitAt (field : List ℕ) (i : ℕ) : Type 0 where
  pub few : length field ≤ 9
  pub low : 48 ≤ get_or field i 0
  pub high : get_or field i 0 ≤ 57
  pub value : digit_value (get_or field i 0) ≡ get_or field i 0 - 48

pub digit_at : (field : List ℕ) → IsTrue (is_number field) → (i : ℕ) → i < length field → IsDigitAt field i
digit_at field number i below =
    let digits = (and_parts (nat_le 1 (length field) && nat_le (length field) 9) (list_all is_ascii_digit field) number).1 in
    let lengths = (and_parts (nat_le 1 (length field) && nat_le (length field) 9) (list_all is_ascii_digit field) number).0 in
    let few = leb-true (length field) 9 (and_parts (nat_le 1 (length field)) (nat_le (length field) 9) lengths).1 in
    let digit = AllPass-from_list_all is_ascii_digit field digits i 0 below in
    let ends = and_parts (nat_le 48 (get_or field i 0)) (nat_le (get_or field i 0) 57) digit in
    let low = leb-true 48 (get_or field i 0) ends.0 in
    let high = leb-true (get_or field i 0) 57 ends.1 in
    let value = digit_value_digit (get_or field i 0) (low, high) in
    record { few = few; low = low; high = high; value = omega arith }

-- the value so far is small, and one more digit keeps it so
pub value_more : (i value digit : ℕ) → i < 9 → value < 10 ^ i → digit ≤ 9 → (value * 10 + digit < 10 ^ (i + 1)) × (value < 10 ^ 8)
value_more i value digit few small digit_small =
    let one_more : 10 ^ (i + 1) ≡ 10 ^ i * 10 = rw (add-one i) (pow-suc 10 i) in
    let most : 10 ^ i ≤ 10 ^ 8 = pow-le-pow_right {n = 10} (lit< tt) {i = i} {j = 8} (omega arith) in
    (omega arith, omega arith)
