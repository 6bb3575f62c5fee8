-- Lemmas on what calls do to the bytes of a device.
use Rattle.std.proofs.Common.{◌≡◌, ◌∙◌, ℕ, ◌+◌, ◌-◌, ◌≤◌, List, length, take, drop, Result, Ok, Err, is_ok, OnOk, OnErr, if◌then◌else◌, inr, refl, ap, sym, subst, arith, length-drop}
use Rattle.std.specs.Prelude.{Option}
use Rattle.std.proofs.Math.Seq.{take-add, take-length}
use Rattle.std.specs.Io.KnownBytes.{Appends, Keeps}
use Rattle.std.proofs.KnownBytes.{Appends-kept, Appends-trans}
use Rattle.std.proofs.Math.Nat.{le_refl}
use Rattle.aug_script.specs.Devices.{SinkState, Writes, WritesBeginning}

-- the slice past an index is what a drop leaves
slice-drop : (i : ℕ) (xs : List ℕ) → take (length xs - i) (drop i xs) ≡ drop i xs
slice-drop i xs = ap (λ k. take k (drop i xs)) (sym (length-drop i xs)) ∙ take-length (drop i xs)

-- a write of the piece past `at` took `n` bytes
pub Appends-piece : (a b c : Option (List ℕ)) (bs : List ℕ) (at n : ℕ)
    → Appends a b (take at bs) → Appends b c (take n (take (length bs - at) (drop at bs))) → Appends a c (take (at + n) bs)
Appends-piece a b c bs at n before piece =
    let here : Appends b c (take n (drop at bs)) = subst (λ l. Appends b c (take n l)) (slice-drop at bs) piece in
    subst (Appends a c) (sym (take-add at n bs)) (Appends-trans a b c _ _ before here)

pub length-piece : (bs : List ℕ) (at n : ℕ) → at ≤ length bs → n ≤ length (take (length bs - at) (drop at bs)) → at + n ≤ length bs
length-piece bs at n within fits =
    let e : length (take (length bs - at) (drop at bs)) ≡ length bs - at = ap length (slice-drop at bs) ∙ length-drop at bs in
    omega arith

-- all of a text went out, and then `finish` was called
pub finished_text : {T E : Type 0} (r : Result T E) (a b c : SinkState) (text : List ℕ) → Writes a b text 0
    → Keeps b.bytes c.bytes → c.faults ≡ b.faults + (if is_ok r then 0 else 1) → c.finishes ≡ b.finishes + 1 → OnOk r (Writes a c text 1) × OnErr r (WritesBeginning a c text)
finished_text (Ok x) a b c text wrote keeps counted finished = (
  record {
    bytes = Appends-kept a.bytes b.bytes c.bytes text wrote.bytes keeps;
    finished = omega (arith, wrote.finished, finished);
    no_fault = omega (arith, wrote.no_fault, counted);
  },
  tt,
)
finished_text (Err e) a b c text wrote keeps counted finished = (
  tt,
  record {
    count = length text;
    within = le_refl _;
    bytes = subst (Appends a.bytes c.bytes) (sym (take-length text)) (Appends-kept a.bytes b.bytes c.bytes text wrote.bytes keeps);
    last = inr (omega (arith, wrote.finished, finished), refl);
    one_fault = omega (arith, wrote.no_fault, counted);
  },
)
