-- Each record takes at least a byte, so a text has no more records than bytes.
use Rattle.std.proofs.Common.{◌≡◌, ℕ, zero, suc, ◌+◌, ◌<◌, ◌≤◌, ◌⊎◌, inl, inr, List, [], ◌∷◌, length, Option, Some, None, true, false, Bool, refl, ap, arith, subst, if◌then◌else◌, add-one, ◌++◌}
use Rattle.csv.specs.Machine.{Read, next_record, ends_at_end, step, is_end, fields_after, field_after, after_end, in_field, start_field, start_record}
use Rattle.csv.specs.Reading.{records_from, records_next}
use Rattle.csv.specs.declared.parser.Config.{Config}
use Rattle.csv.specs.declared.parser.State.{State}
use Rattle.csv.specs.declared.parser.State.TheVariants as st
use Rattle.csv.specs.declared.parser.Action.{Action}
use Rattle.csv.specs.declared.parser.Action.TheVariants as act
use Rattle.csv.specs.declared.parser.Terminator.{Terminator}
use Rattle.csv.specs.declared.parser.Terminator.TheVariants as term

-- a step that ends a record leads to a state between two records
record EndsBetween (p : State × Action) : Type 0 where
  between : is_end p.1 ≡ true → ends_at_end p.0 ≡ false

either_ends : (b : Bool) (p q : State × Action) → EndsBetween p → EndsBetween q → EndsBetween (if b then p else q)
either_ends true p q left right = left
either_ends false p q left right = right

state_if : (b : Bool) (s t : State) → ends_at_end s ≡ false → ends_at_end t ≡ false → ends_at_end (if b then s else t) ≡ false
state_if true s t left right = left
state_if false s t left right = right

after_end-between : (t : Terminator) (c : ℕ) → ends_at_end (after_end t c) ≡ false
after_end-between term.CRLF c = state_if _ st.AfterCr st.StartRecord refl refl
after_end-between (term.Any t) c = refl

-- a step that ends no record
goes_on : (s : State) (a : Action) → is_end a ≡ false → EndsBetween (s, a)
goes_on s a no_end = record { between = λ e. absurd (cc (no_end, e)) }

in_field-ends : (cfg : Config) (c : ℕ) → EndsBetween (in_field cfg c)
in_field-ends cfg c =
    either_ends _ _ _ (goes_on st.StartField act.EndField refl)
    (either_ends _ _ _ (record { between = λ e. after_end-between cfg.terminator c }) (goes_on st.InField act.Copy refl))

start_field-ends : (cfg : Config) (c : ℕ) → EndsBetween (start_field cfg c)
start_field-ends cfg c = either_ends _ _ _ (goes_on st.InQuoted act.Skip refl) (in_field-ends cfg c)

start_record-ends : (cfg : Config) (c : ℕ) → EndsBetween (start_record cfg c)
start_record-ends cfg c =
    either_ends _ _ _ (goes_on st.StartRecord act.Skip refl)
    (either_ends _ _ _ (goes_on st.InComment act.Skip refl) (start_field-ends cfg c))

step-ends : (cfg : Config) (s : State) (c : ℕ) → EndsBetween (step cfg s c)
step-ends cfg st.StartRecord c = start_record-ends cfg c
step-ends cfg st.StartField c = start_field-ends cfg c
step-ends cfg st.InField c = in_field-ends cfg c
step-ends cfg st.InQuoted c =
    either_ends _ _ _ (goes_on st.AfterQuote act.Skip refl)
    (either_ends _ _ _ (goes_on st.InEscape act.Skip refl) (goes_on st.InQuoted act.Copy refl))
step-ends cfg st.InEscape c = goes_on st.InQuoted act.Copy refl
step-ends cfg st.AfterQuote c = either_ends _ _ _ (goes_on st.InQuoted act.Copy refl) (in_field-ends cfg c)
step-ends cfg st.InComment c =
    either_ends _ _ _ (goes_on st.StartRecord act.Skip refl) (goes_on st.InComment act.Skip refl)
step-ends cfg st.AfterCr c = either_ends _ _ _ (goes_on st.StartRecord act.Skip refl) (start_record-ends cfg c)

-- what an `if` that gives a record says
split_if : (b : Bool) (x : Read) (more : Option Read) (r : Read) → (if b then Some x else more) ≡ Some r
    → ((b ≡ true) × (x ≡ r)) ⊎ ((b ≡ false) × (more ≡ Some r))
split_if true x more r e = let same : x ≡ r = cc in inl (refl, same)
split_if false x more r e = inr (refl, e)

-- what a record leaves: a state between two records, and no more bytes than there were
abbrev Leaves : List ℕ → Read → Type 0
Leaves xs r = (ends_at_end r.1 ≡ false) × (length r.2 ≤ length xs)

next_record-leaves : (cfg : Config) (s : State) (fields : List (List ℕ)) (field : List ℕ) (xs : List ℕ) (r : Read)
    → next_record cfg s fields field xs ≡ Some r → Leaves xs r
unfolding next_record
next_record-leaves cfg s fields field [] r e =
    elim (split_if (ends_at_end s) (fields ++ (field ∷ []), st.StartRecord, []) None r e) [
      | inl w ↦ subst (Leaves []) w.1 (refl, omega arith)
      | inr w ↦ absurd (cc (w.1))
    ]
next_record-leaves cfg s fields field (c ∷ rest) r e =
    elim (split_if (is_end (step cfg s c).1) (fields_after (step cfg s c).1 fields field, (step cfg s c).0, rest) (next_record cfg (step cfg s c).0 (fields_after (step cfg s c).1 fields field) (field_after (step cfg s c).1 c field) rest) r e) [
      | inl w ↦ subst (Leaves (c ∷ rest)) w.1 ((step-ends cfg s c).between w.0, omega arith)
      | inr w ↦
          let later = next_record-leaves cfg (step cfg s c).0 (fields_after (step cfg s c).1 fields field) (field_after (step cfg s c).1 c field) rest r w.1 in
          (later.0, omega (arith, later.1))
    ]

-- between two records, a record takes at least a byte
pub next_record-shorter : (cfg : Config) (s : State) (xs : List ℕ) (r : Read) → ends_at_end s ≡ false
    → next_record cfg s [] [] xs ≡ Some r → (ends_at_end r.1 ≡ false) × (length r.2 < length xs)
unfolding next_record
next_record-shorter cfg s [] r between e =
    elim (split_if (ends_at_end s) ([] ++ ([] ∷ []), st.StartRecord, []) None r e) [
      | inl w ↦ absurd (cc (between, w.0))
      | inr w ↦ absurd (cc (w.1))
    ]
next_record-shorter cfg s (c ∷ rest) r between e =
    elim (split_if (is_end (step cfg s c).1) (fields_after (step cfg s c).1 [] [], (step cfg s c).0, rest) (next_record cfg (step cfg s c).0 (fields_after (step cfg s c).1 [] []) (field_after (step cfg s c).1 c []) rest) r e) [
      | inl w ↦ subst (λ (q : Read). (ends_at_end q.1 ≡ false) × (length q.2 < length (c ∷ rest))) w.1 ((step-ends cfg s c).between w.0, omega arith)
      | inr w ↦
          let later = next_record-leaves cfg (step cfg s c).0 (fields_after (step cfg s c).1 [] []) (field_after (step cfg s c).1 c []) rest r w.1 in
          (later.0, omega (arith, later.1))
    ]

-- the records of a text are the same for every bound past its length
pub records_from-any : (cfg : Config) (n m : ℕ) (s : State) (xs : List ℕ) → ends_at_end s ≡ false → length xs < n → length xs < m
    → records_from cfg n s xs ≡ records_from cfg m s xs
unfolding records_from
records_from-any cfg zero m s xs between below_n below_m = absurd (omega arith)
records_from-any cfg (suc n) zero s xs between below_n below_m = absurd (omega arith)
records_from-any cfg (suc n) (suc m) s xs between below_n below_m =
    let at_read : (o : Option Read) → next_record cfg s [] [] xs ≡ o → records_next (records_from cfg n) o ≡ records_next (records_from cfg m) o =
    elim [
      | None ↦ λ e. refl
      | Some r ↦ λ e.
          let shorter = next_record-shorter cfg s xs r between e in
          ap (λ (rest : List (List (List ℕ))). r.0 ∷ rest) (records_from-any cfg n m r.1 r.2 shorter.0 (omega (arith, shorter.1)) (omega (arith, shorter.1)))
    ] in
    at_read (next_record cfg s [] [] xs) refl

-- the records of a text are its next one and then those of the rest
pub records_from-next : (cfg : Config) (s : State) (xs : List ℕ) (r : Read) → ends_at_end s ≡ false → next_record cfg s [] [] xs ≡ Some r
    → records_from cfg (length xs + 1) s xs ≡ r.0 ∷ records_from cfg (length r.2 + 1) r.1 r.2
unfolding records_from
records_from-next cfg s xs r between e =
    let shorter = next_record-shorter cfg s xs r between e in
    rw (add-one (length xs), e) (ap (λ (rest : List (List (List ℕ))). r.0 ∷ rest) (records_from-any cfg (length xs) (length r.2 + 1) r.1 r.2 shorter.0 (omega (arith, shorter.1)) (omega arith)))

-- with no next record there is none
pub records_from-none : (cfg : Config) (s : State) (xs : List ℕ) → next_record cfg s [] [] xs ≡ None → records_from cfg (length xs + 1) s xs ≡ []
unfolding records_from
records_from-none cfg s xs e = rw (add-one (length xs), e) refl
