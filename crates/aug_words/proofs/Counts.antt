-- The parts of a table, and how many readers are counted in each.
use Rattle.std.proofs.Common.{◌≡◌, ◌≢◌, inl, inr, ℕ, zero, suc, ◌+◌, ◌-◌, ◌*◌, ◌^◌, ◌<◌, ◌≤◌, Bool, if◌then◌else◌, eqb, eq-eqb, ne_eqb, min, List, [], ◌∷◌, ◌++◌, set, get_or, length, map, refl, sym, ap, ◌∙◌, subst, ⊎_elim, arith, mul-le-mul_right, length-set}
use Rattle.std.proofs.Math.Nat.{min-eq_left, min-eq_right}
use Rattle.std.proofs.lemmas.Bool.{cases_eq, cases_lt}
use Rattle.std.proofs.lemmas.List.{get_or-set_same, get_or-set_other, length-map}
use mathlib.Core.Option.{some, some-injective, some-ne-none}
use lib.ListN.{get_elem?}
use Rattle.atomic_table.specs.Seated.{TableId}
use Rattle.aug_core.specs.Places.{Shape, word_count}
use Rattle.aug_core.specs.Readers.{times_in, without, IsAside}
use Rattle.aug_core.specs.Records.{Lists}
use Rattle.aug_core.specs.inside.ClearParts.{IsClearPart}
use Rattle.aug_core.proofs.ReaderCounts.{total_both, lists_without}
use Rattle.aug_core.proofs.Joins.{append_at}
use Rattle.aug_words.specs.declared.parts.Parts.{Parts}
use Rattle.aug_words.specs.inside.SeatState.{ArePartsOf, IsCount}

-- ---- counts

-- more readers are counted
pub count_more : (n m t k : ℕ) → IsCount n t → IsCount m k → IsCount (min (n + m) (2 ^ 32 - 1)) (t + k)
count_more n m t k first second = let most : ℕ = 2 ^ 32 - 1 in ⊎_elim
    (λ (low : n + m < most). let few : n + m ≤ most = omega arith in let is : min (n + m) most ≡ n + m = min-eq_left few in ⊎_elim
    (λ (a : n ≡ t). ⊎_elim (λ (b : m ≡ k). inl (omega arith)) (λ b. let one = b.0 in let two = b.1 in ⊎_elim (λ (none : n ≡ 0). inr (omega arith, omega arith)) (λ some_n. absurd (omega (arith, some_n))) (cases_eq n 0)) second)
    (λ a. let one = a.0 in let two = a.1 in inr (⊎_elim (λ (none : m ≡ 0). (omega arith, omega arith)) (λ some_m. absurd (omega (arith, some_m))) (cases_eq m 0))) first)
    (λ high. let many : most ≤ n + m = omega (arith, high) in let is : min (n + m) most ≡ most = min-eq_right many in inr (
      is,
      ⊎_elim
          (λ (a : n ≡ t). ⊎_elim (λ (b : m ≡ k). let goal : most ≤ t + k = omega arith in goal) (λ b. let two = b.1 in let goal : most ≤ t + k = omega arith in goal) second)
          (λ a. let two = a.1 in let goal : most ≤ t + k = omega arith in goal) first,
    ))
    (cases_lt (n + m) most)

-- and one less
pub count_less : (n t t' : ℕ) → 0 < n → n < 2 ^ 32 - 1 → t' + 1 ≡ t → IsCount n t → IsCount (n - 1) t'
count_less n t t' some_n few one count = ⊎_elim (λ (is : n ≡ t). inl (omega arith)) (λ is. let most = is.0 in absurd (omega arith)) count

-- there is one where one is counted
pub counted_some : (n t : ℕ) → 0 < n → IsCount n t → 1 ≤ t
counted_some n t some_n count = ⊎_elim (λ (is : n ≡ t). let goal : 1 ≤ t = omega arith in goal) (λ is. let many = is.1 in let goal : 1 ≤ t = omega arith in goal) count

-- none where none is counted
pub counted_none : (n t : ℕ) → n ≡ 0 → IsCount n t → t ≡ 0
counted_none n t none count = ⊎_elim (λ (is : n ≡ t). let goal : t ≡ 0 = omega arith in goal) (λ is. let most = is.0 in absurd (omega arith)) count

-- ---- how often a number stands in a list

abbrev one : Bool → ℕ
one b = if b then 1 else 0

one_yes : (x b : ℕ) → x ≡ b → one (eqb x b) ≡ 1
one_yes x b is = ap one (eq-eqb x b is)

one_no : (x b : ℕ) → x ≢ b → one (eqb x b) ≡ 0
one_no x b ne = ap one (ne_eqb x b ne)

-- all of a list
pub times_all : (b : ℕ) (xs : List ℕ) → ((c : ℕ) → Lists xs c → c ≡ b) → times_in b xs ≡ length xs
times_all b [] all = refl
times_all b (x ∷ xs) all = let here = one_yes x b (all x (0, refl)) in let rest = times_all b xs (λ c has. all c (suc has.0, has.1)) in omega arith

-- a number that is not there
pub times_none : (b : ℕ) (xs : List ℕ) → ((c : ℕ) → Lists xs c → c ≢ b) → times_in b xs ≡ 0
times_none b [] none = refl
times_none b (x ∷ xs) none = let here = one_no x b (none x (0, refl)) in let rest = times_none b xs (λ c has. none c (suc has.0, has.1)) in omega arith

-- one that is
pub times_has : (b : ℕ) (xs : List ℕ) (i : ℕ) → get_elem? xs i ≡ some b → 1 ≤ times_in b xs
times_has b [] i at = absurd (some-ne-none b (sym at))
times_has b (x ∷ xs) zero at = let here = one_yes x b (some-injective x b at) in omega arith
times_has b (x ∷ xs) (suc i) at = let rest = times_has b xs i at in omega arith

-- without one of them there is one less
pub times_less : (b : ℕ) (xs : List ℕ) → 1 ≤ times_in b xs → times_in b (without b xs) + 1 ≡ times_in b xs
times_less b [] has = absurd (omega arith)
times_less b (x ∷ xs) has = ⊎_elim
    (λ (is : x ≡ b). let e : without b (x ∷ xs) ≡ xs = ap (λ (z : Bool). if z then xs else x ∷ without b xs) (eq-eqb x b is) in
    let f : times_in b (without b (x ∷ xs)) ≡ times_in b xs = ap (times_in b) e in let here = one_yes x b is in omega arith)
    (λ ne. let e : without b (x ∷ xs) ≡ x ∷ without b xs = ap (λ (z : Bool). if z then xs else x ∷ without b xs) (ne_eqb x b ne) in
    let f : times_in b (without b (x ∷ xs)) ≡ times_in b (x ∷ without b xs) = ap (times_in b) e in let here = one_no x b ne in let rest = times_less b xs (omega arith) in omega arith) (cases_eq x b)

-- and as many of each other
pub times_other : (c b : ℕ) (xs : List ℕ) → c ≢ b → times_in c (without b xs) ≡ times_in c xs
times_other c b [] ne = refl
times_other c b (x ∷ xs) ne = ⊎_elim
    (λ (is : x ≡ b). let e : without b (x ∷ xs) ≡ xs = ap (λ (z : Bool). if z then xs else x ∷ without b xs) (eq-eqb x b is) in
    let f : times_in c (without b (x ∷ xs)) ≡ times_in c xs = ap (times_in c) e in let here = one_no x c (λ same. ne (sym same ∙ is)) in omega arith)
    (λ other. let e : without b (x ∷ xs) ≡ x ∷ without b xs = ap (λ (z : Bool). if z then xs else x ∷ without b xs) (ne_eqb x b other) in
    let f : times_in c (without b (x ∷ xs)) ≡ times_in c (x ∷ without b xs) = ap (times_in c) e in let rest = times_other c b xs ne in omega arith) (cases_eq x b)

-- and the list is one shorter
pub length_less : (b : ℕ) (xs : List ℕ) → 1 ≤ times_in b xs → length (without b xs) + 1 ≡ length xs
length_less b [] has = absurd (omega arith)
length_less b (x ∷ xs) has = ⊎_elim
    (λ (is : x ≡ b). let e : length (without b (x ∷ xs)) ≡ length xs = ap (λ (z : Bool). length (if z then xs else x ∷ without b xs)) (eq-eqb x b is) in omega arith)
    (λ ne. let e : length (without b (x ∷ xs)) ≡ length (x ∷ without b xs) = ap (λ (z : Bool). length (if z then xs else x ∷ without b xs)) (ne_eqb x b ne) in
    let here = one_no x b ne in let rest = length_less b xs (omega arith) in omega arith) (cases_eq x b)

-- ---- parts

-- two parts lie aside
pub parts_aside : (size j k : ℕ) → j ≢ k → IsAside size (j * size) (k * size)
parts_aside size j k ne = ⊎_elim
    (λ (low : j < k). let m : suc j * size ≤ k * size = mul-le-mul_right size low in inr (omega arith))
    (λ (high : k < j). let m : suc k * size ≤ j * size = mul-le-mul_right size high in inl (omega arith))
    (⊎_elim (λ (low : j < k). inl low) (λ high. inr (omega (arith, high, ne))) (cases_lt j k))

-- a part of a table is one of its parts
pub part_below : (size k n : ℕ) → 0 < size → k * size + size ≤ n * size → k < n
part_below size k n some_size inside = ⊎_elim (λ (low : k < n). low) (λ not_low. let high : n ≤ k = omega (arith, not_low) in let m = mul-le-mul_right size high in absurd (omega arith)) (cases_lt k n)

-- two parts that begin at one word are the same
pub same_part : (size j k : ℕ) → 0 < size → j * size ≡ k * size → j ≡ k
same_part size j k some_size is = ⊎_elim (λ (same : j ≡ k). same) (λ ne. ⊎_elim (λ low. absurd (omega (arith, low))) (λ high. absurd (omega (arith, high))) (parts_aside size j k ne)) (cases_eq j k)

-- a part is not aside of itself
pub not_aside : (size b : ℕ) → 0 < size → IsAside size b b → ⊥
not_aside size b some_size aside = ⊎_elim (λ low. absurd (omega (arith, low))) (λ high. absurd (omega (arith, high))) aside

pub some_size : (s : Shape) → 1 ≤ s.workers → 0 < word_count s
some_size s some_lane = omega arith

-- the same number again and again
const_all : (b c : ℕ) (xs : List ℕ) (i : ℕ) → get_elem? (map (λ _. b) xs) i ≡ some c → c ≡ b
const_all b c [] i at = absurd (some-ne-none c (sym at))
const_all b c (x ∷ xs) zero at = sym (some-injective b c at)
const_all b c (x ∷ xs) (suc i) at = const_all b c xs i at

module _ (table : TableId) (p : Parts) (base other : ℕ) (s : Shape) (lent : List ℕ) (some_words : 0 < word_count s) (are : ArePartsOf table p base other s lent) where
  abbrev size : ℕ
  size = word_count s

  abbrev count_at : ℕ → ℕ
  count_at k = get_or p.out.items k 0

  -- readers that were lent in the part at work are counted
  pub parts_lent : (p' : Parts) (more : List ℕ) (n : ℕ) → IsCount n (length more) → p'.own ≡ p.own → p'.next ≡ p.next → p'.out.items ≡ set p.out.items p.own (min (count_at p.own + n) (2 ^ 32 - 1)) → ArePartsOf table p' base other s (lent ++ map (λ _. base) more)
  parts_lent p' more n count own next out = let long : length p'.out.items ≡ length p.out.items = ap length out ∙ length-set p.out.items p.own (min (count_at p.own + n) (2 ^ 32 - 1)) in
      let added : List ℕ = map (λ _. base) more in let as_many : length added ≡ length more = length-map more (λ _. base) in record {
        whole = are.whole ∙ ap (λ z. z * size) (sym long);
        own = subst (λ (z : ℕ × ℕ). z.0 < z.1) (λ i. (sym own i, sym long i)) are.own;
        at_work = are.at_work ∙ ap (λ z. z * size) (sym own);
        next = λ room. subst (λ (z : ℕ × ℕ × ℕ). (z.0 < z.1) × (z.0 ≢ z.2) × (other ≡ z.0 * size)) (λ i. (sym next i, sym long i, sym own i)) (are.next room);
        counted = λ k low. let here : k < length p.out.items = subst (λ (z : ℕ). k < z) long low in let both = total_both (λ (x : ℕ). if eqb x (k * size) then 1 else 0) lent added in ⊎_elim
            (λ (is : k ≡ p.own). let value : get_or p'.out.items k 0 ≡ min (count_at k + n) (2 ^ 32 - 1) = ap (λ (z : List ℕ). get_or z k 0) out ∙ ap (λ (z : ℕ). get_or (set p.out.items p.own (min (count_at p.own + n) (2 ^ 32 - 1))) z 0) is ∙ get_or-set_same p.out.items p.own (min (count_at p.own + n) (2 ^ 32 - 1)) 0 are.own ∙ ap (λ (z : ℕ). min (count_at z + n) (2 ^ 32 - 1)) (sym is) in
            let at : base ≡ k * size = are.at_work ∙ ap (λ z. z * size) (sym is) in
            let all : times_in (k * size) added ≡ length added = times_all (k * size) added (λ c has. const_all base c more has.0 has.1 ∙ at) in
            let sum : times_in (k * size) (lent ++ added) ≡ times_in (k * size) lent + length more = omega arith in
            subst (λ (z : ℕ × ℕ). IsCount z.0 z.1) (λ i. (sym value i, sym sum i)) (count_more (count_at k) n (times_in (k * size) lent) (length more) (are.counted k here) count))
            (λ ne. let value : get_or p'.out.items k 0 ≡ count_at k = ap (λ (z : List ℕ). get_or z k 0) out ∙ get_or-set_other p.out.items p.own k (min (count_at p.own + n) (2 ^ 32 - 1)) 0 ne in
            let none : times_in (k * size) added ≡ 0 = times_none (k * size) added (λ c has is. ne (same_part size k p.own some_words (sym is ∙ const_all base c more has.0 has.1 ∙ are.at_work))) in
            let sum : times_in (k * size) (lent ++ added) ≡ times_in (k * size) lent = omega arith in
            subst (λ (z : ℕ × ℕ). IsCount z.0 z.1) (λ i. (sym value i, sym sum i)) (are.counted k here)) (cases_eq k p.own);
        starts = λ b has. subst (λ (z : ℕ). (k : ℕ) × (k < z) × (b ≡ k * size)) (sym long) (⊎_elim (λ old. are.starts b (has.0, old)) (λ new. (p.own, are.own, const_all base b more new.0 new.2 ∙ are.at_work)) (append_at lent added b has.0 has.1));
      }

  -- one was taken back
  pub parts_taken : (p' : Parts) (part : ℕ) → part < length p.out.items → 0 < count_at part → count_at part < 2 ^ 32 - 1 → p'.own ≡ p.own → p'.next ≡ p.next → p'.out.items ≡ set p.out.items part (count_at part - 1) → ArePartsOf table p' base other s (without (part * size) lent)
  parts_taken p' part inside some_out few own next out = let long : length p'.out.items ≡ length p.out.items = ap length out ∙ length-set p.out.items part (count_at part - 1) in record {
    whole = are.whole ∙ ap (λ z. z * size) (sym long);
    own = subst (λ (z : ℕ × ℕ). z.0 < z.1) (λ i. (sym own i, sym long i)) are.own;
    at_work = are.at_work ∙ ap (λ z. z * size) (sym own);
    next = λ room. subst (λ (z : ℕ × ℕ × ℕ). (z.0 < z.1) × (z.0 ≢ z.2) × (other ≡ z.0 * size)) (λ i. (sym next i, sym long i, sym own i)) (are.next room);
    counted = λ k low. let here : k < length p.out.items = subst (λ (z : ℕ). k < z) long low in ⊎_elim
        (λ (is : k ≡ part). let value : get_or p'.out.items k 0 ≡ count_at part - 1 = ap (λ (z : List ℕ). get_or z k 0) out ∙ ap (λ (z : ℕ). get_or (set p.out.items part (count_at part - 1)) z 0) is ∙ get_or-set_same p.out.items part (count_at part - 1) 0 inside in
        let less = times_less (part * size) lent (counted_some (count_at part) (times_in (part * size) lent) some_out (are.counted part inside)) in
        subst (λ (z : ℕ × ℕ). IsCount z.0 (times_in (z.1 * size) (without (part * size) lent))) (λ i. (sym value i, sym is i)) (count_less (count_at part) (times_in (part * size) lent) (times_in (part * size) (without (part * size) lent)) some_out few less (are.counted part inside)))
        (λ ne. let value : get_or p'.out.items k 0 ≡ count_at k = ap (λ (z : List ℕ). get_or z k 0) out ∙ get_or-set_other p.out.items part k (count_at part - 1) 0 ne in
        subst (λ (z : ℕ × ℕ). IsCount z.0 z.1) (λ i. (sym value i, sym (times_other (k * size) (part * size) lent (λ is. ne (same_part size k part some_words is))) i)) (are.counted k here)) (cases_eq k part);
    starts = λ b has. subst (λ (z : ℕ). (k : ℕ) × (k < z) × (b ≡ k * size)) (sym long) (are.starts b (lists_without b (part * size) lent has));
  }

  -- none is out in a part of which that is counted
  pub free_part : (k : ℕ) → k < length p.out.items → count_at k ≡ 0 → IsClearPart size lent (k * size)
  free_part k low none b has = let t = are.starts b has in ⊎_elim
      (λ (is : t.0 ≡ k). let zero_times = counted_none (count_at k) (times_in (k * size) lent) none (are.counted k low) in let some_times = times_has (k * size) lent has.0 (has.1 ∙ ap (λ (z : ℕ). some z) (t.2 ∙ ap (λ z. z * size) is)) in absurd (omega arith))
      (λ ne. subst (IsAside size (k * size)) (sym t.2) (parts_aside size k t.0 (λ is. ne (sym is)))) (cases_eq t.0 k)

  -- and where none is out, that is counted
  pub free_counted : (k : ℕ) → k < length p.out.items → ((b : ℕ) → Lists lent b → IsAside size (k * size) b) → count_at k ≡ 0
  free_counted k low clear = let none : times_in (k * size) lent ≡ 0 = times_none (k * size) lent (λ c has is. absurd (not_aside size (k * size) some_words (subst (IsAside size (k * size)) is (clear c has)))) in
      ⊎_elim (λ (is : count_at k ≡ times_in (k * size) lent). is ∙ none) (λ many. let m = many.1 in absurd (omega arith)) (are.counted k low)

  -- a part lies in its table
  pub part_inside : (k : ℕ) → k < length p.out.items → k * size + size ≤ table.words
  part_inside k low = let m : suc k * size ≤ length p.out.items * size = mul-le-mul_right size low in let whole = are.whole in omega arith

  pub part_of : (k : ℕ) → k * size + size ≤ table.words → k < length p.out.items
  part_of k inside = part_below size k (length p.out.items) some_words (subst (λ (z : ℕ). k * size + size ≤ z) are.whole inside)

  -- another one is laid out next
  pub parts_turned : (p' : Parts) (other' : ℕ) → p'.own ≡ p.own → p'.out.items ≡ p.out.items → (2 ^ s.bits ≤ s.members → (p'.next < length p.out.items) × (p'.next ≢ p.own) × (other' ≡ p'.next * size)) → ArePartsOf table p' base other' s lent
  parts_turned p' other' own out next = record {
    whole = are.whole ∙ ap (λ (z : List ℕ). length z * size) (sym out);
    own = subst (λ (z : ℕ × List ℕ). z.0 < length z.1) (λ i. (sym own i, sym out i)) are.own;
    at_work = are.at_work ∙ ap (λ z. z * size) (sym own);
    next = λ room. subst (λ (z : ℕ × List ℕ). (p'.next < length z.1) × (p'.next ≢ z.0) × (other' ≡ p'.next * size)) (λ i. (sym own i, sym out i)) (next room);
    counted = subst (λ (z : List ℕ). (k : ℕ) → k < length z → IsCount (get_or z k 0) (times_in (k * size) lent)) (sym out) are.counted;
    starts = subst (λ (z : List ℕ). (b : ℕ) → Lists lent b → (k : ℕ) × (k < length z) × (b ≡ k * size)) (sym out) are.starts;
  }

  -- that one is at work, and this one lies beside it
  pub parts_swapped : (p' : Parts) → 2 ^ s.bits ≤ s.members → p'.own ≡ p.next → p'.next ≡ p.own → p'.out.items ≡ p.out.items → ArePartsOf table p' other base s lent
  parts_swapped p' room own next out = let was = are.next room in record {
    whole = are.whole ∙ ap (λ (z : List ℕ). length z * size) (sym out);
    own = subst (λ (z : ℕ × List ℕ). z.0 < length z.1) (λ i. (sym own i, sym out i)) was.0;
    at_work = was.2 ∙ ap (λ z. z * size) (sym own);
    next = λ _. subst (λ (z : ℕ × List ℕ × ℕ). (z.0 < length z.1) × (z.0 ≢ z.2) × (base ≡ z.0 * size)) (λ i. (sym next i, sym out i, sym own i)) (are.own, (λ is. was.1 (sym is)), are.at_work);
    counted = subst (λ (z : List ℕ). (k : ℕ) → k < length z → IsCount (get_or z k 0) (times_in (k * size) lent)) (sym out) are.counted;
    starts = subst (λ (z : List ℕ). (b : ℕ) → Lists lent b → (k : ℕ) × (k < length z) × (b ≡ k * size)) (sym out) are.starts;
  }

-- the same table, laid out the same way, with the same readers
pub parts_on : (t t' : TableId) (p : Parts) (b o : ℕ) (s s' : Shape) (lent lent' : List ℕ) → ArePartsOf t p b o s lent → t' ≡ t → s' ≡ s → lent' ≡ lent → ArePartsOf t' p b o s' lent'
parts_on t t' p b o s s' lent lent' are table shape same = subst (λ (z : TableId × Shape × List ℕ). ArePartsOf z.0 p b o z.1 z.2) (λ i. (sym table i, sym shape i, sym same i)) are
