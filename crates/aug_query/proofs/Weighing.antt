-- Where running sums of weights exceed a number, in the halves of a list and at the nodes of a tree.
use Rattle.std.proofs.Common.{◌≡◌, ℕ, ◌+◌, ◌-◌, ◌*◌, ◌%◌, ◌^◌, ◌<◌, ◌≤◌, Bool, ltb, leb, cond, if◌then◌else◌, List, [], ◌∷◌, ◌++◌, length, filter, Some, None, refl, ap, sym, ◌∙◌, arith, inl, inr}
use Rattle.std.specs.Prelude.{find}
use Rattle.std.proofs.Math.Nat.{mod-eq_of_lt, le_refl, le_of_lt}
use Rattle.std.proofs.lemmas.Bool.{cases_lt, lt-ltb, le-ltb, le-leb, lt-leb}
use Rattle.std.proofs.lemmas.Bool.Decides.{nat_tests}
use Rattle.std.proofs.lemmas.List.Elements.{All-head, All-tail}
use Rattle.std.proofs.lemmas.List.Sums.{sum_by-cons, sum_by-append}
use Rattle.std.specs.List.{All}
use Rattle.aug_monoid.specs.Fold.{fold_of}
use Rattle.aug_monoid.specs.Sum.{sum_parts}
use Rattle.aug_monoid.specs.Weighted.{FitsPair}
use Rattle.aug_model.specs.Keys.{SetFacts, list_of, keys_of, pairs_of}
use Rattle.aug_model.specs.NodeKeys.{keys_below, pairs_below, first_key, end_key}
use Rattle.aug_model.specs.Queries.{weight_in}
use Rattle.aug_model.proofs.Pairs.{range-again, pairs_of-append, pairs-again, agrees-own}
use Rattle.aug_model.proofs.Ranges.{Rises, AllAbove, range_of_one}
use Rattle.aug_query.specs.RunningSums.{sum_of_weights, weight_up_to, select_by_weight_of}
use Rattle.aug_query.specs.Tree.{IsTreeSet}
use Rattle.aug_query.specs.inside.FirstOver.{first_over}
use Rattle.aug_query.proofs.Choosing.{set_rises, whole_below, children_below}
use Rattle.aug_query.proofs.Cover.{range_fits, range_is_few}
use Rattle.aug_query.proofs.Nodes.{leaf_is}
use Rattle.aug_query.proofs.Orders.{find_hit, find_skip}

-- what one pair more weighs
sum-cons : (p : ℕ × ℕ) (ps : List (ℕ × ℕ)) → sum_of_weights (p ∷ ps) ≡ p.1 + sum_of_weights ps
sum-cons p ps = sum_by-cons (λ q. q.1) p ps

-- two lists weigh together what each weighs
sum-append : (xs ys : List (ℕ × ℕ)) → sum_of_weights (xs ++ ys) ≡ sum_of_weights xs + sum_of_weights ys
sum-append xs ys = sum_by-append (λ q. q.1) xs ys

-- the weights of so many pairs are below so many times 2^32
sum_few : (ps : List (ℕ × ℕ)) → All FitsPair ps → sum_of_weights ps ≤ length ps * 4294967296
sum_few [] fit = omega arith
sum_few (p ∷ ps) fit = let one = All-head FitsPair p ps fit in omega (arith, sum-cons p ps, one.1, sum_few ps (All-tail FitsPair p ps fit))

-- where all keys are greater, no pair is up to a key
up_to_none : (k : ℕ) (ps : List (ℕ × ℕ)) → AllAbove k (keys_of ps) → weight_up_to ps k ≡ 0
up_to_none k [] above = refl
up_to_none k (p ∷ ps) above = rw (lt-leb p.0 k above.0) (up_to_none k ps above.1)

-- and the first pair is, if its key is no greater
up_to_more : (k : ℕ) (p : ℕ × ℕ) (ps : List (ℕ × ℕ)) → p.0 ≤ k → weight_up_to (p ∷ ps) k ≡ p.1 + weight_up_to ps k
up_to_more k p ps few = rw (le-leb p.0 k few) (sum-cons p (filter (λ q. leb q.0 k) ps))

-- a search by two tests that agree past a key
find_alike : (k : ℕ) (test other : ℕ → Bool) (xs : List ℕ) → AllAbove k xs → ((x : ℕ) → k < x → test x ≡ other x) → find test xs ≡ find other xs
find_alike k test other [] above same = refl
find_alike k test other (x ∷ xs) above same =
    ap (λ b. cond b (Some x) (find test xs)) (same x above.0) ∙ ap (λ r. cond (other x) (Some x) r) (find_alike k test other xs above.1 same)

-- a number less by what was added
test_less : (n w m : ℕ) → w ≤ n → ltb n (w + m) ≡ ltb (n - w) m
test_less n w m h = grind (arith, nat_tests)

-- the first key over a number is the least one up to which rising pairs weigh more
pub first_over_is : (ps : List (ℕ × ℕ)) (n : ℕ) → Rises (keys_of ps) → first_over ps n ≡ select_by_weight_of ps n
first_over_is [] n rises = refl
first_over_is (p ∷ ps) n rises =
    let over = λ (k : ℕ). ltb n (weight_up_to (p ∷ ps) k) in
    let first : weight_up_to (p ∷ ps) p.0 ≡ p.1 = omega (arith, up_to_more p.0 p ps (le_refl p.0), up_to_none p.0 ps rises.0) in
    elim (cases_lt n p.1) [
      | inl low ↦
          ap (λ b. if b then Some p.0 else first_over ps (n - p.1)) (lt-ltb n p.1 low)
          ∙ sym (find_hit over p.0 (keys_of ps) (ap (ltb n) first ∙ lt-ltb n p.1 low))
      | inr high ↦
          ap (λ b. if b then Some p.0 else first_over ps (n - p.1)) (le-ltb n p.1 high)
          ∙ first_over_is ps (n - p.1) rises.1
          ∙ sym (find_alike p.0 over (λ k. ltb (n - p.1) (weight_up_to ps k)) (keys_of ps) rises.0 (λ k above. ap (ltb n) (up_to_more k p ps (le_of_lt above)) ∙ test_less n p.1 (weight_up_to ps k) high))
          ∙ sym (find_skip over p.0 (keys_of ps) (ap (ltb n) first ∙ le-ltb n p.1 high))
    ]

-- so the fold of few pairs does not wrap
fold_is : (ps : List (ℕ × ℕ)) → All FitsPair ps → length ps ≤ 65536 → fold_of sum_parts ps ≡ sum_of_weights ps
fold_is [] fit few = refl
fold_is (p ∷ ps) fit few =
    let rest = fold_is ps (All-tail FitsPair p ps fit) (omega (arith, few)) in
    let small : p.1 + sum_of_weights ps < 2 ^ 64 = omega (arith, few, sum-cons p ps, sum_few (p ∷ ps) fit) in
    ap (λ n. (p.1 + n) % 2 ^ 64) rest ∙ mod-eq_of_lt small ∙ sym (sum-cons p ps)

-- a number that the first list passes
left-passes : (xs ys : List (ℕ × ℕ)) (n : ℕ) → n < sum_of_weights xs → first_over xs n ≡ first_over (xs ++ ys) n
left-passes [] ys n h = absurd (omega (arith, h))
left-passes (x ∷ xs) ys n h =
    elim (cases_lt n x.1) [
      | inl low ↦ rw (lt-ltb n x.1 low) refl
      | inr high ↦ rw (le-ltb n x.1 high) (left-passes xs ys (n - x.1) (omega (arith, h, high, sum-cons x xs)))
    ]

-- and one that it does not
right-passes : (xs ys : List (ℕ × ℕ)) (n : ℕ) → sum_of_weights xs ≤ n → first_over ys (n - sum_of_weights xs) ≡ first_over (xs ++ ys) n
right-passes [] ys n h = let same : n - 0 ≡ n = omega arith in ap (first_over ys) same
right-passes (x ∷ xs) ys n h =
    let all = sum-cons x xs in
    let high : x.1 ≤ n = omega (arith, h, all) in
    let less : n - sum_of_weights (x ∷ xs) ≡ n - x.1 - sum_of_weights xs = omega (arith, all) in
    rw (le-ltb n x.1 high) (ap (first_over ys) less ∙ right-passes xs ys (n - x.1) (omega (arith, h, all)))

-- no list passes what it weighs
none-passes : (ps : List (ℕ × ℕ)) (n : ℕ) → sum_of_weights ps ≤ n → None ≡ first_over ps n
none-passes [] n h = refl
none-passes (p ∷ ps) n h = let all = sum-cons p ps in let high : p.1 ≤ n = omega (arith, h, all) in rw (le-ltb n p.1 high) (none-passes ps (n - p.1) (omega (arith, h, all)))

-- what one pair passes, its key does
one-passes : (ps : List (ℕ × ℕ)) (k w n : ℕ) → ps ≡ (k, w) ∷ [] → n < sum_of_weights ps → Some k ≡ first_over ps n
one-passes ps k w n e h =
    let low : n < w = omega (arith, h, ap sum_of_weights e, sum-cons (k, w) []) in
    ap (λ b. if b then Some k else None) (sym (lt-ltb n w low)) ∙ sym (ap (λ xs. first_over xs n) e)

-- the pairs below a node are its keys with their weights
below_is : (set : SetFacts) (level place : ℕ) → IsTreeSet set → pairs_below set.pairs level place ≡ pairs_of (weight_in set.pairs) (keys_below (list_of set) level place)
below_is set level place is = range-again set.pairs (first_key level place) (end_key level place) (set_rises is)

-- what the sum in a node's summary says of it, where its set is written in another way
pub told : (set other : SetFacts) (level place n sum : ℕ) → IsTreeSet set → other ≡ set → n ≡ sum → sum ≡ fold_of sum_parts (pairs_of (weight_in other.pairs) (keys_below (list_of other) level place)) → n ≡ sum_of_weights (pairs_below set.pairs level place)
told set other level place n sum is same e f =
    e ∙ f ∙ ap (λ s. fold_of sum_parts (pairs_of (weight_in s.pairs) (keys_below (list_of s) level place))) same
    ∙ fold_is _ (range_fits is (first_key level place) (end_key level place)) (range_is_few is (first_key level place) (end_key level place)) ∙ ap sum_of_weights (sym (below_is set level place is))

-- a node has the pairs of its children
both : (set : SetFacts) (level place : ℕ) → IsTreeSet set → pairs_below set.pairs level (2 * place) ++ pairs_below set.pairs level (2 * place + 1) ≡ pairs_below set.pairs (level + 1) place
both set level place is =
    let weight = weight_in set.pairs in
    let keys = list_of set in
    ap (λ xs. xs ++ pairs_below set.pairs level (2 * place + 1)) (below_is set level (2 * place) is) ∙ ap (λ ys. pairs_of weight (keys_below keys level (2 * place)) ++ ys) (below_is set level (2 * place + 1) is)
    ∙ sym (pairs_of-append weight (keys_below keys level (2 * place)) (keys_below keys level (2 * place + 1))) ∙ ap (pairs_of weight) (children_below keys (level + 1) level place (set_rises is) refl) ∙ sym (below_is set (level + 1) place is)

-- the left child passes what is less than its sum
pub goes_left : (set : SetFacts) (level place rest sum : ℕ) → IsTreeSet set → sum ≡ sum_of_weights (pairs_below set.pairs level (2 * place)) → rest < sum → first_over (pairs_below set.pairs level (2 * place)) rest ≡ first_over (pairs_below set.pairs (level + 1) place) rest
goes_left set level place rest sum is e h =
    left-passes (pairs_below set.pairs level (2 * place)) (pairs_below set.pairs level (2 * place + 1)) rest (omega (arith, e, h)) ∙ ap (λ xs. first_over xs rest) (both set level place is)

-- and else the right one does, with so much less to pass
pub goes_right : (set : SetFacts) (level place rest sum : ℕ) → IsTreeSet set → sum ≡ sum_of_weights (pairs_below set.pairs level (2 * place)) → sum ≤ rest → first_over (pairs_below set.pairs level (2 * place + 1)) (rest - sum) ≡ first_over (pairs_below set.pairs (level + 1) place) rest
goes_right set level place rest sum is e h =
    ap (λ n. first_over (pairs_below set.pairs level (2 * place + 1)) (rest - n)) e
    ∙ right-passes (pairs_below set.pairs level (2 * place)) (pairs_below set.pairs level (2 * place + 1)) rest (omega (arith, e, h)) ∙ ap (λ xs. first_over xs rest) (both set level place is)

-- it weighs more than that
pub right_within : (set : SetFacts) (level place rest sum : ℕ) → IsTreeSet set → sum ≡ sum_of_weights (pairs_below set.pairs level (2 * place)) → sum ≤ rest → rest < sum_of_weights (pairs_below set.pairs (level + 1) place) → rest - sum < sum_of_weights (pairs_below set.pairs level (2 * place + 1))
right_within set level place rest sum is e h within =
    let all = ap sum_of_weights (sym (both set level place is)) ∙ sum-append (pairs_below set.pairs level (2 * place)) (pairs_below set.pairs level (2 * place + 1)) in
    omega (arith, all, e, h, within)

-- the top has all pairs
whole : (set : SetFacts) (level : ℕ) → IsTreeSet set → level ≡ set.bits → pairs_below set.pairs level 0 ≡ set.pairs
whole set level is e =
    below_is set level 0 is ∙ ap (pairs_of (weight_in set.pairs)) (whole_below set level is e) ∙ pairs-again (weight_in set.pairs) set.pairs (agrees-own set.pairs (set_rises is))

-- so the first key over a number there is the least member up to which all weigh more
pub top_passes : (set : SetFacts) (level n : ℕ) → IsTreeSet set → level ≡ set.bits → first_over (pairs_below set.pairs level 0) n ≡ select_by_weight_of set.pairs n
top_passes set level n is e = ap (λ xs. first_over xs n) (whole set level is e) ∙ first_over_is set.pairs n (set_rises is)

-- and nothing passes what it weighs
pub past_all : (set : SetFacts) (level n sum : ℕ) → IsTreeSet set → level ≡ set.bits → sum ≡ sum_of_weights (pairs_below set.pairs level 0) → sum ≤ n → None ≡ select_by_weight_of set.pairs n
past_all set level n sum is e s h = none-passes (pairs_below set.pairs level 0) n (omega (arith, s, h)) ∙ top_passes set level n is e

-- a leaf passes by its key
pub leaf_passes : (set : SetFacts) (level place rest : ℕ) → IsTreeSet set → level ≡ 0 → rest < sum_of_weights (pairs_below set.pairs level place) → Some place ≡ first_over (pairs_below set.pairs level place) rest
leaf_passes set level place rest is leaf h =
    let weight = weight_in set.pairs in
    let covers = below_is set level place is ∙ ap (pairs_of weight) (leaf_is (list_of set) level place leaf) in
    elim (range_of_one (list_of set) place (set_rises is)) [
      | inl nothing ↦ absurd (omega (arith, h, ap sum_of_weights (covers ∙ ap (pairs_of weight) nothing)))
      | inr one ↦ one-passes (pairs_below set.pairs level place) place (weight place) rest (covers ∙ ap (pairs_of weight) one) h
    ]
