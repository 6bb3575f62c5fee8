-- What a request makes of a leaf's word.
use Rattle.std.proofs.Common.{◌≡◌, ◌≢◌, ◌⊎◌, ℕ, ◌+◌, ◌%◌, ◌^◌, ◌<◌, ◌≤◌, ◌==◌, ◌&&◌, ltb, leb, Bool, true, false, if◌then◌else◌, [], ◌∷◌, length, refl, sym, ap, ◌∙◌, inl, inr, ⊎_elim, arith}
use Rattle.std.proofs.lemmas.Bool.{eq-eqb, eqb-true, eqb-false, ltb-true, ltb-false, leb-true, cases_Bool, false≢true}
use Rattle.aug_core.specs.Counts.{change}
use Rattle.aug_core.specs.Effects.{IsAdvance, made_by, new_serial, new_word}
use Rattle.aug_core.specs.declared.view.Advance.{Advance}
use Rattle.aug_core.specs.declared.view.Change.{Change}
use Rattle.aug_model.specs.declared.outcome.Outcome.{Outcome}
use Rattle.aug_model.specs.declared.outcome.Outcome.TheVariants.{Accepted, Replaced, Refused, Unchanged, TooGreat, TooLittle}
use Rattle.aug_trie.specs.LeafWords.{serial_in_word, weight_in_word}
use Rattle.aug_trie.specs.inside.Climbing.{FitsRequest, advance_from}
use Rattle.aug_trie.specs.Requests.{goes_from, in_the_way, outcome_by, word_after}
use Rattle.aug_trie.specs.declared.updates.request.Request.{Request}
use Rattle.aug_trie.specs.declared.updates.request.Request.TheVariants.{Insert, Remove, Put, Add, Sub, Take}

-- the outcomes are different
abbrev pub kind_of : Outcome → ℕ
kind_of Accepted = 0
kind_of Replaced = 1
kind_of Refused = 2
kind_of Unchanged = 3
kind_of TooGreat = 4
kind_of TooLittle = 5

-- both of two are true
pub and_both : (x y : Bool) → (x && y) ≡ true → (x ≡ true) × (y ≡ true)
and_both true true e = (refl, refl)
and_both true false e = absurd (false≢true e)
and_both false y e = absurd (false≢true e)

-- or one of them is false
pub and_one : (x y : Bool) → (x && y) ≡ false → (x ≡ false) ⊎ (y ≡ false)
and_one true y e = inr e
and_one false y e = inl refl

-- an amount of nothing, and one of something, by what its update comes to at once
pub of_nothing : (amount : ℕ) (done other : Outcome) → done ≡ (if amount == 0 then Unchanged else other) → kind_of done ≢ kind_of other → amount ≡ 0
of_nothing amount done other is ne = elim (cases_Bool (amount == 0)) [
  | inl t ↦ eqb-true amount 0 t
  | inr n ↦ absurd (ne (ap kind_of (is ∙ ap (λ (z : Bool). if z then Unchanged else other) n)))
]

pub of_something : (amount : ℕ) (done other : Outcome) → done ≡ (if amount == 0 then Unchanged else other) → kind_of done ≢ kind_of Unchanged → (amount ≢ 0) × (done ≡ other)
of_something amount done other is ne = elim (cases_Bool (amount == 0)) [
  | inl t ↦ absurd (ne (ap kind_of (is ∙ ap (λ (z : Bool). if z then Unchanged else other) t)))
  | inr n ↦ (eqb-false amount 0 n, is ∙ ap (λ (z : Bool). if z then Unchanged else other) n)
]

-- a subtraction that goes on finds a member that weighs as much
pub may_take : (amount word : ℕ) → goes_from (Sub amount) word ≡ true → ((serial_in_word word % 2 == 1) ≡ true) × (amount ≤ weight_in_word word)
may_take amount word lets = let odd = serial_in_word word % 2 == 1 in let enough = leb amount (weight_in_word word) in
    let both = and_both odd enough (and_both (ltb 0 amount) (odd && enough) lets).1 in (both.0, leb-true amount (weight_in_word word) both.1)

-- a take that goes on finds a member of this weight
pub takes_all : (weight word : ℕ) → goes_from (Take weight) word ≡ true → (serial_in_word word % 2 ≡ 1) × (weight_in_word word ≡ weight)
takes_all weight word lets = let both = and_both (serial_in_word word % 2 == 1) (weight_in_word word == weight) lets in (eqb-true (serial_in_word word % 2) 1 both.0, eqb-true (weight_in_word word) weight both.1)

-- and one that does not finds none
pub takes_none : (weight word : ℕ) → goes_from (Take weight) word ≡ false → (serial_in_word word % 2 ≡ 0) ⊎ (weight_in_word word ≢ weight)
takes_none weight word stops = ⊎_elim
    (λ (no : (serial_in_word word % 2 == 1) ≡ false). inl (let even = eqb-false (serial_in_word word % 2) 1 no in omega (arith, even)))
    (λ (no : (weight_in_word word == weight) ≡ false). inr (eqb-false (weight_in_word word) weight no)) (and_one (serial_in_word word % 2 == 1) (weight_in_word word == weight) stops)

-- the exchange is one of those that there are
pub is_advance : (request : Request) (key word : ℕ) → FitsRequest request → key < 2 ^ 32 → goes_from request word ≡ true → IsAdvance (advance_from request key word)
is_advance Insert key word fits low lets = record {
  fits = omega arith;
  new_fits = low;
  from_there = λ e. absurd (false≢true e);
  weighs_nothing = λ _ odd. let even = eqb-true (serial_in_word word % 2) 0 lets in absurd (omega (arith, even, odd));
}
is_advance Remove key word fits low lets = record {
  fits = omega arith;
  new_fits = omega arith;
  from_there = λ e. absurd (false≢true e);
  weighs_nothing = λ _ _. refl;
}
is_advance (Put weight) key word fits low lets = record {
  fits = omega arith;
  new_fits = fits;
  from_there = λ e. eqb-true (serial_in_word word % 2) 1 e;
  weighs_nothing = λ e odd. absurd (false≢true (sym e ∙ eq-eqb (serial_in_word word % 2) 1 odd));
}
is_advance (Add amount) key word fits low lets = record {
  fits = omega arith;
  new_fits = ltb-true (weight_in_word word + amount) (2 ^ 32) (and_both (ltb 0 amount) (ltb (weight_in_word word + amount) (2 ^ 32)) lets).1;
  from_there = λ e. eqb-true (serial_in_word word % 2) 1 e;
  weighs_nothing = λ e odd. absurd (false≢true (sym e ∙ eq-eqb (serial_in_word word % 2) 1 odd));
}
is_advance (Sub amount) key word fits low lets = record {
  fits = omega arith;
  new_fits = omega arith;
  from_there = λ e. eqb-true (serial_in_word word % 2) 1 (may_take amount word lets).0;
  weighs_nothing = λ e odd. let all = ltb-false amount (weight_in_word word) e in omega (arith, all);
}
is_advance (Take weight) key word fits low lets = record {
  fits = omega arith;
  new_fits = omega arith;
  from_there = λ e. absurd (false≢true e);
  weighs_nothing = λ _ _. refl;
}

-- what it comes to says whether it replaces
pub outcome_is : (request : Request) (key word : ℕ) → outcome_by request word ≡ (if (advance_from request key word).replaces then Replaced else Accepted)
outcome_is Insert key word = refl
outcome_is Remove key word = refl
outcome_is (Put weight) key word = refl
outcome_is (Add amount) key word = refl
outcome_is (Sub amount) key word = refl
outcome_is (Take weight) key word = refl

pub serial_is : (request : Request) (key word : ℕ) → (advance_from request key word).serial ≡ serial_in_word word
serial_is Insert key word = refl
serial_is Remove key word = refl
serial_is (Put weight) key word = refl
serial_is (Add amount) key word = refl
serial_is (Sub amount) key word = refl
serial_is (Take weight) key word = refl

pub weight_is : (request : Request) (key word : ℕ) → (advance_from request key word).weight ≡ weight_in_word word
weight_is Insert key word = refl
weight_is Remove key word = refl
weight_is (Put weight) key word = refl
weight_is (Add amount) key word = refl
weight_is (Sub amount) key word = refl
weight_is (Take weight) key word = refl

few_by : (b : Bool) (x y z : Change) → length (if b then x ∷ y ∷ [] else z ∷ []) ≤ 2
few_by true x y z = omega arith
few_by false x y z = omega arith

-- it makes two changes at most
pub made_few : (key : ℕ) (a : Advance) → length (made_by key a) ≤ 2
made_few key a = few_by a.replaces (change key (a.serial + 1) 0) (change key (a.serial + 2) a.new_weight) (change key (a.serial + 1) a.new_weight)

-- where it replaces nothing it makes one
pub made_one : (key : ℕ) (a : Advance) → a.replaces ≡ false → made_by key a ≡ change key (a.serial + 1) a.new_weight ∷ []
made_one key a e = ap (λ (z : Bool). if z then change key (a.serial + 1) 0 ∷ change key (a.serial + 2) a.new_weight ∷ [] else change key (a.serial + 1) a.new_weight ∷ []) e

pub one_more : (a : Advance) → a.replaces ≡ false → new_serial a ≡ a.serial + 1
one_more a e = ap (λ (z : Bool). if z then a.serial + 2 else a.serial + 1) e

-- and else two
pub made_two : (key : ℕ) (a : Advance) → a.replaces ≡ true → made_by key a ≡ change key (a.serial + 1) 0 ∷ change key (a.serial + 2) a.new_weight ∷ []
made_two key a e = ap (λ (z : Bool). if z then change key (a.serial + 1) 0 ∷ change key (a.serial + 2) a.new_weight ∷ [] else change key (a.serial + 1) a.new_weight ∷ []) e

pub two_more : (a : Advance) → a.replaces ≡ true → new_serial a ≡ a.serial + 2
two_more a e = ap (λ (z : Bool). if z then a.serial + 2 else a.serial + 1) e

-- what stands in the way of an update that does not go on is the serial that it found, and else the next one
pub way_found : (request : Request) (word : ℕ) → goes_from request word ≡ false → in_the_way request word ≡ serial_in_word word
way_found request word e = ap (λ (z : Bool). if z then serial_in_word word + 1 else serial_in_word word) e

pub way_next : (request : Request) (word : ℕ) → goes_from request word ≡ true → in_the_way request word ≡ serial_in_word word + 1
way_next request word e = ap (λ (z : Bool). if z then serial_in_word word + 1 else serial_in_word word) e

-- the serial that stood in an insertion's way is odd, and no less than the one that was found
pub insert_stands : (word : ℕ) → (in_the_way Insert word % 2 ≡ 1) × (serial_in_word word ≤ in_the_way Insert word)
insert_stands word = elim (cases_Bool (serial_in_word word % 2 == 0)) [
  | inl lets ↦ (let e = way_next Insert word lets in let even = eqb-true (serial_in_word word % 2) 0 lets in (omega (arith, e, even), omega (arith, e)))
  | inr not ↦ (let e = way_found Insert word not in let odd = eqb-false (serial_in_word word % 2) 0 not in (omega (arith, e, odd), omega (arith, e)))
]

-- that in a removal's way is even
pub remove_stands : (word : ℕ) → (in_the_way Remove word % 2 ≡ 0) × (serial_in_word word ≤ in_the_way Remove word)
remove_stands word = elim (cases_Bool (serial_in_word word % 2 == 1)) [
  | inl lets ↦ (let e = way_next Remove word lets in let odd = eqb-true (serial_in_word word % 2) 1 lets in (omega (arith, e, odd), omega (arith, e)))
  | inr not ↦ (let e = way_found Remove word not in let even = eqb-false (serial_in_word word % 2) 1 not in (omega (arith, e, even), omega (arith, e)))
]

-- the word that the request makes of it is the one that the exchange goes to
pub to_word : (request : Request) (key word : ℕ) → word_after request key word ≡ new_word (advance_from request key word)
to_word Insert key word = refl
to_word Remove key word = refl
to_word (Put weight) key word = refl
to_word (Add amount) key word = refl
to_word (Sub amount) key word = refl
to_word (Take weight) key word = refl
