-- The changes of a round among all that were made through handles, and when two lists have the same changes.
use Rattle.std.proofs.Common.{◌≡◌, ℕ, zero, suc, ◌+◌, ◌<◌, ◌≤◌, ◌%◌, Bool, true, cond, ◌==◌, ◌&&◌, List, [], ◌∷◌, ◌++◌, map, reverse, length, get_or, drop, filter, flat_map, All, Contains, refl, sym, ap, ◌∙◌, subst, ⊎_elim, arith}
use Rattle.std.proofs.lemmas.Bool.{cases_Bool, and_parts, eq-eqb, ne_eqb, eqb-true}
use Rattle.std.proofs.lemmas.List.{append-nil, map-append, reverse-append, length-append, drop_at, get_or_append_left, get_or-append-add}
use Rattle.std.proofs.lemmas.List.Concat.{flat_map-append}
use Rattle.std.proofs.lemmas.List.Elements.{filter-append, All-nil, All-head, All-tail, All-append, All-map, All-weaker}
use Rattle.aug_core.specs.Counts.{change}
use Rattle.aug_core.specs.Cuts.{Cut, serial_of, weight_at, opening_cut}
use Rattle.aug_core.specs.declared.view.Change.{Change}
use Rattle.aug_core.proofs.Counting.{hits, hits-append, hits_yes, hits_no}
use Rattle.aug_trie.specs.Chains.{Chapter}
use Rattle.aug_trie.specs.Knowledge.{insertion, removal, inserts_of, removals_of}
use Rattle.aug_trie.specs.Tallies.{Weighs}
use Rattle.aug_live.specs.Ledgers.{Made, dated, made_in}
use Rattle.aug_live.specs.LiveTries.{AreChangesOf}
use Rattle.aug_live.specs.inside.SameChanges.{SameChanges}

-- ---- the changes of a round

-- the changes of a round in two lists, one behind the other
pub made_in-append : (e : ℕ) (xs ys : List Made) → made_in e (xs ++ ys) ≡ made_in e xs ++ made_in e ys
made_in-append e xs ys = let test = λ (m : Made). m.0 == e in ap (map (λ (m : Made). m.1)) (filter-append test xs ys) ∙ map-append (λ (m : Made). m.1) (filter test xs) (filter test ys)

-- the first change is of the round
first_in : (e : ℕ) (m : Made) (ms : List Made) → m.0 ≡ e → made_in e (m ∷ ms) ≡ m.1 ∷ made_in e ms
first_in e m ms is = let rest : List Made = filter (λ (z : Made). z.0 == e) ms in ap (λ (b : Bool). map (λ (z : Made). z.1) (cond b (m ∷ rest) rest)) (eq-eqb m.0 e is)

-- the first change is of another round
first_out : (e : ℕ) (m : Made) (ms : List Made) → (m.0 ≡ e → ⊥) → made_in e (m ∷ ms) ≡ made_in e ms
first_out e m ms other = let rest : List Made = filter (λ (z : Made). z.0 == e) ms in ap (λ (b : Bool). map (λ (z : Made). z.1) (cond b (m ∷ rest) rest)) (ne_eqb m.0 e other)

-- the changes of a round, among those that are dated with it, are all of them
pub made_in-dated : (e : ℕ) (cs : List Change) → made_in e (dated e cs) ≡ cs
made_in-dated e [] = refl
made_in-dated e (c ∷ cs) = first_in e (e, c) (dated e cs) refl ∙ ap (λ (z : List Change). c ∷ z) (made_in-dated e cs)

-- among those that are dated with another round there are none
pub made_in-other : (e d : ℕ) (cs : List Change) → (e ≡ d → ⊥) → made_in e (dated d cs) ≡ []
made_in-other e d [] other = refl
made_in-other e d (c ∷ cs) other = first_out e (d, c) (dated d cs) (λ is. other (sym is)) ∙ made_in-other e d cs other

-- in a round that is later than all that was made, none was made
pub made_in-later : (e : ℕ) (xs : List Made) → All (λ (m : Made). m.0 < e) xs → made_in e xs ≡ []
made_in-later e [] all = refl
made_in-later e (x ∷ xs) all = let before : x.0 < e = All-head (λ (m : Made). m.0 < e) x xs all in
    first_out e x xs (λ is. absurd (omega arith)) ∙ made_in-later e xs (All-tail (λ (m : Made). m.0 < e) x xs all)

-- changes of a round are added to what was made: to those of another round none is added
added_other : (e era : ℕ) (made : List Made) (cs : List Change) → (e ≡ era → ⊥) → made_in e (made ++ dated era cs) ≡ made_in e made
added_other e era made cs other = made_in-append e made (dated era cs) ∙ ap (λ (z : List Change). made_in e made ++ z) (made_in-other e era cs other) ∙ append-nil (made_in e made)

-- and to those of the round they are
added_same : (era : ℕ) (made : List Made) (cs : List Change) → made_in era (made ++ dated era cs) ≡ made_in era made ++ cs
added_same era made cs = made_in-append era made (dated era cs) ∙ ap (λ (z : List Change). made_in era made ++ z) (made_in-dated era cs)

-- how many changes of a round pass a test, in two lists
hits_made : (test : Change → Bool) (e : ℕ) (xs ys : List Made) → hits test (made_in e (xs ++ ys)) ≡ hits test (made_in e xs) + hits test (made_in e ys)
hits_made test e xs ys = ap (hits test) (made_in-append e xs ys) ∙ hits-append test (made_in e xs) (made_in e ys)

-- ---- the same changes

-- a list has the same changes as itself
pub same_self : (xs : List Change) → SameChanges xs xs
same_self xs test = refl

-- it can be said the other way round
pub same_sym : (xs ys : List Change) → SameChanges xs ys → SameChanges ys xs
same_sym xs ys same test = sym (same test)

-- and of a third list, by the second
pub same_trans : (xs ys zs : List Change) → SameChanges xs ys → SameChanges ys zs → SameChanges xs zs
same_trans xs ys zs one two test = one test ∙ two test

-- lists with the same changes have the same ones, one behind the other
pub same_append : (a b c d : List Change) → SameChanges a b → SameChanges c d → SameChanges (a ++ c) (b ++ d)
same_append a b c d one two test = let x = one test in let y = two test in let left = hits-append test a c in let right = hits-append test b d in omega arith

-- an element of a list passes a test, so some do
some_hit : {X : Type 0} (p : X → Bool) (xs : List X) (k : ℕ) (x : X) → k < length xs → get_or xs k x ≡ x → p x ≡ true → 0 < hits p xs
some_hit p [] k x low at good = absurd (omega arith)
some_hit p (y ∷ ys) zero x low at good = let e = hits_yes p y ys (ap p at ∙ good) in omega arith
some_hit p (y ∷ ys) (suc k) x low at good = let rest = some_hit p ys k x (omega arith) at good in ⊎_elim
    (λ here. let e = hits_yes p y ys here in omega arith) (λ not_here. let e = hits_no p y ys not_here in omega arith) (cases_Bool (p y))

-- some elements pass a test, so there is one
hit_some : {X : Type 0} (p : X → Bool) (xs : List X) → 0 < hits p xs → (x : X) × Contains xs x × (p x ≡ true)
hit_some p [] some_there = absurd (omega arith)
hit_some p (y ∷ ys) some_there = ⊎_elim
    (λ here. (y, (0, omega arith, refl), here))
    (λ not_here. let e = hits_no p y ys not_here in let t = hit_some p ys (omega arith) in let low = t.1.1 in (t.0, (suc t.1.0, omega arith, t.1.2), t.2)) (cases_Bool (p y))

-- the test that only one change passes
abbrev is_it : Change → Change → Bool
is_it c d = d.key == c.key && (d.serial == c.serial && d.weight == c.weight)

it_is : (c : Change) → is_it c c ≡ true
it_is c = λ j. eq-eqb c.key c.key refl j && (eq-eqb c.serial c.serial refl j && eq-eqb c.weight c.weight refl j)

only_it : (c d : Change) → is_it c d ≡ true → d ≡ c
only_it c d is = let first = and_parts (d.key == c.key) (d.serial == c.serial && d.weight == c.weight) is in let rest = and_parts (d.serial == c.serial) (d.weight == c.weight) first.1 in
    let key = eqb-true d.key c.key first.0 in let serial = eqb-true d.serial c.serial rest.0 in let weight = eqb-true d.weight c.weight rest.1 in
    λ j. record { key = key j; serial = serial j; weight = weight j }

-- a change of one list is in each that has the same changes
pub contains_by : (xs ys : List Change) (c : Change) → SameChanges xs ys → Contains xs c → Contains ys c
contains_by xs ys c same there = let many = some_hit (is_it c) xs there.0 c there.1 there.2 (it_is c) in let e = same (is_it c) in
    let found = hit_some (is_it c) ys (omega arith) in subst (Contains ys) (only_it c found.0 found.2) found.1

-- what is said of all changes of a round is so of each list that has the same ones
pub changes_by : (bits : ℕ) (round : Chapter) (xs ys : List Change) → SameChanges xs ys → AreChangesOf bits round xs → AreChangesOf bits round ys
changes_by bits round xs ys same are = let first : Cut = opening_cut bits round.members in record {
  tally = λ key number. sym (same (λ (c : Change). c.key == key && c.serial == number)) ∙ are.tally key number;
  weigh = All-weaker (Weighs first xs) (Weighs first ys) (λ cut weighs key later. contains_by xs ys (change key (serial_of cut key) (weight_at cut key)) same (weighs key later)) round.history are.weigh;
}

-- of the same changes as many are insertions
pub inserts_by : (xs ys : List Change) → SameChanges xs ys → inserts_of xs ≡ inserts_of ys
inserts_by xs ys same = same (λ (c : Change). c.serial % 2 == insertion)

-- and as many removals
pub removals_by : (xs ys : List Change) → SameChanges xs ys → removals_of xs ≡ removals_of ys
removals_by xs ys same = same (λ (c : Change). c.serial % 2 == removal)

-- ---- the changes of many

module _ {A : Type 0} (f : A → List Made) (h : A → List Change) where
  -- changes of a round are added to what each made: to those of another round none is added
  pub spread-other : (e era : ℕ) → (e ≡ era → ⊥) → (xs : List A) → made_in e (flat_map (λ (x : A). f x ++ dated era (h x)) xs) ≡ made_in e (flat_map f xs)
  spread-other e era other [] = refl
  spread-other e era other (x ∷ xs) = let more = λ (z : A). f z ++ dated era (h z) in let this = added_other e era (f x) (h x) other in let rest = spread-other e era other xs in
      let both : made_in e (more x) ++ made_in e (flat_map more xs) ≡ made_in e (f x) ++ made_in e (flat_map f xs) = λ j. this j ++ rest j in
      made_in-append e (more x) (flat_map more xs) ∙ both ∙ sym (made_in-append e (f x) (flat_map f xs))

  -- and to those of the round all of them are
  pub spread-same : (era : ℕ) (xs : List A) → SameChanges (made_in era (flat_map (λ (x : A). f x ++ dated era (h x)) xs)) (made_in era (flat_map f xs) ++ flat_map h xs)
  spread-same era [] test = refl
  spread-same era (x ∷ xs) test = let more = λ (z : A). f z ++ dated era (h z) in
      let all = hits_made test era (more x) (flat_map more xs) in
      let this = ap (hits test) (added_same era (f x) (h x)) ∙ hits-append test (made_in era (f x)) (h x) in
      let rest = spread-same era xs test in
      let before = hits-append test (made_in era (flat_map f xs)) (flat_map h xs) in
      let olds = hits_made test era (f x) (flat_map f xs) in
      let news = hits-append test (h x) (flat_map h xs) in
      let together = hits-append test (made_in era (f x ++ flat_map f xs)) (h x ++ flat_map h xs) in omega arith

-- what the first made stands last where the list is turned round
pub turned : {A B : Type 0} (f : A → List B) (x : A) (xs : List A) → flat_map f (reverse (x ∷ xs)) ≡ flat_map f (reverse xs) ++ f x
turned f x xs = ap (flat_map f) (reverse-append (x ∷ []) xs) ∙ flat_map-append f (reverse xs) (x ∷ []) ∙ ap (λ z. flat_map f (reverse xs) ++ z) (append-nil (f x))

-- ---- the numbers of the rounds

module _ {A : Type 0} (P : A → Type 0) (xs ys : List A) where
  -- a fact of all of two lists is one of all of the first
  all_front : All P (xs ++ ys) → All P xs
  all_front all k d low = subst P (get_or_append_left xs ys d k low) (all k d (let long = length-append xs ys in omega arith))

  -- and of the second
  all_back : All P (xs ++ ys) → All P ys
  all_back all k d low = subst P (get_or-append-add xs ys k d) (all (length xs + k) d (let long = length-append xs ys in omega arith))

abbrev UpTo : ℕ → Made → Type 0
UpTo d m = m.0 ≤ d

dates-dated : (era : ℕ) (cs : List Change) → All (UpTo era) (dated era cs)
dates-dated era cs = All-map (UpTo era) (λ (c : Change). (era, c)) cs (λ k d low. omega arith)

-- changes of a round are added to what each made: if that was made up to the round, all was
pub dates-spread : {A : Type 0} (f : A → List Made) (h : A → List Change) (era : ℕ) (xs : List A) → All (λ (m : Made). m.0 ≤ era) (flat_map f xs) → All (λ (m : Made). m.0 ≤ era) (flat_map (λ (x : A). f x ++ dated era (h x)) xs)
dates-spread f h era [] all = All-nil (UpTo era)
dates-spread {A} f h era (x ∷ xs) all = let more = λ (z : A). f z ++ dated era (h z) in
    All-append (UpTo era) (more x) (flat_map more xs) (All-append (UpTo era) (f x) (dated era (h x)) (all_front (UpTo era) (f x) (flat_map f xs) all) (dates-dated era (h x)))
    (dates-spread f h era xs (all_back (UpTo era) (f x) (flat_map f xs) all))

-- ---- one place of a list

module _ {A : Type 0} (f : A → List Made) (a b : List A) where
  -- the changes of a round, before a place, there and behind it
  around : (e : ℕ) (z : A) → made_in e (flat_map f (a ++ z ∷ b)) ≡ made_in e (flat_map f a) ++ (made_in e (f z) ++ made_in e (flat_map f b))
  around e z = ap (made_in e) (flat_map-append f a (z ∷ b)) ∙ made_in-append e (flat_map f a) (f z ++ flat_map f b) ∙ ap (λ (l : List Change). made_in e (flat_map f a) ++ l) (made_in-append e (f z) (flat_map f b))

  hits_around : (test : Change → Bool) (e : ℕ) (z : A) → hits test (made_in e (flat_map f (a ++ z ∷ b))) ≡ hits test (made_in e (flat_map f a)) + (hits test (made_in e (f z)) + hits test (made_in e (flat_map f b)))
  hits_around test e z = let first = hits-append test (made_in e (flat_map f a)) (made_in e (f z) ++ made_in e (flat_map f b)) in let rest = hits-append test (made_in e (f z)) (made_in e (flat_map f b)) in
      let is = ap (hits test) (around e z) in omega arith

module _ {A : Type 0} (f : A → List Made) (a b : List A) (x y : A) where
  -- an element takes the place of one, with more changes of a round: those of another round are the same
  pub place-other : (e era : ℕ) (cs : List Change) → (e ≡ era → ⊥) → f y ≡ f x ++ dated era cs → made_in e (flat_map f (a ++ y ∷ b)) ≡ made_in e (flat_map f (a ++ x ∷ b))
  place-other e era cs other is = around f a b e y ∙ ap (λ (z : List Change). made_in e (flat_map f a) ++ (z ++ made_in e (flat_map f b))) (ap (made_in e) is ∙ added_other e era (f x) cs other) ∙ sym (around f a b e x)

  -- and those of the round are the ones before, and these
  pub place-same : (era : ℕ) (cs : List Change) → f y ≡ f x ++ dated era cs → SameChanges (made_in era (flat_map f (a ++ y ∷ b))) (made_in era (flat_map f (a ++ x ∷ b)) ++ cs)
  place-same era cs is test = let new = hits_around f a b test era y in let old = hits_around f a b test era x in
      let this = ap (hits test) (ap (made_in era) is ∙ added_same era (f x) cs) ∙ hits-append test (made_in era (f x)) cs in
      let together = hits-append test (made_in era (flat_map f (a ++ x ∷ b))) cs in omega arith

  -- if all was made up to the round, it is so still
  pub place-dates : (era : ℕ) (cs : List Change) → f y ≡ f x ++ dated era cs → All (λ (m : Made). m.0 ≤ era) (flat_map f (a ++ x ∷ b)) → All (λ (m : Made). m.0 ≤ era) (flat_map f (a ++ y ∷ b))
  place-dates era cs is all =
      let both : All (UpTo era) (flat_map f a ++ (f x ++ flat_map f b)) = subst (All (UpTo era)) (flat_map-append f a (x ∷ b)) all in
      let behind : All (UpTo era) (f x ++ flat_map f b) = all_back (UpTo era) (flat_map f a) (f x ++ flat_map f b) both in
      let here : All (UpTo era) (f y) = subst (All (UpTo era)) (sym is) (All-append (UpTo era) (f x) (dated era cs) (all_front (UpTo era) (f x) (flat_map f b) behind) (dates-dated era cs)) in
      subst (All (UpTo era)) (sym (flat_map-append f a (y ∷ b)))
      (All-append (UpTo era) (flat_map f a) (f y ++ flat_map f b) (all_front (UpTo era) (flat_map f a) (f x ++ flat_map f b) both)
      (All-append (UpTo era) (f y) (flat_map f b) here (all_back (UpTo era) (f x) (flat_map f b) behind)))

-- what stands behind a front
pub drop-front : {A : Type 0} (xs ys : List A) → drop (length xs) (xs ++ ys) ≡ ys
drop-front xs ys = drop_at xs ys (length xs) refl
