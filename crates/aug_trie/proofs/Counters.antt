-- The counters of a pass as it goes on.
use Rattle.std.proofs.Common.{◌≡◌, ℕ, ◌+◌, ◌%◌, ◌≤◌, ◌*◌, Bool, true, false, if◌then◌else◌, eqb, eq-eqb, ne_eqb, List, [], ◌∷◌, ◌++◌, length, sym, refl, ◌∙◌, subst, arith}
use Rattle.std.proofs.lemmas.Bool.{eqb-true, eqb-false, false≢true}
use Rattle.std.proofs.lemmas.List.{append-nil}
use Rattle.aug_core.specs.Counts.{change, changes_of}
use Rattle.aug_core.specs.Effects.{made_by}
use Rattle.aug_core.specs.declared.view.Advance.{Advance}
use Rattle.aug_core.specs.declared.view.Change.{Change}
use Rattle.aug_core.specs.declared.view.SeatView.{SeatView}
use Rattle.aug_trie.specs.inside.Counted.{HasCounts, insertions_by, removals_by}
use Rattle.aug_model.specs.declared.outcome.Outcome.{Outcome}
use Rattle.aug_model.specs.declared.outcome.Outcome.TheVariants.{Accepted, Replaced, Refused, Unchanged, TooGreat, TooLittle}
use Rattle.aug_trie.specs.inside.Climbing.{Updated, advance_from}
use Rattle.aug_trie.specs.LeafWords.{serial_in_word}
use Rattle.aug_trie.specs.Requests.{goes_from, stores_nothing}
use Rattle.aug_trie.specs.declared.updates.request.Request.{Request}
use Rattle.aug_trie.specs.declared.updates.request.Request.TheVariants.{Insert, Remove, Put, Add, Sub, Take}
use Rattle.aug_trie.proofs.Requesting.{may_take, takes_all, made_one, made_two}
use Rattle.aug_trie.specs.inside.PassState.{IsPass}
use Rattle.aug_trie.specs.inside.Goes.{Goes}
use Rattle.aug_trie.specs.Knowledge.{insertion, removal, inserts_of, removals_of}
use Rattle.aug_core.proofs.Counting.{hits-append, hits_yes, hits_no, filter_shorter}

abbrev pub is_insertion : Change → Bool
is_insertion c = eqb (c.serial % 2) insertion

abbrev pub is_removal : Change → Bool
is_removal c = eqb (c.serial % 2) removal

-- the counters of two lists, one after the other
pub counted_both : (xs ys : List Change) (a b c d : ℕ) → HasCounts xs a b → HasCounts ys c d → HasCounts (xs ++ ys) (a + c) (b + d)
counted_both xs ys a b c d p q = let i = hits-append is_insertion xs ys in let r = hits-append is_removal xs ys in let pi = p.inserts_are in let pr = p.removals_are in let qi = q.inserts_are in let qr = q.removals_are in
    record { inserts_are = omega arith; removals_are = omega arith }

pub counted_none : HasCounts [] 0 0
counted_none = record { inserts_are = refl; removals_are = refl }

one_insertion : (key serial weight : ℕ) → serial % 2 ≡ 1 → HasCounts (change key serial weight ∷ []) 1 0
one_insertion key serial weight odd = record {
  inserts_are = sym (hits_yes is_insertion (change key serial weight) [] (eq-eqb (serial % 2) 1 odd));
  removals_are = sym (hits_no is_removal (change key serial weight) [] (ne_eqb (serial % 2) 0 (λ is. omega arith)));
}

one_removal : (key serial weight : ℕ) → serial % 2 ≡ 0 → HasCounts (change key serial weight ∷ []) 0 1
one_removal key serial weight even = record {
  inserts_are = sym (hits_no is_insertion (change key serial weight) [] (ne_eqb (serial % 2) 1 (λ is. omega arith)));
  removals_are = sym (hits_yes is_removal (change key serial weight) [] (eq-eqb (serial % 2) 0 even));
}

-- what stored nothing counts nothing
none_refused : (request : Request) → (insertions_by request Refused ≡ 0) × (removals_by request Refused ≡ 0)
none_refused Insert = (refl, refl)
none_refused Remove = (refl, refl)
none_refused (Put weight) = (refl, refl)
none_refused (Add amount) = (refl, refl)
none_refused (Sub amount) = (refl, refl)
none_refused (Take weight) = (refl, refl)

none_unchanged : (request : Request) → (insertions_by request Unchanged ≡ 0) × (removals_by request Unchanged ≡ 0)
none_unchanged Insert = (refl, refl)
none_unchanged Remove = (refl, refl)
none_unchanged (Put weight) = (refl, refl)
none_unchanged (Add amount) = (refl, refl)
none_unchanged (Sub amount) = (refl, refl)
none_unchanged (Take weight) = (refl, refl)

none_too_great : (request : Request) → (insertions_by request TooGreat ≡ 0) × (removals_by request TooGreat ≡ 0)
none_too_great Insert = (refl, refl)
none_too_great Remove = (refl, refl)
none_too_great (Put weight) = (refl, refl)
none_too_great (Add amount) = (refl, refl)
none_too_great (Sub amount) = (refl, refl)
none_too_great (Take weight) = (refl, refl)

none_too_little : (request : Request) → (insertions_by request TooLittle ≡ 0) × (removals_by request TooLittle ≡ 0)
none_too_little Insert = (refl, refl)
none_too_little Remove = (refl, refl)
none_too_little (Put weight) = (refl, refl)
none_too_little (Add amount) = (refl, refl)
none_too_little (Sub amount) = (refl, refl)
none_too_little (Take weight) = (refl, refl)

counted_zero : (request : Request) (done : Outcome) → (insertions_by request done ≡ 0) × (removals_by request done ≡ 0) → HasCounts [] (insertions_by request done) (removals_by request done)
counted_zero request done none = subst (λ (z : ℕ × ℕ). HasCounts [] z.0 z.1) (λ i. (sym none.0 i, sym none.1 i)) counted_none

pub counted_nothing : (request : Request) (done : Outcome) → stores_nothing done ≡ true → HasCounts [] (insertions_by request done) (removals_by request done)
counted_nothing request Accepted nothing = absurd (false≢true nothing)
counted_nothing request Replaced nothing = absurd (false≢true nothing)
counted_nothing request Refused nothing = counted_zero request Refused (none_refused request)
counted_nothing request Unchanged nothing = counted_zero request Unchanged (none_unchanged request)
counted_nothing request TooGreat nothing = counted_zero request TooGreat (none_too_great request)
counted_nothing request TooLittle nothing = counted_zero request TooLittle (none_too_little request)

-- what an exchange of a leaf makes
made_in : (key : ℕ) (a : Advance) → a.replaces ≡ false → a.serial % 2 ≡ 0 → HasCounts (made_by key a) 1 0
made_in key a one even = subst (λ (z : List Change). HasCounts z 1 0) (sym (made_one key a one)) (one_insertion key (a.serial + 1) a.new_weight (omega (arith, even)))

made_out : (key : ℕ) (a : Advance) → a.replaces ≡ false → a.serial % 2 ≡ 1 → HasCounts (made_by key a) 0 1
made_out key a one odd = subst (λ (z : List Change). HasCounts z 0 1) (sym (made_one key a one)) (one_removal key (a.serial + 1) a.new_weight (omega (arith, odd)))

made_both : (key : ℕ) (a : Advance) → a.replaces ≡ true → a.serial % 2 ≡ 1 → HasCounts (made_by key a) 1 1
made_both key a two odd = subst (λ (z : List Change). HasCounts z 1 1) (sym (made_two key a two))
    (counted_both (change key (a.serial + 1) 0 ∷ []) (change key (a.serial + 2) a.new_weight ∷ []) 0 1 1 0 (one_removal key (a.serial + 1) 0 (omega (arith, odd))) (one_insertion key (a.serial + 2) a.new_weight (omega (arith, odd))))

pub counted_made : (request : Request) (key word : ℕ) (b : Bool) → (advance_from request key word).replaces ≡ b → goes_from request word ≡ true
    → HasCounts (made_by key (advance_from request key word)) (insertions_by request (if b then Replaced else Accepted)) (removals_by request (if b then Replaced else Accepted))
counted_made Insert key word true e lets = absurd (false≢true e)
counted_made Insert key word false e lets = made_in key (advance_from Insert key word) refl (eqb-true (serial_in_word word % 2) 0 lets)
counted_made Remove key word true e lets = absurd (false≢true e)
counted_made Remove key word false e lets = made_out key (advance_from Remove key word) refl (eqb-true (serial_in_word word % 2) 1 lets)
counted_made (Put weight) key word true e lets = made_both key (advance_from (Put weight) key word) e (eqb-true (serial_in_word word % 2) 1 e)
counted_made (Put weight) key word false e lets = let even = eqb-false (serial_in_word word % 2) 1 e in made_in key (advance_from (Put weight) key word) e (omega (arith, even))
counted_made (Add amount) key word true e lets = made_both key (advance_from (Add amount) key word) e (eqb-true (serial_in_word word % 2) 1 e)
counted_made (Add amount) key word false e lets = let even = eqb-false (serial_in_word word % 2) 1 e in made_in key (advance_from (Add amount) key word) e (omega (arith, even))
counted_made (Sub amount) key word true e lets = made_both key (advance_from (Sub amount) key word) e (eqb-true (serial_in_word word % 2) 1 (may_take amount word lets).0)
counted_made (Sub amount) key word false e lets = made_out key (advance_from (Sub amount) key word) e (eqb-true (serial_in_word word % 2) 1 (may_take amount word lets).0)
counted_made (Take weight) key word true e lets = absurd (false≢true e)
counted_made (Take weight) key word false e lets = made_out key (advance_from (Take weight) key word) refl (takes_all weight word lets).0

-- no counter is past the number of changes
pub few_inserts : (changes : List Change) → inserts_of changes ≤ length changes
few_inserts changes = filter_shorter is_insertion changes

pub few_removals : (changes : List Change) → removals_of changes ≤ length changes
few_removals changes = filter_shorter is_removal changes

module _ (face : ℕ → ℕ → List (ℕ × ℕ) → List ℕ) where
  -- a counter has room for all changes that may still come
  pub may_count : (v : SeatView) (leaves bits next left inserts removals : ℕ) → IsPass face v leaves bits next left → HasCounts (changes_of v.held) inserts removals → (inserts + 2 * left ≤ 131072) × (removals + 2 * left ≤ 131072)
  may_count v leaves bits next left inserts removals p c = let few = p.knows_table.laid_out.updates.1 in let b = p.budget in let i = few_inserts (changes_of v.held) in let r = few_removals (changes_of v.held) in
      let ci = c.inserts_are in let cr = c.removals_are in (omega arith, omega arith)

  pub counted_to : (v w : SeatView) (inserts removals more less : ℕ) (gained : List Change) → changes_of w.held ≡ changes_of v.held ++ gained → HasCounts (changes_of v.held) inserts removals → HasCounts gained more less → HasCounts (changes_of w.held) (inserts + more) (removals + less)
  counted_to v w inserts removals more less gained is c g = subst (λ (z : List Change). HasCounts z (inserts + more) (removals + less)) (sym is) (counted_both (changes_of v.held) gained inserts removals more less c g)

  -- a pass that gained no change counts what it counted
  pub counted_still : (used : ℕ) (v w : SeatView) (inserts removals : ℕ) → Goes face used [] v w → HasCounts (changes_of v.held) inserts removals → HasCounts (changes_of w.held) inserts removals
  counted_still used v w inserts removals g c = subst (λ (z : List Change). HasCounts z inserts removals) (sym (g.changes ∙ append-nil (changes_of v.held))) c

  -- an update counts what it came to
  pub counted_by : (used : ℕ) (v w : SeatView) (key inserts removals : ℕ) (request : Request) (done : Outcome) → Updated face used v key request w done → HasCounts (changes_of v.held) inserts removals
      → HasCounts (changes_of w.held) (inserts + insertions_by request done) (removals + removals_by request done)
  counted_by used v w key inserts removals request Accepted u c = counted_to v w inserts removals (insertions_by request Accepted) (removals_by request Accepted) (made_by key (advance_from request key u.came.whole)) u.came.came_to.0.goes.changes c (counted_made request key u.came.whole false u.came.came_to.1 u.came.came_to.2)
  counted_by used v w key inserts removals request Replaced u c = counted_to v w inserts removals (insertions_by request Replaced) (removals_by request Replaced) (made_by key (advance_from request key u.came.whole)) u.came.came_to.0.goes.changes c (counted_made request key u.came.whole true u.came.came_to.1 u.came.came_to.2)
  counted_by used v w key inserts removals request Refused u c = counted_to v w inserts removals (insertions_by request Refused) (removals_by request Refused) [] u.came.came_to.goes.changes c (counted_nothing request Refused refl)
  counted_by used v w key inserts removals request Unchanged u c = counted_to v w inserts removals (insertions_by request Unchanged) (removals_by request Unchanged) [] u.came.came_to.stayed.goes.changes c (counted_nothing request Unchanged refl)
  counted_by used v w key inserts removals request TooGreat u c = counted_to v w inserts removals (insertions_by request TooGreat) (removals_by request TooGreat) [] u.came.came_to.stayed.goes.changes c (counted_nothing request TooGreat refl)
  counted_by used v w key inserts removals request TooLittle u c = counted_to v w inserts removals (insertions_by request TooLittle) (removals_by request TooLittle) [] u.came.came_to.stayed.goes.changes c (counted_nothing request TooLittle refl)
