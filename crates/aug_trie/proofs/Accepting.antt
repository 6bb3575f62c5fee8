-- What the steps and updates of a pass do to what it knows.
use Rattle.std.proofs.Common.{◌≡◌, ◌≢◌, ◌⊎◌, ℕ, ◌+◌, ◌-◌, ◌%◌, ◌^◌, ◌<◌, ◌≤◌, ◌==◌, ◌&&◌, ltb, leb, Bool, true, false, List, [], ◌∷◌, ◌++◌, All, sym, refl, ap, ◌∙◌, subst, inl, inr, ⊎_elim, arith}
use Rattle.std.proofs.lemmas.Bool.{cases_Bool, cases_lt, eqb-true, eqb-false, ltb-true, ltb-false, leb-false, false≢true}
use Rattle.std.proofs.lemmas.List.{append-nil}
use Rattle.std.proofs.lemmas.List.Elements.{All-nil, All-cons, All-append, All-weaker}
use Rattle.aug_core.specs.Places.{Shape}
use Rattle.aug_core.specs.Addresses.{root_place}
use Rattle.aug_core.specs.Book.{ArePrefixes, IsBook}
use Rattle.aug_core.specs.Counts.{change, changes_of}
use Rattle.aug_core.specs.Effects.{LoadsNode, made_by, new_serial, KnowsBook}
use Rattle.aug_core.specs.Cuts.{serial_of, IsAtMost}
use Rattle.aug_core.specs.inside.RootCuts.{root_cut}
use Rattle.aug_core.specs.inside.Shows.{NewestShows}
use Rattle.aug_core.specs.declared.view.Advance.{Advance}
use Rattle.aug_core.specs.declared.view.Change.{Change}
use Rattle.aug_core.specs.declared.view.SeatView.{SeatView}
use Rattle.aug_model.specs.declared.outcome.Outcome.{Outcome}
use Rattle.aug_model.specs.declared.outcome.Outcome.TheVariants.{Accepted, Replaced, Refused, Unchanged, TooGreat, TooLittle}
use Rattle.aug_trie.specs.inside.Goes.{Goes}
use Rattle.aug_trie.specs.inside.Weights.{WeighsAt}
use Rattle.aug_trie.specs.inside.Climbing.{WentUp, Stayed, StayedAtOnce, CameTo, Settled, Updated, advance_from}
use Rattle.aug_core.specs.Prefixes.{IsPrefix}
use Rattle.aug_trie.specs.History.{last_cut}
use Rattle.aug_trie.specs.Knowledge.{StandsIn, insertion, removal}
use Rattle.aug_trie.specs.LeafWords.{serial_in_word, weight_in_word}
use Rattle.aug_trie.specs.Requests.{goes_from, in_the_way, stores_nothing, outcome_at_once}
use Rattle.aug_trie.specs.Updates.{AcceptedUpdate, RefusedUpdate, ReplacedUpdate, RefusedPut, WeighsWith, Reckoned, UsedUp, Prevented, ComesTo, TakesSnapshot}
use Rattle.aug_trie.specs.inside.Knows.{root_history, knows, KnowsRound}
use Rattle.aug_trie.specs.declared.updates.request.Request.{Request}
use Rattle.aug_trie.specs.declared.updates.request.Request.TheVariants.{Insert, Remove, Put, Add, Sub, Take}
use Rattle.aug_trie.proofs.Histories.{history_on, last_is, last_shown, shown_last, last_rises, root_some, some_bits, is_history}
use Rattle.aug_trie.proofs.Requesting.{kind_of, and_both, and_one, of_nothing, of_something, may_take, takes_all, takes_none, made_one, made_two, one_more, two_more, way_found, way_next, insert_stands, remove_stands}
use Rattle.aug_trie.proofs.WholeWords.{goes_whole}
use Rattle.aug_trie.proofs.Standing.{at_least, stands_later, stands_last, never_shows, shows_weight}

module _ (face : ℕ → ℕ → List (ℕ × ℕ) → List ℕ) where
  -- a later view's history goes on
  pub knows_on : (v w : SeatView) → KnowsBook face v → w.shape ≡ v.shape → ArePrefixes v.seen w.seen → IsPrefix (knows v).history (knows w).history
  knows_on v w kn shaped later = subst (λ (z : Shape). IsPrefix (root_history v.shape v.seen) (root_history z w.seen)) (sym shaped) (history_on face v.shape v.seen kn.book w.seen later)

  -- and its last cut rises
  pub knows_more : (v w : SeatView) → KnowsBook face v → KnowsBook face w → w.shape ≡ v.shape → ArePrefixes v.seen w.seen → IsAtMost (last_cut (knows v).history) (last_cut (knows w).history)
  knows_more v w kn kn' shaped later = subst (λ (z : Shape). IsAtMost (last_cut (root_history v.shape v.seen)) (last_cut (root_history z w.seen))) (sym shaped)
      (last_rises face v.shape v.seen w.seen kn.book (subst (λ (z : Shape). IsBook face z w.seen) shaped kn'.book) later (root_some face v kn))

  pub shown_of : (v w : SeatView) (key n : ℕ) → w.shape ≡ v.shape → key < 2 ^ v.shape.bits → NewestShows v.shape w.seen key v.shape.bits n → n ≤ serial_of (last_cut (knows w).history) key
  shown_of v w key n shaped low shown = subst (λ (z : Shape). n ≤ serial_of (last_cut (root_history z w.seen)) key) (sym shaped) (shown_last v.shape w.seen key n low shown)

  -- changes that stand in what was known stand in what is known
  pub stands_on : (v w : SeatView) (changes : List Change) → KnowsBook face v → KnowsBook face w → w.shape ≡ v.shape → ArePrefixes v.seen w.seen → All (StandsIn (last_cut (knows v).history)) changes → All (StandsIn (last_cut (knows w).history)) changes
  stands_on v w changes kn kn' shaped later stand = let more = knows_more v w kn kn' shaped later in
      All-weaker (StandsIn (last_cut (knows v).history)) (StandsIn (last_cut (knows w).history)) (λ c. stands_later (last_cut (knows v).history) (last_cut (knows w).history) c more) changes stand

  -- what a pass knows is knowledge still, when its history goes on and what it gains is shown
  pub knowledge_on : (used : ℕ) (gained : List Change) (v w : SeatView) → KnowsBook face v → Goes face used gained v w → All (StandsIn (last_cut (knows w).history)) gained → KnowsRound v → KnowsRound w
  knowledge_on used gained v w kn g shown k = record {
    is_history = is_history face w g.knows_table;
    stands = subst (All (StandsIn (last_cut (knows w).history))) (sym g.changes)
        (All-append (StandsIn (last_cut (knows w).history)) (changes_of v.held) gained (stands_on v w (changes_of v.held) kn g.knows_table g.shaped g.later k.stands) shown);
  }

  -- an update is one by the word that it found, with its whole serial
  pub settled : {used : ℕ} {v : SeatView} {key : ℕ} {request : Request} {w : SeatView} {done : Outcome} → Updated face used v key request w done → Settled face used v key request w done
  settled {used} {v} {key} {request} u = record { loaded = u.came.whole; more = u.more; refusing = λ stops. u.refusing (sym (goes_whole _ _ u.came.is_whole.last_bits request) ∙ stops); came_to = u.came.came_to }

  module _ (used : ℕ) (v : SeatView) (key : ℕ) (request : Request) (w : SeatView) (kn : KnowsBook face v) (low : key < 2 ^ v.shape.bits) where
    -- the weight that a word has with a serial, with which each cut shows that serial
    pub weighs_with : (serial weight : ℕ) → w.shape ≡ v.shape → WeighsAt w.seen key serial weight → WeighsWith key serial weight (knows w).history
    weighs_with serial weight shaped weighed = subst (λ (z : Shape). WeighsWith key serial weight (root_history z w.seen)) (sym shaped) (shows_weight v.shape w.seen key serial weight low weighed)

    -- what went up stands in the last cut with its weight
    module _ (a : Advance) (up : WentUp face used v key request w a) where
      stands_up : StandsIn (last_cut (knows w).history) (change key (new_serial a) a.new_weight)
      stands_up = subst (λ (z : Shape). StandsIn (last_cut (root_history z w.seen)) (change key (new_serial a) a.new_weight)) (sym up.goes.shaped) (stands_last v.shape w.seen key (new_serial a) a.new_weight low up.shown up.weighs)

      not_before : serial_of (last_cut (knows v).history) key ≤ a.serial
      not_before = last_shown face v.shape v.seen kn.book key a.serial low (root_some face v kn) up.before

      -- it went up from a serial between what was known and what is known now
      pub went_between : (serial_of (last_cut (knows v).history) key ≤ a.serial) × (a.serial ≤ serial_of (last_cut (knows w).history) key)
      went_between = (
        not_before,
        let le = at_least (last_cut (knows w).history) (change key (new_serial a) a.new_weight) stands_up in
            elim (cases_Bool a.replaces) [ inl two ↦ (let next = two_more a two in omega arith) | inr one ↦ (let next = one_more a one in omega arith) ],
      )

      -- an accepted update
      abbrev accepted_is : (kind weight : ℕ) → (a.serial + 1) % 2 ≡ kind → a.new_weight ≡ weight → a.replaces ≡ false → AcceptedUpdate kind key weight (knows v) (knows w)
      accepted_is kind weight suits weighs one = let next = one_more a one in record {
        goes_on = knows_on v w kn up.goes.shaped up.goes.later;
        number = a.serial + 1;
        suits = suits;
        is_new = let le = not_before in omega arith;
        shows = subst (λ (z : ℕ × ℕ). StandsIn (last_cut (knows w).history) (change key z.0 z.1)) (λ i. (next i, weighs i)) stands_up;
        adds = up.goes.changes ∙ ap (λ (z : List Change). changes_of v.held ++ z) (made_one key a one ∙ ap (λ (z : ℕ). change key (a.serial + 1) z ∷ []) weighs);
      }

      -- a replacement
      abbrev replaced_is : (weight : ℕ) → a.serial % 2 ≡ 1 → a.new_weight ≡ weight → a.replaces ≡ true → ReplacedUpdate key weight (knows v) (knows w)
      replaced_is weight odd weighs two = let next = two_more a two in let again : a.serial + 2 ≡ a.serial + 1 + 1 = omega arith in record {
        goes_on = knows_on v w kn up.goes.shaped up.goes.later;
        number = a.serial + 1;
        suits = omega (arith, odd);
        is_new = let le = not_before in omega arith;
        shows = subst (λ (z : ℕ × ℕ). StandsIn (last_cut (knows w).history) (change key z.0 z.1)) (λ i. ((next ∙ again) i, weighs i)) stands_up;
        never_shown = subst (λ (z : Shape). All (λ cut. serial_of cut key ≢ a.serial + 1) (root_history z w.seen)) (sym up.goes.shaped)
            (never_shows face v.shape w.seen (subst (λ (z : Shape). IsBook face z w.seen) up.goes.shaped up.goes.knows_table.book) key (a.serial + 1) low (some_bits face v kn) (up.passes two));
        adds = up.goes.changes ∙ ap (λ (z : List Change). changes_of v.held ++ z) (made_two key a two ∙ (λ i. change key (a.serial + 1) 0 ∷ change key (again i) (weighs i) ∷ []));
      }

      -- the weight before, with which each cut shows that serial
      weighed_with : WeighsWith key a.serial a.weight (knows w).history
      weighed_with = weighs_with a.serial a.weight up.goes.shaped up.weighed

      -- a replacement whose weight is reckoned from the one before
      reckoned_is : (before after : ℕ) → a.serial % 2 ≡ 1 → a.weight ≡ before → a.new_weight ≡ after → a.replaces ≡ true → Reckoned key before after (knows v) (knows w)
      reckoned_is before after odd was weighs two = record { replaced = replaced_is after odd weighs two; last = a.serial; next = refl; was = subst (λ (z : ℕ). WeighsWith key a.serial z (knows w).history) was weighed_with }

      -- a removal of all of its weight
      used_up_is : (weight : ℕ) → a.serial % 2 ≡ 1 → a.weight ≡ weight → a.new_weight ≡ 0 → a.replaces ≡ false → UsedUp key weight (knows v) (knows w)
      used_up_is weight odd was weighs one = record { removed = accepted_is removal 0 (omega (arith, odd)) weighs one; last = a.serial; next = refl; was = subst (λ (z : ℕ). WeighsWith key a.serial z (knows w).history) was weighed_with }

      -- a key that is no member weighs nothing
      weighs_none : a.serial % 2 ≡ 0 → a.weight ≡ 0
      weighs_none even = let low' : key < 2 ^ w.shape.bits = subst (λ (z : Shape). key < 2 ^ z.bits) (sym up.goes.shaped) low in
          sym up.weighed.weighs ∙ (up.goes.knows_table.book.serials key a.serial up.weighed.entry low' up.weighed.at).none_if_even even

      -- the weight that it stored fits a leaf's word
      pub stored_fits : a.new_weight < 2 ^ 32
      stored_fits = let low' : key < 2 ^ w.shape.bits = subst (λ (z : Shape). key < 2 ^ z.bits) (sym up.goes.shaped) low in let is = up.weighs.weighs in
          let fits = (up.goes.knows_table.book.serials key (new_serial a) up.weighs.entry low' up.weighs.at).fits in omega (arith, is, fits)

      -- all that it changed stands
      changes_stand : (b : Bool) → a.replaces ≡ b → All (StandsIn (last_cut (knows w).history)) (made_by key a)
      changes_stand false one = let stands = StandsIn (last_cut (knows w).history) in let last : Change = change key (a.serial + 1) a.new_weight in
          subst (All stands) (sym (made_one key a one)) (All-cons stands last [] (subst (λ (z : ℕ). stands (change key z a.new_weight)) (one_more a one) stands_up) (All-nil stands))
      changes_stand true two = let stands = StandsIn (last_cut (knows w).history) in let last : Change = change key (a.serial + 2) a.new_weight in
          let up_two = subst (λ (z : ℕ). stands (change key z a.new_weight)) (two_more a two) stands_up in
          let past : a.serial + 1 < serial_of (last_cut (knows w).history) key = (let le = at_least (last_cut (knows w).history) last up_two in omega (arith, le)) in
          subst (All stands) (sym (made_two key a two)) (All-cons stands (change key (a.serial + 1) 0) (last ∷ []) (inl past) (All-cons stands last [] up_two (All-nil stands)))

    refused_number : (found : ℕ) (s : Stayed face used v key request w found) → serial_of (last_cut (knows v).history) key ≤ serial_in_word found
    refused_number found s = last_shown face v.shape v.seen kn.book key (serial_in_word found) low (root_some face v kn) s.before

    -- what stood in the way is shown
    pub shown_number : (found : ℕ) → Stayed face used v key request w found → in_the_way request found ≤ serial_of (last_cut (knows w).history) key
    shown_number found s = shown_of v w key (in_the_way request found) s.goes.shaped low s.shown

    -- a word that prevented an update has a serial between these
    pub stayed_between : (found : ℕ) → Stayed face used v key request w found → (serial_of (last_cut (knows v).history) key ≤ serial_in_word found) × (serial_in_word found ≤ serial_of (last_cut (knows w).history) key)
    stayed_between found s = (refused_number found s, let shown = shown_number found s in elim (cases_Bool (goes_from request found)) [ inl lets ↦ (let next = way_next request found lets in omega arith) | inr stops ↦ (let is = way_found request found stops in omega arith) ])

    -- an update that stored nothing stayed where it was
    pub stayed_by : (found : ℕ) (done : Outcome) → stores_nothing done ≡ true → CameTo face used v key request w found done → Stayed face used v key request w found
    stayed_by found Accepted nothing c = absurd (false≢true nothing)
    stayed_by found Replaced nothing c = absurd (false≢true nothing)
    stayed_by found Refused nothing c = c
    stayed_by found Unchanged nothing c = c.stayed
    stayed_by found TooGreat nothing c = c.stayed
    stayed_by found TooLittle nothing c = c.stayed

    -- the weight prevented it
    prevented_is : (found : ℕ) (done : Outcome) (by : ℕ → ℕ → Type 0) → StayedAtOnce face used v key request w found done → by (serial_in_word found) (weight_in_word found) → Prevented key by (knows v) (knows w)
    prevented_is found done by c prevents = let s = c.stayed in record {
      goes_on = knows_on v w kn s.goes.shaped s.goes.later;
      serial = serial_in_word found;
      weight = weight_in_word found;
      not_before = refused_number found s;
      not_after = (stayed_between found s).1;
      was = weighs_with (serial_in_word found) (weight_in_word found) s.goes.shaped s.weighed;
      none_if_even = λ even. let low' : key < 2 ^ w.shape.bits = subst (λ (z : Shape). key < 2 ^ z.bits) (sym s.goes.shaped) low in
          sym c.stayed.weighed.weighs ∙ (s.goes.knows_table.book.serials key (serial_in_word found) c.stayed.weighed.entry low' c.stayed.weighed.at).none_if_even even;
      prevents = prevents;
      same_changes = s.goes.changes ∙ append-nil (changes_of v.held);
    }

    -- a refused update
    refused_is : (kind found : ℕ) (s : Stayed face used v key request w found) → in_the_way request found % 2 ≡ kind → serial_in_word found ≤ in_the_way request found → RefusedUpdate kind key (knows v) (knows w)
    refused_is kind found s suits le = record {
      goes_on = knows_on v w kn s.goes.shaped s.goes.later;
      stood = let before = serial_of (last_cut (knows v).history) key in let below = refused_number found s in let shown = shown_number found s in
          ⊎_elim (λ (less : before < in_the_way request found). inr (omega arith))
          (λ (more : in_the_way request found ≤ before). let same : before ≡ in_the_way request found = omega arith in inl (ap (λ n. n % 2) same ∙ suits)) (cases_lt before (in_the_way request found));
      same_changes = s.goes.changes ∙ append-nil (changes_of v.held);
    }

    refused_put : (found : ℕ) (s : Stayed face used v key request w found) → in_the_way request found ≡ serial_in_word found + 1 → RefusedPut key (knows v) (knows w)
    refused_put found s next = record {
      goes_on = knows_on v w kn s.goes.shaped s.goes.later;
      rises = let below = refused_number found s in let shown = shown_number found s in omega arith;
      same_changes = s.goes.changes ∙ append-nil (changes_of v.held);
    }

    -- and what is known after an update is knowledge
    pub updated_knowledge : (done : Outcome) → Settled face used v key request w done → KnowsRound v → KnowsRound w
    updated_knowledge Accepted u k = let up = u.came_to.0 in let a = advance_from request key u.loaded in knowledge_on used (made_by key a) v w kn up.goes (changes_stand a up a.replaces refl) k
    updated_knowledge Replaced u k = let up = u.came_to.0 in let a = advance_from request key u.loaded in knowledge_on used (made_by key a) v w kn up.goes (changes_stand a up a.replaces refl) k
    updated_knowledge Refused u k = knowledge_on used [] v w kn u.came_to.goes (All-nil (StandsIn (last_cut (knows w).history))) k
    updated_knowledge Unchanged u k = knowledge_on used [] v w kn u.came_to.stayed.goes (All-nil (StandsIn (last_cut (knows w).history))) k
    updated_knowledge TooGreat u k = knowledge_on used [] v w kn u.came_to.stayed.goes (All-nil (StandsIn (last_cut (knows w).history))) k
    updated_knowledge TooLittle u k = knowledge_on used [] v w kn u.came_to.stayed.goes (All-nil (StandsIn (last_cut (knows w).history))) k

    -- an update that is refused with a name of its own if its word prevents it was refused because the leaf was lost
    lost_leaf : (u : Settled face used v key request w Refused) → Refused ≢ outcome_at_once request → RefusedPut key (knows v) (knows w)
    lost_leaf u other = elim (cases_Bool (goes_from request u.loaded)) [
      | inl lets ↦ refused_put u.loaded u.came_to (way_next request u.loaded lets)
      | inr stops ↦ absurd (other (u.refusing stops).0)
    ]

  -- what an update comes to
  pub comes_to : (used : ℕ) (v : SeatView) (key : ℕ) (request : Request) (w : SeatView) → KnowsBook face v → key < 2 ^ v.shape.bits → (done : Outcome) → Settled face used v key request w done → ComesTo request key done (knows v) (knows w)
  comes_to used v key Insert w kn low Accepted u = let a = advance_from Insert key u.loaded in let even = eqb-true (serial_in_word u.loaded % 2) 0 u.came_to.2 in
      accepted_is used v key Insert w kn low a u.came_to.0 insertion key (omega (arith, even)) refl refl
  comes_to used v key Insert w kn low Replaced u = false≢true u.came_to.1
  comes_to used v key Insert w kn low Unchanged u = omega (arith, ap kind_of u.came_to.says)
  comes_to used v key Insert w kn low TooGreat u = omega (arith, ap kind_of u.came_to.says)
  comes_to used v key Insert w kn low TooLittle u = omega (arith, ap kind_of u.came_to.says)
  comes_to used v key Insert w kn low Refused u = let s = u.came_to in let t = insert_stands u.loaded in refused_is used v key Insert w kn low insertion u.loaded s t.0 t.1
  comes_to used v key Remove w kn low Accepted u = let a = advance_from Remove key u.loaded in let odd = eqb-true (serial_in_word u.loaded % 2) 1 u.came_to.2 in
      accepted_is used v key Remove w kn low a u.came_to.0 removal 0 (omega (arith, odd)) refl refl
  comes_to used v key Remove w kn low Replaced u = false≢true u.came_to.1
  comes_to used v key Remove w kn low Unchanged u = omega (arith, ap kind_of u.came_to.says)
  comes_to used v key Remove w kn low TooGreat u = omega (arith, ap kind_of u.came_to.says)
  comes_to used v key Remove w kn low TooLittle u = omega (arith, ap kind_of u.came_to.says)
  comes_to used v key Remove w kn low Refused u = let s = u.came_to in let t = remove_stands u.loaded in refused_is used v key Remove w kn low removal u.loaded s t.0 t.1
  comes_to used v key (Put weight) w kn low Accepted u = let a = advance_from (Put weight) key u.loaded in let even = eqb-false (serial_in_word u.loaded % 2) 1 u.came_to.1 in
      accepted_is used v key (Put weight) w kn low a u.came_to.0 insertion weight (omega (arith, even)) refl u.came_to.1
  comes_to used v key (Put weight) w kn low Replaced u = let a = advance_from (Put weight) key u.loaded in
      replaced_is used v key (Put weight) w kn low a u.came_to.0 weight (eqb-true (serial_in_word u.loaded % 2) 1 u.came_to.1) refl u.came_to.1
  comes_to used v key (Put weight) w kn low Refused u = refused_put used v key (Put weight) w kn low u.loaded u.came_to refl
  comes_to used v key (Put weight) w kn low Unchanged u = omega (arith, ap kind_of u.came_to.says)
  comes_to used v key (Put weight) w kn low TooGreat u = omega (arith, ap kind_of u.came_to.says)
  comes_to used v key (Put weight) w kn low TooLittle u = omega (arith, ap kind_of u.came_to.says)
  comes_to used v key (Add amount) w kn low Accepted u = let a = advance_from (Add amount) key u.loaded in let even = eqb-false (serial_in_word u.loaded % 2) 1 u.came_to.1 in
      let none = weighs_none used v key (Add amount) w kn low a u.came_to.0 (omega (arith, even)) in
      accepted_is used v key (Add amount) w kn low a u.came_to.0 insertion amount (omega (arith, even)) (omega (arith, none)) u.came_to.1
  comes_to used v key (Add amount) w kn low Replaced u = let a = advance_from (Add amount) key u.loaded in (
    weight_in_word u.loaded,
    ltb-true (weight_in_word u.loaded + amount) (2 ^ 32) (and_both (ltb 0 amount) (ltb (weight_in_word u.loaded + amount) (2 ^ 32)) u.came_to.2).1,
    reckoned_is used v key (Add amount) w kn low a u.came_to.0 (weight_in_word u.loaded) (weight_in_word u.loaded + amount) (eqb-true (serial_in_word u.loaded % 2) 1 u.came_to.1) refl refl u.came_to.1,
  )
  comes_to used v key (Add amount) w kn low Refused u = lost_leaf used v key (Add amount) w kn low u (λ e. let is = (of_something amount Refused TooGreat e (λ k. omega (arith, k))).1 in omega (arith, ap kind_of is))
  comes_to used v key (Add amount) w kn low Unchanged u = prevented_is used v key (Add amount) w kn low u.loaded Unchanged (λ serial weight. amount ≡ 0) u.came_to (of_nothing amount Unchanged TooGreat u.came_to.says (λ e. omega (arith, e)))
  comes_to used v key (Add amount) w kn low TooGreat u = prevented_is used v key (Add amount) w kn low u.loaded TooGreat (λ serial weight. 2 ^ 32 ≤ weight + amount) u.came_to
      (⊎_elim (λ (none : ltb 0 amount ≡ false). let zero = ltb-false 0 amount none in absurd ((of_something amount TooGreat TooGreat u.came_to.says (λ e. omega (arith, e))).0 (omega (arith, zero))))
      (λ less. ltb-false (weight_in_word u.loaded + amount) (2 ^ 32) less) (and_one (ltb 0 amount) (ltb (weight_in_word u.loaded + amount) (2 ^ 32)) u.came_to.stops))
  comes_to used v key (Add amount) w kn low TooLittle u = let is = (of_something amount TooLittle TooGreat u.came_to.says (λ e. omega (arith, e))).1 in omega (arith, ap kind_of is)
  comes_to used v key (Take weight) w kn low Accepted u = let a = advance_from (Take weight) key u.loaded in let all = takes_all weight u.loaded u.came_to.2 in
      used_up_is used v key (Take weight) w kn low a u.came_to.0 weight all.0 all.1 refl refl
  comes_to used v key (Take weight) w kn low Replaced u = false≢true u.came_to.1
  comes_to used v key (Take weight) w kn low Unchanged u = omega (arith, ap kind_of u.came_to.says)
  comes_to used v key (Take weight) w kn low TooGreat u = omega (arith, ap kind_of u.came_to.says)
  comes_to used v key (Take weight) w kn low TooLittle u = omega (arith, ap kind_of u.came_to.says)
  comes_to used v key (Take weight) w kn low Refused u = elim (cases_Bool (goes_from (Take weight) u.loaded)) [
    | inl lets ↦ inl (refused_put used v key (Take weight) w kn low u.loaded u.came_to (way_next (Take weight) u.loaded lets))
    | inr stops ↦ inr (prevented_is used v key (Take weight) w kn low u.loaded Refused (λ serial had. (serial % 2 ≡ removal) ⊎ (had ≢ weight))
        (record { stayed = u.came_to; stops = stops; says = (u.refusing stops).0 }) (takes_none weight u.loaded stops))
  ]
  comes_to used v key (Sub amount) w kn low Accepted u = let a = advance_from (Sub amount) key u.loaded in let weight = weight_in_word u.loaded in
      let may = may_take amount u.loaded u.came_to.2 in let enough = may.1 in let all = ltb-false amount weight u.came_to.1 in
      used_up_is used v key (Sub amount) w kn low a u.came_to.0 amount (eqb-true (serial_in_word u.loaded % 2) 1 may.0) (omega (arith, enough, all)) (omega (arith, all)) u.came_to.1
  comes_to used v key (Sub amount) w kn low Replaced u = let a = advance_from (Sub amount) key u.loaded in let weight = weight_in_word u.loaded in
      let may = may_take amount u.loaded u.came_to.2 in let more = ltb-true amount weight u.came_to.1 in (
        weight - amount,
        omega (arith, more),
        reckoned_is used v key (Sub amount) w kn low a u.came_to.0 (weight - amount + amount) (weight - amount) (eqb-true (serial_in_word u.loaded % 2) 1 may.0) (omega (arith, more)) refl u.came_to.1,
      )
  comes_to used v key (Sub amount) w kn low Refused u = lost_leaf used v key (Sub amount) w kn low u (λ e. let is = (of_something amount Refused TooLittle e (λ k. omega (arith, k))).1 in omega (arith, ap kind_of is))
  comes_to used v key (Sub amount) w kn low Unchanged u = prevented_is used v key (Sub amount) w kn low u.loaded Unchanged (λ serial weight. amount ≡ 0) u.came_to (of_nothing amount Unchanged TooLittle u.came_to.says (λ e. omega (arith, e)))
  comes_to used v key (Sub amount) w kn low TooGreat u = let is = (of_something amount TooGreat TooLittle u.came_to.says (λ e. omega (arith, e))).1 in omega (arith, ap kind_of is)
  comes_to used v key (Sub amount) w kn low TooLittle u = prevented_is used v key (Sub amount) w kn low u.loaded TooLittle (λ serial weight. weight < amount) u.came_to less_than
    where
      weight : ℕ
      weight = weight_in_word u.loaded

      some : amount ≢ 0
      some = (of_something amount TooLittle TooLittle u.came_to.says (λ e. omega (arith, e))).0

      -- a key that is no member weighs nothing
      none : (serial_in_word u.loaded % 2 == 1) ≡ false → weight ≡ 0
      none even = let c = u.came_to in let not = eqb-false (serial_in_word u.loaded % 2) 1 even in
          let low' : key < 2 ^ w.shape.bits = subst (λ (z : Shape). key < 2 ^ z.bits) (sym c.stayed.goes.shaped) low in
          sym c.stayed.weighed.weighs ∙ (c.stayed.goes.knows_table.book.serials key (serial_in_word u.loaded) c.stayed.weighed.entry low' c.stayed.weighed.at).none_if_even (omega (arith, not))

      less_than : weight < amount
      less_than = ⊎_elim (λ (zero : ltb 0 amount ≡ false). let le = ltb-false 0 amount zero in absurd (some (omega (arith, le))))
          (λ rest. ⊎_elim (λ (even : (serial_in_word u.loaded % 2 == 1) ≡ false). let is = none even in omega (arith, is, some))
          (λ less. leb-false amount weight less) (and_one (serial_in_word u.loaded % 2 == 1) (leb amount weight) rest)) (and_one (ltb 0 amount) (serial_in_word u.loaded % 2 == 1 && leb amount weight) u.came_to.stops)

  -- a load of the root is a snapshot: the cut of its newest entry, which has the number that was found
  pub snapshot_is : (v : SeatView) (r : ℕ) (w : SeatView) → KnowsBook face v → (t : LoadsNode face v (root_place v.shape) r w) → TakesSnapshot (knows v) (knows w) (root_cut v.shape w.seen t.index)
  snapshot_is v r w kn t = let shaped : w.shape ≡ v.shape = ap (λ (z : SeatView). z.shape) t.stepped in record {
    goes_on = knows_on v w kn shaped t.sees.later;
    same_changes = ap (λ (z : SeatView). changes_of z.held) t.stepped;
    is_last = sym (last_is v.shape w.seen t.index t.newest.last) ∙ ap (λ (z : Shape). last_cut (root_history z w.seen)) (sym shaped);
  }
