-- A pass stays one.
use Rattle.std.proofs.Common.{◌≡◌, ◌⊎◌, Option, Some, ℕ, suc, ◌+◌, ◌-◌, ◌*◌, ◌^◌, ◌<◌, ◌≤◌, ◌==◌, Bool, if◌then◌else◌, List, [], ◌∷◌, ◌++◌, length, length-append, sym, ap, ◌∙◌, subst, inl, inr, arith}
use Rattle.std.proofs.lemmas.Bool.{cases_Bool}
use Rattle.std.proofs.Math.Nat.{add-mul}
use Rattle.aug_core.specs.Places.{Shape}
use Rattle.aug_core.specs.Counts.{change, changes_of}
use Rattle.aug_core.specs.Effects.{made_by, new_serial, KnowsBook}
use Rattle.aug_core.specs.Kinds.{load_leaf}
use Rattle.aug_core.specs.declared.step.StepTaken.{StepTaken}
use Rattle.aug_core.specs.declared.view.Change.{Change}
use Rattle.aug_core.specs.declared.view.SeatView.{SeatView}
use Rattle.atomic_table.specs.Seated.{TableId}
use Rattle.aug_words.specs.Seats.{Known}
use Rattle.aug_trie.specs.inside.Goes.{HasLeaves, Goes, KnowsRecords}
use Rattle.aug_model.specs.declared.outcome.Outcome.{Outcome}
use Rattle.aug_model.specs.declared.outcome.Outcome.TheVariants.{Accepted, Replaced, Refused, Unchanged, TooGreat, TooLittle}
use Rattle.aug_trie.specs.inside.Climbing.{CameBy, CameTo, ChangesLeaf, WentUp, Updated, UpdatedFrom, advance_from, told_by}
use Rattle.aug_trie.specs.inside.Weights.{WeighsAt}
use Rattle.aug_trie.proofs.WholeWords.{from_whole, goes_whole, left_whole, told_whole}
use Rattle.aug_trie.specs.LeafWords.{serial_in_word, weight_in_word}
use Rattle.aug_trie.specs.Requests.{goes_from, in_the_way, outcome_at_once, outcome_by, outcome_from, stores_nothing, word_after, word_left, weight_told, changes_by}
use Rattle.aug_trie.specs.Updates.{IsLost, Tells}
use Rattle.aug_trie.specs.History.{last_cut}
use Rattle.aug_core.specs.Cuts.{serial_of}
use Rattle.aug_trie.specs.declared.updates.told.LeafUpdate.{LeafUpdate}
use Rattle.aug_trie.proofs.LeafWords.{weight_of_leaf}
use Rattle.aug_trie.specs.declared.updates.request.Request.{Request}
use Rattle.aug_trie.specs.inside.Knows.{knows, KnowsRound}
use Rattle.aug_trie.specs.Pass.{PassFacts, GoesOn, StepsOf}
use Rattle.aug_trie.specs.inside.PassState.{pass_facts, known_in, IsPass, HoldsPass}
use Rattle.aug_trie.specs.inside.RoundState.{round_of, past_rounds}
use Rattle.aug_trie.proofs.Accepting.{settled, updated_knowledge, shown_number, stayed_between, stayed_by, stored_fits, weighs_with, went_between}
use Rattle.aug_trie.proofs.Going.{room_left}
use Rattle.aug_trie.proofs.Requesting.{made_few, made_one, made_two, serial_is, weight_is, to_word, way_next}
use Rattle.aug_trie.proofs.Histories.{numbers_long}

-- a pass may read what it has seen
pub pass_records : {face : ℕ → ℕ → List (ℕ × ℕ) → List ℕ} {v : SeatView} {leaves bits next left : ℕ} → IsPass face v leaves bits next left → KnowsRecords face v
pass_records p = record { knows_table = p.knows_table; keeps_records = p.room.keeps_records }

module _ (face : ℕ → ℕ → List (ℕ × ℕ) → List ℕ) where
  pub pass_on : (v w : SeatView) (leaves bits next left n : ℕ) (gained : List Change) → IsPass face v leaves bits next left → n ≤ left → length gained ≤ 2 * n → Goes face (next + n * bits) gained v w → KnowsRound w → IsPass face w leaves bits (next + n * bits) (left - n)
  pass_on v w leaves bits next left n gained p some few goes known =
      let e : left ≡ n + (left - n) = omega arith in let m : left * bits ≡ n * bits + (left - n) * bits = ap (λ (z : ℕ). z * bits) e ∙ add-mul n (left - n) bits in
      let shape = goes.shaped in record {
        leaves_are = subst (λ (z : Shape). HasLeaves z leaves) (sym shape) p.leaves_are;
        bits_are = p.bits_are ∙ ap (λ (z : Shape). z.bits) (sym shape);
        knows_table = goes.knows_table;
        room = room_left face v w next (n * bits) (left * bits) ((left - n) * bits) gained (omega arith) goes p.room;
        budget = let l : length (changes_of w.held) ≡ length (changes_of v.held) + length gained = ap (λ (z : List Change). length z) goes.changes ∙ length-append (changes_of v.held) gained in
            let u : w.shape.updates ≡ v.shape.updates = ap (λ (z : Shape). z.updates) shape in let b = p.budget in omega arith;
        small = let b = p.small in omega arith;
        knowledge = known;
      }

  -- what contracts see of updates
  pub updates_on : (v w : SeatView) (leaves bits next left n used : ℕ) (gained : List Change) (more : List StepTaken) (table : TableId) → IsPass face v leaves bits next left → n ≤ left → Goes face used gained v w → w.steps ≡ v.steps ++ more → KnowsRound w
      → GoesOn n (length more) (pass_facts (record { table = table; view = v }) left) (pass_facts (record { table = table; view = w }) (left - n))
  updates_on v w leaves bits next left n used gained more table p some g steps known = let updates : w.shape.updates ≡ v.shape.updates = ap (λ (z : Shape). z.updates) g.shaped in let b = p.budget in record {
    same = let spent : w.shape.updates - (left - n) ≡ v.shape.updates - left + n = omega arith in
        let facts : PassFacts = pass_facts (record { table = table; view = w }) (left - n) in
        λ i. record facts { round = round_of table (record w { era = (g.same_eras i).0; shape = g.shaped i; members = g.same_members i }); past = past_rounds (g.shaped i) (g.same_eras i).1; lane = g.lane i; spent = spent i };
    step_count = ap (λ (z : List StepTaken). length z) steps ∙ length-append v.steps more;
    steps_stay = (more, steps);
    knowledge = known;
    named = numbers_long w.shape w.seen;
  }

  -- an update by the word that it found
  module _ (used : ℕ) (v w : SeatView) (key : ℕ) (request : Request) (kn : KnowsBook face v) (low : key < 2 ^ v.shape.bits) where
    -- the weight in the word that it found
    pub weighed_by : (done : Outcome) (loaded : ℕ) → CameTo face used v key request w loaded done → WeighsAt w.seen key (serial_in_word loaded) (weight_in_word loaded)
    weighed_by Accepted loaded c = subst (λ (z : ℕ × ℕ). WeighsAt w.seen key z.0 z.1) (λ i. (serial_is request key loaded i, weight_is request key loaded i)) c.0.weighed
    weighed_by Replaced loaded c = subst (λ (z : ℕ × ℕ). WeighsAt w.seen key z.0 z.1) (λ i. (serial_is request key loaded i, weight_is request key loaded i)) c.0.weighed
    weighed_by Refused loaded c = c.weighed
    weighed_by Unchanged loaded c = c.stayed.weighed
    weighed_by TooGreat loaded c = c.stayed.weighed
    weighed_by TooLittle loaded c = c.stayed.weighed

    -- the weight in the word that it stored
    weight_stored : (loaded : ℕ) → WentUp face used v key request w (advance_from request key loaded) → (advance_from request key loaded).new_weight ≡ weight_in_word (word_after request key loaded)
    weight_stored loaded up = let a = advance_from request key loaded in
        sym (ap weight_in_word (to_word request key loaded) ∙ weight_of_leaf (new_serial a) a.new_weight (stored_fits face used v key request w kn low a up))

    -- and so its changes
    pub stored_by : (done : Outcome) (loaded : ℕ) → CameTo face used v key request w loaded done → changes_of w.held ≡ changes_of v.held ++ changes_by request key loaded done
    stored_by Accepted loaded c = let a = advance_from request key loaded in let stored = weight_stored loaded c.0 in
        c.0.goes.changes ∙ ap (λ (z : List Change). changes_of v.held ++ z) (made_one key a c.1 ∙ (λ i. change key (serial_is request key loaded i + 1) (stored i) ∷ []))
    stored_by Replaced loaded c = let a = advance_from request key loaded in let stored = weight_stored loaded c.0 in
        c.0.goes.changes ∙ ap (λ (z : List Change). changes_of v.held ++ z) (made_two key a c.1 ∙ (λ i. change key (serial_is request key loaded i + 1) 0 ∷ change key (serial_is request key loaded i + 2) (stored i) ∷ []))
    stored_by Refused loaded c = c.goes.changes
    stored_by Unchanged loaded c = c.stayed.goes.changes
    stored_by TooGreat loaded c = c.stayed.goes.changes
    stored_by TooLittle loaded c = c.stayed.goes.changes

    -- the serial in the word that it found is between what was known and what is known now
    pub found_between : (done : Outcome) (loaded : ℕ) → CameTo face used v key request w loaded done → (serial_of (last_cut (knows v).history) key ≤ serial_in_word loaded) × (serial_in_word loaded ≤ serial_of (last_cut (knows w).history) key)
    found_between Accepted loaded c = let is = serial_is request key loaded in let between = went_between face used v key request w kn low (advance_from request key loaded) c.0 in
        (omega (arith, is, between.0), omega (arith, is, between.1))
    found_between Replaced loaded c = let is = serial_is request key loaded in let between = went_between face used v key request w kn low (advance_from request key loaded) c.0 in
        (omega (arith, is, between.0), omega (arith, is, between.1))
    found_between Refused loaded c = stayed_between face used v key request w kn low loaded c
    found_between Unchanged loaded c = stayed_between face used v key request w kn low loaded c.stayed
    found_between TooGreat loaded c = stayed_between face used v key request w kn low loaded c.stayed
    found_between TooLittle loaded c = stayed_between face used v key request w kn low loaded c.stayed

    -- by the word that it found it came to this, or it lost the exchange
    comes_from : (made : LeafUpdate) → ChangesLeaf request key made → (c : CameBy face used v key request w made.found made.outcome) → (made.outcome ≡ outcome_from request c.whole) ⊎ IsLost request key c.whole made.outcome (knows w)
    comes_from made l c = let last = c.is_whole.last_bits in let same = from_whole _ _ last request in elim (cases_Bool (goes_from request made.found)) [
      | inl lets ↦ elim (l.tries lets) [
        | inl done ↦ inl (done ∙ sym (ap (λ (z : Bool). if z then outcome_by request made.found else outcome_at_once request) lets) ∙ sym same)
        | inr lost ↦ inr (let lets_whole = goes_whole _ _ last request ∙ lets in record {
          refused = lost;
          was_to_go_on = lets_whole;
          rises = let stayed = stayed_by face used v key request w kn low c.whole made.outcome (ap stores_nothing lost) c.came_to in
              let shown = shown_number face used v key request w kn low c.whole stayed in let way = way_next request c.whole lets_whole in omega (arith, shown, way);
        })
      ]
      | inr stops ↦ inl (l.stops stops ∙ sym (ap (λ (z : Bool). if z then outcome_by request made.found else outcome_at_once request) stops) ∙ sym same)
    ]

    -- so it tells this
    pub tells_by : w.shape ≡ v.shape → (made : LeafUpdate) → ChangesLeaf request key made → CameBy face used v key request w made.found made.outcome → Tells request key (told_by made) (knows v) (knows w)
    tells_by shaped made l c = let last = c.is_whole.last_bits in let between = found_between made.outcome c.whole c.came_to in record {
      found = c.whole;
      comes_to = comes_from made l c;
      not_before = between.0;
      not_after = between.1;
      was = weighs_with face used v key request w kn low (serial_in_word c.whole) (weight_in_word c.whole) shaped (weighed_by made.outcome c.whole c.came_to);
      stored = stored_by made.outcome c.whole c.came_to;
      before = sym (told_whole _ _ last);
      now = ap weight_told l.left ∙ sym (left_whole _ _ last request key made.outcome);
    }

  module _ (v w : SeatView) (leaves bits next left key : ℕ) (request : Request) (p : IsPass face v leaves bits next left) (some : 1 ≤ left) (low : key < 2 ^ v.shape.bits) where
    known_after : (done : Outcome) → Updated face (next + bits) v key request w done → KnowsRound w
    known_after done u = updated_knowledge face (next + bits) v key request w p.knows_table low done (settled face u) p.knowledge

    -- what it did to the view
    pub gained_by : (done : Outcome) → Updated face (next + bits) v key request w done → (gained : List Change) × (length gained ≤ 2) × Goes face (next + bits) gained v w
    gained_by Accepted u = let a = advance_from request key u.came.whole in (made_by key a, made_few key a, u.came.came_to.0.goes)
    gained_by Replaced u = let a = advance_from request key u.came.whole in (made_by key a, made_few key a, u.came.came_to.0.goes)
    gained_by Refused u = ([], omega arith, u.came.came_to.goes)
    gained_by Unchanged u = ([], omega arith, u.came.came_to.stayed.goes)
    gained_by TooGreat u = ([], omega arith, u.came.came_to.stayed.goes)
    gained_by TooLittle u = ([], omega arith, u.came.came_to.stayed.goes)

    pub pass_after : (done : Outcome) → Updated face (next + bits) v key request w done → IsPass face w leaves bits (next + bits) (left - 1)
    pass_after done u = let g = gained_by done u in let one : 1 * bits ≡ bits = omega arith in subst (λ (z : ℕ). IsPass face w leaves bits (next + z) (left - 1)) one (pass_on v w leaves bits next left 1 g.0 p some g.1 (subst (λ (z : ℕ). Goes face (next + z) g.0 v w) (sym one) g.2) (known_after done u))

    -- what contracts see of it
    pub goes_on_by : (table : TableId) (done : Outcome) (u : Updated face (next + bits) v key request w done)
        → GoesOn 1 (length u.more + 1) (pass_facts (record { table = table; view = v }) left) (pass_facts (record { table = table; view = w }) (left - 1))
    goes_on_by table done u = let g = (gained_by done u).2 in let one : suc (length u.more) ≡ length u.more + 1 = omega arith in
        subst (λ (z : ℕ). GoesOn 1 z (pass_facts (record { table = table; view = v }) left) (pass_facts (record { table = table; view = w }) (left - 1))) one
        (updates_on v w leaves bits next left 1 (next + bits) (gained_by done u).0 (load_leaf key u.loaded ∷ u.more) table p some g u.steps (known_after done u))

    pub steps_of : (table : TableId) (done : Outcome) → Updated face (next + bits) v key request w done
        → StepsOf request key done (pass_facts (record { table = table; view = v }) left) (pass_facts (record { table = table; view = w }) (left - 1))
    steps_of table done u = let exact : u.came.whole ≡ u.loaded = u.came.is_whole.in_round p.room.keeps_records in record {
      found = u.loaded;
      more = u.more;
      steps = u.steps;
      step_count = (u.least_steps, u.most_steps);
      refuses = u.refusing;
      tries = u.tried;
      shows = λ nothing. subst (λ (z : ℕ). in_the_way request z ≤ serial_of (last_cut (knows w).history) key) exact (shown_number face (next + bits) v key request w p.knows_table low u.came.whole (stayed_by face (next + bits) v key request w p.knows_table low u.came.whole done nothing u.came.came_to));
      weighed = subst (λ (z : ℕ). WeighsAt w.seen key (serial_in_word z) (weight_in_word z)) exact (weighed_by (next + bits) v w key request p.knows_table low done u.came.whole u.came.came_to);
      stored = subst (λ (z : ℕ). changes_of w.held ≡ changes_of v.held ++ changes_by request key z done) exact (stored_by (next + bits) v w key request p.knows_table low done u.came.whole u.came.came_to);
    }

    -- what an update tells by the word that it found and the one that it left
    pub tells : (made : LeafUpdate) → UpdatedFrom face (next + bits) v key request w made.found made.outcome → made.left ≡ word_left request key made.found made.outcome → Tells request key (told_by made) (knows v) (knows w)
    tells made u left = tells_by (next + bits) v w key request p.knows_table low (gained_by made.outcome u.0).2.shaped made (record {
      stops = λ stopped. (u.0.refusing (ap (goes_from request) u.1 ∙ stopped)).0;
      tries = λ lets. let e = u.0.tried (ap (goes_from request) u.1 ∙ lets) in elim (cases_Bool (e.found == u.0.loaded)) [
        | inl hit ↦ inl (e.says ∙ ap (λ (b : Bool). if b then outcome_by request u.0.loaded else Refused) hit ∙ ap (outcome_by request) u.1)
        | inr miss ↦ inr (e.says ∙ ap (λ (b : Bool). if b then outcome_by request u.0.loaded else Refused) miss)
      ];
      left = left;
    }) (subst (λ (z : ℕ). CameBy face (next + bits) v key request w z made.outcome) u.1 u.0.came)

-- a pass whose seat was taken out for an update
pub pass_told : (face : ℕ → ℕ → List (ℕ × ℕ) → List ℕ) (words : Option Known) (k : Known) (leaves bits next left : ℕ) (now : PassFacts) → HoldsPass face words leaves bits next left → words ≡ Some k → pass_facts (known_in words) left ≡ now
    → IsPass face k.view leaves bits next left × (pass_facts k left ≡ now)
pass_told face words k leaves bits next left now h is facts = let same : h.known ≡ k = ap known_in (sym h.there ∙ is) in
    (subst (λ (z : Known). IsPass face z.view leaves bits next left) same h.is_pass, ap (λ (z : Option Known). pass_facts (known_in z) left) (sym is) ∙ facts)
