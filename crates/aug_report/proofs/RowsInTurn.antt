-- The report of one lane that runs alone is allowed.
use Rattle.std.proofs.Common.{◌≡◌, ◌≢◌, ℕ, zero, suc, ◌+◌, ◌-◌, ◌%◌, ◌^◌, ◌<◌, ◌≤◌, true, false, List, [], ◌∷◌, ◌++◌, length, map, get_or, set, refl, ap, sym, ◌∙◌, inl, inr, arith, All, Contains, append_assoc, subst}
use Rattle.std.specs.Prelude.{zip}
use Rattle.std.proofs.lemmas.Bool.{eq-eqb, ne_eqb, cases_eq, cases_lt, ltb-true}
use Rattle.std.proofs.lemmas.List.{append-nil, append_cancel_left, length-append, get_or_append_left, get_or_at, get_or-set_same, get_or-set_other, length-set}
use Rattle.std.proofs.lemmas.List.Elements.{All-nil, All-cons, All-head, All-tail, All-weaker, All-push, All-get_or, All-from_get_or, Contains-append_left, Contains-append_right}
use Rattle.aug_model.specs.Keys.{IsKeySet, is_member, keys_of}
use Rattle.aug_core.specs.Counts.{change}
use Rattle.aug_core.specs.Cuts.{Cut, shown_of, serial_of, pairs_of_cut, IsAtMost, opening_cut}
use Rattle.aug_core.specs.declared.view.Change.{Change}
use Rattle.aug_model.specs.declared.outcome.Outcome.TheVariants as outcome
use Rattle.aug_trie.specs.History.{last_cut, IsHistory}
use Rattle.aug_trie.specs.Knowledge.{Knowledge, insertion, removal, inserts_of, removals_of}
use Rattle.aug_trie.specs.Tallies.{Tallies, Weighs}
use Rattle.aug_trie.specs.Updates.{AcceptedUpdate, RefusedUpdate, ReplacedUpdate}
use Rattle.aug_script.specs.Replies.{Sets, reply_to, replies_of, sets_of, sets_after, opening_sets, report_of, count_of, is_insertion, is_removal}
use Rattle.aug_script.specs.Script.{is_in_bounds}
use Rattle.aug_script.specs.declared.reply.Reply.{Reply}
use Rattle.aug_script.specs.declared.row.Row.{Row}
use Rattle.aug_script.specs.declared.verb.Verb.{Verb}
use Rattle.aug_script.specs.declared.verb.Verb.TheVariants as verb
use Rattle.aug_trie.proofs.Risen.{at_most-refl, at_most-trans, opening-at_most, opens-some, rises_to}
use Rattle.aug_report.specs.AllowedReport.{Lane, Answers, AnswersAll, RunsLane, AllowedReport, lines_of, all_accepted}
use Rattle.aug_trie.proofs.CutLemmas.{length-opening, serial_rises, pairs_of_cut-opening}
use Rattle.aug_core.proofs.PrefixLemmas.{prefix_refl, prefix_trans}
use Rattle.aug_report.proofs.Advances.{ChangesOne}
use Rattle.aug_report.proofs.Lanes.{step, sets_of_lane, there_if_odd}
use Rattle.aug_report.proofs.OneLane.{alone, lines-all}
use Rattle.aug_report.proofs.Tallied.{nothing_tallies, one_tallies, tallies-join}

module _ (history : List Cut) (d : Cut) where
  last-push : last_cut (history ++ d ∷ []) ≡ d
  last-push = get_or_at history d [] [] (length (history ++ d ∷ []) - 1) (omega (arith, length-append history (d ∷ [])))

  push-history : (bits : ℕ) (members : List (ℕ × ℕ)) → IsHistory bits members history → IsAtMost (last_cut history) d → IsHistory bits members (history ++ d ∷ [])
  push-history bits members is_history le = record {
    opens = prefix_trans (opening_cut bits members ∷ []) history (history ++ d ∷ []) is_history.opens (d ∷ [], refl);
    rises = λ i below. elim (cases_lt (i + 1) (length history)) [
      | inl lt ↦ rw (get_or_append_left history (d ∷ []) [] i (omega arith), get_or_append_left history (d ∷ []) [] (i + 1) lt) (is_history.rises i lt)
      | inr ge ↦
          let at_end : length history ≡ i + 1 = omega (arith, ge, below, length-append history (d ∷ [])) in
          let some = opens-some bits members history is_history history is_history.opens in
          let e : length history - 1 ≡ i = omega arith in
          let le' = rw e at le in
          rw (get_or_append_left history (d ∷ []) [] i (omega (arith, some)), get_or_at history d [] [] (i + 1) at_end) le'
    ];
  }

-- a lane that answered a verb as it does alone
record Answered (bits : ℕ) (members : List (ℕ × ℕ)) (v : Verb) (old : Lane) : Type 0 where
  next : Lane
  answers : Answers v (reply_to (sets_of_lane old) v) old next
  is_history : IsHistory bits members next.knows.history
  changes : List Change
  adds : next.knows.accepted ≡ old.knows.accepted ++ changes
  rises : IsAtMost (last_cut old.knows.history) (last_cut next.knows.history)
  tallies : Tallies (last_cut old.knows.history) (last_cut next.knows.history) changes
  weigh : All (Weighs (opening_cut bits members) next.knows.accepted) next.knows.history

-- nothing changed
answered_still : (bits : ℕ) (members : List (ℕ × ℕ)) (v : Verb) (old next : Lane) → next.knows ≡ old.knows → Answers v (reply_to (sets_of_lane old) v) old next
    → IsHistory bits members old.knows.history → All (Weighs (opening_cut bits members) old.knows.accepted) old.knows.history → Answered bits members v old
answered_still bits members v old next same answers is_history weigh = record {
  next = next;
  answers = answers;
  is_history = subst (λ (x : Knowledge). IsHistory bits members x.history) (sym same) is_history;
  changes = [];
  adds = ap (λ (x : Knowledge). x.accepted) same ∙ sym (append-nil old.knows.accepted);
  rises = subst (λ (x : Knowledge). IsAtMost (last_cut old.knows.history) (last_cut x.history)) (sym same) (at_most-refl (last_cut old.knows.history));
  tallies = subst (λ (x : Knowledge). Tallies (last_cut old.knows.history) (last_cut x.history) []) (sym same) (nothing_tallies (last_cut old.knows.history));
  weigh = subst (λ (x : Knowledge). All (Weighs (opening_cut bits members) x.accepted) x.history) (sym same) weigh;
}

module _ (bits : ℕ) (members : List (ℕ × ℕ)) (old : Lane) (is_history : IsHistory bits members old.knows.history) (weigh : All (Weighs (opening_cut bits members) old.knows.accepted) old.knows.history) where
  abbrev before : Cut
  before = last_cut old.knows.history

  some : 0 < length old.knows.history
  some = opens-some bits members old.knows.history is_history old.knows.history is_history.opens

  wide : length (last_cut old.knows.history) ≡ 2 ^ bits
  wide = sym (opening-at_most bits members old.knows.history is_history old.knows.history is_history.opens (prefix_refl old.knows.history)).same_keys ∙ length-opening bits members

  -- no cut of the history shows more than the last
  no_more : (k i : ℕ) → i < length old.knows.history → serial_of (get_or old.knows.history i []) k ≤ serial_of (last_cut old.knows.history) k
  no_more k i below = serial_rises (get_or old.knows.history i []) (last_cut old.knows.history) k (rises_to bits members old.knows.history is_history i (length old.knows.history - 1) (omega arith) (omega (arith, some)))

  module _ (k : ℕ) (fits : k < 2 ^ bits) where
    -- the key has this serial and this weight now
    abbrev after : ℕ → ℕ → Cut
    after n w = set (last_cut old.knows.history) k (n, w)

    abbrev next : ℕ → ℕ → List Change → Lane
    next n w changes = record {
      knows = record { history = old.knows.history ++ set (last_cut old.knows.history) k (n, w) ∷ []; accepted = old.knows.accepted ++ changes };
      held = old.held;
    }

    at_key : (n w : ℕ) → shown_of (after n w) k ≡ (n, w)
    at_key n w = get_or-set_same (last_cut old.knows.history) k (n, w) (0, 0) (omega (arith, wide, fits))

    serial-at_key : (n w : ℕ) → serial_of (after n w) k ≡ n
    serial-at_key n w = ap (λ (z : ℕ × ℕ). z.0) (at_key n w)

    elsewhere : (n w j : ℕ) → (j ≡ k → ⊥) → shown_of (after n w) j ≡ shown_of before j
    elsewhere n w j apart = get_or-set_other (last_cut old.knows.history) k j (n, w) (0, 0) apart

    up : (n w : ℕ) → serial_of before k < n → IsAtMost before (after n w)
    up n w more = record {
      same_keys = sym (length-set (last_cut old.knows.history) k (n, w));
      no_greater = λ j. elim (cases_eq j k) [
        | inl e ↦ inl (omega (arith, more, serial-at_key n w, ap (serial_of (after n w)) e, ap (serial_of before) e))
        | inr apart ↦ inr (sym (elsewhere n w j apart))
      ];
    }

    last_is : (n w : ℕ) (changes : List Change) → last_cut (next n w changes).knows.history ≡ after n w
    last_is n w changes = last-push old.knows.history (after n w)

    -- a cut that weighed before does with more changes
    still_weighs : (changes : List Change) (cut : Cut) → Weighs (opening_cut bits members) old.knows.accepted cut → Weighs (opening_cut bits members) (old.knows.accepted ++ changes) cut
    still_weighs changes cut weighs key past = Contains-append_left old.knows.accepted changes (change key (shown_of cut key).0 (shown_of cut key).1) (weighs key past)

    weighs_after : (n w : ℕ) (changes : List Change) → Contains changes (change k n w) → Weighs (opening_cut bits members) (old.knows.accepted ++ changes) (after n w)
    weighs_after n w changes there key past = elim (cases_eq key k) [
      | inl e ↦
          let shown : shown_of (after n w) key ≡ (n, w) = ap (shown_of (after n w)) e ∙ at_key n w in
          subst (λ (c : Change). Contains (old.knows.accepted ++ changes) c) (λ i. change (sym e i) (sym shown i).0 (sym shown i).1)
          (Contains-append_right old.knows.accepted changes (change k n w) there)
      | inr apart ↦
          let same = elsewhere n w key apart in
          let last = All-get_or (Weighs (opening_cut bits members) old.knows.accepted) old.knows.history (length old.knows.history - 1) [] (omega (arith, some)) weigh in
          subst (λ (z : ℕ × ℕ). Contains (old.knows.accepted ++ changes) (change key z.0 z.1)) (sym same)
          (still_weighs changes before last key (omega (arith, past, ap (λ (z : ℕ × ℕ). z.0) same)))
    ]

    answered_by : (v : Verb) (n w : ℕ) (changes : List Change) → serial_of before k < n → Tallies before (after n w) changes → Contains changes (change k n w)
        → Answers v (reply_to (sets_of_lane old) v) old (next n w changes) → Answered bits members v old
    answered_by v n w changes more tallies there answers = record {
      next = next n w changes;
      answers = answers;
      is_history = push-history old.knows.history (after n w) bits members is_history (up n w more);
      changes = changes;
      adds = refl;
      rises = rw (last_is n w changes) (up n w more);
      tallies = rw (last_is n w changes) tallies;
      weigh = All-push (Weighs (opening_cut bits members) (old.knows.accepted ++ changes)) old.knows.history (after n w)
          (All-weaker (Weighs (opening_cut bits members) old.knows.accepted) (Weighs (opening_cut bits members) (old.knows.accepted ++ changes)) (still_weighs changes) old.knows.history weigh)
          (weighs_after n w changes there);
    }

    abbrev number : ℕ
    number = serial_of (last_cut old.knows.history) k + 1

    one_change : (w : ℕ) → ChangesOne before (after number w) k number number
    one_change w = record { begins = refl; reached = serial-at_key number w; others = elsewhere number w }

    tallies_one : (w : ℕ) → Tallies before (after number w) (change k number w ∷ [])
    tallies_one w = one_tallies before (after number w) k number w (one_change w)

    -- its removal, which nobody sees, and its insertion
    replaces : (v w : ℕ) → ChangesOne (after number v) (after (number + 1) w) k (number + 1) (number + 1)
    replaces v w = record {
      begins = omega (arith, serial-at_key number v);
      reached = serial-at_key (number + 1) w;
      others = λ j apart. elsewhere (number + 1) w j apart ∙ sym (elsewhere number v j apart);
    }

    rises_twice : (v w : ℕ) → IsAtMost (after number v) (after (number + 1) w)
    rises_twice v w = record {
      same_keys = length-set (last_cut old.knows.history) k (number, v) ∙ sym (length-set (last_cut old.knows.history) k (number + 1, w));
      no_greater = λ j. elim (cases_eq j k) [
        | inl e ↦ inl (omega (arith, serial-at_key number v, serial-at_key (number + 1) w, ap (serial_of (after number v)) e, ap (serial_of (after (number + 1) w)) e))
        | inr apart ↦ inr (elsewhere number v j apart ∙ sym (elsewhere (number + 1) w j apart))
      ];
    }

    tallies_two : (w : ℕ) → Tallies before (after (number + 1) w) (change k number 0 ∷ change k (number + 1) w ∷ [])
    tallies_two w = tallies-join before (after number 0) (after (number + 1) w) (change k number 0 ∷ []) (change k (number + 1) w ∷ []) (up number 0 (omega arith)) (rises_twice 0 w)
        (tallies_one 0) (one_tallies (after number 0) (after (number + 1) w) k (number + 1) w (replaces 0 w))

    accepted : (parity w : ℕ) → number % 2 ≡ parity → AcceptedUpdate parity k w old.knows (next number w (change k number w ∷ [])).knows
    accepted parity w suits = record {
      goes_on = (after number w ∷ [], refl);
      number = number;
      suits = suits;
      is_new = omega arith;
      shows = inr (ap (λ (d : Cut). shown_of d k) (last_is number w (change k number w ∷ [])) ∙ at_key number w);
      adds = refl;
    }

    replaced : (w : ℕ) → (number + 1) % 2 ≡ insertion → ReplacedUpdate k w old.knows (next (number + 1) w (change k number 0 ∷ change k (number + 1) w ∷ [])).knows
    replaced w suits = record {
      goes_on = (after (number + 1) w ∷ [], refl);
      number = number;
      suits = suits;
      is_new = omega arith;
      shows = inr (ap (λ (d : Cut). shown_of d k) (last_is (number + 1) w (change k number 0 ∷ change k (number + 1) w ∷ [])) ∙ at_key (number + 1) w);
      never_shown = All-push (λ cut. serial_of cut k ≢ number) old.knows.history (after (number + 1) w)
          (All-from_get_or (λ cut. serial_of cut k ≢ number) old.knows.history [] (λ i below e. omega (arith, e, no_more k i below)))
          (λ e. omega (arith, e, serial-at_key (number + 1) w));
      adds = refl;
    }

    refused : (parity : ℕ) → serial_of (last_cut old.knows.history) k % 2 ≡ parity → RefusedUpdate parity k old.knows old.knows
    refused parity suits = record {
      goes_on = prefix_refl old.knows.history;
      stood = inl suits;
      same_changes = refl;
    }

    there : serial_of before k % 2 ≡ 1 → is_member (keys_of (pairs_of_cut before)) k ≡ true
    there is_odd = there_if_odd before k ∙ eq-eqb (serial_of before k % 2) 1 is_odd

    absent : (serial_of before k % 2 ≡ 1 → ⊥) → is_member (keys_of (pairs_of_cut before)) k ≡ false
    absent even = there_if_odd before k ∙ ne_eqb (serial_of before k % 2) 1 even

    once : (w : ℕ) → Contains (change k number w ∷ []) (change k number w)
    once w = (0, omega arith, refl)

    twice : (w : ℕ) → Contains (change k number 0 ∷ change k (number + 1) w ∷ []) (change k (number + 1) w)
    twice w = (1, omega arith, refl)

    insert_alone : Answered bits members (verb.Insert k) old
    insert_alone = elim (cases_eq (serial_of (last_cut old.knows.history) k % 2) 1) [
      | inl is_odd ↦ answered_still bits members (verb.Insert k) old old refl (record { outcome = inr (rw (there is_odd) refl, refused insertion is_odd); holds_still = refl }) is_history weigh
      | inr even ↦ answered_by (verb.Insert k) number k (change k number k ∷ []) (omega arith) (tallies_one k) (once k) (record { outcome = inl (rw (absent even) refl, accepted insertion k (omega (arith, even))); holds_still = refl })
    ]

    put_alone : (w : ℕ) → Answered bits members (verb.Put k w) old
    put_alone w = elim (cases_eq (serial_of (last_cut old.knows.history) k % 2) 1) [
      | inl is_odd ↦ answered_by (verb.Put k w) (number + 1) w (change k number 0 ∷ change k (number + 1) w ∷ []) (omega arith) (tallies_two w) (twice w)
          (record { outcome = outcome.Replaced; puts = replaced w (omega (arith, is_odd)); answers = rw (there is_odd) refl; holds_still = refl })
      | inr even ↦ answered_by (verb.Put k w) number w (change k number w ∷ []) (omega arith) (tallies_one w) (once w)
          (record { outcome = outcome.Accepted; puts = accepted insertion w (omega (arith, even)); answers = rw (absent even) refl; holds_still = refl })
    ]

    remove_alone : Answered bits members (verb.Remove k) old
    remove_alone = elim (cases_eq (serial_of (last_cut old.knows.history) k % 2) 1) [
      | inl is_odd ↦ answered_by (verb.Remove k) number 0 (change k number 0 ∷ []) (omega arith) (tallies_one 0) (once 0) (record { outcome = inl (rw (there is_odd) refl, accepted removal 0 (omega (arith, is_odd))); holds_still = refl })
      | inr even ↦ answered_still bits members (verb.Remove k) old old refl (record { outcome = inr (rw (absent even) refl, refused removal (omega (arith, even))); holds_still = refl }) is_history weigh
    ]

  look_alone : Answered bits members verb.Look old
  look_alone = answered_still bits members verb.Look old (record { knows = old.knows; held = last_cut old.knows.history }) refl
      (refl, record { goes_on = prefix_refl old.knows.history; same_changes = refl; is_last = refl }) is_history weigh

  asks_alone : (v : Verb) → Answers v (reply_to (sets_of_lane old) v) old old → Answered bits members v old
  asks_alone v answers = answered_still bits members v old old refl answers is_history weigh

  answer_alone : (v : Verb) → is_in_bounds bits v ≡ true → Answered bits members v old
  answer_alone (verb.Insert k) fits = insert_alone k (ltb-true k (2 ^ bits) fits)
  answer_alone (verb.Put k w) fits = put_alone k (ltb-true k (2 ^ bits) fits) w
  answer_alone (verb.Remove k) fits = remove_alone k (ltb-true k (2 ^ bits) fits)
  answer_alone verb.Look fits = look_alone
  answer_alone (verb.Has k) fits = asks_alone (verb.Has k) (refl, refl)
  answer_alone (verb.Weight k) fits = asks_alone (verb.Weight k) (refl, refl)
  answer_alone verb.Size fits = asks_alone verb.Size (refl, refl)
  answer_alone (verb.Rank k) fits = asks_alone (verb.Rank k) (refl, refl)
  answer_alone (verb.Select i) fits = asks_alone (verb.Select i) (refl, refl)
  answer_alone (verb.Before k) fits = asks_alone (verb.Before k) (refl, refl)
  answer_alone (verb.After k) fits = asks_alone (verb.After k) (refl, refl)
  answer_alone (verb.Range a b) fits = asks_alone (verb.Range a b) (refl, refl)

-- a lane that ran its rows as it does alone
record RanAlone (bits : ℕ) (members : List (ℕ × ℕ)) (old : Lane) (rows : List Row) : Type 0 where
  end : Lane
  runs : AnswersAll (zip rows (replies_of (sets_of_lane old) rows)) old end
  is_history : IsHistory bits members end.knows.history
  changes : List Change
  adds : end.knows.accepted ≡ old.knows.accepted ++ changes
  rises : IsAtMost (last_cut old.knows.history) (last_cut end.knows.history)
  tallies : Tallies (last_cut old.knows.history) (last_cut end.knows.history) changes
  weigh : All (Weighs (opening_cut bits members) end.knows.accepted) end.knows.history

run_more : (bits : ℕ) (members : List (ℕ × ℕ)) (old : Lane) (row : Row) (rows : List Row) (a : Answered bits members row.verb old) → RanAlone bits members a.next rows → RanAlone bits members old (row ∷ rows)
unfolding AnswersAll replies_of
run_more bits members old row rows a rest =
    let told = step row.verb (reply_to (sets_of_lane old) row.verb) old a.next a.answers in
    let same : a.changes ≡ told.goes.more = append_cancel_left old.knows.accepted a.changes told.goes.more (sym a.adds ∙ told.goes.adds) in
    let leads = told.leads (record { le = a.rises; tallies = subst (λ (l : List Change). Tallies (last_cut old.knows.history) (last_cut a.next.knows.history) l) same a.tallies }) in
    let runs = subst (λ (t : Sets). AnswersAll (zip rows (replies_of t rows)) a.next rest.end) leads rest.runs in
    record {
      end = rest.end;
      runs = (a.next, a.answers, runs);
      is_history = rest.is_history;
      changes = a.changes ++ rest.changes;
      adds = rest.adds ∙ ap (λ l. l ++ rest.changes) a.adds ∙ append_assoc old.knows.accepted a.changes rest.changes;
      rises = at_most-trans (last_cut old.knows.history) (last_cut a.next.knows.history) (last_cut rest.end.knows.history) a.rises rest.rises;
      tallies = tallies-join (last_cut old.knows.history) (last_cut a.next.knows.history) (last_cut rest.end.knows.history) a.changes rest.changes a.rises rest.rises a.tallies rest.tallies;
      weigh = rest.weigh;
    }

run_alone : (bits : ℕ) (members : List (ℕ × ℕ)) (old : Lane) (rows : List Row) → IsHistory bits members old.knows.history → All (Weighs (opening_cut bits members) old.knows.accepted) old.knows.history
    → All (λ row. is_in_bounds bits row.verb ≡ true) rows → RanAlone bits members old rows
unfolding AnswersAll replies_of
run_alone bits members old [] is_history weigh fit = record {
  end = old;
  runs = refl;
  is_history = is_history;
  changes = [];
  adds = sym (append-nil old.knows.accepted);
  rises = at_most-refl (last_cut old.knows.history);
  tallies = nothing_tallies (last_cut old.knows.history);
  weigh = weigh;
}
run_alone bits members old (row ∷ rows) is_history weigh fit =
    let a = answer_alone bits members old is_history weigh row.verb (All-head (λ (r : Row). is_in_bounds bits r.verb ≡ true) row rows fit) in
    run_more bits members old row rows a (run_alone bits members a.next rows a.is_history a.weigh (All-tail (λ (r : Row). is_in_bounds bits r.verb ≡ true) row rows fit))

rows_back : (s : Sets) (rows : List Row) → map (λ line. line.0) (zip rows (replies_of s rows)) ≡ rows
unfolding replies_of
rows_back s [] = refl
rows_back s (row ∷ rows) = ap (λ l. row ∷ l) (rows_back (sets_after s row.verb) rows)

replies_back : (s : Sets) (rows : List Row) → map (λ line. line.1) (zip rows (replies_of s rows)) ≡ replies_of s rows
unfolding replies_of
replies_back s [] = refl
replies_back s (row ∷ rows) = ap (λ l. reply_to s row.verb ∷ l) (replies_back (sets_after s row.verb) rows)

lines_lane : (P : ℕ → Type 0) (s : Sets) (rows : List Row) → All (λ row. P row.lane) rows → All (λ line. P line.0.lane) (zip rows (replies_of s rows))
unfolding replies_of
lines_lane P s [] all = All-nil (λ (line : Row × Reply). P line.0.lane)
lines_lane P s (row ∷ rows) all =
    All-cons (λ (line : Row × Reply). P line.0.lane) (row, reply_to s row.verb) (zip rows (replies_of (sets_after s row.verb) rows)) (All-head (λ (r : Row). P r.lane) row rows all)
    (lines_lane P (sets_after s row.verb) rows (All-tail (λ (r : Row). P r.lane) row rows all))

module _ (bits number : ℕ) (members : List (ℕ × ℕ)) (rows : List Row) (is_set : IsKeySet bits (keys_of members)) (fit : All (λ row. is_in_bounds bits row.verb ≡ true) rows) (all : All (λ row. row.lane ≡ 0) rows) where
  abbrev opened : Lane
  opened = record { knows = record { history = opening_cut bits members ∷ []; accepted = [] }; held = opening_cut bits members }

  opening_history : IsHistory bits members (opening_cut bits members ∷ [])
  opening_history = record { opens = prefix_refl (opening_cut bits members ∷ []); rises = λ i below. absurd (omega arith) }

  opening_weighs : All (Weighs (opening_cut bits members) []) (opening_cut bits members ∷ [])
  opening_weighs = All-cons (Weighs (opening_cut bits members) []) (opening_cut bits members) [] (λ key past. absurd (omega (arith, past))) (All-nil (Weighs (opening_cut bits members) []))

  opened_sets : sets_of_lane opened ≡ opening_sets members
  opened_sets = let back = pairs_of_cut-opening bits members is_set in λ i. record { live = back i; held = back i }

  abbrev lines : List (Row × Reply)
  lines = zip rows (replies_of (opening_sets members) rows)

  all_lines : lines_of 0 lines ≡ lines
  all_lines = lines-all 0 lines (lines_lane (λ (l : ℕ). l ≡ 0) (opening_sets members) rows all)

  one_run : (end : Lane) (history : List Cut) → RunsLane (opening_cut bits members) history lines end
      → (lane : ℕ) (default : Lane) → lane < 1 → RunsLane (opening_cut bits members) history (lines_of lane lines) (get_or (end ∷ []) lane default)
  one_run end history ran zero default below = rw all_lines ran
  one_run end history ran (suc lane) default below = absurd (omega arith)

  pub in_turn_allowed : AllowedReport bits 1 members (report_of number members rows) (sets_of (opening_sets members) rows).live
  in_turn_allowed =
      let ran = run_alone bits members opened rows opening_history opening_weighs fit in
      let runs = subst (λ (t : Sets). AnswersAll (zip rows (replies_of t rows)) opened ran.end) opened_sets ran.runs in
      let lane : RunsLane (opening_cut bits members) ran.end.knows.history lines ran.end = record {
        start = opened;
        opens = record { sees_opening = prefix_refl (opening_cut bits members ∷ []); no_change = refl; holds_last = refl };
        runs = runs;
        of_history = prefix_refl ran.end.knows.history;
      } in
      let tallies : Tallies (opening_cut bits members) (last_cut ran.end.knows.history) ran.end.knows.accepted = rw ran.adds ran.tallies in
      let told = alone bits members ran.end.knows.history ran.is_history is_set lines ran.end lane tallies in
      let changes : all_accepted (ran.end ∷ []) ≡ ran.end.knows.accepted = append-nil ran.end.knows.accepted in
      let closes : (sets_of (opening_sets members) rows).live ≡ pairs_of_cut (last_cut ran.end.knows.history) = sym (told.closes ∙ ap (λ (r : List Row). (sets_of (opening_sets members) r).live) (rows_back (opening_sets members) rows)) in
      record {
        history = ran.end.knows.history;
        is_history = ran.is_history;
        lanes = ran.end ∷ [];
        one_each = refl;
        of_lanes = lines_lane (λ (l : ℕ). l < 1) (opening_sets members) rows (All-weaker (λ (r : Row). r.lane ≡ 0) (λ (r : Row). r.lane < 1) (λ r e. omega (arith, e)) rows all);
        runs = one_run ran.end ran.end.knows.history lane;
        tallies = rw changes tallies;
        weigh = rw changes ran.weigh;
        closes = closes;
        size = refl;
        inserts = ap (count_of is_insertion) (sym (replies_back (opening_sets members) rows)) ∙ sym told.inserts ∙ ap inserts_of (sym changes);
        removals = ap (count_of is_removal) (sym (replies_back (opening_sets members) rows)) ∙ sym told.removals ∙ ap removals_of (sym changes);
      }
