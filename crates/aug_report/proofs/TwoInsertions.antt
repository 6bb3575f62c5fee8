-- Two lanes that insert one key: one is accepted and the other refused, whichever it is.
use Rattle.std.proofs.Common.{◌≡◌, ℕ, zero, suc, ◌%◌, ◌^◌, ◌<◌, ◌≤◌, Bool, true, false, ◌==◌, ◌&&◌, List, [], ◌∷◌, ◌++◌, length, get_or, set, refl, ap, sym, ◌∙◌, inl, inr, arith, All, if◌then◌else◌}
use Rattle.std.proofs.lemmas.Bool.{eq-eqb, ne_eqb, cases_lt, false≢true}
use Rattle.std.proofs.lemmas.List.Elements.{All-nil, All-cons}
use Rattle.aug_model.specs.Keys.{is_member, keys_of}
use Rattle.aug_core.specs.Counts.{change}
use Rattle.aug_core.specs.Cuts.{Cut, serial_of, opening_cut}
use Rattle.aug_core.specs.declared.view.Change.{Change}
use Rattle.aug_trie.specs.History.{last_cut}
use Rattle.aug_trie.specs.Tallies.{times, Tallies}
use Rattle.aug_script.specs.Replies.{is_insertion}
use Rattle.aug_script.specs.declared.reply.Reply.{Reply}
use Rattle.aug_script.specs.declared.reply.Reply.TheVariants as reply
use Rattle.aug_script.specs.declared.row.Row.{Row}
use Rattle.aug_script.specs.declared.verb.Verb.TheVariants as verb
use Rattle.aug_trie.proofs.Risen.{last-at_most_final, last-rises, opens-some}
use Rattle.aug_report.specs.AllowedReport.{Lane, AnswersAll, RunsLane, AllowedReport, lines_of, all_accepted}
use Rattle.aug_report.specs.Theorems.{row_at, report_with, two_insertions}
use Rattle.aug_trie.proofs.CutLemmas.{serial-opening, length-opening, serial_past, serial_rises}
use Rattle.aug_trie.proofs.TallyLemmas.{counted-cons, exactly, times_first, none_high, once_between}
use Rattle.aug_report.proofs.Histories.{prefix-length}
use Rattle.aug_report.proofs.Lanes.{story}
use Rattle.aug_report.proofs.OneKey.{empty-serial, shown-key, serial-key, pairs-key, two_cuts, two_history, two_weigh, first_change, early, opens_early}
use Rattle.aug_report.proofs.Tallied.{one_tallies}

abbrev one_if : Bool → ℕ
one_if b = if b then 1 else 0

module _ (bits k : ℕ) (is_key : k < 2 ^ bits) where
  abbrev whole : List Cut
  whole = two_cuts bits k is_key 1 k

  -- the lane that was first, and the other
  abbrev first : Lane
  first = record { knows = record { history = whole; accepted = change k 1 k ∷ [] }; held = opening_cut bits [] }

  abbrev second : Lane
  second = record { knows = record { history = whole; accepted = [] }; held = opening_cut bits [] }

  runs_first : (number lane : ℕ) → RunsLane (opening_cut bits []) whole ((row_at number lane (verb.Insert k), reply.New) ∷ []) first
  unfolding AnswersAll
  runs_first number lane = record {
    start = early bits k is_key;
    opens = opens_early bits k is_key;
    runs = (
      first,
      record {
        outcome = inl (
          refl,
          record {
            goes_on = (set (opening_cut bits []) k (1, k) ∷ [], refl);
            number = 1;
            suits = refl;
            is_new = omega (arith, empty-serial bits k);
            shows = inr (shown-key bits k is_key 1 k);
            adds = refl;
          },
        );
        holds_still = refl;
      },
      refl,
    );
    of_history = ([], refl);
  }

  runs_second : (number lane : ℕ) → RunsLane (opening_cut bits []) whole ((row_at number lane (verb.Insert k), reply.Old) ∷ []) second
  unfolding AnswersAll
  runs_second number lane = record {
    start = early bits k is_key;
    opens = opens_early bits k is_key;
    runs = (
      second,
      record {
        outcome = inr (
          refl,
          record {
            goes_on = (set (opening_cut bits []) k (1, k) ∷ [], refl);
            stood = inr (omega (arith, empty-serial bits k, serial-key bits k is_key 1 k));
            same_changes = refl;
          },
        );
        holds_still = refl;
      },
      refl,
    );
    of_history = ([], refl);
  }

  tallies-one : Tallies (opening_cut bits []) (set (opening_cut bits []) k (1, k)) (change k 1 k ∷ [])
  tallies-one = one_tallies (opening_cut bits []) (set (opening_cut bits []) k (1, k)) k 1 k (first_change bits k is_key k)

  runs_either : (a b : Lane) (lines : List (Row × Reply)) → RunsLane (opening_cut bits []) whole (lines_of 0 lines) a → RunsLane (opening_cut bits []) whole (lines_of 1 lines) b
      → (lane : ℕ) (default : Lane) → lane < 2 → RunsLane (opening_cut bits []) whole (lines_of lane lines) (get_or (a ∷ b ∷ []) lane default)
  runs_either a b lines ra rb zero default below = ra
  runs_either a b lines ra rb (suc zero) default below = rb
  runs_either a b lines ra rb (suc (suc lane)) default below = absurd (omega arith)

  of_two : (x y : Reply) → All (λ (line : Row × Reply). line.0.lane < 2) (two_insertions k x y)
  of_two x y = All-cons (λ (line : Row × Reply). line.0.lane < 2) (row_at 1 0 (verb.Insert k), x) ((row_at 2 1 (verb.Insert k), y) ∷ []) (omega arith)
      (All-cons (λ (line : Row × Reply). line.0.lane < 2) (row_at 2 1 (verb.Insert k), y) [] (omega arith) (All-nil (λ (line : Row × Reply). line.0.lane < 2)))

  -- the first lane was first
  pub new_then_old : AllowedReport bits 2 [] (report_with 1 (two_insertions k reply.New reply.Old) 1 1 0) ((k, k) ∷ [])
  new_then_old = record {
    history = whole;
    is_history = two_history bits k is_key 1 k (omega arith);
    lanes = first ∷ second ∷ [];
    one_each = refl;
    of_lanes = of_two reply.New reply.Old;
    runs = runs_either first second (two_insertions k reply.New reply.Old) (runs_first 1 0) (runs_second 2 1);
    tallies = tallies-one;
    weigh = two_weigh bits k is_key 1 k (change k 1 k ∷ []) (0, omega arith, refl);
    closes = sym (pairs-key bits k is_key 1 k refl);
    size = refl;
    inserts = refl;
    removals = refl;
  }

  -- or the second was
  pub old_then_new : AllowedReport bits 2 [] (report_with 1 (two_insertions k reply.Old reply.New) 1 1 0) ((k, k) ∷ [])
  old_then_new = record {
    history = whole;
    is_history = two_history bits k is_key 1 k (omega arith);
    lanes = second ∷ first ∷ [];
    one_each = refl;
    of_lanes = of_two reply.Old reply.New;
    runs = runs_either second first (two_insertions k reply.Old reply.New) (runs_second 1 0) (runs_first 2 1);
    tallies = tallies-one;
    weigh = two_weigh bits k is_key 1 k (change k 1 k ∷ []) (0, omega arith, refl);
    closes = sym (pairs-key bits k is_key 1 k refl);
    size = refl;
    inserts = refl;
    removals = refl;
  }

new≢old : reply.New ≡ reply.Old → ⊥
new≢old e = false≢true (sym (ap is_insertion e))

-- what a lane that was answered `new` has accepted, and nothing else
record WasNew (k : ℕ) (end : Lane) : Type 0 where
  number : ℕ
  is_odd : number % 2 ≡ 1
  one : end.knows.accepted ≡ change k number k ∷ []

-- what a lane that was answered `old` has seen
record WasOld (k : ℕ) (end : Lane) : Type 0 where
  number : ℕ
  is_odd : number % 2 ≡ 1
  seen : number ≤ serial_of (last_cut end.knows.history) k

was_new : (opening : Cut) (history : List Cut) (k number lane : ℕ) (end : Lane) → RunsLane opening history ((row_at number lane (verb.Insert k), reply.New) ∷ []) end → WasNew k end
unfolding AnswersAll
was_new opening history k number lane end ran =
    elim ran.runs.1.outcome [
      | inl h ↦ record {
        number = h.1.number;
        is_odd = h.1.suits;
        one = ap (λ (l : Lane). l.knows.accepted) ran.runs.2 ∙ h.1.adds ∙ ap (λ l. l ++ change k h.1.number k ∷ []) ran.opens.no_change;
      }
      | inr h ↦ absurd (new≢old h.0)
    ]

was_old : (opening : Cut) (history : List Cut) (k number lane : ℕ) (end : Lane) (ran : RunsLane opening history ((row_at number lane (verb.Insert k), reply.Old) ∷ []) end)
    → serial_of (last_cut ran.start.knows.history) k ≤ serial_of (last_cut end.knows.history) k → WasOld k end
unfolding AnswersAll
was_old opening history k number lane end ran up =
    elim ran.runs.1.outcome [
      | inl h ↦ absurd (new≢old (sym h.0))
      | inr h ↦ (elim h.1.stood [
        | inl suits ↦ record { number = serial_of (last_cut ran.start.knows.history) k; is_odd = suits; seen = up }
        | inr rises ↦ record { number = 1; is_odd = refl; seen = omega (arith, rises, ap (λ (l : Lane). serial_of (last_cut l.knows.history) k) ran.runs.2) }
      ])
    ]

old_none : (opening : Cut) (history : List Cut) (k number lane : ℕ) (end : Lane) → RunsLane opening history ((row_at number lane (verb.Insert k), reply.Old) ∷ []) end → end.knows.accepted ≡ []
unfolding AnswersAll
old_none opening history k number lane end ran =
    elim ran.runs.1.outcome [
      | inl h ↦ absurd (new≢old (sym h.0))
      | inr h ↦ ap (λ (l : Lane). l.knows.accepted) ran.runs.2 ∙ h.1.same_changes ∙ ran.opens.no_change
    ]

abbrev pub nobody : Lane
nobody = record { knows = record { history = []; accepted = [] }; held = [] }

pub two_lanes : (lanes : List Lane) → length lanes ≡ 2 → all_accepted lanes ≡ (get_or lanes 0 nobody).knows.accepted ++ ((get_or lanes 1 nobody).knows.accepted ++ [])
two_lanes [] two = absurd (omega (arith, two))
two_lanes (a ∷ []) two = absurd (omega (arith, two))
two_lanes (a ∷ b ∷ []) two = refl
two_lanes (a ∷ b ∷ d ∷ lanes) two = absurd (omega (arith, two))

-- a key that is no member opens with serial 0
pub serial-absent : (bits : ℕ) (members : List (ℕ × ℕ)) (k : ℕ) → is_member (keys_of members) k ≡ false → serial_of (opening_cut bits members) k ≡ 0
serial-absent bits members k absent =
    elim (cases_lt k (2 ^ bits)) [
      | inl below ↦ serial-opening bits members k below ∙ rw absent refl
      | inr past ↦ serial_past (opening_cut bits members) k (omega (arith, length-opening bits members, past))
    ]

abbrev twice : ℕ → ℕ → ℕ → List Change
twice k a b = change k a k ∷ change k b k ∷ []

absent_twice : (k a b m : ℕ) → (a ≡ m → ⊥) → (b ≡ m → ⊥) → times k m (twice k a b) ≡ 0
absent_twice k a b m na nb = rw (ne_eqb a m na, ne_eqb b m nb, eq-eqb k k refl) refl

-- two insertions of a key without a removal in between
two_accepted : (c d : Cut) (k a b : ℕ) → serial_of c k ≡ 0 → a % 2 ≡ 1 → b % 2 ≡ 1 → Tallies c d (twice k a b) → ⊥
two_accepted c d k a b opened a_odd b_odd tallies =
    let none = absent_twice k a b 2 (λ e. omega (arith, e, a_odd)) (λ e. omega (arith, e, b_odd)) in
    let low : serial_of d k ≤ 1 = elim (cases_lt 1 (serial_of d k)) [ inl high ↦ absurd (omega (arith, none, once_between c d (twice k a b) tallies k 2 (omega (arith, opened)) (omega arith))) | inr le ↦ le ] in
    let first = times_first (change k a k) (change k b k ∷ []) in
    let second = times_first (change k b k) [] in
    let a_low : a ≤ 1 = elim (cases_lt 1 a) [ inl high ↦ absurd (omega (arith, first, none_high c d (twice k a b) tallies k a (omega (arith, low, high)))) | inr le ↦ le ] in
    let b_one : times k b (change k b k ∷ []) ≡ 1 = omega (arith, second) in
    let both = counted-cons (exactly k b) (change k a k) (change k b k ∷ []) in
    let b_low : b ≤ 1 = elim (cases_lt 1 b) [ inl high ↦ absurd (omega (arith, both, b_one, none_high c d (twice k a b) tallies k b (omega (arith, low, high)))) | inr le ↦ le ] in
    let same : a ≡ b = omega (arith, a_low, b_low, a_odd, b_odd) in
    let here : (k == k && a == b) ≡ true = rw (eq-eqb k k refl, eq-eqb a b same) refl in
    elim (cases_lt (serial_of d k) b) [
      | inl high ↦ omega (arith, both, b_one, none_high c d (twice k a b) tallies k b high)
      | inr le ↦ omega (arith, both, b_one, ap one_if here, once_between c d (twice k a b) tallies k b (omega (arith, opened, b_odd)) le)
    ]

-- both accepted: refused
pub both_new : (bits k number size inserts removals : ℕ) (members closing : List (ℕ × ℕ)) → is_member (keys_of members) k ≡ false
    → AllowedReport bits 2 members (report_with number (two_insertions k reply.New reply.New) size inserts removals) closing → ⊥
both_new bits k number size inserts removals members closing absent allowed =
    let a = was_new (opening_cut bits members) allowed.history k 1 0 (get_or allowed.lanes 0 nobody) (allowed.runs 0 nobody (omega arith)) in
    let b = was_new (opening_cut bits members) allowed.history k 2 1 (get_or allowed.lanes 1 nobody) (allowed.runs 1 nobody (omega arith)) in
    let changes : all_accepted allowed.lanes ≡ twice k a.number b.number = two_lanes allowed.lanes allowed.one_each ∙ rw (a.one, b.one) refl in
    two_accepted (opening_cut bits members) (last_cut allowed.history) k a.number b.number (serial-absent bits members k absent) a.is_odd b.is_odd (rw changes at allowed.tallies)

-- both refused: refused
pub both_old : (bits k number size inserts removals : ℕ) (members closing : List (ℕ × ℕ)) → is_member (keys_of members) k ≡ false
    → AllowedReport bits 2 members (report_with number (two_insertions k reply.Old reply.Old) size inserts removals) closing → ⊥
both_old bits k number size inserts removals members closing absent allowed =
    let end = get_or allowed.lanes 0 nobody in
    let ran = allowed.runs 0 nobody (omega arith) in
    let a_none = old_none (opening_cut bits members) allowed.history k 1 0 end ran in
    let b_none = old_none (opening_cut bits members) allowed.history k 2 1 (get_or allowed.lanes 1 nobody) (allowed.runs 1 nobody (omega arith)) in
    let changes : all_accepted allowed.lanes ≡ [] = two_lanes allowed.lanes allowed.one_each ∙ rw (a_none, b_none) refl in
    let some = opens-some bits members allowed.history allowed.is_history ran.start.knows.history ran.opens.sees_opening in
    let told = story bits members allowed.history allowed.is_history ((row_at 1 0 (verb.Insert k), reply.Old) ∷ []) ran.start end ran.runs some ran.of_history in
    let longer = prefix-length ran.start.knows.history end.knows.history told.goes.goes_on in
    let rises = serial_rises (last_cut ran.start.knows.history) (last_cut end.knows.history) k
    (last-rises bits members allowed.history allowed.is_history ran.start.knows.history end.knows.history some told.goes.goes_on ran.of_history) in
    let a = was_old (opening_cut bits members) allowed.history k 1 0 end ran rises in
    let up = last-at_most_final bits members allowed.history allowed.is_history end.knows.history (omega (arith, some, longer)) ran.of_history in
    let tallies = rw changes at allowed.tallies in
    omega (arith, once_between (opening_cut bits members) (last_cut allowed.history) [] tallies k a.number (omega (arith, serial-absent bits members k absent, a.is_odd)) (omega (arith, a.seen, serial_rises (last_cut end.knows.history) (last_cut allowed.history) k up)))
