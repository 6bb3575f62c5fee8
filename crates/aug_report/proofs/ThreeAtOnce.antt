-- The root goes from serial 0 of a key to serial 3 at once.
use Rattle.std.proofs.Common.{◌≡◌, ℕ, zero, suc, ◌%◌, ◌^◌, ◌<◌, ◌≤◌, List, [], ◌∷◌, get_or, refl, ap, sym, inl, inr, arith}
use Rattle.std.proofs.lemmas.Bool.{eq-eqb}
use Rattle.std.proofs.lemmas.List.Elements.{All-from_get_or}
use Rattle.aug_core.specs.Counts.{change}
use Rattle.aug_core.specs.Cuts.{Cut, opening_cut}
use Rattle.aug_core.specs.declared.view.Change.{Change}
use Rattle.aug_trie.specs.Knowledge.{StandsIn, insertion, removal}
use Rattle.aug_trie.specs.Tallies.{Tallies}
use Rattle.aug_trie.specs.Updates.{AcceptedUpdate}
use Rattle.aug_script.specs.declared.reply.Reply.{Reply}
use Rattle.aug_script.specs.declared.reply.Reply.TheVariants as reply
use Rattle.aug_script.specs.declared.row.Row.{Row}
use Rattle.aug_script.specs.declared.verb.Verb.TheVariants as verb
use Rattle.aug_report.specs.AllowedReport.{Lane, AnswersAll, RunsLane, AllowedReport, lines_of}
use Rattle.aug_report.specs.Theorems.{row_at, report_with, three_changes}
use Rattle.aug_report.proofs.OneKey.{empty-serial, key_at, shown-key, serial-key, pairs-key, rises-empty, rises-key, first_change, next_change, two_cuts, two_history, two_weigh, early, opens_early}
use Rattle.aug_report.proofs.Tallied.{one_tallies, tallies-join}

module _ (bits k : ℕ) (is_key : k < 2 ^ bits) where
  abbrev whole : List Cut
  whole = two_cuts bits k is_key 3 k

  abbrev at : ℕ → ℕ → Cut
  at n w = key_at bits k is_key n w

  abbrev changes : List Change
  changes = change k 1 k ∷ change k 2 0 ∷ change k 3 k ∷ []

  all_three : Tallies (opening_cut bits []) (at 3 k) changes
  all_three =
      tallies-join (opening_cut bits []) (at 1 k) (at 3 k) (change k 1 k ∷ []) (change k 2 0 ∷ change k 3 k ∷ []) (rises-empty bits k is_key 1 k (omega arith)) (rises-key bits k is_key 1 k 3 k (omega arith))
      (one_tallies (opening_cut bits []) (at 1 k) k 1 k (first_change bits k is_key k))
      (tallies-join (at 1 k) (at 2 0) (at 3 k) (change k 2 0 ∷ []) (change k 3 k ∷ []) (rises-key bits k is_key 1 k 2 0 (omega arith)) (rises-key bits k is_key 2 0 3 k (omega arith))
      (one_tallies (at 1 k) (at 2 0) k 2 0 (next_change bits k is_key 1 k 0)) (one_tallies (at 2 0) (at 3 k) k 3 k (next_change bits k is_key 2 0 k)))

  abbrev ends : List Change → Lane
  ends accepted = record { knows = record { history = whole; accepted = accepted }; held = opening_cut bits [] }

  -- a lane whose pass was made once all was over
  abbrev late : Lane
  late = record { knows = record { history = whole; accepted = [] }; held = at 3 k }

  accepted : (parity n w : ℕ) → n % 2 ≡ parity → 1 ≤ n → StandsIn (at 3 k) (change k n w) → AcceptedUpdate parity k w (early bits k is_key).knows (ends (change k n w ∷ [])).knows
  accepted parity n w suits low stands = record {
    goes_on = (at 3 k ∷ [], refl);
    number = n;
    suits = suits;
    is_new = omega (arith, low, empty-serial bits k);
    shows = stands;
    adds = refl;
  }

  passed_over : (n w : ℕ) → n < 3 → StandsIn (at 3 k) (change k n w)
  passed_over n w low = inl (omega (arith, low, serial-key bits k is_key 3 k))

  inserts : (number lane n : ℕ) → n % 2 ≡ insertion → 1 ≤ n → StandsIn (at 3 k) (change k n k) → RunsLane (opening_cut bits []) whole ((row_at number lane (verb.Insert k), reply.New) ∷ []) (ends (change k n k ∷ []))
  unfolding AnswersAll
  inserts number lane n suits low stands = record {
    start = early bits k is_key;
    opens = opens_early bits k is_key;
    runs = (ends (change k n k ∷ []), record { outcome = inl (refl, accepted insertion n k suits low stands); holds_still = refl }, refl);
    of_history = ([], refl);
  }

  removes : RunsLane (opening_cut bits []) whole ((row_at 2 1 (verb.Remove k), reply.Gone) ∷ []) (ends (change k 2 0 ∷ []))
  unfolding AnswersAll
  removes = record {
    start = early bits k is_key;
    opens = opens_early bits k is_key;
    runs = (ends (change k 2 0 ∷ []), record { outcome = inl (refl, accepted removal 2 0 refl (omega arith) (passed_over 2 0 (omega arith))); holds_still = refl }, refl);
    of_history = ([], refl);
  }

  -- its removal meets serial 0 before anything is shown, and its insertion serial 1
  refused : RunsLane (opening_cut bits []) whole ((row_at 4 3 (verb.Remove k), reply.Absent) ∷ (row_at 5 3 (verb.Insert k), reply.Old) ∷ []) (ends [])
  unfolding AnswersAll
  refused = record {
    start = early bits k is_key;
    opens = opens_early bits k is_key;
    runs = (
      early bits k is_key,
      record { outcome = inr (refl, record { goes_on = ([], refl); stood = inl (ap (λ (n : ℕ). n % 2) (empty-serial bits k)); same_changes = refl }); holds_still = refl },
      (
        ends [],
        record { outcome = inr (refl, record { goes_on = (at 3 k ∷ [], refl); stood = inr (omega (arith, empty-serial bits k, serial-key bits k is_key 3 k)); same_changes = refl }); holds_still = refl },
        refl,
      ),
    );
    of_history = ([], refl);
  }

  looks : RunsLane (opening_cut bits []) whole ((row_at 6 4 (verb.Has k), reply.Yes) ∷ []) late
  unfolding AnswersAll
  looks = record {
    start = late;
    opens = record { sees_opening = (at 3 k ∷ [], refl); no_change = refl; holds_last = refl };
    runs = (late, (rw (pairs-key bits k is_key 3 k refl, eq-eqb k k refl) refl, refl), refl);
    of_history = ([], refl);
  }

  abbrev lanes : List Lane
  lanes = ends (change k 1 k ∷ []) ∷ ends (change k 2 0 ∷ []) ∷ ends (change k 3 k ∷ []) ∷ ends [] ∷ late ∷ []

  each_runs : (lane : ℕ) (default : Lane) → lane < 5 → RunsLane (opening_cut bits []) whole (lines_of lane (three_changes k)) (get_or lanes lane default)
  each_runs zero default below = inserts 1 0 1 refl (omega arith) (passed_over 1 k (omega arith))
  each_runs (suc zero) default below = removes
  each_runs (suc (suc zero)) default below = inserts 3 2 3 refl (omega arith) (inr (shown-key bits k is_key 3 k))
  each_runs (suc (suc (suc zero))) default below = refused
  each_runs (suc (suc (suc (suc zero)))) default below = looks
  each_runs (suc (suc (suc (suc (suc lane))))) default below = absurd (omega arith)

  lane_exists : (i : ℕ) → i < 6 → (get_or (three_changes k) i (row_at 0 0 verb.Look, reply.Looked)).0.lane < 5
  lane_exists zero below = omega arith
  lane_exists (suc zero) below = omega arith
  lane_exists (suc (suc zero)) below = omega arith
  lane_exists (suc (suc (suc zero))) below = omega arith
  lane_exists (suc (suc (suc (suc zero)))) below = omega arith
  lane_exists (suc (suc (suc (suc (suc zero))))) below = omega arith
  lane_exists (suc (suc (suc (suc (suc (suc i)))))) below = absurd (omega arith)

  pub three_allowed : AllowedReport bits 5 [] (report_with 1 (three_changes k) 1 2 1) ((k, k) ∷ [])
  three_allowed = record {
    history = whole;
    is_history = two_history bits k is_key 3 k (omega arith);
    lanes = lanes;
    one_each = refl;
    of_lanes = All-from_get_or (λ (line : Row × Reply). line.0.lane < 5) (three_changes k) (row_at 0 0 verb.Look, reply.Looked) lane_exists;
    runs = each_runs;
    tallies = all_three;
    weigh = two_weigh bits k is_key 3 k changes (2, omega arith, refl);
    closes = sym (pairs-key bits k is_key 3 k refl);
    size = refl;
    inserts = refl;
    removals = refl;
  }
