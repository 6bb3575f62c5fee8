-- One lane puts a key in with a weight, and another sees it with that weight.
use Rattle.std.proofs.Common.{ℕ, zero, suc, ◌^◌, ◌<◌, List, [], ◌∷◌, get_or, refl, sym, inr, arith, Some}
use Rattle.std.proofs.lemmas.Bool.{eq-eqb}
use Rattle.std.proofs.lemmas.List.Elements.{All-from_get_or}
use Rattle.aug_model.specs.declared.outcome.Outcome.TheVariants as outcome
use Rattle.aug_core.specs.Counts.{change}
use Rattle.aug_core.specs.Cuts.{Cut, opening_cut}
use Rattle.aug_script.specs.declared.reply.Reply.{Reply}
use Rattle.aug_script.specs.declared.reply.Reply.TheVariants as reply
use Rattle.aug_script.specs.declared.row.Row.{Row}
use Rattle.aug_script.specs.declared.verb.Verb.TheVariants as verb
use Rattle.aug_report.specs.AllowedReport.{Lane, AnswersAll, RunsLane, AllowedReport, lines_of}
use Rattle.aug_report.specs.Theorems.{row_at, report_with, put_and_query}
use Rattle.aug_report.proofs.OneKey.{empty-serial, key_at, shown-key, pairs-key, first_change, two_cuts, two_history, two_weigh, early, opens_early}
use Rattle.aug_report.proofs.Tallied.{one_tallies}

module _ (k w bits : ℕ) (is_key : k < 2 ^ bits) where
  abbrev whole : List Cut
  whole = two_cuts bits k is_key 1 w

  abbrev lines : List (Row × Reply)
  lines = put_and_query k w reply.New (verb.Weight k) (reply.Found (Some w))

  abbrev puts : Lane
  puts = record { knows = record { history = whole; accepted = change k 1 w ∷ [] }; held = opening_cut bits [] }

  abbrev looks : Lane
  looks = record { knows = record { history = whole; accepted = [] }; held = key_at bits k is_key 1 w }

  runs_puts : RunsLane (opening_cut bits []) whole ((row_at 1 0 (verb.Put k w), reply.New) ∷ []) puts
  unfolding AnswersAll
  runs_puts = record {
    start = early bits k is_key;
    opens = opens_early bits k is_key;
    runs = (
      puts,
      record {
        outcome = outcome.Accepted;
        puts = record {
          goes_on = (key_at bits k is_key 1 w ∷ [], refl);
          number = 1;
          suits = refl;
          is_new = omega (arith, empty-serial bits k);
          shows = inr (shown-key bits k is_key 1 w);
          adds = refl;
        };
        answers = refl;
        holds_still = refl;
      },
      refl,
    );
    of_history = ([], refl);
  }

  runs_looks : RunsLane (opening_cut bits []) whole ((row_at 2 1 verb.Look, reply.Looked) ∷ (row_at 3 1 (verb.Weight k), reply.Found (Some w)) ∷ []) looks
  unfolding AnswersAll
  runs_looks = record {
    start = early bits k is_key;
    opens = opens_early bits k is_key;
    runs = (
      looks,
      (refl, record { goes_on = (key_at bits k is_key 1 w ∷ [], refl); same_changes = refl; is_last = refl }),
      (looks, (rw (pairs-key bits k is_key 1 w refl, eq-eqb k k refl) refl, refl), refl),
    );
    of_history = ([], refl);
  }

  each_runs : (lane : ℕ) (default : Lane) → lane < 2 → RunsLane (opening_cut bits []) whole (lines_of lane lines) (get_or (puts ∷ looks ∷ []) lane default)
  each_runs zero default below = runs_puts
  each_runs (suc zero) default below = runs_looks
  each_runs (suc (suc lane)) default below = absurd (omega arith)

  lane_exists : (i : ℕ) → i < 3 → (get_or lines i (row_at 0 0 verb.Look, reply.Looked)).0.lane < 2
  lane_exists zero below = omega arith
  lane_exists (suc zero) below = omega arith
  lane_exists (suc (suc zero)) below = omega arith
  lane_exists (suc (suc (suc i))) below = absurd (omega arith)

  pub weight_seen : AllowedReport bits 2 [] (report_with 1 (put_and_query k w reply.New (verb.Weight k) (reply.Found (Some w))) 1 1 0) ((k, w) ∷ [])
  weight_seen = record {
    history = whole;
    is_history = two_history bits k is_key 1 w (omega arith);
    lanes = puts ∷ looks ∷ [];
    one_each = refl;
    of_lanes = All-from_get_or (λ (line : Row × Reply). line.0.lane < 2) lines (row_at 0 0 verb.Look, reply.Looked) lane_exists;
    runs = each_runs;
    tallies = one_tallies (opening_cut bits []) (key_at bits k is_key 1 w) k 1 w (first_change bits k is_key w);
    weigh = two_weigh bits k is_key 1 w (change k 1 w ∷ []) (0, omega arith, refl);
    closes = sym (pairs-key bits k is_key 1 w refl);
    size = refl;
    inserts = refl;
    removals = refl;
  }
