-- What the calls of a round say makes its report an allowed one.
use Rattle.std.proofs.Common.{◌≡◌, ℕ, zero, suc, ◌<◌, List, [], ◌∷◌, ◌++◌, length, get_or, refl, ap, sym, ◌∙◌, arith, All, append_assoc, subst}
use Rattle.std.proofs.lemmas.List.{append-nil}
use Rattle.aug_core.specs.Cuts.{Cut, opening_cut, pairs_of_cut}
use Rattle.aug_core.specs.Prefixes.{IsPrefix}
use Rattle.aug_trie.specs.History.{IsHistory, last_cut}
use Rattle.aug_core.specs.declared.view.Change.{Change}
use Rattle.aug_trie.specs.Knowledge.{Knowledge, inserts_of, removals_of}
use Rattle.aug_trie.specs.Tallies.{Tallies, TalliesWithLost, Weighs}
use Rattle.aug_report.specs.AllowedReport.{AllowedReport, Lane, Opens, AnswersAll, all_accepted, lines_of}
use Rattle.aug_run.specs.inside.RoundLanes.{BacksAll, Started}
use Rattle.aug_script.specs.declared.report.Report.{Report}
use Rattle.aug_report.proofs.Histories.{prefix-same}
use Rattle.aug_core.proofs.PrefixLemmas.{prefix_trans}
use Rattle.aug_trie.proofs.Tallying.{none_lost_tallies}
use Rattle.aug_trie.proofs.TallyLemmas.{none_lost_weighs}

backs_begin : (lanes : List Lane) (old new : Knowledge) → BacksAll lanes old new → IsPrefix old.history new.history
unfolding BacksAll
backs_begin [] old new backs = prefix-same old.history new.history (ap (λ (k : Knowledge). k.history) backs)
backs_begin (lane ∷ lanes) old new backs = prefix_trans old.history backs.0.history new.history backs.1.goes_on (backs_begin lanes backs.0 new backs.2)

backs_add : (lanes : List Lane) (old new : Knowledge) → BacksAll lanes old new → new.accepted ≡ old.accepted ++ all_accepted lanes
unfolding BacksAll
backs_add [] old new backs = ap (λ (k : Knowledge). k.accepted) backs ∙ sym (append-nil old.accepted)
backs_add (lane ∷ lanes) old new backs =
    backs_add lanes backs.0 new backs.2 ∙ ap (λ l. l ++ all_accepted lanes) backs.1.changes_of_both ∙ append_assoc old.accepted lane.knows.accepted (all_accepted lanes)

backs_know : (lanes : List Lane) (old new : Knowledge) → BacksAll lanes old new → (i : ℕ) (d : Lane) → i < length lanes → IsPrefix (get_or lanes i d).knows.history new.history
unfolding BacksAll
backs_know [] old new backs i d below = absurd (omega arith)
backs_know (lane ∷ lanes) old new backs zero d below = prefix_trans lane.knows.history backs.0.history new.history backs.1.takes_up (backs_begin lanes backs.0 new backs.2)
backs_know (lane ∷ lanes) old new backs (suc i) d below = backs_know lanes backs.0 new backs.2 i d (omega arith)

opens_of : (opening : Cut) (start : Lane) → Started opening start → Opens opening start
opens_of opening start s =
    let h = s.handed_out in
    record {
      sees_opening = prefix_trans (opening ∷ []) h.crew_old.history start.knows.history h.knew_opening
          (prefix_trans h.crew_old.history h.crew_new.history start.knows.history h.out.goes_on
          (prefix_trans h.crew_new.history s.pass.history start.knows.history (prefix-same h.crew_new.history s.pass.history (ap (λ (k : Knowledge). k.history) h.out.pass_knows)) s.takes.goes_on));
      no_change = s.takes.same_changes ∙ ap (λ (k : Knowledge). k.accepted) h.out.pass_knows;
      holds_last = s.takes.is_last;
    }

-- all passes were handed back: what the crew then knows makes the report allowed
pub round_allowed : (bits workers updates : ℕ) (members : List (ℕ × ℕ)) (report : Report) (crew final : Knowledge) (lanes : List Lane)
    → length lanes ≡ workers → All (λ line. line.0.lane < workers) report.rows
    → ((lane : ℕ) (default : Lane) → lane < workers → (start : Lane) × Started (opening_cut bits members) start × AnswersAll (lines_of lane report.rows) start (get_or lanes lane default))
    → crew.accepted ≡ [] → BacksAll lanes crew final
    → IsHistory bits members final.history → TalliesWithLost updates 0 (opening_cut bits members) (last_cut final.history) final.history final.accepted
    → report.size ≡ length (pairs_of_cut (last_cut final.history)) → report.inserts ≡ inserts_of final.accepted → report.removals ≡ removals_of final.accepted
    → AllowedReport bits workers members report (pairs_of_cut (last_cut final.history))
round_allowed bits workers updates members report crew final lanes one_each of_lanes ran nothing backs is_history tallies size inserts removals =
    let changes : final.accepted ≡ all_accepted lanes = backs_add lanes crew final backs ∙ ap (λ l. l ++ all_accepted lanes) nothing in
    record {
      history = final.history;
      is_history = is_history;
      lanes = lanes;
      one_each = one_each;
      of_lanes = of_lanes;
      runs = λ lane default below. let one = ran lane default below in record {
        start = one.0;
        opens = opens_of (opening_cut bits members) one.0 one.1;
        runs = one.2;
        of_history = backs_know lanes crew final backs lane default (omega (arith, one_each, below));
      };
      tallies = subst (λ (l : List Change). Tallies (opening_cut bits members) (last_cut final.history) l) changes (none_lost_tallies updates (opening_cut bits members) (last_cut final.history) final.history final.accepted tallies);
      weigh = subst (λ (l : List Change). All (Weighs (opening_cut bits members) l) final.history) changes (none_lost_weighs updates (opening_cut bits members) (last_cut final.history) final.history final.accepted tallies);
      closes = refl;
      size = size;
      inserts = inserts ∙ ap inserts_of changes;
      removals = removals ∙ ap removals_of changes;
    }
