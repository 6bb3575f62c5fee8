use Rattle.std.proofs.Common.{[], ◌∷◌, ap, sym, ◌∙◌}
use Rattle.aug_model.specs.Keys.{keys_of}
use Rattle.aug_model.proofs.Rising.{is_wider}
use Rattle.aug_script.specs.declared.report.Report.{Report}
use Rattle.aug_trie.specs.Crew.{CrewFacts}
use Rattle.aug_trie.specs.Knowledge.{Knowledge}
use Rattle.aug_trie.specs.Round.{RoundFacts}
use Rattle.aug_run.proofs.Reports.{allowed, in_turn}
use Rattle.aug_run.specs.inside.Workers.{opening_cut_of}
use Rattle.aug_run.proofs.round.run_round.Goals as goal

pub run_lanes-requires-clause-begun : goal.run_lanes-requires-clause-begun
run_lanes-requires-clause-begun g c _ _ =
    let begun = c.in_ok-table.ensures.begun in let same = c.in_ok-table.ensures.together in
    let opens : RoundFacts → Knowledge = λ z. record { history = opening_cut_of z ∷ []; accepted = [] } in record {
      together = same;
      opening = ap (λ (z : CrewFacts). z.knows) begun.crew_is ∙ ap opens (sym begun.round_is ∙ same);
      none_out = ap (λ (z : CrewFacts). z.handed) begun.crew_is;
      none_back = ap (λ (z : CrewFacts). z.back) begun.crew_is;
    }

pub returns-clause-allowed : goal.returns-clause-allowed
returns-clause-allowed g c =
    let is = sym c.in_ok-table.ensures.together ∙ c.in_ok-table.ensures.begun.round_is in
    let report : Report = record { number = c.args.number; rows = c.from_vec.result; size = c.size.result; inserts = c.inserts.result; removals = c.removals.result } in
    let ran = rw c.as_slice-rows.ensures at c.in_ok-lines.ensures.ran in
    allowed c.args.round.now.bits c.args.limits.now.workers c.args.ended.members c.in_ok-table.table c.run_lanes.new.crew c.end-ended.result c.args.round.now.rows report
    (ap (λ (z : RoundFacts). z.bits) is) (ap (λ (z : RoundFacts). z.members) is) (ap (λ (z : RoundFacts). z.workers) is) (rw c.from_vec.ensures ran) c.end-ended.ensures.ends c.requires.kept.lanes c.size.ensures c.inserts.ensures c.removals.ensures

pub returns-clause-alone : goal.returns-clause-alone
returns-clause-alone g c =
    let is = sym c.in_ok-table.ensures.together ∙ c.in_ok-table.ensures.begun.round_is in
    let report : Report = record { number = c.args.number; rows = c.from_vec.result; size = c.size.result; inserts = c.inserts.result; removals = c.removals.result } in
    let ran = rw c.as_slice-rows.ensures at c.in_ok-lines.ensures.ran in
    in_turn c.args.round.now.bits c.args.limits.now.workers c.args.ended.members c.in_ok-table.table c.run_lanes.new.crew c.end-ended.result c.args.round.now.rows report
    (ap (λ (z : RoundFacts). z.bits) is) (ap (λ (z : RoundFacts). z.members) is) (ap (λ (z : RoundFacts). z.workers) is) (rw c.from_vec.ensures ran) c.end-ended.ensures.ends c.requires.kept.lanes c.size.ensures c.inserts.ensures c.removals.ensures
    (is_wider c.args.ended.bits c.args.round.now.bits (keys_of c.args.ended.members) c.requires.wider c.in_ok-table.ensures.keys)
