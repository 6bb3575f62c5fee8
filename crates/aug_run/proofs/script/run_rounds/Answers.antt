use Rattle.std.proofs.Common.{◌≡◌, ◌∙◌, ℕ, List, [], get_or, arith, ap, sym, subst, refl, Err}
use Rattle.std.proofs.lemmas.List.{get_or_default}
use Rattle.aug_script.specs.Limits.{bounds_at}
use Rattle.aug_script.specs.Script.{KeepsLimits}
use Rattle.aug_script.specs.declared.script_round.ScriptRound.{ScriptRound}
use Rattle.aug_report.specs.AllowedReport.{IsReportOf}
use Rattle.aug_run.proofs.Printing.{Printed, printed_none, prints_first, printed_more, prints_in_part}
use Rattle.aug_run.proofs.script.run_rounds.Goals as goal

pub returns-in_default-clause-memory : goal.returns-in_default-clause-memory
returns-in_default-clause-memory g c same =
    let first = prints_first c.args.limits.now c.args.rounds.now 0 [] _ _ (printed_none c.args.limits.now c.args.rounds.now _) in
    (first.0, first.1)

pub loop-round-init : goal.loop-round-init
loop-round-init g c = record {
  number = refl;
  printed = let state = g.W.Sink.state c.args.sink.now in
      subst (λ (z : List (ℕ × ℕ)). Printed c.args.limits.now c.args.rounds.now 0 z state state) (sym c.in-Ok.ensures.empty)
      (printed_none c.args.limits.now c.args.rounds.now state);
  bits = λ j d from below. omega (arith, c.in-Ok.ensures.bits, (c.requires.kept j d below).wider);
}

pub run_round-requires-clause-kept : goal.run_round-requires-clause-kept
run_round-requires-clause-kept g c _ _ =
    let runnable = c.requires.kept c.loop-round.round-index c.round-item.result c.loop-round-test.true in
    subst (λ (round : ScriptRound). KeepsLimits (bounds_at c.args.limits.now round.bits) round.rows) (sym c.round-item.is) runnable.keeps

pub returns-in_err-next-clause-memory : goal.returns-in_err-next-clause-memory
returns-in_err-next-clause-memory g c same =
    let first = prints_first c.args.limits.now c.args.rounds.now c.loop-round.round-index c.loop-round.ended.members _ _ c.loop-round.invariant.printed in
    (first.0, first.1)

pub returns-in-Err-OutOfMemory-clause-memory : goal.returns-in-Err-OutOfMemory-clause-memory
returns-in-Err-OutOfMemory-clause-memory g c same = let kept = c.in-Err-OutOfMemory.ensures.memory (λ j. Err (c.in-Err-OutOfMemory.field-0-is j)) in
    let first = prints_first c.args.limits.now c.args.rounds.now c.loop-round.round-index c.loop-round.ended.members _ _ c.loop-round.invariant.printed in
    (first.0, rw kept first.1)

pub returns-in-Err-Output-clause-part : goal.returns-in-Err-Output-clause-part
returns-in-Err-Output-clause-part g c same =
    let inv = c.loop-round.invariant in let ran = c.in_ok-next.ensures in let round = c.round-item.result in let report = c.in_ok-next.report in
    prints_in_part c.args.limits.now c.args.rounds.now c.loop-round.round-index c.loop-round.ended.members _ _ inv.printed round round report c.in_ok-next.next.members
    c.loop-round-test.true c.round-item.is (subst (λ (z : ℕ). IsReportOf z round.rows report) inv.number ran.report) ran.allowed
    _ (c.in-Err-Output.ensures.output (λ j. Err (c.in-Err-Output.field-0-is j)))

pub loop-round-preserved : goal.loop-round-preserved
loop-round-preserved g c =
    let rounds = c.args.rounds.now in let i = c.loop-round.round-index in let inv = c.loop-round.invariant in let ran = c.in_ok-next.ensures in
    let round = c.round-item.result in let report = c.in_ok-next.report in
    record {
      number = omega (arith, inv.number);
      printed = printed_more c.args.limits.now rounds i c.loop-round.ended.members _ _ inv.printed round round report c.in_ok-next.next.members c.loop-round-test.true c.round-item.is
          (subst (λ (z : ℕ). IsReportOf z round.rows report) inv.number ran.report) ran.allowed _ c.in-Ok-print.ensures.ok;
      bits = λ j d from below.
          let here : round.bits ≡ (get_or rounds i d).bits = ap (λ (r : ScriptRound). r.bits) (c.round-item.is ∙ get_or_default rounds i round d c.loop-round-test.true) in
          omega (arith, ran.bits, here, c.requires.never_narrows i j d (omega arith) below);
    }

pub returns-clause-ok : goal.returns-clause-ok
returns-clause-ok g c =
    let inv = c.loop-round.invariant in
    let whole = prints_first c.args.limits.now c.args.rounds.now c.loop-round.round-index c.loop-round.ended.members (g.W.Sink.state c.args.sink.now) (g.W.Sink.state c.loop-round.sink) inv.printed in
    (whole.0, whole.1, omega (arith, whole.2, whole.3, c.loop-round-test.false))
