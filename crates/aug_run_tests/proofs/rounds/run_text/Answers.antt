use Rattle.std.proofs.Common.{◌≡◌, ◌∙◌, All, ap, arith, get_or, subst, sym}
use Rattle.std.proofs.lemmas.List.{get_or_default}
use Rattle.aug_trie.specs.Ended.{EndedFacts}
use Rattle.aug_script.specs.Limits.{bounds_at}
use Rattle.aug_script.specs.Script.{IsRunnable, KeepsLimits, NeverNarrows}
use Rattle.aug_script.specs.declared.script_round.ScriptRound.{ScriptRound}
use Rattle.aug_run_tests.proofs.rounds.run_text.Goals as goal

pub loop-round-init : goal.loop-round-init
loop-round-init g c =
    let all : All (IsRunnable c.in-Ok.limits) c.rounds-round-items.result.now = rw c.rounds-round-items.ensures c.in-Ok-read.ensures.kept in
    let bits = ap (λ (z : EndedFacts). z.bits) c.in-Ok-empty.ensures.empty in
    λ j d from below. omega (arith, bits, (all j d below).wider)

pub run_round-requires-clause-kept : goal.run_round-requires-clause-kept
run_round-requires-clause-kept g c κs within =
    let all : All (IsRunnable c.in-Ok.limits) c.rounds-round-items.result.now = rw c.rounds-round-items.ensures c.in-Ok-read.ensures.kept in
    let runnable = all c.loop-round.round-index c.round-item.result c.loop-round-test.true in
    subst (λ (round : ScriptRound). KeepsLimits (bounds_at c.in-Ok.limits round.bits) round.rows) (sym c.round-item.is) runnable.keeps

pub loop-round-preserved : goal.loop-round-preserved
loop-round-preserved g c =
    let rounds = c.rounds-round-items.result.now in let i = c.loop-round.round-index in let round = c.round-item.result in
    let narrows : NeverNarrows rounds = rw c.rounds-round-items.ensures c.in-Ok-read.ensures.never_narrows in
    λ j d from below.
    let here : round.bits ≡ (get_or rounds i d).bits = ap (λ (r : ScriptRound). r.bits) (c.round-item.is ∙ get_or_default rounds i round d c.loop-round-test.true) in
    omega (arith, c.in-Ok-run_round.ensures.bits, here, narrows i j d (omega arith) below)
