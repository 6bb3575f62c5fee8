use Rattle.std.proofs.Common.{◌≡◌, ◌∙◌, ◌<◌, ◌≤◌, ℕ, length, refl, subst, arith}
use Rattle.aug_core.specs.Faces.{face}
use Rattle.aug_trie.specs.inside.LastingRuns.{LeavesRun, PutsRun}
use Rattle.aug_trie.proofs.LastingRuns.{leaves_none, leaves_more, next_low, next_may, puts_none, puts_one}
use Rattle.aug_trie.proofs.lasting.runs.leave_run.Goals as goal

pub loop-place-init : goal.loop-place-init
loop-place-init g c = record { begun = omega arith; table = refl; puts = puts_none c.args.from c.args.outcomes.now; leaves = leaves_none (face g.A.Monoid.parts g.B.Monoid.parts) c.args.keys.now c.args.requests.now c.args.outcomes.now c.args.from c.args.pass.now.view c.requires.knows }

pub at_leaf-done-requires : goal.at_leaf-done-requires
at_leaf-done-requires g c = let test = c.loop-place-test.true in let ends = c.requires.ends in let puts = c.loop-place.invariant.puts in let long = puts.long in let some = c.requires.outcomes in let r = c.loop-place.invariant.leaves in let f = face g.A.Monoid.parts g.B.Monoid.parts in
    let within : c.loop-place.place < length c.args.keys.now = omega arith in let fits : length c.args.keys.now ≤ length c.loop-place.outcomes = omega arith in
    record { key = next_low f c.requires.keys within fits r; knows = r.works.goes.knows_table; may = next_may f c.requires.keys within fits r c.requires.used c.requires.may }

pub loop-place-preserved : goal.loop-place-preserved
loop-place-preserved g c = let test = c.loop-place-test.true in let ends = c.requires.ends in let puts = c.loop-place.invariant.puts in let long = puts.long in let some = c.requires.outcomes in let r = c.loop-place.invariant.leaves in let begun = c.loop-place.invariant.begun in let f = face g.A.Monoid.parts g.B.Monoid.parts in
    let within : c.loop-place.place < length c.args.keys.now = omega arith in let fits : length c.args.keys.now ≤ length c.loop-place.outcomes = omega arith in record {
      begun = omega arith;
      table = c.at_leaf-done.ensures.at.table ∙ c.loop-place.invariant.table;
      puts = puts_one c.at_leaf-done.result.outcome begun puts;
      leaves = leaves_more f c.requires.keys within fits r refl c.at_leaf-done.ensures.at.view.0;
    }

pub returns : goal.returns
returns g c = let test = c.loop-place-test.false in let end = c.loop-place.auto.place-end in let begins = c.requires.begins in let begun = c.loop-place.invariant.begun in let all : c.loop-place.place ≡ c.args.to = omega arith in record {
  table = c.loop-place.invariant.table;
  puts = subst (λ (z : ℕ). PutsRun c.args.from z c.args.outcomes.now c.loop-place.outcomes) all c.loop-place.invariant.puts;
  leaves = subst (λ (z : ℕ). LeavesRun (face g.A.Monoid.parts g.B.Monoid.parts) c.args.keys.now c.args.requests.now c.loop-place.outcomes c.args.from z c.args.pass.now.view c.loop-place.pass.view) all c.loop-place.invariant.leaves;
}
