use Rattle.std.proofs.Common.{◌≡◌, ◌∙◌, ◌*◌, ◌<◌, ◌^◌, ℕ, All, length, sym, ap, subst, arith}
use Rattle.aug_core.specs.Faces.{face}
use Rattle.aug_core.specs.Places.{Shape}
use Rattle.aug_trie.specs.inside.Goes.{HasLeaves}
use Rattle.aug_trie.specs.inside.LastingRuns.{MakesRun, each_steps}
use Rattle.aug_trie.proofs.LastingRuns.{ends_scanned, makes_less, makes_more, makes_none, puts_none, puts_on}
use Rattle.aug_trie.proofs.lasting.runs.update_runs.Goals as goal

pub loop-made-init : goal.loop-made-init
loop-made-init g c = record {
  keeps = c.requires.keeps;
  none = c.requires.none;
  rests = c.requires.rests;
  few = omega arith;
  puts = puts_none 0 c.args.outcomes.now;
  makes = makes_none (face g.A.Monoid.parts g.B.Monoid.parts) c.args.keys.now c.args.requests.now c.args.outcomes.now c.args.pass.now.view c.requires.keeps.knows_table;
}

pub update_run-requires : goal.update_run-requires
update_run-requires g c = let inv = c.loop-made.invariant in let shaped = c.has_room.ensures.works.goes.shaped ∙ inv.makes.works.goes.shaped in let run = c.run_end-to.ensures in let long = inv.puts.long in let some = c.requires.outcomes in record {
  keeps = c.has_room.ensures.keeps;
  leaves = subst (λ (z : Shape). HasLeaves z c.args.leaves) (sym shaped) c.requires.leaves;
  bits = c.requires.bits ∙ ap (λ (z : Shape). z.bits) (sym shaped);
  keys = subst (λ (z : Shape). All (λ (k : ℕ). k < 2 ^ z.bits) c.args.keys.now) (sym shaped) c.requires.keys;
  begins = run.begins;
  ends = run.ends;
  requests = c.requires.requests;
  outcomes = omega arith;
  records = (let room = run.records in let is = c.free-free.ensures in omega (arith, room, is));
  none = c.has_room.ensures.none;
}

pub loop-made-preserved : goal.loop-made-preserved
loop-made-preserved g c = let f = face g.A.Monoid.parts g.B.Monoid.parts in let inv = c.loop-made.invariant in let run = c.run_end-to.ensures in let done = c.update_run.ensures in let begins = run.begins in record {
  keeps = done.keeps;
  none = done.none;
  rests = done.rests;
  few = run.ends;
  puts = puts_on (omega arith) (omega arith) inv.puts done.puts;
  makes = makes_more f c.requires.keys run.begins run.ends inv.makes c.has_room.ensures.works done.makes done.puts;
}

pub returns-then-not-has_room-clause-makes : goal.returns-then-not-has_room-clause-makes
returns-then-not-has_room-clause-makes g c = makes_less (face g.A.Monoid.parts g.B.Monoid.parts) c.requires.keys c.loop-made-test.true c.loop-made.invariant.makes c.has_room.ensures.works

pub returns-then-not-has_room-clause-full : goal.returns-then-not-has_room-clause-full
returns-then-not-has_room-clause-full g c = λ less. let no_room = c.has_room.ensures.full c.if-not-has_room.true in (no_room.0, ends_scanned (face g.A.Monoid.parts g.B.Monoid.parts) c.loop-made.invariant.makes.works no_room.1)

pub returns : goal.returns
returns g c = let inv = c.loop-made.invariant in let test = c.loop-made-test.false in let few = inv.few in let all : c.loop-made.made ≡ length c.args.keys.now = omega arith in record {
  keeps = inv.keeps;
  none = inv.none;
  rests = inv.rests;
  few = inv.few;
  puts = inv.puts;
  makes = subst (λ (z : ℕ). MakesRun (face g.A.Monoid.parts g.B.Monoid.parts) c.args.keys.now c.args.requests.now c.loop-made.outcomes 0 c.loop-made.made (z * each_steps c.args.pass.now.view.shape) c.args.pass.now.view c.loop-made.pass.view) all inv.makes;
  full = λ less. absurd (omega (arith, all, less));
}
