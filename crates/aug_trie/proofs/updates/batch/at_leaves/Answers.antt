use Rattle.std.proofs.Common.{◌≡◌, ◌∙◌, ℕ, length, refl, subst, arith}
use Rattle.aug_core.specs.Faces.{face}
use Rattle.aug_trie.specs.inside.Batching.{LeftAll, IsAccountAfter}
use Rattle.aug_trie.proofs.LeavingAll.{left_none, may_leave, left_more}
use Rattle.aug_trie.proofs.updates.batch.at_leaves.Goals as goal

pub loop-place-init : goal.loop-place-init
loop-place-init g c = record { table = refl; left = left_none (face g.A.Monoid.parts g.B.Monoid.parts) c.args.keys.now c.args.requests.now c.args.pass.now.view c.args.account c.args.outcomes.now c.requires.pass.knows_table c.requires.outcomes c.requires.counts }

pub at_leaf-done-requires : goal.at_leaf-done-requires
at_leaf-done-requires g c = let may = may_leave (face g.A.Monoid.parts g.B.Monoid.parts) c.requires.keys c.requires.pass c.requires.budget c.loop-place-test.true c.loop-place.invariant.left in
    record { key = may.low; knows = c.loop-place.invariant.left.left.goes.knows_table; may = may.may }

pub after-account-requires : goal.after-account-requires
after-account-requires g c = let may = may_leave (face g.A.Monoid.parts g.B.Monoid.parts) c.requires.keys c.requires.pass c.requires.budget c.loop-place-test.true c.loop-place.invariant.left in
    record { records = may.records; some = may.some; inserts = may.inserts; removals = may.removals }

pub loop-place-preserved : goal.loop-place-preserved
loop-place-preserved g c = record {
  table = c.at_leaf-done.ensures.at.table ∙ c.loop-place.invariant.table;
  left = left_more (face g.A.Monoid.parts g.B.Monoid.parts) c.requires.keys c.requires.pass c.requires.budget c.loop-place-test.true c.loop-place.invariant.left refl c.at_leaf-done.ensures.at.view.0 c.after-account.ensures;
}

pub returns : goal.returns
returns g c = let test = c.loop-place-test.false in let end = c.loop-place.auto.place-end in let all : c.loop-place.place ≡ length c.args.keys.now = omega (arith, test, end) in let left = c.loop-place.invariant.left in record {
  table = c.loop-place.invariant.table;
  rest = left.rest;
  left = subst (λ (z : ℕ). LeftAll (face g.A.Monoid.parts g.B.Monoid.parts) c.args.keys.now c.args.requests.now c.loop-place.outcomes c.args.pass.now.view z c.loop-place.pass.view) all left.left;
  account = subst (λ (z : ℕ). IsAccountAfter z c.args.account c.loop-place.account) all left.account;
  counts = left.counts;
}
