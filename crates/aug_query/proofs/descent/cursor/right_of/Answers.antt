use Rattle.std.proofs.Common.{◌≡◌, ◌/◌, ◌^◌, ap, sym, ◌∙◌, refl, subst, arith}
use Rattle.aug_model.specs.Keys.{list_of}
use Rattle.aug_model.specs.Queries.{rank_of}
use Rattle.aug_query.proofs.Beside.{past_leaf}
use Rattle.aug_query.specs.inside.Paths.{IsPath}
use Rattle.aug_query.proofs.Descending.{still, further}
use Rattle.aug_query.proofs.Nodes.{top_end}
use Rattle.aug_query.proofs.Paths.{path_stays}
use Rattle.aug_query.proofs.Ways.{top_place}
use Rattle.aug_query.proofs.descent.cursor.right_of.Goals as goal

pub loop-level-init : goal.loop-level-init
loop-level-init g c = record {
  most = omega arith;
  rank = ap (rank_of (list_of (g.D.Descend.set_of c.args.tree.now))) (past_leaf c.args.key 0 refl);
  walk = still g.met.D.Descend.keeps_so;
}

pub right_at-requires-clause-path : goal.right_at-requires-clause-path
right_at-requires-clause-path g c =
    let walk = c.loop-level.invariant.walk in
    subst (λ s. IsPath (g.D.Descend.Names c.loop-level.tree) s.bits 0 c.args.key c.args.path.now) (sym walk.same_set) (path_stays _ _ _ _ walk.keeps_names c.requires.path)

pub returns-in-Some-clause-descends : goal.returns-in-Some-clause-descends
returns-in-Some-clause-descends g c =
    let some = c.loop-level-test.true in
    let all = c.bits-bits.ensures.value in
    further g.met.D.Descend.keeps_on c.loop-level.invariant.walk c.right_at.ensures.descends (omega (arith, some, all)) (omega (arith, some, all)) (omega arith) (omega arith)

pub returns-clause-none : goal.returns-clause-none
returns-clause-none g c =
    let inv = c.loop-level.invariant in
    let set = g.D.Descend.set_of c.args.tree.now in
    let level = c.loop-level.level in
    let all : level ≡ set.bits = omega (arith, inv.most, c.loop-level-test.false, c.bits-bits.ensures.value) in
    let top = top_end level (c.args.key / 2 ^ level) set.bits all (sym (top_place c.args.key level set.bits all c.requires.key)) in
    sym (ap (rank_of (list_of set)) top) ∙ inv.rank
