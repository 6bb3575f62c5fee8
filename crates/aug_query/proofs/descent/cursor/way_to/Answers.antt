use Rattle.std.proofs.Common.{◌≡◌, ◌-◌, ◌/◌, ◌^◌, ap, sym, ◌∙◌, subst, arith, rules}
use Rattle.aug_query.proofs.Descending.{further, within}
use Rattle.aug_query.proofs.Paths.{path_empty, path_leaf, path_stays, path_pushed, place_above}
use Rattle.aug_query.proofs.Ways.{top_place}
use Rattle.aug_query.proofs.descent.cursor.way_to.Goals as goal

pub loop-level-init : goal.loop-level-init
loop-level-init g c =
    let bits = c.bits-level.ensures.value in
    let start = subst (λ l. g.D.Descend.Names c.top-node.new.self l 0 c.top-node.result) (sym bits) c.top-node.ensures.name in
    record {
      most = omega (arith, bits);
      node = subst (λ p. g.D.Descend.Names c.top-node.new.self c.bits-level.result p c.top-node.result) (top_place c.args.key _ _ bits c.requires.key) start;
      path = path_empty _ _ _ _ c.requires.empty bits;
      walk = within c.top-node.ensures.descends (omega (arith, bits)) (omega arith) (omega arith) (omega arith);
    }

pub loop-level-preserved : goal.loop-level-preserved
loop-level-preserved g c =
    let inv = c.loop-level.invariant in
    let level = c.loop-level.level in
    let step = c.toward-child.ensures in
    let keeps = step.descends.keeps_names in
    record {
      most = omega (arith, inv.most);
      node = step.name;
      path = path_pushed _ level (level - 1) (c.args.key / 2 ^ level) (c.args.key / 2 ^ (level - 1)) _ _ c.loop-level.node (omega (arith, c.loop-level-test.true)) (path_stays _ _ _ _ keeps inv.path) (keeps _ _ c.loop-level.node inv.node) (place_above c.args.key level c.loop-level-test.true) c.push.ensures.items;
      walk = further g.met.D.Descend.keeps_on inv.walk step.descends (omega (arith, inv.most, c.loop-level-test.true)) (omega arith) (omega arith) (omega arith);
    }

pub returns-clause-leaf : goal.returns-clause-leaf
returns-clause-leaf g c = record { descends = within c.loop-level.invariant.walk (omega arith) (omega arith) (omega arith) (omega arith); name = search rules }

pub returns-clause-path : goal.returns-clause-path
returns-clause-path g c =
    let leaf : c.loop-level.level ≡ 0 = omega (arith, c.loop-level-test.false) in
    let place : c.args.key / 2 ^ c.loop-level.level ≡ c.args.key = ap (λ l. c.args.key / 2 ^ l) leaf ∙ omega arith in
    path_leaf _ _ _ _ _ leaf place c.loop-level.invariant.path
