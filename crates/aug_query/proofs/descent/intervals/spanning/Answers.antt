use Rattle.std.proofs.Common.{◌-◌, sym, ◌∙◌, subst, arith}
use Rattle.aug_query.proofs.Descending.{further, within}
use Rattle.aug_query.proofs.Inside.{place_order, top_place}
use Rattle.aug_query.proofs.descent.intervals.spanning.Goals as goal
use Rattle.aug_query.proofs.descent.intervals.spanning.Goals.{then-loop-level-test+else-a-level, else-loop-level-test}

pub loop-level-init : goal.loop-level-init
loop-level-init g c =
    let bits = c.bits-level.ensures.value in
    let level = c.bits-level.result in
    let first = top_place c.args.a level _ bits (omega (arith, c.requires.order, c.requires.keys)) in
    record {
      most = omega (arith, bits);
      name = subst (λ p. g.D.Descend.Names c.top-node.new.self level p c.top-node.result) (sym first) (subst (λ l. g.D.Descend.Names c.top-node.new.self l 0 c.top-node.result) (sym bits) c.top-node.ensures.name);
      both = first ∙ sym (top_place c.args.z level _ bits c.requires.keys);
      walk = within c.top-node.ensures.descends (omega (arith, bits)) (omega arith) (omega arith) (omega arith);
    }

pub returns-clause-lowest : goal.returns-clause-lowest
returns-clause-lowest g c inner =
    let order = place_order c.args.a c.args.z (c.loop-level.level - 1) c.requires.order in
    elim c.loop-level-test.branch [
      | then-loop-level-test+else-a-level w ↦ omega (arith, order, w.if-a-level.false)
      | else-loop-level-test w ↦ omega (arith, inner, w.loop-level-test.false)
    ]

pub overflow_shr-a : goal.overflow_shr-a
overflow_shr-a g c =
    let set = c.bits-level.ensures.set in
    let few = set.few_bits in
    omega (arith, few, c.bits-level.ensures.value, c.loop-level.invariant.most)

pub overflow_shr-z : goal.overflow_shr-z
overflow_shr-z g c =
    let set = c.bits-level.ensures.set in
    let few = set.few_bits in
    omega (arith, few, c.bits-level.ensures.value, c.loop-level.invariant.most)

pub loop-level-preserved : goal.loop-level-preserved
loop-level-preserved g c =
    let inv = c.loop-level.invariant in
    let step = c.toward-node.ensures in
    record {
      most = omega (arith, inv.most);
      name = step.name;
      both = c.if-a-level.true;
      walk = further g.met.D.Descend.keeps_on inv.walk step.descends (omega (arith, inv.most)) (omega arith) (omega arith) (omega arith);
    }

pub returns-clause-node : goal.returns-clause-node
returns-clause-node g c = record { descends = c.loop-level.invariant.walk; name = c.loop-level.invariant.name }
