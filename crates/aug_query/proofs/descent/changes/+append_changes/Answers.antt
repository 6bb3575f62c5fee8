use Rattle.std.proofs.Common.{◌≡◌, ◌+◌, ◌-◌, length, eqb-true, sym, ◌∙◌, arith}
use Rattle.aug_query.proofs.Changing.{changes_below, few_places, same_changes, passed_changes, both_changes, first_changes, last_changes, both_loads, first_loads, last_loads}
use Rattle.aug_query.proofs.Pages.{takes_none, takes_nothing}
use Rattle.aug_query.proofs.descent.changes.+append_changes.Goals as goal
use Rattle.aug_query.proofs.descent.changes.+append_changes.Goals.{then-is_full-via-then-is_full, then-is_full-via-else-is_full+then-from-level, then-is_full-via-else-is_full+else-from-level+then-same}

pub returns-then-is_full-clause-answer : goal.returns-then-is_full-clause-answer
returns-then-is_full-clause-answer g t c =
    let both = g.D.DescendBoth.both_of c.args.trees.now in
    let stand = g.met.D.DescendBoth.name_stands c.args.trees.now c.args.level c.args.place c.args.nodes.now c.requires in
    let old = c.args.page.now.items in
    let all = changes_below both c.args.from c.args.level c.args.place in
    elim c.then-is_full.branch [
      | then-is_full-via-then-is_full w ↦ takes_none (32 - length old) old all (omega (arith, eqb-true _ _ (sym w.if-is_full.ensures.value)))
      | then-is_full-via-else-is_full+then-from-level w ↦ takes_nothing (32 - length old) old all (passed_changes both c.args.from c.args.level c.args.place (omega (arith, w.if-from-level.true)))
      | then-is_full-via-else-is_full+else-from-level+then-same w ↦ takes_nothing (32 - length old) old all (same_changes both c.args.from c.args.level c.args.place stand (sym w.if-same.ensures))
    ]

pub overflow_mul-left : goal.overflow_mul-left
overflow_mul-left g t c =
    let few = few_places (g.D.DescendBoth.both_of c.args.trees.now) c.args.from c.args.level c.args.place (g.met.D.DescendBoth.name_stands c.args.trees.now c.args.level c.args.place c.args.nodes.now c.requires) in
    omega (arith, few)

pub overflow_add-left-2 : goal.overflow_add-left-2
overflow_add-left-2 g t c =
    let few = few_places (g.D.DescendBoth.both_of c.args.trees.now) c.args.from c.args.level c.args.place (g.met.D.DescendBoth.name_stands c.args.trees.now c.args.level c.args.place c.args.nodes.now c.requires) in
    omega (arith, few)

pub returns-then-from-level-2-clause-answer : goal.returns-then-from-level-2-clause-answer
returns-then-from-level-2-clause-answer g t c =
    let both = g.D.DescendBoth.both_of c.args.trees.now in let l = c.args.level - 1 in
    let e : l + 1 ≡ c.args.level = omega (arith, c.if-level-eq0.false) in
    last_changes c.args.from c.args.level l c.args.place e both (g.D.DescendBoth.both_of c.rights-children.new.self) c.args.page.now.items c.append_changes.new.page.items c.rights-children.ensures.descends.same_sets (omega (arith, c.if-from-level-2.true)) c.append_changes.ensures.answer

pub returns-then-from-level-2-clause-descends : goal.returns-then-from-level-2-clause-descends
returns-then-from-level-2-clause-descends g t c =
    let both = g.D.DescendBoth.both_of c.args.trees.now in let l = c.args.level - 1 in
    let e : l + 1 ≡ c.args.level = omega (arith, c.if-level-eq0.false) in
    last_loads g.met.D.DescendBoth.keeps_on c.args.from c.args.level l c.args.place e both both (g.D.DescendBoth.both_of c.rights-children.new.self) (sym c.if-same.ensures) (omega (arith, c.if-from-level.false)) c.rights-children.ensures.descends.same_sets c.rights-children.ensures.descends c.append_changes.ensures.descends

pub returns-then-is_full-2-clause-answer : goal.returns-then-is_full-2-clause-answer
returns-then-is_full-2-clause-answer g t c =
    let both = g.D.DescendBoth.both_of c.args.trees.now in let l = c.args.level - 1 in
    let e : l + 1 ≡ c.args.level = omega (arith, c.if-level-eq0.false) in
    let mid = c.append_changes-2.new.page.items in
    first_changes c.args.from c.args.level l c.args.place e both (g.D.DescendBoth.both_of c.lefts-children.new.self) c.args.page.now.items mid c.lefts-children.ensures.descends.same_sets (omega (arith, eqb-true _ _ (sym c.if-is_full-2.ensures.value))) c.append_changes-2.ensures.answer

pub returns-then-is_full-2-clause-descends : goal.returns-then-is_full-2-clause-descends
returns-then-is_full-2-clause-descends g t c =
    let both = g.D.DescendBoth.both_of c.args.trees.now in let l = c.args.level - 1 in
    let e : l + 1 ≡ c.args.level = omega (arith, c.if-level-eq0.false) in
    first_loads g.met.D.DescendBoth.keeps_on c.args.from c.args.level l c.args.place e both (g.D.DescendBoth.both_of c.lefts-children.new.self) both (sym c.if-same.ensures) (omega (arith, c.if-from-level.false)) c.lefts-children.ensures.descends.same_sets c.lefts-children.ensures.descends c.append_changes-2.ensures.descends

pub returns-clause-answer : goal.returns-clause-answer
returns-clause-answer g t c =
    let both = g.D.DescendBoth.both_of c.args.trees.now in let l = c.args.level - 1 in
    let e : l + 1 ≡ c.args.level = omega (arith, c.if-level-eq0.false) in
    let low = c.lefts-children.ensures.descends.same_sets in
    let high = c.rights-children-2.ensures.descends.same_sets ∙ c.append_changes-2.ensures.descends.same_sets ∙ low in
    both_changes c.args.from c.args.level l c.args.place e both (g.D.DescendBoth.both_of c.lefts-children.new.self) (g.D.DescendBoth.both_of c.rights-children-2.new.self) c.args.page.now.items c.append_changes-2.new.page.items c.append_changes-3.new.page.items low high
    c.append_changes-2.ensures.answer c.append_changes-3.ensures.answer

pub returns-clause-descends : goal.returns-clause-descends
returns-clause-descends g t c =
    let both = g.D.DescendBoth.both_of c.args.trees.now in let l = c.args.level - 1 in
    let e : l + 1 ≡ c.args.level = omega (arith, c.if-level-eq0.false) in
    let low = c.lefts-children.ensures.descends.same_sets in
    let high = c.rights-children-2.ensures.descends.same_sets ∙ c.append_changes-2.ensures.descends.same_sets ∙ low in
    both_loads g.met.D.DescendBoth.keeps_on c.args.from c.args.level l c.args.place e both (g.D.DescendBoth.both_of c.lefts-children.new.self) (g.D.DescendBoth.both_of c.rights-children-2.new.self) (sym c.if-same.ensures) (omega (arith, c.if-from-level.false)) low high c.lefts-children.ensures.descends c.append_changes-2.ensures.descends c.rights-children-2.ensures.descends c.append_changes-3.ensures.descends
