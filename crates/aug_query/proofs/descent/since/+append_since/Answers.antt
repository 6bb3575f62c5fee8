use Rattle.std.proofs.Common.{◌≡◌, inl, inr, ℕ, ◌+◌, ◌-◌, ◌*◌, ◌<◌, length, eqb-true, sym, ap, ◌∙◌, subst, arith}
use Rattle.aug_query.proofs.Changing.{changes_below, passed_changes, both_changes, first_changes}
use Rattle.aug_query.proofs.Choosing.{child_fits, count_of, left_few, right_count}
use Rattle.aug_query.proofs.Merging.{beside, passed_place, empty_place, empty_changes, some_below, first_place, second_place, last_place, none_under, both_load, first_load}
use Rattle.aug_query.proofs.Pages.{takes_none, takes_nothing}
use Rattle.std.proofs.lemmas.Bool.{eqb-false}
use Rattle.aug_model.proofs.Ranges.{rises_from}
use Rattle.aug_query.proofs.descent.since.+append_since.Goals as goal
use Rattle.aug_query.proofs.descent.since.+append_since.Goals.{then-is_full-via-then-is_full, then-is_full-via-else-is_full+then-from-level, else-count-eq0-via-then-count-eq0+else-not-is_under, else-count-eq0-via-else-count-eq0}

pub returns-then-is_full-clause-answer : goal.returns-then-is_full-clause-answer
returns-then-is_full-clause-answer g t c =
    let both = beside (g.L.MemberList.set_of c.args.list.now) (g.D.Descend.set_of c.args.tree.now) in
    let old = c.args.merge.now.page.items in
    let all = changes_below both c.args.from c.args.level c.args.place in
    elim c.then-is_full.branch [
      | then-is_full-via-then-is_full w ↦ takes_none (32 - length old) old all (omega (arith, eqb-true _ _ (sym w.if-is_full.ensures.value)))
      | then-is_full-via-else-is_full+then-from-level w ↦ takes_nothing (32 - length old) old all (passed_changes both c.args.from c.args.level c.args.place (omega (arith, w.if-from-level.true)))
    ]

pub returns-then-is_full-clause-next : goal.returns-then-is_full-clause-next
returns-then-is_full-clause-next g t c room =
    elim c.then-is_full.branch [
      | then-is_full-via-then-is_full w ↦ absurd (omega (arith, room, eqb-true _ _ (sym w.if-is_full.ensures.value)))
      | then-is_full-via-else-is_full+then-from-level w ↦ passed_place _ c.args.from c.args.level c.args.place c.args.merge.now.next (omega (arith, w.if-from-level.true)) c.requires.next
    ]

pub is_under-requires : goal.is_under-requires
is_under-requires g t c = let node = g.met.D.Descend.name_stands c.args.tree.now _ _ c.args.node.now c.requires.node.name in omega (arith, node.level_fits, node.is_tree_set.few_bits)

pub returns-then-not-is_under-clause-answer : goal.returns-then-not-is_under-clause-answer
returns-then-not-is_under-clause-answer g t c =
    let earlier = g.L.MemberList.set_of c.args.list.now in let set = g.D.Descend.set_of c.args.tree.now in
    let node = g.met.D.Descend.name_stands c.args.tree.now _ _ c.args.node.now c.requires.node.name in
    let old = c.args.merge.now.page.items in
    takes_nothing (32 - length old) old _ (empty_changes earlier set c.args.from c.args.level c.args.place c.args.merge.now.next c.requires.rising c.requires.next c.if-from-level.false (none_under earlier.pairs c.args.merge.now.next c.args.level c.args.place c.is_under.ensures c.if-not-is_under.true) c.args.count node.is_tree_set c.requires.node.count c.if-count-eq0.true)

pub returns-then-not-is_under-clause-next : goal.returns-then-not-is_under-clause-next
returns-then-not-is_under-clause-next g t c room =
    let earlier = g.L.MemberList.set_of c.args.list.now in
    empty_place earlier (g.D.Descend.set_of c.args.tree.now) c.args.from c.args.level c.args.place c.args.merge.now.next c.requires.rising c.requires.next c.if-from-level.false (none_under earlier.pairs c.args.merge.now.next c.args.level c.args.place c.is_under.ensures c.if-not-is_under.true)

pub overflow_mul-place : goal.overflow_mul-place
overflow_mul-place g t c =
    let node = g.met.D.Descend.name_stands c.args.tree.now _ _ c.args.node.now c.requires.node.name in
    omega (arith, child_fits (g.D.Descend.set_of c.args.tree.now) c.args.level (c.args.level - 1) c.args.place node.is_tree_set (omega (arith, c.if-level-eq0.false)) node.place_fits)

pub overflow_mul-place-2 : goal.overflow_mul-place-2
overflow_mul-place-2 g t c =
    let node = g.met.D.Descend.name_stands c.args.tree.now _ _ c.args.node.now c.requires.node.name in
    omega (arith, child_fits (g.D.Descend.set_of c.args.tree.now) c.args.level (c.args.level - 1) c.args.place node.is_tree_set (omega (arith, c.if-level-eq0.false)) node.place_fits)

pub append_since-requires : goal.append_since-requires
append_since-requires g t c κs lives =
    let l = c.args.level - 1 in
    let name = c.count-some.ensures.descends.keeps_names _ _ _ c.left-left.ensures.name in
    let count = count_of (g.D.Descend.set_of c.count-some.new.self) (g.D.Descend.set_of c.left-left.new.self) l (2 * c.args.place) c.count-some.result (sym c.count-some.ensures.descends.same_set) c.count-some.ensures.value in
    let next = first_place c.args.from c.args.level l c.args.place (omega (arith, c.if-level-eq0.false)) _ c.args.merge.now.next c.requires.next in
    (omega (arith, c.decreases, c.if-level-eq0.false), (lives.0, (lives.1.0, (lives.1.1.0, (lives.1.1.1.0, (lives.1.1.1.1, (record { name = name; count = count }, (c.requires.rising, next))))))))

pub returns-then-is_full-2-clause-answer : goal.returns-then-is_full-2-clause-answer
returns-then-is_full-2-clause-answer g t c =
    let earlier = g.L.MemberList.set_of c.args.list.now in let set = g.D.Descend.set_of c.args.tree.now in let low = g.D.Descend.set_of c.count-some.new.self in
    let same = c.count-some.ensures.descends.same_set ∙ c.left-left.ensures.descends.same_set in
    first_changes c.args.from c.args.level (c.args.level - 1) c.args.place (omega (arith, c.if-level-eq0.false)) (beside earlier set) (beside earlier low) c.args.merge.now.page.items c.append_since.new.merge.page.items
    (ap (beside earlier) same) (omega (arith, eqb-true _ _ (sym c.if-is_full-2.ensures.value))) c.append_since.ensures.answer

pub returns-then-is_full-2-clause-descends : goal.returns-then-is_full-2-clause-descends
returns-then-is_full-2-clause-descends g t c =
    let earlier = g.L.MemberList.set_of c.args.list.now in let set = g.D.Descend.set_of c.args.tree.now in
    let node = g.met.D.Descend.name_stands c.args.tree.now _ _ c.args.node.now c.requires.node.name in
    let same = c.count-some.ensures.descends.same_set ∙ c.left-left.ensures.descends.same_set in
    let some = some_below earlier set c.args.from c.args.level c.args.place c.args.merge.now.next c.args.count c.requires.rising c.requires.next c.if-from-level.false c.requires.node.count (elim c.else-count-eq0.branch [
      | else-count-eq0-via-then-count-eq0+else-not-is_under w ↦ inr (w.is_under.ensures.0 w.if-not-is_under.false)
      | else-count-eq0-via-else-count-eq0 w ↦ inl w.if-count-eq0.false
    ]) in
    first_load c.args.from c.args.level (c.args.level - 1) c.args.place (omega (arith, c.if-level-eq0.false)) g.met.D.Descend.keeps_on earlier set (g.D.Descend.set_of c.count-some.new.self) set (rises_from _ c.requires.rising) node.is_tree_set same some
    c.left-left.ensures.descends c.count-some.ensures.descends c.append_since.ensures.descends

pub right-right-requires : goal.right-right-requires
right-right-requires g t c =
    let there : c.args.level - 1 + 1 ≡ c.args.level = omega (arith, c.if-level-eq0.false) in
    subst (λ (z : ℕ). g.D.Descend.Names c.append_since.new.tree z c.args.place c.args.node.now) (sym there)
    (c.append_since.ensures.descends.keeps_names _ _ _ (c.count-some.ensures.descends.keeps_names _ _ _ (c.left-left.ensures.descends.keeps_names _ _ _ c.requires.node.name)))

pub overflow_mul-place-3 : goal.overflow_mul-place-3
overflow_mul-place-3 g t c =
    let node = g.met.D.Descend.name_stands c.args.tree.now _ _ c.args.node.now c.requires.node.name in
    omega (arith, child_fits (g.D.Descend.set_of c.args.tree.now) c.args.level (c.args.level - 1) c.args.place node.is_tree_set (omega (arith, c.if-level-eq0.false)) node.place_fits)

pub overflow_add-place : goal.overflow_add-place
overflow_add-place g t c =
    let node = g.met.D.Descend.name_stands c.args.tree.now _ _ c.args.node.now c.requires.node.name in
    omega (arith, child_fits (g.D.Descend.set_of c.args.tree.now) c.args.level (c.args.level - 1) c.args.place node.is_tree_set (omega (arith, c.if-level-eq0.false)) node.place_fits)

pub overflow_sub-count : goal.overflow_sub-count
overflow_sub-count g t c =
    let node = g.met.D.Descend.name_stands c.args.tree.now _ _ c.args.node.now c.requires.node.name in
    left_few (g.D.Descend.set_of c.args.tree.now) (g.D.Descend.set_of c.left-left.new.self) c.args.level (c.args.level - 1) c.args.place c.args.count c.count-some.result node.is_tree_set (omega (arith, c.if-level-eq0.false)) c.left-left.ensures.descends.same_set c.requires.node.count c.count-some.ensures.value

pub append_since-requires-2 : goal.append_since-requires-2
append_since-requires-2 g t c κs lives =
    let set = g.D.Descend.set_of c.args.tree.now in
    let node = g.met.D.Descend.name_stands c.args.tree.now _ _ c.args.node.now c.requires.node.name in
    let same = c.right-right.ensures.descends.same_set ∙ c.append_since.ensures.descends.same_set ∙ c.count-some.ensures.descends.same_set ∙ c.left-left.ensures.descends.same_set in
    let count = right_count set (g.D.Descend.set_of c.left-left.new.self) (g.D.Descend.set_of c.right-right.new.self) c.args.level (c.args.level - 1) c.args.place c.args.count c.count-some.result node.is_tree_set (omega (arith, c.if-level-eq0.false)) c.left-left.ensures.descends.same_set same c.requires.node.count c.count-some.ensures.value in
    let room : length c.append_since.new.merge.page.items < 32 = omega (arith, eqb-false _ _ (sym c.if-is_full-2.ensures.value), c.is_full-2.ensures.fits) in
    let next = second_place c.args.from c.args.level (c.args.level - 1) c.args.place (omega (arith, c.if-level-eq0.false)) _ c.append_since.new.merge.next (c.append_since.ensures.next room) in
    (omega (arith, c.decreases, c.if-level-eq0.false), (lives.0, (lives.1.0, (lives.1.1.0, (lives.1.1.1.0, (lives.1.1.1.1, (record { name = c.right-right.ensures.name; count = count }, (c.requires.rising, next))))))))

pub returns-clause-answer : goal.returns-clause-answer
returns-clause-answer g t c =
    let earlier = g.L.MemberList.set_of c.args.list.now in let set = g.D.Descend.set_of c.args.tree.now in
    let low = c.count-some.ensures.descends.same_set ∙ c.left-left.ensures.descends.same_set in
    let high = c.right-right.ensures.descends.same_set ∙ c.append_since.ensures.descends.same_set ∙ low in
    both_changes c.args.from c.args.level (c.args.level - 1) c.args.place (omega (arith, c.if-level-eq0.false)) (beside earlier set) (beside earlier (g.D.Descend.set_of c.count-some.new.self)) (beside earlier (g.D.Descend.set_of c.right-right.new.self))
    c.args.merge.now.page.items c.append_since.new.merge.page.items c.append_since-2.new.merge.page.items (ap (beside earlier) low) (ap (beside earlier) high) c.append_since.ensures.answer c.append_since-2.ensures.answer

pub returns-clause-next : goal.returns-clause-next
returns-clause-next g t c room = last_place c.args.from c.args.level (c.args.level - 1) c.args.place (omega (arith, c.if-level-eq0.false)) _ c.append_since-2.new.merge.next (c.append_since-2.ensures.next room)

pub returns-clause-descends : goal.returns-clause-descends
returns-clause-descends g t c =
    let earlier = g.L.MemberList.set_of c.args.list.now in let set = g.D.Descend.set_of c.args.tree.now in
    let node = g.met.D.Descend.name_stands c.args.tree.now _ _ c.args.node.now c.requires.node.name in
    let low = c.count-some.ensures.descends.same_set ∙ c.left-left.ensures.descends.same_set in
    let high = c.right-right.ensures.descends.same_set ∙ c.append_since.ensures.descends.same_set ∙ low in
    let some = some_below earlier set c.args.from c.args.level c.args.place c.args.merge.now.next c.args.count c.requires.rising c.requires.next c.if-from-level.false c.requires.node.count (elim c.else-count-eq0.branch [
      | else-count-eq0-via-then-count-eq0+else-not-is_under w ↦ inr (w.is_under.ensures.0 w.if-not-is_under.false)
      | else-count-eq0-via-else-count-eq0 w ↦ inl w.if-count-eq0.false
    ]) in
    both_load c.args.from c.args.level (c.args.level - 1) c.args.place (omega (arith, c.if-level-eq0.false)) g.met.D.Descend.keeps_on earlier set (g.D.Descend.set_of c.count-some.new.self) (g.D.Descend.set_of c.right-right.new.self) (rises_from _ c.requires.rising) node.is_tree_set low some high
    c.left-left.ensures.descends c.count-some.ensures.descends c.append_since.ensures.descends c.right-right.ensures.descends c.append_since-2.ensures.descends
