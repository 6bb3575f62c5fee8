use Rattle.std.proofs.Common.{◌⊎◌, inl, inr, ℕ, true≢false, eqb-true, refl, ◌≡◌, ◌+◌, ◌-◌, ◌<◌, List, ◌++◌, length, take, ap, sym, ◌∙◌, arith}
use Rattle.std.proofs.lemmas.Bool.{eqb-false}
use Rattle.aug_model.specs.Keys.{SetFacts, list_of}
use Rattle.aug_model.specs.NodeKeys.{first_key, end_key, keys_below}
use Rattle.aug_query.specs.Tree.{IsTreeSet}
use Rattle.aug_query.specs.declared.descent.pages.Stretch.{Stretch}
use Rattle.aug_query.specs.inside.Pages.{Reaches, place_of_first, place_of_second, part_of}
use Rattle.aug_query.proofs.Pages.{part_none, part_leaf, second_count, take_one, takes_none, takes_nothing, some_given, both_given, both_descend, first_descends, part_empty}
use Rattle.aug_query.proofs.descent.pages.+append_members.Goals as goal
use Rattle.aug_query.proofs.descent.pages.+append_members.Goals.{then-count-eq0-via-then-count-eq0, then-count-eq0-via-else-count-eq0+then-is_full, then-some-count-via-then-some-count, then-some-count-via-else-some-count+then-is_full-2}

pub returns-then-count-eq0-clause-answer : goal.returns-then-count-eq0-clause-answer
returns-then-count-eq0-clause-answer g t c =
    let node = g.met.D.Descend.name_stands c.args.tree.now _ _ c.args.node.now c.requires.name in
    let old = c.args.page.now.items in
    elim c.then-count-eq0.branch [
      | then-count-eq0-via-then-count-eq0 w ↦ takes_nothing (32 - length old) old _ (part_empty (g.D.Descend.set_of c.args.tree.now) c.args.stretch c.args.level c.args.place c.args.count node.is_tree_set c.requires.count w.if-count-eq0.true)
      | then-count-eq0-via-else-count-eq0+then-is_full w ↦ takes_none (32 - length old) old _ (omega (arith, eqb-true _ _ (sym w.if-is_full.ensures.value)))
    ]

pub returns-then-not-reaches-clause-answer : goal.returns-then-not-reaches-clause-answer
returns-then-not-reaches-clause-answer g t c =
    let node = g.met.D.Descend.name_stands c.args.tree.now _ _ c.args.node.now c.requires.name in
    let old = c.args.page.now.items in
    takes_nothing (32 - length old) old _ (part_none (g.D.Descend.set_of c.args.tree.now) c.args.stretch _ _ node.is_tree_set (λ h. true≢false (sym (c.if-not-reaches.ensures.1 h))))

pub returns-then-level-eq0-clause-answer : goal.returns-then-level-eq0-clause-answer
returns-then-level-eq0-clause-answer g t c =
    let node = g.met.D.Descend.name_stands c.args.tree.now _ _ c.args.node.now c.requires.name in
    let old = c.args.page.now.items in
    let room : 0 < 32 - length old = omega (arith, eqb-false _ _ (sym c.if-is_full.ensures.value), c.is_full.ensures.fits) in
    let reaches : Reaches c.args.stretch (first_key c.args.level c.args.place) (end_key c.args.level c.args.place) = c.if-not-reaches.ensures.0 refl in
    let leaf = part_leaf (g.D.Descend.set_of c.args.tree.now) c.args.stretch c.args.level c.args.place c.args.count c.weight.result node.is_tree_set c.if-level-eq0.true reaches c.requires.count c.if-count-eq0.false c.weight.ensures in
    c.push.ensures.items ∙ ap (λ xs. old ++ xs) (sym (ap (take (32 - length old)) leaf ∙ take_one (32 - length old) (c.args.place, c.weight.result) room))

pub overflow_sub-count : goal.overflow_sub-count
overflow_sub-count g t c =
    let set = g.D.Descend.set_of c.args.tree.now in
    let node = g.met.D.Descend.name_stands c.args.tree.now _ _ c.args.node.now c.requires.name in
    let low = c.first_child-child.ensures.child.descends.same_set in
    let high = c.second_child-child.ensures.child.descends.same_set ∙ c.append_members.ensures.descends.same_set ∙ c.count-some.ensures.descends.same_set ∙ low in
    let both = second_count c.args.level (c.args.level - 1) c.args.place (omega (arith, c.if-level-eq0.false)) set (g.D.Descend.set_of c.first_child-child.new.tree) (g.D.Descend.set_of c.second_child-child.new.tree) c.args.stretch c.first_child-child.result.1 c.second_child-child.result.1 c.args.count c.count-some.result node.is_tree_set low high c.first_child-child.ensures.place c.second_child-child.ensures.place c.requires.count c.count-some.ensures.value in
    both.0

pub append_members-requires-2 : goal.append_members-requires-2
append_members-requires-2 g t c κs lives =
    let set = g.D.Descend.set_of c.args.tree.now in
    let node = g.met.D.Descend.name_stands c.args.tree.now _ _ c.args.node.now c.requires.name in
    let low = c.first_child-child.ensures.child.descends.same_set in
    let high = c.second_child-child.ensures.child.descends.same_set ∙ c.append_members.ensures.descends.same_set ∙ c.count-some.ensures.descends.same_set ∙ low in
    let both = second_count c.args.level (c.args.level - 1) c.args.place (omega (arith, c.if-level-eq0.false)) set (g.D.Descend.set_of c.first_child-child.new.tree) (g.D.Descend.set_of c.second_child-child.new.tree) c.args.stretch c.first_child-child.result.1 c.second_child-child.result.1 c.args.count c.count-some.result node.is_tree_set low high c.first_child-child.ensures.place c.second_child-child.ensures.place c.requires.count c.count-some.ensures.value in
    (omega (arith, c.decreases, c.if-level-eq0.false), (lives.0, (lives.1.0, (lives.1.1.0, (lives.1.1.1, record { name = c.second_child-child.ensures.child.name; count = both.1 })))))

pub returns-clause-answer : goal.returns-clause-answer
returns-clause-answer g t c =
    let set = g.D.Descend.set_of c.args.tree.now in
    let node = g.met.D.Descend.name_stands c.args.tree.now _ _ c.args.node.now c.requires.name in
    let low = c.count-some.ensures.descends.same_set ∙ c.first_child-child.ensures.child.descends.same_set in
    let high = c.second_child-child.ensures.child.descends.same_set ∙ c.append_members.ensures.descends.same_set ∙ low in
    both_given c.args.level (c.args.level - 1) c.args.place (omega (arith, c.if-level-eq0.false)) c.args.stretch c.first_child-child.result.1 c.second_child-child.result.1 c.first_child-child.ensures.place c.second_child-child.ensures.place
    set (g.D.Descend.set_of c.count-some.new.self) (g.D.Descend.set_of c.second_child-child.new.tree) c.args.page.now.items c.append_members.new.page.items c.append_members-2.new.page.items node.is_tree_set low high c.append_members.ensures.answer c.append_members-2.ensures.answer

pub returns-clause-descends : goal.returns-clause-descends
returns-clause-descends g t c =
    let set = g.D.Descend.set_of c.args.tree.now in
    let node = g.met.D.Descend.name_stands c.args.tree.now _ _ c.args.node.now c.requires.name in
    let low = c.count-some.ensures.descends.same_set ∙ c.first_child-child.ensures.child.descends.same_set in
    let high = c.second_child-child.ensures.child.descends.same_set ∙ c.append_members.ensures.descends.same_set ∙ low in
    let l = c.args.level - 1 in
    let e : l + 1 ≡ c.args.level = omega (arith, c.if-level-eq0.false) in
    let given = both_given c.args.level l c.args.place e c.args.stretch c.first_child-child.result.1 c.second_child-child.result.1 c.first_child-child.ensures.place c.second_child-child.ensures.place
    set (g.D.Descend.set_of c.count-some.new.self) (g.D.Descend.set_of c.second_child-child.new.tree) c.args.page.now.items c.append_members.new.page.items c.append_members-2.new.page.items node.is_tree_set low high c.append_members.ensures.answer c.append_members-2.ensures.answer in
    let room : length c.args.page.now.items < 32 = omega (arith, eqb-false _ _ (sym c.if-is_full.ensures.value), c.is_full.ensures.fits) in
    let some = some_given set c.args.stretch c.args.level c.args.place c.args.count c.args.page.now.items c.append_members-2.new.page.items node.is_tree_set c.requires.count c.if-count-eq0.false room (c.if-not-reaches.ensures.0 refl) given in
    both_descend c.args.level l c.args.place e c.args.stretch c.first_child-child.result.1 c.second_child-child.result.1 c.first_child-child.ensures.place c.second_child-child.ensures.place g.met.D.Descend.keeps_on
    c.args.page.now.items c.append_members.new.page.items c.append_members-2.new.page.items _ _ c.append_members.ensures.answer c.append_members-2.ensures.answer some
    c.first_child-child.ensures.child.descends c.count-some.ensures.descends c.append_members.ensures.descends c.second_child-child.ensures.child.descends c.append_members-2.ensures.descends

-- the other child gives nothing, if it covers no member or the page is full
none_more : (set : SetFacts) (stretch : Stretch) (level l place n some p : ℕ) (low : SetFacts) (mid : List (ℕ × ℕ)) → IsTreeSet set → l + 1 ≡ level → low ≡ set → p ≡ place_of_first stretch place → n ≡ length (keys_below (list_of set) level place) → some ≡ length (keys_below (list_of low) l p)
    → (some ≡ n) ⊎ (32 - length mid ≡ 0) → mid ≡ mid ++ take (32 - length mid) (part_of stretch set.pairs (first_key l (place_of_second stretch place)) (end_key l (place_of_second stretch place)))
none_more set stretch level l place n some p low mid is e same at all counts (inl whole) =
    let rest = second_count level l place e set low set stretch p (place_of_second stretch place) n some is same refl at refl all counts in
    takes_nothing (32 - length mid) mid _ (part_empty set stretch l (place_of_second stretch place) (n - some) is rest.1 (omega (arith, whole)))
none_more set stretch level l place n some p low mid is e same at all counts (inr full) = takes_none (32 - length mid) mid _ full

pub returns-then-some-count-clause-answer : goal.returns-then-some-count-clause-answer
returns-then-some-count-clause-answer g t c =
    let set = g.D.Descend.set_of c.args.tree.now in
    let node = g.met.D.Descend.name_stands c.args.tree.now _ _ c.args.node.now c.requires.name in
    let first = c.first_child-child.ensures.child.descends.same_set in
    let low = c.count-some.ensures.descends.same_set ∙ first in
    let l = c.args.level - 1 in
    let e : l + 1 ≡ c.args.level = omega (arith, c.if-level-eq0.false) in
    let old = c.args.page.now.items in let mid = c.append_members.new.page.items in
    let end : (c.count-some.result ≡ c.args.count) ⊎ (32 - length mid ≡ 0) = elim c.then-some-count.branch [
      | then-some-count-via-then-some-count w ↦ inl w.if-some-count.true
      | then-some-count-via-else-some-count+then-is_full-2 w ↦ inr (omega (arith, eqb-true _ _ (sym w.if-is_full-2.ensures.value)))
    ] in
    let none = none_more set c.args.stretch c.args.level l c.args.place c.args.count c.count-some.result c.first_child-child.result.1 (g.D.Descend.set_of c.first_child-child.new.tree) mid node.is_tree_set e first c.first_child-child.ensures.place c.requires.count c.count-some.ensures.value end in
    let given = both_given c.args.level l c.args.place e c.args.stretch c.first_child-child.result.1 (place_of_second c.args.stretch c.args.place) c.first_child-child.ensures.place refl
    set (g.D.Descend.set_of c.count-some.new.self) set old mid mid node.is_tree_set low refl c.append_members.ensures.answer none in
    given

pub returns-then-some-count-clause-descends : goal.returns-then-some-count-clause-descends
returns-then-some-count-clause-descends g t c =
    let set = g.D.Descend.set_of c.args.tree.now in
    let node = g.met.D.Descend.name_stands c.args.tree.now _ _ c.args.node.now c.requires.name in
    let first = c.first_child-child.ensures.child.descends.same_set in
    let low = c.count-some.ensures.descends.same_set ∙ first in
    let l = c.args.level - 1 in
    let e : l + 1 ≡ c.args.level = omega (arith, c.if-level-eq0.false) in
    let old = c.args.page.now.items in let mid = c.append_members.new.page.items in
    let end : (c.count-some.result ≡ c.args.count) ⊎ (32 - length mid ≡ 0) = elim c.then-some-count.branch [
      | then-some-count-via-then-some-count w ↦ inl w.if-some-count.true
      | then-some-count-via-else-some-count+then-is_full-2 w ↦ inr (omega (arith, eqb-true _ _ (sym w.if-is_full-2.ensures.value)))
    ] in
    let none = none_more set c.args.stretch c.args.level l c.args.place c.args.count c.count-some.result c.first_child-child.result.1 (g.D.Descend.set_of c.first_child-child.new.tree) mid node.is_tree_set e first c.first_child-child.ensures.place c.requires.count c.count-some.ensures.value end in
    let given = both_given c.args.level l c.args.place e c.args.stretch c.first_child-child.result.1 (place_of_second c.args.stretch c.args.place) c.first_child-child.ensures.place refl
    set (g.D.Descend.set_of c.count-some.new.self) set old mid mid node.is_tree_set low refl c.append_members.ensures.answer none in
    let room : length old < 32 = omega (arith, eqb-false _ _ (sym c.if-is_full.ensures.value), c.is_full.ensures.fits) in
    let some = some_given set c.args.stretch c.args.level c.args.place c.args.count old mid node.is_tree_set c.requires.count c.if-count-eq0.false room (c.if-not-reaches.ensures.0 refl) given in
    first_descends c.args.level l c.args.place e c.args.stretch c.first_child-child.result.1 (place_of_second c.args.stretch c.args.place) c.first_child-child.ensures.place refl g.met.D.Descend.keeps_on
    old mid _ _ c.append_members.ensures.answer none some c.first_child-child.ensures.child.descends c.count-some.ensures.descends c.append_members.ensures.descends
