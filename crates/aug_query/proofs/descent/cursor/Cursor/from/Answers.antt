use Rattle.std.proofs.Common.{rules, ◌^◌, ◌<◌, min, ap, sym, ◌∙◌, subst, arith}
use Rattle.std.proofs.lemmas.Nat.{pow_pos}
use Rattle.aug_model.specs.Queries.{weight_of}
use Rattle.aug_query.specs.inside.Paths.{IsCursor}
use Rattle.aug_query.proofs.Descending.{further}
use Rattle.aug_query.proofs.Paths.{begins_at, path_stays}
use Rattle.aug_query.proofs.descent.cursor.Cursor.from.Goals as goal

pub returns-clause-of_tree : goal.returns-clause-of_tree
returns-clause-of_tree g c =
    let set = g.D.Descend.set_of c.args.tree.now in
    let way = c.way_to-leaf.ensures in
    let leaf = c.weight_of_leaf-weight.ensures in
    let all = c.universe-all.ensures.value in
    let at = begins_at c.args.k c.universe-all.result c.min-gap.result c.min-key.result (omega (arith, all, pow_pos set.bits)) c.min-gap.ensures c.min-key.ensures in
    subst (λ s. IsCursor (g.D.Descend.Names c.weight_of_leaf-weight.new.tree) s (record { path = c.way_to-leaf.new.path; key = c.min-key.result; weight = c.weight_of_leaf-weight.result; gap = c.min-gap.result })) (sym (leaf.descends.same_set ∙ way.leaf.descends.same_set)) (record {
      is_tree_set = c.universe-all.ensures.set;
      within = omega (arith, at.0, all);
      path = path_stays set.bits 0 c.min-key.result c.way_to-leaf.new.path.items leaf.descends.keeps_names way.path;
      weighs = leaf.answer ∙ ap (λ s. weight_of s.pairs c.min-key.result) way.leaf.descends.same_set;
      beside = at.1;
    })

pub overflow_sub-all : goal.overflow_sub-all
overflow_sub-all g c =
    let all = c.universe-all.ensures.value in
    omega (arith, all, pow_pos (g.D.Descend.set_of c.args.tree.now).bits)

pub way_to-leaf-requires : goal.way_to-leaf-requires
way_to-leaf-requires g c =
    let set = g.D.Descend.set_of c.args.tree.now in
    let all = c.universe-all.ensures.value in
    let at = begins_at c.args.k c.universe-all.result c.min-gap.result c.min-key.result (omega (arith, all, pow_pos set.bits)) c.min-gap.ensures c.min-key.ensures in
    let within : c.min-key.result < 2 ^ set.bits = omega (arith, at.0, all) in
    (search rules, (within, c.new-path.ensures))

pub returns-clause-descends : goal.returns-clause-descends
returns-clause-descends g c = further g.met.D.Descend.keeps_on c.way_to-leaf.ensures.leaf.descends c.weight_of_leaf-weight.ensures.descends (omega arith) (omega arith) (omega arith) (omega arith)

pub returns-clause-gap : goal.returns-clause-gap
returns-clause-gap g c = c.min-gap.ensures ∙ ap (min c.args.k) c.universe-all.ensures.value
