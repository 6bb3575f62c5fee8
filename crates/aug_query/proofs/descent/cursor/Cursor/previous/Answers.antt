use Rattle.std.proofs.Common.{rules, ◌≡◌, ◌+◌, ◌-◌, ◌/◌, ◌^◌, Some, inl, length, take, refl, ap, sym, ◌∙◌, subst, arith}
use Rattle.aug_model.specs.Keys.{list_of}
use Rattle.aug_model.specs.NodeKeys.{end_key, keys_below}
use Rattle.aug_model.specs.Queries.{rank_of, weight_of}
use Rattle.aug_query.specs.Yields.{YieldsPrevious}
use Rattle.aug_query.specs.inside.Paths.{IsPath, IsCursor}
use Rattle.aug_query.proofs.Descending.{still, further, within}
use Rattle.aug_query.proofs.Paths.{path_stays, path_cut, cursor_kept, before_some, before_none, previous_is, previous_none}
use Rattle.aug_query.proofs.descent.cursor.Cursor.previous.Goals as goal

pub returns-in-Some-clause-answer : goal.returns-in-Some-clause-answer
returns-in-Some-clause-answer g c =
    let of = c.requires.of_tree in
    let key = c.args.self.now.key in
    let is = before_some c.args.self.now.gap key c.in-Some.weight c.args.self.now.weight of.beside c.in-Some.ensures in
    previous_is (g.D.Descend.set_of c.args.tree.now) c.args.self.now.gap key c.in-Some.weight key of.is_tree_set (ap (rank_of (list_of (g.D.Descend.set_of c.args.tree.now))) (sym is.0)) (is.1 ∙ of.weighs) refl

pub returns-in_err-level-clause-of_tree : goal.returns-in_err-level-clause-of_tree
returns-in_err-level-clause-of_tree g c = cursor_kept (λ level place name low fits. c.left_of.ensures.descends.keeps_names level place name) c.left_of.ensures.descends.same_set c.requires.of_tree

pub returns-in_err-level-clause-answer : goal.returns-in_err-level-clause-answer
returns-in_err-level-clause-answer g c =
    let of = c.requires.of_tree in
    let set = g.D.Descend.set_of c.args.tree.now in
    let gap = c.args.self.now.gap in
    let beside = before_none set gap c.args.self.now.key c.args.self.now.weight of.is_tree_set of.weighs of.beside c.in_default.ensures in
    subst (YieldsPrevious set gap gap) (sym c.from_residual.ensures) (previous_none set gap gap of.is_tree_set (sym beside ∙ c.in_err-level.ensures.none) refl)

pub down_to-key-requires : goal.down_to-key-requires
down_to-key-requires g c =
    let of = c.requires.of_tree in
    let level = c.in_ok-level.level in
    let key = c.args.self.now.key in
    let found = c.in_ok-level.ensures.found in
    let climb = c.left_of.ensures.descends in
    let same = ap (λ s. length (keys_below (list_of s) level (key / 2 ^ level - 1))) climb.same_set in
    let whole = ap (λ v. v.items) c.take-path.ensures.value in
    let set = g.D.Descend.set_of c.args.tree.now in
    let stays = path_stays set.bits 0 key c.args.self.now.path.items climb.keeps_names of.path in
    let cut = c.truncate.ensures.items ∙ ap (take (c.len.result - level)) whole in
    let path = path_cut set.bits level key (key / 2 ^ level - 1) (c.len.result - level) c.args.self.now.path.items c.truncate.new.self.items found.low stays (omega (arith, c.len.ensures.value, ap length whole)) (omega (arith, found.parent)) cut in
    (search rules, (found.name, (omega (arith, found.some, same), subst (λ s. IsPath (g.D.Descend.Names c.left_of.new.tree) s.bits level (key / 2 ^ level - 1) c.truncate.new.self.items) (sym climb.same_set) path)))

pub returns-clause-of_tree : goal.returns-clause-of_tree
returns-clause-of_tree g c =
    let of = c.requires.of_tree in
    let climb = c.left_of.ensures in
    let down = c.down_to-key.ensures in
    subst (λ s. IsCursor (g.D.Descend.Names c.down_to-key.new.tree) s (record { path = c.down_to-key.new.path; key = c.down_to-key.result.0; weight = Some c.down_to-key.result.1; gap = c.down_to-key.result.0 })) (sym (down.descends.same_set ∙ climb.descends.same_set)) (record {
      is_tree_set = of.is_tree_set;
      within = omega (arith, down.within, ap (λ s. 2 ^ s.bits) climb.descends.same_set);
      path = subst (λ s. IsPath (g.D.Descend.Names c.down_to-key.new.tree) s.bits 0 c.down_to-key.result.0 c.down_to-key.new.path.items) climb.descends.same_set down.path;
      weighs = down.weight ∙ ap (λ s. weight_of s.pairs c.down_to-key.result.0) climb.descends.same_set;
      beside = inl refl;
    })

pub returns-clause-answer : goal.returns-clause-answer
returns-clause-answer g c =
    let of = c.requires.of_tree in
    let set = g.D.Descend.set_of c.args.tree.now in
    let level = c.in_ok-level.level in
    let key = c.args.self.now.key in
    let climb = c.left_of.ensures in
    let down = c.down_to-key.ensures in
    let beside = before_none set c.args.self.now.gap key c.args.self.now.weight of.is_tree_set of.weighs of.beside c.in_default.ensures in
    let below = subst (λ s. rank_of (list_of s) (c.down_to-key.result.0 + 1) ≡ rank_of (list_of s) (end_key level (key / 2 ^ level - 1))) climb.descends.same_set down.start in
    let weighs = down.weight ∙ ap (λ s. weight_of s.pairs c.down_to-key.result.0) climb.descends.same_set in
    previous_is set c.args.self.now.gap c.down_to-key.result.0 c.down_to-key.result.1 c.down_to-key.result.0 of.is_tree_set (below ∙ c.in_ok-level.ensures.last ∙ beside) weighs refl

pub returns-clause-descends : goal.returns-clause-descends
returns-clause-descends g c =
    let low = c.in_ok-level.ensures.found.low in
    further {new = c.down_to-key.new.tree} g.met.D.Descend.keeps_on c.left_of.ensures.descends c.down_to-key.ensures.descends (omega (arith, low)) (omega (arith, low)) (omega arith) (omega arith)

pub returns-in-Some-clause-descends : goal.returns-in-Some-clause-descends
returns-in-Some-clause-descends g c = still g.met.D.Descend.keeps_so

pub returns-in_err-level-clause-descends : goal.returns-in_err-level-clause-descends
returns-in_err-level-clause-descends g c =
    let some = c.requires.of_tree.is_tree_set.some_bits in
    within c.left_of.ensures.descends (omega (arith, some)) (omega (arith, some)) (omega arith) (omega arith)

pub overflow_cast-level : goal.overflow_cast-level
overflow_cast-level g c =
    let few = c.requires.of_tree.is_tree_set.few_bits in
    let low = c.in_ok-level.ensures.found.low in
    omega (arith, few, low)

pub overflow_sub-len : goal.overflow_sub-len
overflow_sub-len g c =
    let long = c.requires.of_tree.path.long in
    let low = c.in_ok-level.ensures.found.low in
    omega (arith, long, low, c.len.ensures.value, ap (λ v. length v.items) c.take-path.ensures.value)

pub overflow_shr-place : goal.overflow_shr-place
overflow_shr-place g c =
    let few = c.requires.of_tree.is_tree_set.few_bits in
    let low = c.in_ok-level.ensures.found.low in
    omega (arith, few, low)

pub overflow_sub-place : goal.overflow_sub-place
overflow_sub-place g c = let parent = c.in_ok-level.ensures.found.parent in omega (arith, parent)

pub branch-level-requires : goal.branch-level-requires
branch-level-requires g c κs = search rules

pub from_residual-requires : goal.from_residual-requires
from_residual-requires g c κs = search rules

pub array_drop-self-requires : goal.array_drop-self-requires
array_drop-self-requires g c = search rules
