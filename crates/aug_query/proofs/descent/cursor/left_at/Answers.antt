use Rattle.std.proofs.Common.{◌≡◌, ◌+◌, ◌-◌, ◌*◌, ◌/◌, ◌%◌, ◌^◌, length, ap, sym, ◌∙◌, subst, arith}
use Rattle.aug_model.specs.Keys.{list_of}
use Rattle.aug_model.specs.NodeKeys.{keys_below}
use Rattle.aug_query.proofs.Nodes.{of_set, members_rise}
use Rattle.aug_query.proofs.Descending.{still, counted, high_half}
use Rattle.aug_query.proofs.Paths.{begins_left, begins_right, way_fits}
use Rattle.aug_query.proofs.descent.cursor.left_at.Goals as goal

pub returns-then-key-level-eq0-clause-none : goal.returns-then-key-level-eq0-clause-none
returns-then-key-level-eq0-clause-none g c = begins_left (list_of (g.D.Descend.set_of c.args.tree.now)) c.args.key c.args.level c.if-key-level-eq0.true

pub returns-then-count-eq0-clause-none : goal.returns-then-count-eq0-clause-none
returns-then-count-eq0-clause-none g c =
    let left = c.left-left.ensures in
    let node = of_set left.descends.same_set (g.met.D.Descend.name_stands c.left-left.new.self _ _ c.left-left.result left.name) in
    let same = ap (λ s. length (keys_below (list_of s) c.args.level (2 * (c.args.key / 2 ^ (c.args.level + 1))))) left.descends.same_set in
    begins_right (list_of (g.D.Descend.set_of c.args.tree.now)) c.args.key c.args.level c.count.result (members_rise node) (omega (arith, c.if-key-level-eq0.false)) (c.count.ensures.value ∙ same) c.if-count-eq0.true

pub returns-clause-found : goal.returns-clause-found
returns-clause-found g c =
    let left = c.left-left.ensures in
    let odd : c.args.key / 2 ^ c.args.level % 2 ≡ 1 = omega (arith, c.if-key-level-eq0.false) in
    let half = high_half c.args.key c.args.level (λ e. omega (arith, e, odd)) in
    let place : 2 * (c.args.key / 2 ^ (c.args.level + 1)) ≡ c.args.key / 2 ^ c.args.level - 1 = omega (arith, half) in
    let same = ap (λ s. length (keys_below (list_of s) c.args.level (2 * (c.args.key / 2 ^ (c.args.level + 1))))) left.descends.same_set in
    let moved = ap (λ p. length (keys_below (list_of (g.D.Descend.set_of c.args.tree.now)) c.args.level p)) place in
    record {
      low = c.requires.level;
      parent = sym half;
      name = subst (λ p. g.D.Descend.Names c.count.new.self c.args.level p c.left-left.result) place (c.count.ensures.descends.keeps_names _ _ c.left-left.result left.name);
      some = omega (arith, c.if-count-eq0.false, c.count.ensures.value, same, moved);
    }

pub overflow_shr-key : goal.overflow_shr-key
overflow_shr-key g c = let few = way_fits c.args.key c.args.level c.args.path.now (λ level place name has. let node = g.met.D.Descend.name_stands c.args.tree.now level place name has in (node.is_tree_set, node.place_fits)) c.requires.path c.requires.level in omega (arith, few.0)

pub overflow_add-place : goal.overflow_add-place
overflow_add-place g c = let few = way_fits c.args.key c.args.level c.args.path.now (λ level place name has. let node = g.met.D.Descend.name_stands c.args.tree.now level place name has in (node.is_tree_set, node.place_fits)) c.requires.path c.requires.level in omega (arith, few.0)

pub overflow_shr-place : goal.overflow_shr-place
overflow_shr-place g c = let few = way_fits c.args.key c.args.level c.args.path.now (λ level place name has. let node = g.met.D.Descend.name_stands c.args.tree.now level place name has in (node.is_tree_set, node.place_fits)) c.requires.path c.requires.level in omega (arith, few.0)

pub overflow_mul-place : goal.overflow_mul-place
overflow_mul-place g c = let few = way_fits c.args.key c.args.level c.args.path.now (λ level place name has. let node = g.met.D.Descend.name_stands c.args.tree.now level place name has in (node.is_tree_set, node.place_fits)) c.requires.path c.requires.level in omega (arith, few.1)

pub returns-then-key-level-eq0-clause-descends : goal.returns-then-key-level-eq0-clause-descends
returns-then-key-level-eq0-clause-descends g c = still g.met.D.Descend.keeps_so

pub returns-then-count-eq0-clause-descends : goal.returns-then-count-eq0-clause-descends
returns-then-count-eq0-clause-descends g c = counted g.met.D.Descend.keeps_on c.left-left.ensures.descends c.count.ensures.descends

pub returns-clause-descends : goal.returns-clause-descends
returns-clause-descends g c = counted g.met.D.Descend.keeps_on c.left-left.ensures.descends c.count.ensures.descends
