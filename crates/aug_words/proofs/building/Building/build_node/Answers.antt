use Rattle.std.proofs.Common.{arith, sym, ◌∙◌, ◌+◌}
use Rattle.aug_words.proofs.Builds.{next_node, own_inside}
use Rattle.aug_words.proofs.building.Building.build_node.Goals as goal

pub overflow_add-result : goal.overflow_add-result
overflow_add-result g c =
    let b = c.args.self.now.plan in let words = c.args.self.now.words.items in let n = next_node _ b c.args.level c.args.first c.args.place words c.requires.node in
    let room = own_inside b c.args.level c.args.place (c.args.first + c.args.place) c.args.next words n.on (sym c.owns.ensures ∙ c.if-owns.true) c.requires.next c.requires.node.built.long in omega (arith, room.0, room.1)
