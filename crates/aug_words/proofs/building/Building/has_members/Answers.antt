use Rattle.std.proofs.Common.{arith, ap, ◌∙◌, leb}
use Rattle.aug_core.specs.Faces.{face}
use Rattle.aug_words.proofs.Builds.{rises, next_node, ready_number, has_by_children}
use Rattle.aug_words.proofs.building.Building.has_members.Goals as goal
use Rattle.aug_words.proofs.building.Building.has_members.Goals.{then-level-eq0, else-level-eq0}

pub overflow_sub-left : goal.overflow_sub-left
overflow_sub-left g c = let n = next_node _ c.args.self.now.plan c.args.level c.args.first c.args.place c.args.self.now.words.items c.requires.node in let past = n.past in omega arith

pub index-requires : goal.index-requires
index-requires g c = let n = next_node _ c.args.self.now.plan c.args.level c.args.first c.args.place c.args.self.now.words.items c.requires.node in let inside = n.inside in omega arith

pub index-requires-2 : goal.index-requires-2
index-requires-2 g c = let n = next_node _ c.args.self.now.plan c.args.level c.args.first c.args.place c.args.self.now.words.items c.requires.node in let inside = n.inside in omega arith

pub returns : goal.returns
returns g c =
    let b = c.args.self.now.plan in let o = b.key in let level = c.args.level in let place = c.args.place in let words = c.args.self.now.words.items in let least = c.if-level-eq0.least in
    let f = face g.A.Monoid.parts g.B.Monoid.parts in let n = next_node f b level c.args.first place words c.requires.node in
    ap (leb least) c.max.ensures ∙ has_by_children o c.requires.no_room (rises o b.key_set) level place least c.index.result.now c.index-2.result.now c.requires.node.up
    (λ z. elim c.if-level-eq0.branch [ then-level-eq0 w ↦ w.least-is | else-level-eq0 w ↦ absurd (w.if-level-eq0.false z) ])
    (λ z. elim c.if-level-eq0.branch [ then-level-eq0 w ↦ absurd (z w.if-level-eq0.true) | else-level-eq0 w ↦ w.least-is ∙ w.from-least.ensures ∙ b.bits_are ])
    (ready_number f o words _ c.index.result.now n.left_ready c.index.ensures ∙ n.left_number)
    (ready_number f o words _ c.index-2.result.now n.right_ready c.index-2.ensures ∙ n.right_number)
