use Rattle.std.proofs.Common.{arith, sym, subst, ◌≡◌, ◌+◌, ℕ, set, suc}
use Rattle.aug_core.specs.Places.{level_start}
use Rattle.aug_core.specs.Faces.{face}
use Rattle.aug_words.specs.inside.Builds.{IsBuilt}
use Rattle.aug_words.proofs.Builds.{rises, next_node, node_shared}
use Rattle.aug_words.proofs.building.Building.build_empty.Goals as goal

pub index_mut-requires : goal.index_mut-requires
index_mut-requires g c = let n = next_node _ c.args.self.now.plan c.args.level c.args.first c.args.place c.args.self.now.words.items c.requires.node in let inside = n.inside in omega arith

pub returns-clause-built : goal.returns-clause-built
returns-clause-built g c =
    let f = face g.A.Monoid.parts g.B.Monoid.parts in let b = c.args.self.now.plan in let o = b.key in let level = c.args.level in let place = c.args.place in let words = c.args.self.now.words.items in
    let n = next_node f b level c.args.first place words c.requires.node in let node : ℕ = c.args.first + place in let at = n.is in
    let next : node + 1 ≡ level_start o.shape (suc level) + (place + 1) = omega arith in let number : level ≡ c.from.result = sym c.from.ensures in
    subst (λ (z : ℕ × ℕ). IsBuilt f o o.shape.bits z.0 (set words node z.1)) (λ i. (next i, number i))
    (node_shared f o (rises o b.key_set) node level place words n.on c.requires.empty (subst (λ (z : ℕ). IsBuilt f o o.shape.bits z words) (sym at) c.requires.node.built))
