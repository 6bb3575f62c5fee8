use Rattle.std.proofs.Common.{◌≤◌, ◌+◌, ◌-◌, ℕ, length, set, refl, sym, subst}
use Rattle.aug_core.specs.Faces.{face}
use Rattle.aug_words.specs.Seats.{TriedNode}
use Rattle.aug_words.specs.Stocks.{StockFacts, Stocks}
use Rattle.aug_words.proofs.Stocking.{tried_shape, stocks_tried, stocks_missed}
use Rattle.aug_words.proofs.stock.Stock.try_node.Goals as goal

pub returns-then-not-try_node-clause-shape : goal.returns-then-not-try_node-clause-shape
returns-then-not-try_node-clause-shape g c = tried_shape (face g.A.Monoid.parts g.B.Monoid.parts) c.args.pass.now.view c.try_node.new.self.view c.args.self.now c.args.node c.args.from c.args.birth _ c.try_node.result c.requires.stocks c.requires.some refl (subst (λ (z : ℕ). TriedNode (face g.A.Monoid.parts g.B.Monoid.parts) c.args.pass.now.view c.args.node c.args.from z c.try_node.result c.try_node.new.self.view) c.next_word-to.ensures c.try_node.ensures.view)

pub returns-clause-shape : goal.returns-clause-shape
returns-clause-shape g c = tried_shape (face g.A.Monoid.parts g.B.Monoid.parts) c.args.pass.now.view c.try_node.new.self.view c.args.self.now c.args.node c.args.from c.args.birth _ c.try_node.result c.requires.stocks c.requires.some refl (subst (λ (z : ℕ). TriedNode (face g.A.Monoid.parts g.B.Monoid.parts) c.args.pass.now.view c.args.node c.args.from z c.try_node.result c.try_node.new.self.view) c.next_word-to.ensures c.try_node.ensures.view)

pub returns-then-not-try_node-clause-stocks : goal.returns-then-not-try_node-clause-stocks
returns-then-not-try_node-clause-stocks g c = stocks_missed (face g.A.Monoid.parts g.B.Monoid.parts) c.args.pass.now.view c.try_node.new.self.view c.args.self.now c.args.node c.args.from c.args.birth _ c.try_node.result c.requires.stocks c.requires.some refl (subst (λ (z : ℕ). TriedNode (face g.A.Monoid.parts g.B.Monoid.parts) c.args.pass.now.view c.args.node c.args.from z c.try_node.result c.try_node.new.self.view) c.next_word-to.ensures c.try_node.ensures.view) c.if-not-try_node.true

pub returns-clause-stocks : goal.returns-clause-stocks
returns-clause-stocks g c = let few = subst (λ (z : StockFacts). z.free + z.replaced ≤ length z.words) c.self.view_is c.self.invariant.few in
    subst (λ (k : StockFacts). Stocks c.try_node.new.self.view (record k { words = set k.words (k.free - 1) c.args.from; free = k.free - 1; replaced = k.replaced + 1 })) (sym c.self.view_is)
    (stocks_tried (face g.A.Monoid.parts g.B.Monoid.parts) c.args.pass.now.view c.try_node.new.self.view c.args.self.now c.args.node c.args.from c.args.birth _ c.try_node.result c.requires.stocks c.requires.some refl (subst (λ (z : ℕ). TriedNode (face g.A.Monoid.parts g.B.Monoid.parts) c.args.pass.now.view c.args.node c.args.from z c.try_node.result c.try_node.new.self.view) c.next_word-to.ensures c.try_node.ensures.view) c.if-not-try_node.false few)
