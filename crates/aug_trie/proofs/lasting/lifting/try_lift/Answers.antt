use Rattle.std.proofs.Common.{◌∙◌, ℕ, ◌<◌, sym, subst}
use Rattle.aug_monoid.proofs.BoundLaws.{laws_of}
use Rattle.aug_core.specs.Faces.{face}
use Rattle.aug_core.specs.Effects.{IsFilled}
use Rattle.aug_core.specs.declared.view.SeatView.{SeatView}
use Rattle.aug_words.specs.Seats.{TriedNode}
use Rattle.aug_words.specs.Stocks.{StockFacts, Stocks, naming}
use Rattle.aug_words.proofs.Stocking.{stocks_stored}
use Rattle.aug_trie.proofs.Stocked.{stock_loaded, knows_leaves, left_guarded, right_guarded, keeps_on}
use Rattle.aug_trie.proofs.lasting.lifting.try_lift.Goals as goal

pub any_part-l-requires-clause-over : goal.any_part-l-requires-clause-over
any_part-l-requires-clause-over g c = knows_leaves g.A.Monoid.parts g.B.Monoid.parts (laws_of g.met.A.Monoid) (laws_of g.met.B.Monoid) c.requires.leaves c.requires.keeps.knows_table c.load_over-from.ensures.stocks c.load_over-from.ensures.loads.view

pub any_part-l-requires-clause-guards : goal.any_part-l-requires-clause-guards
any_part-l-requires-clause-guards g c = λ inn. left_guarded g.A.Monoid.parts g.B.Monoid.parts (laws_of g.met.A.Monoid) (laws_of g.met.B.Monoid) c.requires.leaves c.requires.inner c.load_over-from.ensures.stocks c.load_over-from.ensures.loads.view inn

pub any_part-r-requires-clause-guards : goal.any_part-r-requires-clause-guards
any_part-r-requires-clause-guards g c = λ inn. right_guarded g.A.Monoid.parts g.B.Monoid.parts (laws_of g.met.A.Monoid) (laws_of g.met.B.Monoid) c.requires.leaves c.requires.inner c.load_over-from.ensures.stocks c.load_over-from.ensures.loads.view c.any_part-l.ensures.looks inn

pub five_words-requires : goal.five_words-requires
five_words-requires g c = let o = c.load_over-from.ensures in let l = c.any_part-l.ensures in let r = c.any_part-r.ensures in
    record { few = (stock_loaded g.A.Monoid.parts g.B.Monoid.parts (laws_of g.met.A.Monoid) (laws_of g.met.B.Monoid) c.requires.leaves c.requires.inner c.requires.keeps.knows_table o.stocks o.loads.view l.looks l.took l.part r.looks r.took r.part).few }

pub try_node-requires-clause-stocks : goal.try_node-requires-clause-stocks
try_node-requires-clause-stocks g c = let o = c.load_over-from.ensures in let l = c.any_part-l.ensures in let r = c.any_part-r.ensures in
    subst (λ (z : SeatView). Stocks z c.load_over-from.new.self) (sym c.fill.ensures.view)
    (stocks_stored c.any_part-r.new.pass.view c.load_over-from.new.self c.next.result c.five_words.result 5 (stock_loaded g.A.Monoid.parts g.B.Monoid.parts (laws_of g.met.A.Monoid) (laws_of g.met.B.Monoid) c.requires.leaves c.requires.inner c.requires.keeps.knows_table o.stocks o.loads.view l.looks l.took l.part r.looks r.took r.part).stocks)

pub try_node-requires-clause-filled : goal.try_node-requires-clause-filled
try_node-requires-clause-filled g c = let o = c.load_over-from.ensures in let l = c.any_part-l.ensures in let r = c.any_part-r.ensures in let some : 0 < c.load_over-from.new.self.free = subst (λ (z : StockFacts). 0 < z.free) (sym o.same) c.requires.some in
    subst (λ (z : SeatView × ℕ × ℕ). IsFilled (face g.A.Monoid.parts g.B.Monoid.parts) z.0 c.args.node c.load_over-from.result.0 z.1 z.2) (λ i. (sym c.fill.ensures.view i, sym c.birth_over-birth.ensures.value i, c.next.ensures i))
    ((stock_loaded g.A.Monoid.parts g.B.Monoid.parts (laws_of g.met.A.Monoid) (laws_of g.met.B.Monoid) c.requires.leaves c.requires.inner c.requires.keeps.knows_table o.stocks o.loads.view l.looks l.took l.part r.looks r.took r.part).filled c.next.result c.five_words.result some c.next.ensures c.five_words.ensures)

pub returns-clause-tried : goal.returns-clause-tried
returns-clause-tried g c = let o = c.load_over-from.ensures in let l = c.any_part-l.ensures in let r = c.any_part-r.ensures in let some : 0 < c.load_over-from.new.self.free = subst (λ (z : StockFacts). 0 < z.free) (sym o.same) c.requires.some in
    (stock_loaded g.A.Monoid.parts g.B.Monoid.parts (laws_of g.met.A.Monoid) (laws_of g.met.B.Monoid) c.requires.leaves c.requires.inner c.requires.keeps.knows_table o.stocks o.loads.view l.looks l.took l.part r.looks r.took r.part).over c.next.result c.five_words.result c.try_node.new.pass.view c.try_node.result some c.next.ensures c.five_words.ensures
    (subst (λ (z : SeatView × ℕ × ℕ). TriedNode (face g.A.Monoid.parts g.B.Monoid.parts) z.0 c.args.node c.load_over-from.result.0 (naming z.1 z.2) c.try_node.result c.try_node.new.pass.view) (λ i. (c.fill.ensures.view i, c.birth_over-birth.ensures.value i, sym c.next.ensures i)) c.try_node.ensures.step.view)

pub returns-clause-keeps : goal.returns-clause-keeps
returns-clause-keeps g c = let o = c.load_over-from.ensures in let l = c.any_part-l.ensures in let r = c.any_part-r.ensures in let tried = returns-clause-tried g c in
    keeps_on c.requires.keeps (c.try_node.ensures.step.table ∙ c.fill.ensures.table ∙ r.table ∙ l.table ∙ o.loads.table) tried.goes c.try_node.ensures.stocks
