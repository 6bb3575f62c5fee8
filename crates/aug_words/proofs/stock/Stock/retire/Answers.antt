use Rattle.std.proofs.Common.{sym, ap, subst, arith}
use Rattle.aug_words.specs.Stocks.{StockFacts, Stocks}
use Rattle.aug_words.proofs.Stocking.{stocks_retired}
use Rattle.aug_words.proofs.stock.Stock.retire.Goals as goal

pub returns-clause-stocks : goal.returns-clause-stocks
returns-clause-stocks g c = let k : StockFacts = c.args.self.now in let inv = c.loop-i.invariant in let same = inv.same in let free = same.1 in let replaced = same.2 in let test = c.loop-i-test.false in let f0 = ap (λ (z : StockFacts). z.free) c.self.view_is in let r0 = ap (λ (z : StockFacts). z.replaced) c.self.view_is in
    subst (λ (z : StockFacts). Stocks c.retire_replaced-era.new.self.view z) (λ i. record { words = sym same.0 i; deaths = c.loop-i.self-inside.deaths.items; free = sym same.1 i; replaced = 0; era = sym same.3 i })
    (stocks_retired c.args.pass.now.view c.retire_replaced-era.new.self.view k c.loop-i.self-inside.deaths.items c.retire_replaced-era.result _ c.requires.stocks c.retire_replaced-era.ensures.view.stepped
    (λ i past low. inv.retired i past (omega arith)) (λ i past. inv.others i past))
