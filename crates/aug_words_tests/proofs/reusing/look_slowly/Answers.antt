use Rattle.std.proofs.Common.{inl, ◌≤◌, ap, sym, ◌∙◌}
use Rattle.std.proofs.lemmas.Bool.{leb-true}
use Rattle.aug_core.specs.Faces.{face}
use Rattle.aug_core.specs.declared.view.SeatView.{SeatView}
use Rattle.aug_words.specs.Stocks.{birth_in_word}
use Rattle.aug_words.proofs.Stocking.{stocks_same}
use Rattle.aug_words_tests.proofs.ReuseTests.{guards}
use Rattle.aug_words_tests.proofs.reusing.look_slowly.Goals as goal

pub load_record_word-count-requires : goal.load_record_word-count-requires
load_record_word-count-requires g c = let test = c.covers.ensures in let low : birth_in_word c.load_node-from.result ≤ c.args.stock.now.era = leb-true _ _ (sym test ∙ c.if-not-covers.false) in
    inl (guards (face g.A.Monoid.parts g.B.Monoid.parts) c.args.pass.now.view c.load_node-from.new.self.view c.args.stock.now c.load_node-from.result c.requires.small.0 c.requires.stocks c.load_node-from.ensures.view c.requires.reserved low)

pub returns-clause-stocks : goal.returns-clause-stocks
returns-clause-stocks g c = let a = c.load_node-from.ensures.view.stepped in let b = c.load_record_word-count.ensures.view.stepped in
    stocks_same c.args.pass.now.view c.load_record_word-count.new.self.view c.args.stock.now c.requires.stocks (ap (λ (z : SeatView). z.shape) b ∙ ap (λ (z : SeatView). z.shape) a) (ap (λ (z : SeatView). z.held) b ∙ ap (λ (z : SeatView). z.held) a) (ap (λ (z : SeatView). z.reserved) b ∙ ap (λ (z : SeatView). z.reserved) a)
