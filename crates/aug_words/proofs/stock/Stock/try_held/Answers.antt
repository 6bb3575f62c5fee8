use Rattle.std.proofs.Common.{◌≤◌, ◌∙◌, sym}
use Rattle.std.proofs.lemmas.Bool.{leb-true}
use Rattle.aug_core.specs.Faces.{face}
use Rattle.aug_words.specs.Stocks.{birth_in_word}
use Rattle.aug_words.proofs.Held.{stocks_still, word_of_node_loaded, word_held, word_late}
use Rattle.aug_words.proofs.stock.Stock.try_held.Goals as goal

pub returns-then-covers-clause-loads : goal.returns-then-covers-clause-loads
returns-then-covers-clause-loads g c = let test = c.covers.ensures in let low : birth_in_word c.load_node-found.result ≤ c.args.self.now.era = leb-true _ _ (sym test ∙ c.if-covers.true) in
    word_held (face g.A.Monoid.parts g.B.Monoid.parts) c.args.pass.now.view c.load_node-found.new.self.view c.args.self.now c.args.node c.load_node-found.result c.requires.reserved c.requires.stocks c.requires.inner low c.load_node-found.ensures.view

pub returns-then-covers-clause-still : goal.returns-then-covers-clause-still
returns-then-covers-clause-still g c = record { table = c.load_node-found.ensures.table; view = (word_of_node_loaded (face g.A.Monoid.parts g.B.Monoid.parts) c.args.pass.now.view c.load_node-found.new.self.view c.args.node c.load_node-found.result c.load_node-found.ensures.view).still }

pub returns-else-covers-clause-still : goal.returns-else-covers-clause-still
returns-else-covers-clause-still g c = record { table = c.load_node-found.ensures.table; view = (word_of_node_loaded (face g.A.Monoid.parts g.B.Monoid.parts) c.args.pass.now.view c.load_node-found.new.self.view c.args.node c.load_node-found.result c.load_node-found.ensures.view).still }

pub returns-then-covers-clause-stocks : goal.returns-then-covers-clause-stocks
returns-then-covers-clause-stocks g c =
    stocks_still 1 c.args.pass.now.view c.load_node-found.new.self.view c.args.self.now c.requires.stocks (word_of_node_loaded (face g.A.Monoid.parts g.B.Monoid.parts) c.args.pass.now.view c.load_node-found.new.self.view c.args.node c.load_node-found.result c.load_node-found.ensures.view).still

pub returns-else-covers-clause-stocks : goal.returns-else-covers-clause-stocks
returns-else-covers-clause-stocks g c =
    stocks_still 1 c.args.pass.now.view c.load_node-found.new.self.view c.args.self.now c.requires.stocks (word_of_node_loaded (face g.A.Monoid.parts g.B.Monoid.parts) c.args.pass.now.view c.load_node-found.new.self.view c.args.node c.load_node-found.result c.load_node-found.ensures.view).still

pub returns-else-covers-clause-late : goal.returns-else-covers-clause-late
returns-else-covers-clause-late g c = word_late (face g.A.Monoid.parts g.B.Monoid.parts) c.args.pass.now.view c.load_node-found.new.self.view c.args.self.now c.args.node c.load_node-found.result c.requires.stocks c.requires.inner (sym c.covers.ensures ∙ c.if-covers.false) c.load_node-found.ensures.view
