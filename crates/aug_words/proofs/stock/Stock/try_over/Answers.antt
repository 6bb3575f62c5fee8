use Rattle.std.proofs.Common.{◌-◌, ◌*◌, sym, ◌∙◌, arith}
use Rattle.aug_core.specs.Faces.{face}
use Rattle.aug_words.proofs.Held.{all_early, stocks_still, three_held, three_late}
use Rattle.aug_words.proofs.stock.Stock.try_over.Goals as goal

pub returns-then-covers_all-clause-loads : goal.returns-then-covers_all-clause-loads
returns-then-covers_all-clause-loads g c = let are = c.requires.leaves in let told = all_early c.args.self.now.era c.args.leaves (2 * (c.args.node - c.args.leaves)) c.load_words-found.result (sym c.covers_all.ensures ∙ c.if-covers_all.true) in
    three_held (face g.A.Monoid.parts g.B.Monoid.parts) c.args.pass.now.view c.load_words-found.new.pass.view c.args.self.now c.args.node c.load_words-found.result c.requires.reserved c.requires.stocks c.requires.inner told.0
    (λ past. told.1 (omega arith)) c.load_words-found.ensures.view

pub returns-then-covers_all-clause-stocks : goal.returns-then-covers_all-clause-stocks
returns-then-covers_all-clause-stocks g c = stocks_still 3 c.args.pass.now.view c.load_words-found.new.pass.view c.args.self.now c.requires.stocks c.load_words-found.ensures.view.still

pub returns-else-covers_all-clause-stocks : goal.returns-else-covers_all-clause-stocks
returns-else-covers_all-clause-stocks g c = stocks_still 3 c.args.pass.now.view c.load_words-found.new.pass.view c.args.self.now c.requires.stocks c.load_words-found.ensures.view.still

pub returns-else-covers_all-clause-late : goal.returns-else-covers_all-clause-late
returns-else-covers_all-clause-late g c = three_late (face g.A.Monoid.parts g.B.Monoid.parts) c.args.pass.now.view c.load_words-found.new.pass.view c.args.self.now c.args.node c.args.leaves c.load_words-found.result c.requires.leaves c.requires.stocks c.requires.inner (sym c.covers_all.ensures ∙ c.if-covers_all.false) c.load_words-found.ensures.view
