use Rattle.std.proofs.Common.{◌∙◌, arith}
use Rattle.aug_core.specs.Faces.{face}
use Rattle.aug_words.proofs.Held.{held_before}
use Rattle.aug_words.proofs.stock.Stock.look_at.Goals as goal

pub returns-clause-loads : goal.returns-clause-loads
returns-clause-loads g c = record {
  table = c.load_held.ensures.loads.table ∙ c.reserve_first.ensures.goes.table;
  view = held_before (face g.A.Monoid.parts g.B.Monoid.parts) 3 8 11 c.args.pass.now.view c.reserve_first.new.pass.view c.load_held.new.pass.view c.args.node c.load_held.result (omega arith) c.reserve_first.ensures.goes.view c.load_held.ensures.loads.view;
}
