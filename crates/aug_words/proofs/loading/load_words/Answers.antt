use Rattle.std.proofs.Common.{ℕ, ◌+◌, ◌*◌, ◌-◌, ap, ◌∙◌}
use Rattle.aug_core.specs.Faces.{face}
use Rattle.aug_core.specs.declared.view.SeatView.{SeatView}
use Rattle.aug_words.proofs.Held.{three_loaded}
use Rattle.aug_words.proofs.loading.load_words.Goals as goal

pub returns : goal.returns
returns g c = let f = face g.A.Monoid.parts g.B.Monoid.parts in let v : SeatView = c.args.pass.now.view in let a : SeatView = c.load_word-from.new.pass.view in let b : SeatView = c.load_word-left.new.pass.view in let left = ap (λ (z : ℕ). 2 * (c.args.node - z)) c.requires.leaves in record {
  table = c.load_word-right.ensures.table ∙ c.load_word-left.ensures.table ∙ c.load_word-from.ensures.table;
  view = three_loaded f v a b c.load_word-right.new.pass.view c.args.node _ _ c.load_word-from.result c.load_word-left.result c.load_word-right.result c.requires.inner left (ap (λ (z : ℕ). z + 1) left)
      c.load_word-from.ensures.view c.load_word-left.ensures.view c.load_word-right.ensures.view;
}
