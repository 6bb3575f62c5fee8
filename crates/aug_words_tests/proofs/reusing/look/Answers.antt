use Rattle.std.proofs.Common.{inl, ap, ◌∙◌}
use Rattle.aug_core.specs.Faces.{face}
use Rattle.aug_core.specs.Places.{Shape}
use Rattle.aug_core.specs.declared.view.SeatView.{SeatView}
use Rattle.aug_words.proofs.Stocking.{stocks_same}
use Rattle.aug_words_tests.proofs.ReuseTests.{guards_held}
use Rattle.aug_words_tests.proofs.reusing.look.Goals as goal

pub load_record_word-requires : goal.load_record_word-requires
load_record_word-requires g c = let l = c.load_held-from.ensures.loads.view in let one = ap (λ (z : Shape). z.bits) (ap (λ (z : SeatView). z.shape) l.goes.same ∙ c.requires.together.one_shape) ∙ c.requires.small.bits in
    inl (guards_held (face g.A.Monoid.parts g.B.Monoid.parts) 8 c.args.pass.now.view c.load_held-from.new.pass.view c.load_held-from.new.self c.load_held-from.result one c.load_held-from.ensures.stocks l)

pub returns-clause-stocks : goal.returns-clause-stocks
returns-clause-stocks g c = let b = c.load_record_word.ensures.view.stepped in
    stocks_same c.load_held-from.new.pass.view c.load_record_word.new.self.view c.load_held-from.new.self c.load_held-from.ensures.stocks (ap (λ (z : SeatView). z.shape) b) (ap (λ (z : SeatView). z.held) b) (ap (λ (z : SeatView). z.reserved) b)
