use Rattle.std.proofs.Common.{◌≡◌, ◌-◌, ℕ, get_or, sym, subst, arith}
use Rattle.aug_core.specs.Effects.{IsFilled}
use Rattle.aug_core.specs.Records.{first_era}
use Rattle.aug_words.specs.Stocks.{number_in_word}
use Rattle.aug_core.specs.Faces.{face}
use Rattle.aug_words_tests.specs.Reuse.{IsSmall}
use Rattle.aug_words_tests.proofs.ReuseTests.{may_retire_hit}
use Rattle.aug_words_tests.proofs.reusing.publish.Goals as goal

pub retire-requires-clause-later : goal.retire-requires-clause-later
retire-requires-clause-later g c = may_retire_hit (face g.A.Monoid.parts g.B.Monoid.parts) c.args.pass.now.view c.try_node.new.pass.view c.args.stock.now c.args.from c.birth_over-birth.result c.try_node.result c.requires.some (subst IsSmall (sym c.requires.together.one_shape) c.requires.small) c.requires.stocks c.requires.none c.try_node.ensures.step.view c.if-not-try_node.false

pub try_node-requires-clause-filled : goal.try_node-requires-clause-filled
try_node-requires-clause-filled g c = let k = c.args.stock.now in let value = c.birth_over-birth.ensures.value in let is : first_era k.era ≡ c.birth_over-birth.result = omega arith in
    subst (λ (z : ℕ). IsFilled (face g.A.Monoid.parts g.B.Monoid.parts) c.args.pass.now.view 2 c.args.from z (number_in_word (get_or k.words (k.free - 1) 0))) is c.requires.filled
