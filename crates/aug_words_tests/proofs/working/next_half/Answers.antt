use Rattle.std.proofs.Common.{sym, subst}
use Rattle.aug_core.specs.Effects.{MayStore}
use Rattle.aug_words.specs.Seats.{Known, AreTogether}
use Rattle.aug_words_tests.proofs.working.next_half.Goals as goal

pub returns-clause-half : goal.returns-clause-half
returns-clause-half c = subst (AreTogether c.args.words.now) (sym c.into_half.ensures) c.next_pass.ensures.pass

pub returns-clause-own : goal.returns-clause-own
returns-clause-own c = subst (λ (k : Known). MayStore k.view c.args.number) (sym c.into_half.ensures) c.next_pass.ensures.own
