use Rattle.std.proofs.Common.{◌∙◌, refl, sym, subst}
use Rattle.std.specs.Prelude.{IfSome, Option}
use Rattle.aug_trie.specs.Pass.{PassFacts}
use Rattle.aug_trie.specs.Reader.{TakesUp}
use Rattle.aug_live.specs.inside.Looks.{IsReaderOf}
use Rattle.aug_live.proofs.Shown.{accepts_none, left_of, refused_is, shows_none, shows_some}
use Rattle.aug_live.proofs.operation.ShowOperation.run.Goals as goal

pub returns-then-is_some-clause-does : goal.returns-then-is_some-clause-does
returns-then-is_some-clause-does g c = let took = c.snapshot_behind-refused.ensures in let refused = c.snapshot_behind-refused.result.1 in
    shows_none c.args.self.now.reader c.args.self.now.left c.args.self.now.era c.snapshot_behind-refused.result.0 c.args.pass.now c.snapshot_behind-refused.new.pass took.takes took.goes_on c.requires.needs.1 refused
    (refused_is c.take.result refused took.same (sym c.is_some.ensures ∙ c.if-is_some.true) ∙ c.take.ensures.value)

pub returns-clause-does : goal.returns-clause-does
returns-clause-does g c = let took = c.snapshot_behind-refused.ensures in let was = c.take.ensures.value in
    shows_some c.args.self.now.reader c.snapshot_behind-refused.result.1 c.args.era c.snapshot_behind-refused.result.0 c.args.pass.now c.snapshot_behind-refused.new.pass took.takes took.goes_on
    (left_of c.args.pass.now.round.table c.take.result c.snapshot_behind-refused.result.1 took.same (subst (IsReaderOf c.args.pass.now.round.table) (sym was) c.requires.needs.0))
    c.lend.new.self c.lend.result c.lend.ensures.same took.known c.lend.ensures.lends c.requires.era (subst (λ (z : Option PassFacts). IfSome z (λ r. TakesUp r c.snapshot_behind-refused.new.pass)) was took.takes_up)

pub returns-then-is_some-clause-accepts : goal.returns-then-is_some-clause-accepts
returns-then-is_some-clause-accepts g c = accepts_none c.args.pass.now c.snapshot_behind-refused.new.pass c.snapshot_behind-refused.new.pass refl c.snapshot_behind-refused.ensures.takes.same_changes

pub returns-clause-accepts : goal.returns-clause-accepts
returns-clause-accepts g c = accepts_none c.args.pass.now c.snapshot_behind-refused.new.pass c.lend.new.self c.lend.ensures.same c.snapshot_behind-refused.ensures.takes.same_changes
