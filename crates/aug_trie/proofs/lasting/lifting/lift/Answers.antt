use Rattle.std.proofs.Common.{Bool, subst}
use Rattle.aug_core.specs.Faces.{face}
use Rattle.aug_trie.specs.inside.Lasting.{TriedBy}
use Rattle.aug_trie.proofs.Lifting.{covered_twice}
use Rattle.aug_trie.proofs.lasting.lifting.lift.Goals as goal

pub returns-clause-covered : goal.returns-clause-covered
returns-clause-covered g c = covered_twice (face g.A.Monoid.parts g.B.Monoid.parts) c.requires.inner
    (subst (λ (z : Bool). TriedBy (face g.A.Monoid.parts g.B.Monoid.parts) c.args.pass.now.view c.args.node z c.try_lift.new.pass.view) c.if-try_lift.false c.try_lift.ensures.tried) c.try_lift-2.ensures.tried
