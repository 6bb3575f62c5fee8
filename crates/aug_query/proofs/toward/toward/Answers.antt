use Rattle.std.proofs.Common.{subst}
use Rattle.aug_query.proofs.Descending.{low_half, high_half}
use Rattle.aug_query.proofs.toward.toward.Goals as goal

pub returns-then-k-level-eq0 : goal.returns-then-k-level-eq0
returns-then-k-level-eq0 g c = record { descends = c.left.ensures.descends; name = subst (λ p. g.D.Descend.Names c.left.new.self c.args.level p c.left.result) (low_half c.args.k c.args.level c.if-k-level-eq0.true) c.left.ensures.name }

pub returns-else-k-level-eq0 : goal.returns-else-k-level-eq0
returns-else-k-level-eq0 g c = record { descends = c.right.ensures.descends; name = subst (λ p. g.D.Descend.Names c.right.new.self c.args.level p c.right.result) (high_half c.args.k c.args.level c.if-k-level-eq0.false) c.right.ensures.name }
