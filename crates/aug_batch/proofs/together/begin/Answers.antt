use Rattle.std.proofs.Common.{refl, subst}
use Rattle.aug_query.proofs.Ways.{top_place, top_rank}
use Rattle.aug_batch.proofs.together.begin.Goals as goal

pub returns-clause-way : goal.returns-clause-way
returns-clause-way g c = record {
  node = subst (λ p. g.D.Descend.Names c.top-node.new.self (g.D.Descend.set_of c.args.tree.now).bits p c.top-node.result) (top_place c.args.key _ _ refl c.requires) c.top-node.ensures.name;
  counted = subst (λ n. g.Q.ByKey.Counts 0 n) (top_rank _ c.args.key _ _ refl c.requires) g.Q.ByKey.begins;
}
