use Rattle.std.proofs.Common.{refl, arith}
use Rattle.aug_trie.proofs.queries.view.ViewTree.left.Goals as goal

pub returns-clause-walks : goal.returns-clause-walks
returns-clause-walks g c = let v = c.args.self.now in let r = c.left.ensures.reads in let one = c.one_more-self.ensures in record {
  same_set = r.stays.keeps.same_sets v.snapshot v.of_pass;
  counts = one;
  keeps_nodes = λ n has. (has.0, r.stays.keeps.nodes n has.1);
  keeps_rest = record { same_reference = refl; same_snapshot = refl; stays = r.stays; few_steps = omega (arith, r.few_steps, one) };
}
