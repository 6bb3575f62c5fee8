use Rattle.std.proofs.Common.{◌≡◌, ◌+◌, ◌-◌, ◌*◌, ◌≤◌, ◌++◌, length, map, take, vec_len, vec_capacity}
use Rattle.aug_query.specs.Descend.{Descends}
use Rattle.aug_batch.proofs.batches.ask_all.Given as goal

abbrev pub invariant-loop-at : goal.invariant-loop-at
invariant-loop-at g l = record {
  most : l.at ≤ length l.keys;
  answer : l.out.items ≡ l.fn.out.items ++ map (λ k. g.Q.ByKey.value_of (g.D.Descend.set_of l.fn.tree) k) (take l.at l.keys);
  length : vec_len l.out ≡ vec_len l.fn.out + l.at;
  room : vec_capacity l.out ≡ vec_capacity l.fn.out;
  walk : Descends g.D.Descend.set_of g.D.Descend.loads_of g.D.Descend.Names g.D.Descend.KeepsRest (l.at * ((g.D.Descend.set_of l.fn.tree).bits + 1)) l.at 0 (l.at * (g.Q.ByKey.passed * (g.D.Descend.set_of l.fn.tree).bits)) l.fn.tree l.tree;
}

abbrev pub decreases-loop-at : goal.decreases-loop-at
decreases-loop-at g l = length l.keys - l.at
