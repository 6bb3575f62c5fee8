use Rattle.std.proofs.Common.{arith}
use Rattle.aug_model.proofs.Pairs.{length-keys_of}
use Rattle.aug_model.proofs.StoredLemmas.{length-fits, length-le-universe}
use Rattle.aug_model.proofs.key_set.KeySet.size.Goals as goal

pub overflow_cast-result : goal.overflow_cast-result
overflow_cast-result c = omega (arith, length-fits _ _ _ c.self.invariant)

pub returns-clause-value : goal.returns-clause-value
returns-clause-value c = rw (← c.self.view_is) (omega (arith, c.len.ensures, length-keys_of c.self.inside.members.items))

pub returns-clause-at_most : goal.returns-clause-at_most
returns-clause-at_most c = rw (← c.self.view_is) (omega (arith, length-keys_of c.self.inside.members.items, length-le-universe _ _ _ c.self.invariant))
