use Rattle.std.proofs.Common.{sym, arith}
use Rattle.aug_model.proofs.Boundaries.{rank-at_boundary}
use Rattle.aug_model.proofs.Pairs.{length-keys_of}
use Rattle.aug_model.proofs.StoredLemmas.{length-fits}
use Rattle.aug_model.proofs.key_set.KeySet.rank.Goals as goal

pub overflow_cast-result : goal.overflow_cast-result
overflow_cast-result c = omega (arith, length-fits _ _ _ c.self.invariant, c.place_of.ensures.within, length-keys_of c.deref.result.now, c.deref.ensures.len)

pub returns : goal.returns
returns c = rw (← c.self.view_is, ← c.deref.ensures.value) (sym (rank-at_boundary _ _ _ c.place_of.ensures))
