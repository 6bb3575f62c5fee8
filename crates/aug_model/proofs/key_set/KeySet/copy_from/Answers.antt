use Rattle.std.proofs.Common.{arith}
use Rattle.aug_model.proofs.StoredLemmas.{length-le-universe}
use Rattle.aug_model.proofs.key_set.KeySet.copy_from.Goals as goal

pub unreachable-requires : goal.unreachable-requires
unreachable-requires c =
    let same = rw (← c.self.view_is, ← c.other.view_is) at c.requires in
    let most = rw (← same) at (length-le-universe _ _ _ c.other.invariant) in
    omega (arith, most, c.self.invariant.room, c.in_default.ensures.full, c.clear.ensures.len, c.clear.ensures.capacity, c.deref.ensures.len)
