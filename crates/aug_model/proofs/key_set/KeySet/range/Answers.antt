use Rattle.std.proofs.Common.{◌≡◌, ◌-◌, arith}
use Rattle.aug_model.proofs.Boundaries.{range-at_boundaries, length-between-le}
use Rattle.aug_model.proofs.StoredLemmas.{length-fits}
use Rattle.aug_model.proofs.key_set.KeySet.range.Goals as goal

pub overflow_cast-result : goal.overflow_cast-result
overflow_cast-result g c =
    omega (arith, length-fits _ _ _ c.self.invariant, c.deref-3.ensures.len, length-between-le c.deref-3.result.now c.place_of-start.result (c.max-end.result - c.place_of-start.result))

pub returns : goal.returns
returns g c =
    let boundary_a = rw c.deref.ensures.value at c.place_of-start.ensures in
    let boundary_b = rw c.deref-2.ensures.value at c.place_of.ensures in
    let members = range-at_boundaries _ _ _ _ _ boundary_a boundary_b in
    let width : c.max-end.result - c.place_of-start.result ≡ c.place_of.result - c.place_of-start.result = omega (arith, c.max-end.ensures) in
    rw (← c.self.view_is, c.fold_slice.ensures.fold, c.fold_slice-2.ensures.fold, c.deref-3.ensures.value, width, members)
