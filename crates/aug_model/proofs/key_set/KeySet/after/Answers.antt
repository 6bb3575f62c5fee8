use Rattle.std.proofs.Common.{ap, ◌∙◌, option_map}
use Rattle.aug_model.proofs.Boundaries.{after-at_boundary}
use Rattle.aug_model.proofs.key_set.KeySet.after.Goals as goal

pub returns : goal.returns
returns c =
    let above = rw c.deref.ensures.value at (after-at_boundary _ _ _ c.place_of-place.ensures) in
    rw (← c.self.view_is, above, ← c.deref-2.ensures.value) (c.key_of.ensures ∙ ap (option_map (λ p. p.0)) c.first.ensures.value)
