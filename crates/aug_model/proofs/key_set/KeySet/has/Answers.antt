use Rattle.std.proofs.Common.{◌∙◌}
use Rattle.aug_model.proofs.Membership.{is_member-found}
use Rattle.aug_model.proofs.key_set.KeySet.has.Goals as goal

pub returns : goal.returns
returns c = rw (← c.self.view_is, ← c.deref.ensures.value) (c.is_ok.ensures.value ∙ is_member-found _ _ _ c.find_key.ensures.there c.find_key.ensures.absent)
