use Rattle.std.proofs.Common.{◌∙◌, ap, refl}
use Rattle.aug_c.specs.Handles.{state_in}
use Rattle.aug_c.proofs.Calls.{same_code, update_call}
use Rattle.aug_c.proofs.array_updates.update_all.Goals as goal

pub returns-in-User : goal.returns-in-User
returns-in-User c = let code = same_code c.update_all_by_access.result c.update_all_by_access.type_inv in
    update_call _ _ c.args.user.now _ c.in-User.held c.held.inside.access c.update_all_by_access.new.access c.held.inside.look _ c.update_all_by_access.result (c.is_open.ensures.0 c.if-not-is_open.false) (ap state_in c.as_slot.ensures.value ∙ c.in-User.is) c.held.view_is refl refl code
    c.update_all_by_access.ensures.updates
