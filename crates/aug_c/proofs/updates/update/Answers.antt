use Rattle.std.proofs.Common.{◌∙◌, ap, refl}
use Rattle.aug_c.specs.Handles.{state_in}
use Rattle.aug_c.proofs.Calls.{same_code, update_call}
use Rattle.aug_c.proofs.updates.update.Goals as goal

pub returns-in-User : goal.returns-in-User
returns-in-User c = let code = same_code c.tell.result c.tell.type_inv in
    update_call _ _ c.args.user.now _ c.in-User.held c.held.inside.access c.update_by_access.new.access c.held.inside.look _ c.tell.result (c.is_open.ensures.0 c.if-not-is_open.false) (ap state_in c.as_slot.ensures.value ∙ c.in-User.is) c.held.view_is refl refl code
    (let e = c.update_by_access.ensures in record { answer = c.update_by_access.result; says = c.tell.ensures.code; tells = c.tell.ensures.tells; bad_key = e.bad_key; same = e.same; made = e.made; not_made = e.not_made; closed = e.closed })
