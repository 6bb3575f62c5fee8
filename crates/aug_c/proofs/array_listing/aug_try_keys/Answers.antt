use Rattle.std.proofs.Common.{◌∙◌, ap, refl}
use Rattle.aug_c.specs.Handles.{state_in}
use Rattle.aug_c.proofs.Calls.{looking_call, same_code}
use Rattle.aug_c.proofs.array_listing.aug_try_keys.Goals as goal

pub returns-in-Some : goal.returns-in-Some
returns-in-Some c =
    looking_call _ _ c.args.user.now _ c.in-User.held c.held.inside.access c.held.inside.look c.in-Some.look c.list.new.look _ c.list.result (c.is_open.ensures.0 c.if-not-is_open.false) (ap state_in c.as_slot.ensures.value ∙ c.in-User.is) c.held.view_is c.in-Some.is refl refl
    (same_code c.list.result c.list.type_inv) c.list.ensures.keys
