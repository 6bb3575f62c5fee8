use Rattle.std.proofs.Common.{◌∙◌, ap, refl}
use Rattle.aug_c.specs.Handles.{state_in}
use Rattle.aug_c.proofs.Calls.{same_code, looking_call}
use Rattle.aug_c.proofs.queries.ask.Goals as goal

pub returns-in-Some : goal.returns-in-Some
returns-in-Some g c = let code = same_code c.number.result c.number.type_inv in
    looking_call _ _ c.args.user.now _ c.in-User.held c.held.inside.access c.held.inside.look c.in-Some.look c.ask.new.self _ c.number.result (c.is_open.ensures.0 c.if-not-is_open.false) (ap state_in c.as_slot.ensures.value ∙ c.in-User.is) c.held.view_is c.in-Some.is refl refl code
    (record { answer = c.ask.result; is = c.ask.ensures.answer; says = c.number.ensures; most = _; asked = c.ask.ensures.asked })
