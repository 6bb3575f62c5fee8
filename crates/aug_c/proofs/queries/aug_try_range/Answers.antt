use Rattle.std.proofs.Common.{rules, ◌≡◌, ◌∙◌, ap, refl, subst, pos, length}
use Rattle.aug_model.specs.Queries.{weighted_range_of}
use Rattle.aug_live.specs.LiveHandles.{set_of_look}
use Rattle.aug_c.specs.Handles.{state_in}
use Rattle.aug_c.specs.UserCalls.{IsSpan}
use Rattle.aug_c.proofs.Calls.{same_code, looking_call}
use Rattle.aug_c.proofs.queries.aug_try_range.Goals as goal

pub returns-in-Some : goal.returns-in-Some
returns-in-Some c = let code = same_code c.from.result c.from.type_inv in
    let says : c.from.result ≡ pos (length (weighted_range_of (set_of_look c.in-Some.look).pairs c.args.from c.args.to)) = search rules in
    looking_call _ _ c.args.user.now _ c.in-User.held c.held.inside.access c.held.inside.look c.in-Some.look c.ask-told.new.self _ c.from.result (c.is_open.ensures.0 c.if-not-is_open.false) (ap state_in c.as_slot.ensures.value ∙ c.in-User.is) c.held.view_is c.in-Some.is refl refl code
    (record { asks = record { says = says; most = _; asked = c.ask-told.ensures.asked }; is = subst (λ told. IsSpan told c.span_from.result) c.ask-told.ensures.answer c.span_from.ensures })
