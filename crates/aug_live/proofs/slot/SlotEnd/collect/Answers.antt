use Rattle.std.proofs.Common.{◌≡◌, ◌∙◌, subst}
use Rattle.std.specs.Prelude.{IfSome, Option, Some}
use Rattle.ruled_lock.specs.Locks.{client_of}
use Rattle.aug_trie.specs.Round.{TableFacts}
use Rattle.aug_live.proofs.Slotted.{learns, some_known, turns}
use Rattle.aug_live.proofs.slot.SlotEnd.collect.Goals as goal

pub take-requires-clause-rule : goal.take-requires-clause-rule
take-requires-clause-rule g c = learns _ _

pub put-requires-clause-holds : goal.put-requires-clause-holds
put-requires-clause-holds g c =
    let was = c.self.view_is ∙ c.requires.slot in let known : client_of c.take.new.key ≡ Some c.args.round.now = c.take.ensures.view ∙ was in
    let here : c.in-Ok.slot ≡ c.args.round.now = subst (λ (v : Option TableFacts). IfSome v (λ t. c.in-Ok.slot ≡ t)) was c.in-Ok.ensures.fact in
    (c.in-Ok.slot, c.in-Ok.ensures.holds, λ views on at. turns _ _ _ _ views on at (some_known _ _ _ known (c.slot.view_is ∙ here)))
