use Rattle.std.proofs.Common.{◌≡◌, ◌∙◌, refl, sym, subst}
use Rattle.std.specs.Prelude.{IsSome, None, Option}
use Rattle.ruled_lock.specs.Locks.{client_of}
use Rattle.aug_trie.specs.Round.{TableFacts}
use Rattle.aug_live.proofs.Slotted.{forks, learns, none_known, put_known, turns}
use Rattle.aug_live.proofs.slot.SlotEnd.pair.Goals as goal

pub take-requires-clause-rule : goal.take-requires-clause-rule
take-requires-clause-rule g c = learns _ _

pub put-requires-clause-holds : goal.put-requires-clause-holds
put-requires-clause-holds g c =
    let none : client_of c.take.new.key ≡ None = c.take.ensures.view ∙ c.in_ok-lock.ensures.3 in
    (c.in-Ok-take.nothing, c.in-Ok-take.ensures.holds, λ views on at. turns _ _ _ _ views on at (none_known _ _ none))

pub another-other-requires-clause-rule : goal.another-other-requires-clause-rule
another-other-requires-clause-rule g c = forks _ _ (subst (λ (v : Option TableFacts). IsSome v) (sym (put_known c.take.new.key.me.0.taken c.in-Ok-take.nothing _ (client_of c.put.new.key) c.in-Ok-take.ensures.holds.0 c.put.ensures.then)) refl)
