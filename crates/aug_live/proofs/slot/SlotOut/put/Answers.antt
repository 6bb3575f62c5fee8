use Rattle.std.proofs.Common.{◌≡◌, ◌∙◌, refl, sym, subst}
use Rattle.std.specs.Prelude.{IfSome, Option}
use Rattle.aug_trie.specs.Round.{TableFacts}
use Rattle.aug_live.proofs.Slotted.{turns}
use Rattle.aug_live.proofs.slot.SlotOut.put.Goals as goal

pub put-requires-clause-holds : goal.put-requires-clause-holds
put-requires-clause-holds g c = (
  c.args.slot,
  (c.self.invariant.2 ∙ c.self.view_is ∙ sym c.requires, c.self.invariant.3),
  λ views on at. turns _ _ _ _ views on at (subst (λ (v : Option TableFacts). IfSome v (λ t. c.args.slot ≡ t)) (c.requires ∙ sym c.self.view_is) refl),
)
