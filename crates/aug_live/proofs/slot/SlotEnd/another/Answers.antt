use Rattle.std.proofs.Common.{sym, subst}
use Rattle.std.specs.Prelude.{IsSome, Option}
use Rattle.aug_trie.specs.Round.{TableFacts}
use Rattle.aug_live.proofs.Slotted.{forks}
use Rattle.aug_live.proofs.slot.SlotEnd.another.Goals as goal

pub another-key-requires-clause-rule : goal.another-key-requires-clause-rule
another-key-requires-clause-rule g c = forks _ _ (subst (λ (v : Option TableFacts). IsSome v) (sym c.self.view_is) c.requires)
