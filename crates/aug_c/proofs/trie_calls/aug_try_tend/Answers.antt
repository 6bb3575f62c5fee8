use Rattle.std.proofs.Common.{rules, ◌∙◌, ap, refl}
use Rattle.aug_c.specs.Handles.{state_in}
use Rattle.aug_c.specs.TrieCalls.{TendsTrie}
use Rattle.aug_c.proofs.Opening.{on_trie}
use Rattle.aug_c.proofs.trie_calls.aug_try_tend.Goals as goal

pub returns-in-Trie-clause-tends : goal.returns-in-Trie-clause-tends
returns-in-Trie-clause-tends c = on_trie TendsTrie _ _ _ c.in-Trie.opened c.tend.new.trie _ c.tend.result (ap state_in c.as_slot.ensures.value ∙ c.in-Trie.is) refl (search rules) c.tend.ensures
