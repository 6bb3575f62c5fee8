use Rattle.std.proofs.Common.{rules, ◌∙◌, ap, refl}
use Rattle.aug_c.specs.Handles.{state_in}
use Rattle.aug_c.specs.TrieCalls.{OpensUser}
use Rattle.aug_c.proofs.Opening.{on_trie}
use Rattle.aug_c.proofs.trie_calls.aug_try_user_open.Goals as goal

pub returns-in-Trie-clause-opens : goal.returns-in-Trie-clause-opens
returns-in-Trie-clause-opens c _ = on_trie (OpensUser c.args.user.now c.open_user.new.user) _ _ _ c.in-Trie.opened c.open_user.new.trie _ c.open_user.result (ap state_in c.as_slot.ensures.value ∙ c.in-Trie.is) refl (search rules) c.open_user.ensures
