use Rattle.std.proofs.Common.{◌∙◌, ap}
use Rattle.aug_c.specs.declared.state.Opened.{Opened}
use Rattle.aug_c.specs.Handles.{state_in}
use Rattle.aug_c.proofs.Opening.{is_opened, opens}
use Rattle.aug_c.proofs.trie_calls.open_set.Goals as goal

pub returns : goal.returns
returns c = let e = c.in-Ok-open.ensures in let a = c.args in
    let trie : Opened = record { live = c.in-Ok-open.live; spare = c.in-Ok-open.spare } in
    opens a.set.bits a.users a.bytes trie a.trie.now c.hold.new.self c.requires.bits c.requires.users c.requires.suits (ap state_in c.hold.ensures.value ∙ c.filled-slot.ensures) c.hold.ensures.mark (is_opened a.set.bits a.users a.bytes trie a.set c.requires.empty e.opened e.handles e.new)
