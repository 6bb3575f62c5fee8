use Rattle.std.proofs.Common.{◌∙◌, ap, refl}
use Rattle.aug_c.specs.Handles.{state_in}
use Rattle.aug_c.specs.Users.{UserFacts}
use Rattle.aug_c.specs.declared.state.HandleState.TheVariants.{User}
use Rattle.aug_c.proofs.Opening.{user_opened}
use Rattle.aug_c.proofs.trie_calls.open_user.Goals as goal

pub returns : goal.returns
returns c = user_opened c.args.user.now c.hold.new.self c.args.trie.now (record { live = c.args.trie.now.live; spare = c.pop.new.self }) c.in-Some.access
    (ap state_in c.hold.ensures.value ∙ c.filled-slot.ensures ∙ ap (λ (u : UserFacts). User u) c.of.ensures) c.hold.ensures.mark refl c.in-Some.ensures.items
