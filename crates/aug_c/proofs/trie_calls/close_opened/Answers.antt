use Rattle.std.proofs.Common.{◌∙◌, ap, refl}
use Rattle.aug_c.specs.Handles.{state_in}
use Rattle.aug_c.proofs.Opening.{goes_on}
use Rattle.aug_c.proofs.trie_calls.close_opened.Goals as goal

pub returns-in-Err : goal.returns-in-Err
returns-in-Err c = goes_on c.args.opened (record { live = c.in-Err.live; spare = c.args.opened.spare }) c.hold.new.self c.args.out.now (ap state_in c.hold.ensures.value ∙ c.filled-slot.ensures) c.hold.ensures.mark c.in-Err.ensures.goes_on refl
