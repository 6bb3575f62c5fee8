use Rattle.std.proofs.lemmas.Result.{IfErr-weaker}
use Rattle.aug_command.proofs.CommandLineLemmas.{stops_words, tells_of_words}
use Rattle.aug_command.proofs.command_line.words.options.Goals as goal

pub returns-in-Ok-clause-stopped : goal.returns-in-Ok-clause-stopped
returns-in-Ok-clause-stopped c =
    IfErr-weaker c.options_of.result _ _ (λ s stops. stops_words _ _ s c.in-Ok.ensures.fails c.in-Ok.ensures.rows stops) c.options_of.ensures.err

pub returns-in-Err-clause-stopped : goal.returns-in-Err-clause-stopped
returns-in-Err-clause-stopped c =
    tells_of_words _ c.in-Err.error.kind c.stop_of.result c.in-Err.ensures.fails c.stop_of.ensures.told c.stop_of.ensures.memory
