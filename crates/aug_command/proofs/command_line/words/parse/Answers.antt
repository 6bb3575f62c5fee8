use Rattle.std.proofs.lemmas.Result.{IfOk-weaker}
use Rattle.aug_command.proofs.CommandLineLemmas.{numbers_found}
use Rattle.aug_command.proofs.command_line.words.parse.Goals as goal

pub returns-clause-numbers : goal.returns-clause-numbers
returns-clause-numbers c =
    let parse = c.try_get_matches_from in
    IfOk-weaker parse.result _ _ (λ m parsed. numbers_found c.in_ok-command.field-0 m parsed c.in_ok-command.ensures) parse.ensures.parsed
