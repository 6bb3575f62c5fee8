use Rattle.std.proofs.Common.{◌≡◌, ◌∙◌, ap, ap₂, true, codes}
use Rattle.std.proofs.lemmas.Result.{IfOk-weaker}
use Rattle.clap.specs.Simple.{App, app_of_fields}
use Rattle.clap.specs.Words.{app_of, new_app, with_rule}
use Rattle.aug_command.proofs.command_line.words.command.Goals as goal

abbrev without_name : App → App
without_name a = record a { top = record a.top { no_binary_name = true } }

pub returns : goal.returns
returns c =
    let bare : app_of c.no_binary_name.result ≡ without_name (new_app (codes "augtrie")) =
    ap app_of_fields c.no_binary_name.ensures ∙ ap without_name (ap app_of_fields c.about.ensures ∙ c.new.ensures.app) in
    let one = c.in_ok-arg.ensures.shape c.bits.ensures.own ∙ ap₂ with_rule bare c.bits.ensures.rule in
    let two = c.in_ok-arg-2.ensures.shape c.workers.ensures.own ∙ ap₂ with_rule one c.workers.ensures.rule in
    let three = c.in_ok-arg-3.ensures.shape c.updates.ensures.own ∙ ap₂ with_rule two c.updates.ensures.rule in
    IfOk-weaker c.arg-4.result _ _ (λ r added. added.shape c.file.ensures.own ∙ ap₂ with_rule three c.file.ensures.rule) c.arg-4.ensures
