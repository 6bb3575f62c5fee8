use Rattle.std.specs.Prelude.{codes}
use Rattle.std.specs.Fmt.{decimal}
use Rattle.std.proofs.lemmas.Result.{on_ok_weaker}
use Rattle.aug_script.specs.ReportText.{reply_text, verb_text}
use Rattle.aug_script.proofs.Lines.{eight_pieces}
use Rattle.aug_script.proofs.report.write_line.Goals as goal

pub returns : goal.returns
returns c =
    let line = c.args.line.now in
    on_ok_weaker c.writeln.result (eight_pieces _ _ (decimal c.args.number) (codes " ") (decimal line.0.lane) (codes " ") (verb_text line.0.verb) (codes " = ") (reply_text line.1) (codes "\n")) c.writeln.ensures.bytes
