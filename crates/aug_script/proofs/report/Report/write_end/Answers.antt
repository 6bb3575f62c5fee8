use Rattle.std.specs.Prelude.{codes}
use Rattle.std.specs.Fmt.{decimal}
use Rattle.std.proofs.lemmas.Result.{on_ok_weaker}
use Rattle.aug_script.proofs.Lines.{eight_pieces}
use Rattle.aug_script.proofs.report.Report.write_end.Goals as goal

pub returns : goal.returns
returns c =
    let report = c.args.self.now in
    on_ok_weaker c.writeln.result (eight_pieces _ _ (decimal report.number) (codes " end size=") (decimal report.size) (codes " in=") (decimal report.inserts) (codes " out=") (decimal report.removals) (codes "\n")) c.writeln.ensures.bytes
