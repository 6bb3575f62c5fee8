use Rattle.std.proofs.Common.{◌≡◌, string_bytes, take, map}
use Rattle.std.specs.List.{concat}
use Rattle.aug_script.specs.ReportText.{line_text}
use Rattle.aug_script.proofs.report.Report.text.Given as goal

abbrev pub invariant-loop-line : goal.invariant-loop-line
invariant-loop-line l = string_bytes l.text ≡ concat (map (line_text l.self.number) (take l.line-index l.line-items))
