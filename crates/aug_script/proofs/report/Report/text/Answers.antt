use Rattle.std.proofs.Common.{◌++◌, List, ℕ, map, take, sym, ap, ◌∙◌}
use Rattle.std.proofs.lemmas.List.{take_all}
use Rattle.std.specs.List.{concat}
use Rattle.aug_script.specs.ReportText.{line_text, end_text}
use Rattle.aug_script.specs.declared.reply.Reply.{Reply}
use Rattle.aug_script.specs.declared.row.Row.{Row}
use Rattle.aug_script.proofs.Lines.{concat-take_more}
use Rattle.aug_script.proofs.report.Report.text.Goals as goal

pub loop-line-preserved : goal.loop-line-preserved
loop-line-preserved c =
    let more = concat-take_more (line_text c.args.self.now.number) c.as_slice-line-items.result.now c.loop-line.line-index c.line-item.result c.loop-line-test.true in
    let lines = concat (map (line_text c.args.self.now.number) (take c.loop-line.line-index c.as_slice-line-items.result.now)) in
    c.in_ok-write_line.ensures ∙ ap (λ (text : List ℕ). text ++ line_text c.args.self.now.number c.line-item.result) c.loop-line.invariant
    ∙ ap (λ (line : Row × Reply). lines ++ line_text c.args.self.now.number line) c.line-item.is ∙ sym more

pub returns : goal.returns
returns c =
    let lines = λ (rows : List (Row × Reply)). concat (map (line_text c.args.self.now.number) rows) in
    let all = take_all c.loop-line.line-index c.as_slice-line-items.result.now c.loop-line-test.false ∙ c.as_slice-line-items.ensures in
    c.in_ok-write_end.ensures ∙ ap (λ (text : List ℕ). text ++ end_text c.args.self.now) (c.loop-line.invariant ∙ ap lines all)
