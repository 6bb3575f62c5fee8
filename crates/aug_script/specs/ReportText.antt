-- The text of a report. With round 1 the row `0,size` prints `1 0 size = 3`, and `0,before,1` prints `1 0 before 1 = -`.
use Rattle.std.specs.Prelude.{ℕ, List, ◌++◌, map, codes, Option, Some, None}
use Rattle.std.specs.Fmt.{decimal}
use Rattle.std.specs.List.{concat}
use Rattle.aug_monoid.specs.declared.extent.Extent.{Extent}
use Rattle.aug_script.specs.Script.{written}
use Rattle.aug_script.specs.declared.reply.Reply.{Reply}
use Rattle.aug_script.specs.declared.reply.Reply.TheVariants as reply
use Rattle.aug_script.specs.declared.report.Report.{Report}
use Rattle.aug_script.specs.declared.row.Row.{Row}
use Rattle.aug_script.specs.declared.verb.Verb.{Verb}

-- a verb with its arguments, parted by blanks
abbrev pub verb_text : Verb → List ℕ
verb_text asked = (written asked).0 ++ concat (map (λ n. codes " " ++ decimal n) (written asked).1)

-- the least and the greatest of some keys, or `- -` if there are none
abbrev pub extent_text : Extent → List ℕ
extent_text None = codes "- -"
extent_text (Some bounds) = decimal bounds.0 ++ codes " " ++ decimal bounds.1

-- the key or the weight that was found, or `-` if there is none
abbrev pub found_text : Option ℕ → List ℕ
found_text None = codes "-"
found_text (Some number) = decimal number

-- a reply
abbrev pub reply_text : Reply → List ℕ
reply_text reply.New = codes "new"
reply_text reply.Old = codes "old"
reply_text reply.Set = codes "set"
reply_text reply.Lost = codes "lost"
reply_text reply.Gone = codes "gone"
reply_text reply.Absent = codes "none"
reply_text reply.Looked = codes "ok"
reply_text reply.Yes = codes "yes"
reply_text reply.No = codes "no"
reply_text (reply.Number n) = decimal n
reply_text (reply.Found key) = found_text key
reply_text (reply.Span s) = decimal s.count ++ codes " " ++ decimal s.a ++ codes " " ++ extent_text s.b

-- the line of a row and its reply, in the round with this number: `<round> <lane> <verb args> = <reply>`
abbrev pub line_text : ℕ → Row × Reply → List ℕ
line_text number line =
    decimal number ++ codes " " ++ decimal line.0.lane ++ codes " " ++ verb_text line.0.verb ++ codes " = " ++ reply_text line.1 ++ codes "\n"

-- the last line: `<round> end size=<s> in=<i> out=<o>`
abbrev pub end_text : Report → List ℕ
end_text report =
    decimal report.number ++ codes " end size=" ++ decimal report.size ++ codes " in=" ++ decimal report.inserts ++ codes " out=" ++ decimal report.removals ++ codes "\n"

-- a line for each row, in order, and then the last line
abbrev pub report_text : Report → List ℕ
report_text report = concat (map (line_text report.number) report.rows) ++ end_text report
