-- The rows of a lane that were answered, and one more.
use Rattle.std.proofs.Common.{List, [], ◌∷◌, ◌++◌, refl, ap, ◌∙◌}
use Rattle.std.proofs.lemmas.List.{map-append}
use Rattle.aug_report.specs.AllowedReport.{Lane, Answers, AnswersAll}
use Rattle.aug_run.specs.inside.Workers.{AnswersRows}
use Rattle.aug_script.specs.declared.reply.Reply.{Reply}
use Rattle.aug_script.specs.declared.row.Row.{Row}

answers_snoc : (lines : List (Row × Reply)) (line : Row × Reply) (old mid new : Lane) → AnswersAll lines old mid → Answers line.0.verb line.1 mid new → AnswersAll (lines ++ line ∷ []) old new
unfolding AnswersAll
answers_snoc [] line old mid new same answers = let first : Answers line.0.verb line.1 old new = rw same at answers in (new, first, refl)
answers_snoc (first ∷ lines) line old mid new all answers = (all.0, all.1, answers_snoc lines line all.0 mid new all.2 answers)

pub answers_none : (lane : Lane) → AnswersRows [] [] lane lane
unfolding AnswersAll
answers_none lane = record { lines = []; rows_are = refl; replies_are = refl; answers = refl }

pub answers_more : (rows : List Row) (replies : List Reply) (row : Row) (reply : Reply) (old mid new : Lane) → AnswersRows rows replies old mid → Answers row.verb reply mid new
    → AnswersRows (rows ++ row ∷ []) (replies ++ reply ∷ []) old new
answers_more rows replies row reply old mid new all answers =
    let line : Row × Reply = (row, reply) in
    record {
      lines = all.lines ++ line ∷ [];
      rows_are = map-append (λ (l : Row × Reply). l.0) all.lines (line ∷ []) ∙ ap (λ l. l ++ row ∷ []) all.rows_are;
      replies_are = map-append (λ (l : Row × Reply). l.1) all.lines (line ∷ []) ∙ ap (λ l. l ++ reply ∷ []) all.replies_are;
      answers = answers_snoc all.lines line old mid new all.answers answers;
    }
