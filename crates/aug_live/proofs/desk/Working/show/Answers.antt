use Rattle.std.proofs.Common.{◌≡◌, ◌∙◌, ap, sym, subst}
use Rattle.std.specs.Prelude.{IfOk, Result}
use Rattle.atomic_table.specs.Seated.{TableId}
use Rattle.aug_trie.specs.Round.{TableFacts}
use Rattle.aug_live.specs.LiveTries.{TrieFacts}
use Rattle.aug_live.specs.inside.LaneKnowledge.{EndRuns}
use Rattle.aug_live.specs.inside.Looks.{IsReaderOf, ShowsOrNot}
use Rattle.aug_live.proofs.Carries.{err_map}
use Rattle.aug_live.proofs.Shown.{end_shows, left_after}
use Rattle.aug_live.proofs.desk.Working.show.Goals as goal

pub take_reader-requires-clause-reader : goal.take_reader-requires-clause-reader
take_reader-requires-clause-reader g c =
    let here : c.args.end.known.at.half.round.table ≡ c.args.round.now.table = ap (λ (z : TableFacts). z.table) c.requires.together in
    let left = left_after c.run-end.result.1 c.args.show.now.reader c.run-end.new.op.reader c.run-end.new.op.left c.args.show.now.left c.run-end.new.op.era c.args.end c.run-end.result.0 c.run-end.ensures.made (err_map _ _ c.run-end.result.1 (λ _ kept. ap (λ z. z.left) kept) c.run-end.ensures.kept)
    c.run-end.ensures.same.together (subst (λ (t : TableId). IsReaderOf t c.args.show.now.left) (sym here) c.requires.readers.1) in
    let mine = subst (IsReaderOf c.args.end.known.at.half.round.table) (sym c.take.ensures.value ∙ c.in-Some.is) left in
    mine ∙ here ∙ sym c.requires.table ∙ sym (ap (λ (z : TrieFacts). z.table) c.self.view_is) ∙ sym (ap (λ (z : TableFacts). z.table) c.self.invariant.0.together)

pub returns-in-Ok-clause-shows : goal.returns-in-Ok-clause-shows
returns-in-Ok-clause-shows g c =
    let ran = subst (λ (r : Result _ _). IfOk r (λ shown. EndRuns (ShowsOrNot c.args.show.now.reader c.run-end.new.op.reader c.run-end.new.op.left c.run-end.new.op.era shown) c.args.end c.run-end.result.0)) c.in-Ok.is c.run-end.ensures.made in
    end_shows c.in-Ok.shown c.args.show.now.reader c.run-end.new.op.reader c.run-end.new.op.left c.take.new.self c.run-end.new.op.era c.args.end c.run-end.result.0 ran
    (subst (IsReaderOf c.run-end.result.0.known.at.half.round.table) (sym c.take.ensures.after) tt)
