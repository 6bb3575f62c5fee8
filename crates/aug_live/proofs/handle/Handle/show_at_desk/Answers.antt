use Rattle.std.proofs.Common.{◌∙◌, ap, sym}
use Rattle.aug_live.specs.LiveTries.{TrieFacts}
use Rattle.aug_live.specs.inside.LaneKnowledge.{handle_by}
use Rattle.aug_live.proofs.Shown.{at_desk, not_at_desk}
use Rattle.aug_live.proofs.handle.Handle.show_at_desk.Goals as goal

pub returns-clause-shows : goal.returns-clause-shows
returns-clause-shows g c = let i = c.self.inside in
    at_desk c.show-end.result.1 c.args.show.now.reader c.show-end.new.show.reader c.show-end.new.show.left c.show-end.new.show.era c.show-end.new.self i.lane c.args.self.now i.end c.in-Some.end c.show-end.result.0
    (ap (λ (z : TrieFacts). handle_by z i.lane i.end) c.show-end.ensures.desk ∙ c.self.view_is) (sym c.take.ensures.value ∙ c.in-Some.is) c.show-end.ensures.shows

pub returns-clause-not_made : goal.returns-clause-not_made
returns-clause-not_made g c = let i = c.self.inside in
    not_at_desk c.show-end.result.1 c.args.show.now.reader c.show-end.new.show.reader c.show-end.new.show.left c.show-end.new.show.era c.show-end.new.self i.lane c.args.self.now i.end c.in-Some.end c.show-end.result.0
    (ap (λ (z : TrieFacts). handle_by z i.lane i.end) c.show-end.ensures.desk ∙ c.self.view_is) (sym c.take.ensures.value ∙ c.in-Some.is) c.show-end.ensures.same c.requires.needs.0 c.show-end.ensures.shows
