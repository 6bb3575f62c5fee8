use Rattle.std.proofs.Common.{arith, ap, ◌∙◌}
use Rattle.aug_core.specs.Places.{Shape, lane_place}
use Rattle.aug_words.specs.Seats.{Store}
use Rattle.aug_words.proofs.Brought.{goes_on, lane_freed}
use Rattle.aug_words.proofs.Lays.{changes_none, changes_on, frees_none, part_words}
use Rattle.aug_words.proofs.words.Words.free_lanes.Goals as goal

pub loop-lane-init : goal.loop-lane-init
loop-lane-init g c = record { in_range = omega arith; may = c.requires.may; changes = changes_none _ _ _; frees = frees_none c.args.self.now.shape _ }

pub loop-lane-preserved : goal.loop-lane-preserved
loop-lane-preserved g c =
    let s : Shape = c.args.self.now.shape in let i = c.loop-lane.invariant in let last = c.workers-lane-end.ensures
    ∙ ap (λ (z : Store). z.shape.workers) c.self.view_is in let low = c.loop-lane-test.true in let put = c.put_word.ensures in record {
      in_range = goes_on c.loop-lane.lane _ s.workers low last;
      may = put.may;
      changes = changes_on c.args.base s _ _ _ i.changes put.puts.changes;
      frees = lane_freed s c.loop-lane.lane _ _ _ _ _ low last (c.self.invariant.lanes_are
          ∙ ap (λ (z : Store). lane_place z.shape 0) c.self.view_is) (part_words c.args.base s _ _ c.loop-lane.seat.me i.may) i.frees put.puts.puts;
    }
