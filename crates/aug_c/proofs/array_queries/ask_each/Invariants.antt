use Rattle.std.proofs.Common.{◌-◌, ◌≤◌, length}
use Rattle.aug_c.proofs.Reading.{Asked}
use Rattle.aug_c.proofs.array_queries.ask_each.Given as goal

abbrev pub invariant-loop-place : goal.invariant-loop-place
invariant-loop-place g l = record {
  within : l.place ≤ length l.keys;
  room : length l.keys ≤ length l.fn.out;
  asked : Asked g.E.KeyQuery.answer_of l.keys l.fn.out l.fn.look l.place l.look l.out;
}

abbrev pub decreases-loop-place : goal.decreases-loop-place
decreases-loop-place g l = length l.keys - l.place

abbrev pub invariant-loop-at : goal.invariant-loop-at
invariant-loop-at g l = Asked g.E.KeyQuery.answer_of l.keys l.fn.out l.fn.look l.at l.look l.out
