use Rattle.std.proofs.Common.{◌≡◌, ◌≤◌, get_or, length}
use Rattle.aug_words.specs.inside.Stocking.{HasLoaded}
use Rattle.aug_words.proofs.stock.load_reservations.Given as goal

abbrev pub invariant-loop-lane : goal.invariant-loop-lane
invariant-loop-lane g l = record {
  table : l.pass.table ≡ l.fn.pass.table;
  low : l.lane ≤ l.fn.words.shape.reservations;
  few : l.fn.words.shape.reservations ≤ 64;
  long : length l.eras ≡ 64;
  loads : HasLoaded l.fn.pass.view (λ k. get_or l.eras k 0) l.lane l.pass.view;
}
