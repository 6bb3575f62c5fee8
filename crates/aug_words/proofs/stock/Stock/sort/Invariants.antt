use Rattle.std.proofs.Common.{◌≡◌, ◌≤◌, length}
use Rattle.aug_words.specs.inside.Stocking.{Sorts}
use Rattle.aug_words.proofs.stock.Stock.sort.Given as goal

abbrev pub invariant-loop-i : goal.invariant-loop-i
invariant-loop-i l = record {
  past : l.self.free ≤ l.i;
  in_range : l.i ≤ length l.fn.self.words;
  retired : l.self.replaced ≡ 0;
  long : length l.fn.self.deaths ≡ length l.fn.self.words;
  sorts : Sorts l.eras l.fn.self l.self l.i;
}
