use Rattle.std.proofs.Common.{◌≡◌, ◌+◌, ◌<◌, ℕ, get_or, length}
use Rattle.aug_words.proofs.stock.Stock.new.Given as goal

abbrev pub invariant-loop-i : goal.invariant-loop-i
invariant-loop-i g l = record {
  long : length l.numbers.items ≡ l.count;
  filled : (j : ℕ) → j < l.i → get_or l.numbers.items j 0 ≡ l.first + j;
}
