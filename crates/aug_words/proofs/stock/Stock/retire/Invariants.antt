use Rattle.std.proofs.Common.{◌≡◌, ◌+◌, ◌<◌, ◌≤◌, ℕ, get_or, length}
use Rattle.aug_words.proofs.stock.Stock.retire.Given as goal

abbrev pub invariant-loop-i : goal.invariant-loop-i
invariant-loop-i g l = record {
  same : (l.self-inside.words.items ≡ l.fn.self.words) × (l.self-inside.free ≡ l.fn.self.free) × (l.self-inside.replaced ≡ l.fn.self.replaced) × (l.self-inside.era ≡ l.fn.self.era);
  long : length l.self-inside.deaths.items ≡ length l.fn.self.deaths;
  retired : (j : ℕ) → l.fn.self.free ≤ j → j < l.i → get_or l.self-inside.deaths.items j 0 ≡ l.era;
  others : (j : ℕ) → l.fn.self.free + l.fn.self.replaced ≤ j → get_or l.self-inside.deaths.items j 0 ≡ get_or l.fn.self.deaths j 0;
}
