use Rattle.std.proofs.Common.{◌<◌, ℕ, get_or}
use Rattle.aug_words.specs.Stocks.{IsHeld}
use Rattle.aug_words.proofs.stock.is_held.Given as goal

abbrev pub invariant-loop-era : goal.invariant-loop-era
invariant-loop-era l = record {
  none : (slot : ℕ) → slot < l.era-index → IsHeld (get_or l.eras slot 0) l.birth l.death → ⊥;
}
