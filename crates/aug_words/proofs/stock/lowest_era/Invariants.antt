use Rattle.std.proofs.Common.{◌<◌, ◌≤◌, ℕ, get_or}
use Rattle.aug_core.specs.Records.{first_era}
use Rattle.aug_words.proofs.stock.lowest_era.Given as goal

abbrev pub invariant-loop-era : goal.invariant-loop-era
invariant-loop-era l = record {
  least : (slot : ℕ) → slot < l.era-index → 0 < get_or l.eras slot 0 → l.lowest ≤ first_era (get_or l.eras slot 0);
}
