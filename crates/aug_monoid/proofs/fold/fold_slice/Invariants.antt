use Rattle.std.proofs.Common.{◌≡◌, ◌≤◌, length, take, All}
use Rattle.aug_monoid.specs.Fold.{fold_of}
use Rattle.aug_monoid.specs.Weighted.{FitsPair}
use Rattle.aug_monoid.proofs.fold.fold_slice.Given as goal

abbrev pub invariant-loop-key : goal.invariant-loop-key
invariant-loop-key g l =
    let m = g.M.Monoid in
    record {
      in_range : l.key-index ≤ length l.keys;
      fit : All FitsPair (take l.key-index l.keys);
      folded : l.total ≡ fold_of m.parts (take l.key-index l.keys);
    }
