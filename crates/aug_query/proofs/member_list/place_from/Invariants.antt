use Rattle.std.proofs.Common.{ℕ, ◌-◌, ◌<◌, ◌≤◌, length, slice_index}
use Rattle.std.specs.List.Sorted.{IsStrictlyIncreasing}
use Rattle.aug_model.specs.Keys.{list_of}
use Rattle.aug_query.proofs.member_list.place_from.Given as goal

abbrev pub invariant-loop-place : goal.invariant-loop-place
invariant-loop-place g l = let keys = list_of (g.L.MemberList.set_of l.list) in record {
  ordered : l.place ≤ l.end;
  within : l.end ≤ length keys;
  front : (i : ℕ) → i < l.place → slice_index keys i < l.key;
  back : (i : ℕ) → l.end ≤ i → i < length keys → l.key ≤ slice_index keys i;
  rising : IsStrictlyIncreasing keys;
}

abbrev pub decreases-loop-place : goal.decreases-loop-place
decreases-loop-place g l = l.end - l.place
