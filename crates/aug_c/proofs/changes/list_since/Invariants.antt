use Rattle.std.proofs.Common.{◌≡◌, ◌-◌, length, drop}
use Rattle.aug_model.specs.Differences.{changes_from}
use Rattle.aug_live.specs.LiveHandles.{set_of_look}
use Rattle.aug_c.specs.ChangeCalls.{set_of_arrays}
use Rattle.aug_c.proofs.Since.{SinceWritten}
use Rattle.aug_c.proofs.changes.list_since.Given as goal

abbrev pub invariant-loop-listed : goal.invariant-loop-listed
invariant-loop-listed l = record {
  written : SinceWritten (set_of_arrays l.list.keys.now l.list.weights.now) l.fn.look l.from l.fn.out l.listed l.look l.out;
  rest : changes_from (set_of_arrays l.list.keys.now l.list.weights.now) (set_of_look l.fn.look) l.next ≡ drop l.listed (changes_from (set_of_arrays l.list.keys.now l.list.weights.now) (set_of_look l.fn.look) l.from);
}

abbrev pub decreases-loop-listed : goal.decreases-loop-listed
decreases-loop-listed l = length l.out - l.listed
