use Rattle.std.proofs.Common.{◌≡◌, ◌-◌, length, drop}
use Rattle.aug_live.specs.LiveHandles.{set_of_look}
use Rattle.aug_c.proofs.Listing.{Written}
use Rattle.aug_c.proofs.array_listing.list.Given as goal

abbrev pub invariant-loop-listed : goal.invariant-loop-listed
invariant-loop-listed g l = record {
  written : Written (λ s k. g.O.Order.members s k) l.fn.look l.key l.fn.keys l.fn.weights l.listed l.look l.keys l.weights;
  rest : g.O.Order.members (set_of_look l.fn.look) l.from ≡ drop l.listed (g.O.Order.members (set_of_look l.fn.look) l.key);
}

abbrev pub decreases-loop-listed : goal.decreases-loop-listed
decreases-loop-listed g l = length l.keys - l.listed
