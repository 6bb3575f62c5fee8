use Rattle.std.proofs.Common.{◌≡◌, ◌≤◌, ◌+◌, ◌-◌, ◌^◌, suc}
use Rattle.aug_core.specs.Places.{level_start}
use Rattle.aug_core.specs.Faces.{face}
use Rattle.aug_words.specs.inside.Builds.{next_own, IsBuilt}
use Rattle.aug_words.proofs.building.Building.build_level.Given as goal

abbrev pub invariant-loop-place : goal.invariant-loop-place
invariant-loop-place g l =
    let o = l.fn.self.plan.key in
    record {
      in_range : l.place ≤ l.place-end;
      last : l.place-end ≡ 2 ^ (o.shape.bits - 1 - l.level);
      same : l.self.plan ≡ l.fn.self.plan;
      next : l.next ≡ next_own o l.level l.place;
      built : IsBuilt (face g.A.Monoid.parts g.B.Monoid.parts) o o.shape.bits (level_start o.shape (suc l.level) + l.place) l.self.words.items;
    }
