use Rattle.std.proofs.Common.{◌≡◌, ◌≤◌, ◌+◌, ◌*◌, ◌^◌, suc}
use Rattle.aug_core.specs.Places.{level_start}
use Rattle.aug_core.specs.Faces.{face}
use Rattle.aug_words.specs.inside.Builds.{HasStarts, next_own, IsBuilt}
use Rattle.aug_words.proofs.building.Building.over.Given as goal

abbrev pub invariant-loop-level : goal.invariant-loop-level
invariant-loop-level g l =
    let m = g.A.Monoid in
    let n = g.B.Monoid in
    record {
      in_range : l.level ≤ l.building.plan.bits;
      last : l.level-end ≡ l.building.plan.bits;
      shape : l.building.plan.key.shape ≡ l.fn.layout;
      members : l.building.plan.key.members ≡ l.fn.members;
      starts : HasStarts l.fn.layout l.building.plan.lanes l.building.plan.records;
      built : IsBuilt (face m.parts n.parts) l.building.plan.key l.level (2 ^ l.building.plan.key.shape.bits) l.building.words.items;
    }

abbrev pub invariant-loop-level-2 : goal.invariant-loop-level-2
invariant-loop-level-2 g l =
    let m = g.A.Monoid in
    let n = g.B.Monoid in
    record {
      in_range : l.level ≤ l.building.plan.bits;
      last : l.level-end ≡ l.building.plan.bits;
      shape : l.building.plan.key.shape ≡ l.fn.layout;
      members : l.building.plan.key.members ≡ l.fn.members;
      starts : HasStarts l.fn.layout l.building.plan.lanes l.building.plan.records;
      first : l.first ≡ level_start l.building.plan.key.shape (suc l.level);
      next : l.next ≡ next_own l.building.plan.key l.level 0;
      few : l.next ≤ 16 + l.level * 65536;
      built : IsBuilt (face m.parts n.parts) l.building.plan.key l.building.plan.key.shape.bits (level_start l.building.plan.key.shape (suc l.level)) l.building.words.items;
    }
