use Rattle.aug_live.specs.inside.LaneKnowledge.{LaneFacts, left}
use Rattle.aug_live.proofs.Tied.{roller_leaves, turn_out}
use Rattle.aug_live.proofs.held.Emptied.leave.Goals as goal

pub put-requires-clause-holds : goal.put-requires-clause-holds
put-requires-clause-holds g c = let inv = c.self.invariant in let out = c.self.inside.out in let rest : LaneFacts = c.self.inside.rest in
    turn_out (λ v _ new. left v new) out rest c.out.view_is c.out.invariant.1 c.out.invariant.2 (λ views ties at. roller_leaves _ out.known out.taken rest views ties at inv.3 inv.4 inv.1 inv.2 inv.0)
