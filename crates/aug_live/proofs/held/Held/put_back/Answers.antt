use Rattle.std.proofs.Common.{sym}
use Rattle.aug_live.specs.inside.LaneKnowledge.{LaneFacts}
use Rattle.aug_live.proofs.Tied.{keeps, turn_out}
use Rattle.aug_live.proofs.held.Held.put_back.Goals as goal

pub put-requires-clause-holds : goal.put-requires-clause-holds
put-requires-clause-holds g c = let inv = c.self.invariant in let out = c.self.inside.out in let lane : LaneFacts = c.self.inside.lane in
    turn_out (λ v _ _. v) out lane c.out.view_is c.out.invariant.1 c.out.invariant.2 (λ views ties at. keeps _ out.known out.taken lane views ties at (sym inv.0))
