use Rattle.aug_live.specs.inside.LaneKnowledge.{worked}
use Rattle.aug_live.proofs.Tied.{handle_turns, turn_out}
use Rattle.aug_live.proofs.end.Out.put.Goals as goal

pub put-requires-clause-holds : goal.put-requires-clause-holds
put-requires-clause-holds g c = let out = c.args.self in
    turn_out worked out c.args.lane c.self.view_is c.self.invariant.1 c.self.invariant.2 (λ views ties at. handle_turns _ out.known out.taken c.args.lane views ties at c.requires.handle c.requires.some c.requires.number c.requires.worked)
