use Rattle.aug_live.specs.inside.LaneKnowledge.{passed_by}
use Rattle.aug_live.proofs.Tied.{passes_by, turn_out}
use Rattle.aug_live.proofs.end.Out.pass_by.Goals as goal

pub put-requires-clause-holds : goal.put-requires-clause-holds
put-requires-clause-holds g c = let out = c.args.self in
    turn_out (λ v _ _. passed_by v) out c.args.lane c.self.view_is c.self.invariant.1 c.self.invariant.2 (λ views ties at. passes_by _ out.known out.taken c.args.lane views ties at c.requires.handle c.requires.other c.requires.same)
