use Rattle.std.proofs.Common.{ap}
use Rattle.std.specs.Arc.{arc_value}
use Rattle.aug_trie.specs.Pass.{PassFacts}
use Rattle.aug_live.proofs.Shown.{look_on}
use Rattle.aug_live.proofs.look.Look.ask.Goals as goal

pub invariant_of-self : goal.invariant_of-self
invariant_of-self g c = let i = c.self.inside in let asked = c.ask.ensures.reads.stays in
    look_on i.out (arc_value i.round) i.reader i.held i.before i.era c.in-Some.reader c.ask.new.self c.self.invariant c.in-Some.is (ap (λ (z : PassFacts). z.round) asked.same) (λ s. asked.keeps.snapshots s)
