use Rattle.std.proofs.Common.{refl}
use Rattle.std.specs.Prelude.{Some}
use Rattle.aug_trie.proofs.PassCalls.{root_inside, snapshot_taken}
use Rattle.aug_trie.proofs.rounds.half.PassHalf.snapshot.Goals as goal

pub load_node-number-requires-clause-inner : goal.load_node-number-requires-clause-inner
load_node-number-requires-clause-inner g c = let i = c.self.inside in root_inside g.A.Monoid.parts g.B.Monoid.parts (Some i.words) i.account c.args.self.now i.words c.self.invariant c.self.view_is refl

pub invariant_of-self : goal.invariant_of-self
invariant_of-self g c = let i = c.self.inside in (snapshot_taken g.A.Monoid.parts g.B.Monoid.parts (Some i.words) i.account c.args.self.now i.words c.self.invariant c.self.view_is refl
    c.load_node-number.result c.load_node-number.new.self c.load_node-number.ensures.view c.load_node-number.ensures.table).holds

pub returns : goal.returns
returns g c = let i = c.self.inside in let made = snapshot_taken g.A.Monoid.parts g.B.Monoid.parts (Some i.words) i.account c.args.self.now i.words c.self.invariant c.self.view_is refl
    c.load_node-number.result c.load_node-number.new.self c.load_node-number.ensures.view c.load_node-number.ensures.table in
    record { takes = made.takes; known = made.known; goes_on = made.goes_on; keeps = made.keeps; step = made.step }
