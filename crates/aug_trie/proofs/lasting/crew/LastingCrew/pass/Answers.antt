use Rattle.std.proofs.Common.{sym, ap, subst, false, ◌+◌}
use Rattle.std.specs.Prelude.{Some}
use Rattle.aug_core.specs.Faces.{face}
use Rattle.aug_words.specs.Seats.{Known}
use Rattle.aug_trie.specs.Crew.{HandsOut}
use Rattle.aug_trie.specs.inside.CrewState.{crew_facts}
use Rattle.aug_trie.specs.inside.PassState.{pass_facts}
use Rattle.aug_trie.proofs.LastingCalls.{lasting_out}
use Rattle.aug_trie.proofs.lasting.crew.LastingCrew.pass.Goals as goal

pub invariant_of-result : goal.invariant_of-result
invariant_of-result g c = let s = c.split-words.ensures in let crew = c.self.invariant in let stock = c.in-Ok.ensures in
    let out = lasting_out (face g.A.Monoid.parts g.B.Monoid.parts) c.table.inside.words c.self.inside.lead c.split-words.new.self c.split-words.result c.table.inside.layout c.args.self.now c.args.table.now crew.0 c.handed-lane.result c.workers.result c.bits-bits.result c.in-Ok.stock
    c.self.view_is c.requires.together c.table.view_is c.table.invariant crew.1 c.handed-lane.ensures c.workers.ensures c.if-lane-workers.false s.hands_out s.table s.pass_table c.bits-bits.ensures stock.stocks stock.none stock.released in
    record { known = c.split-words.result; there = ap Some c.into_half.ensures; is_pass = out.is_pass }

pub invariant_of-self : goal.invariant_of-self
invariant_of-self g c = let s = c.split-words.ensures in let crew = c.self.invariant in let stock = c.in-Ok.ensures in
    let out = lasting_out (face g.A.Monoid.parts g.B.Monoid.parts) c.table.inside.words c.self.inside.lead c.split-words.new.self c.split-words.result c.table.inside.layout c.args.self.now c.args.table.now crew.0 c.handed-lane.result c.workers.result c.bits-bits.result c.in-Ok.stock
    c.self.view_is c.requires.together c.table.view_is c.table.invariant crew.1 c.handed-lane.ensures c.workers.ensures c.if-lane-workers.false s.hands_out s.table s.pass_table c.bits-bits.ensures stock.stocks stock.none stock.released in
    (crew.0 + 1, out.crew)

pub returns-clause-handed : goal.returns-clause-handed
returns-clause-handed g c = let s = c.split-words.ensures in let crew = c.self.invariant in let stock = c.in-Ok.ensures in
    let out = lasting_out (face g.A.Monoid.parts g.B.Monoid.parts) c.table.inside.words c.self.inside.lead c.split-words.new.self c.split-words.result c.table.inside.layout c.args.self.now c.args.table.now crew.0 c.handed-lane.result c.workers.result c.bits-bits.result c.in-Ok.stock
    c.self.view_is c.requires.together c.table.view_is c.table.invariant crew.1 c.handed-lane.ensures c.workers.ensures c.if-lane-workers.false s.hands_out s.table s.pass_table c.bits-bits.ensures stock.stocks stock.none stock.released in
    subst (λ (z : Known). HandsOut c.args.self.now (crew_facts c.split-words.new.self false) (pass_facts z z.view.shape.updates)) (sym c.into_half.ensures) out.hands_out
