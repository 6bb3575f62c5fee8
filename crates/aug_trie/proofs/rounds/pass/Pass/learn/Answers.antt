use Rattle.std.proofs.Common.{sym, ◌∙◌}
use Rattle.aug_trie.proofs.Noting.{note_here, note_learnt}
use Rattle.aug_trie.proofs.rounds.pass.Pass.learn.Goals as goal

pub learn-number-requires : goal.learn-number-requires
learn-number-requires g c = let i = c.self.inside in record { table = note_here g.A.Monoid.parts g.B.Monoid.parts i.words i.account c.args.self.now c.in-Some.words c.self.invariant c.self.view_is (sym c.take.ensures.value ∙ c.in-Some.is) c.note.inside.words c.args.note c.note.view_is c.requires.table }

pub invariant_of-self : goal.invariant_of-self
invariant_of-self g c = let i = c.self.inside in (note_learnt g.A.Monoid.parts g.B.Monoid.parts i.words i.account c.args.self.now c.in-Some.words c.self.invariant c.self.view_is (sym c.take.ensures.value ∙ c.in-Some.is)
    c.note.inside.words c.learn-number.new.self c.args.note c.learn-number.result c.note.view_is c.note.invariant c.learn-number.ensures.view c.learn-number.ensures.table).taken.holds

pub returns : goal.returns
returns g c = let i = c.self.inside in let made = note_learnt g.A.Monoid.parts g.B.Monoid.parts i.words i.account c.args.self.now c.in-Some.words c.self.invariant c.self.view_is (sym c.take.ensures.value ∙ c.in-Some.is)
    c.note.inside.words c.learn-number.new.self c.args.note c.learn-number.result c.note.view_is c.note.invariant c.learn-number.ensures.view c.learn-number.ensures.table in
    record { learns = made.learns; takes = made.taken.takes; known = made.taken.known; goes_on = made.taken.goes_on; step = made.taken.step; keeps = made.taken.keeps }
