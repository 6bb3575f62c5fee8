use Rattle.std.proofs.Common.{sym, ◌∙◌}
use Rattle.aug_trie.proofs.Noting.{note_made}
use Rattle.aug_trie.proofs.rounds.pass.Pass.note.Goals as goal

pub invariant_of-self : goal.invariant_of-self
invariant_of-self g c = let i = c.self.inside in (note_made g.A.Monoid.parts g.B.Monoid.parts i.words i.account c.args.self.now c.in-Some.words c.self.invariant c.self.view_is (sym c.take.ensures.value ∙ c.in-Some.is)
    c.note-made.result c.note-made.new.self c.note-made.ensures.same c.note-made.ensures.table c.note-made.ensures.note).still

pub invariant_of-result : goal.invariant_of-result
invariant_of-result g c = let i = c.self.inside in (note_made g.A.Monoid.parts g.B.Monoid.parts i.words i.account c.args.self.now c.in-Some.words c.self.invariant c.self.view_is (sym c.take.ensures.value ∙ c.in-Some.is)
    c.note-made.result c.note-made.new.self c.note-made.ensures.same c.note-made.ensures.table c.note-made.ensures.note).knows_table

pub returns : goal.returns
returns g c = let i = c.self.inside in let made = note_made g.A.Monoid.parts g.B.Monoid.parts i.words i.account c.args.self.now c.in-Some.words c.self.invariant c.self.view_is (sym c.take.ensures.value ∙ c.in-Some.is)
    c.note-made.result c.note-made.new.self c.note-made.ensures.same c.note-made.ensures.table c.note-made.ensures.note in
    record { same = made.same; note = made.note_is }
