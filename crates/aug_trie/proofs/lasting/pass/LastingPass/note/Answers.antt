use Rattle.std.proofs.Common.{◌≡◌, Some, sym, ap, ◌∙◌, subst}
use Rattle.aug_core.specs.Faces.{face}
use Rattle.aug_words.specs.Seats.{Known}
use Rattle.aug_trie.specs.inside.LastingState.{lasting_facts, HasLastingPass}
use Rattle.aug_trie.proofs.LastingNotes.{lasting_noted}
use Rattle.aug_trie.proofs.lasting.pass.LastingPass.note.Goals as goal

pub invariant_of-self : goal.invariant_of-self
invariant_of-self g c = let f = face g.A.Monoid.parts g.B.Monoid.parts in let i = c.self.inside in let k : Known = c.pass-words.result in let there = sym c.take.ensures.value ∙ c.in-Some.is ∙ ap Some (sym c.pass-words.ensures) in
    subst (λ (z : Known). HasLastingPass f (Some z) i.stock i.leaves i.bits i.look) (sym c.into_half.ensures) (lasting_noted f i.words i.stock i.leaves i.bits i.look c.args.self.now k c.self.invariant c.self.view_is there c.note-made.result c.note-made.new.self c.note-made.ensures.same c.note-made.ensures.table c.note-made.ensures.note).still

pub invariant_of-result : goal.invariant_of-result
invariant_of-result g c = let f = face g.A.Monoid.parts g.B.Monoid.parts in let i = c.self.inside in let k : Known = c.pass-words.result in let there = sym c.take.ensures.value ∙ c.in-Some.is ∙ ap Some (sym c.pass-words.ensures) in
    (lasting_noted f i.words i.stock i.leaves i.bits i.look c.args.self.now k c.self.invariant c.self.view_is there c.note-made.result c.note-made.new.self c.note-made.ensures.same c.note-made.ensures.table c.note-made.ensures.note).knows_table

pub returns : goal.returns
returns g c = let f = face g.A.Monoid.parts g.B.Monoid.parts in let i = c.self.inside in let k : Known = c.pass-words.result in let there = sym c.take.ensures.value ∙ c.in-Some.is ∙ ap Some (sym c.pass-words.ensures) in
    let made = lasting_noted f i.words i.stock i.leaves i.bits i.look c.args.self.now k c.self.invariant c.self.view_is there c.note-made.result c.note-made.new.self c.note-made.ensures.same c.note-made.ensures.table c.note-made.ensures.note in
    record { same = subst (λ (z : Known). lasting_facts z i.stock i.look ≡ c.args.self.now) (sym c.into_half.ensures) made.same; note = made.note_is }
