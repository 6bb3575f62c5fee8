use Rattle.std.proofs.Common.{◌∙◌, ◌≤◌, ℕ, Some, refl, sym, ap, subst}
use Rattle.aug_core.specs.Faces.{face}
use Rattle.aug_words.specs.Seats.{Known}
use Rattle.aug_trie.specs.LastingTable.{IsFull, most_lasting_steps}
use Rattle.aug_trie.specs.Pass.{GoesOn}
use Rattle.aug_trie.specs.Updates.{ComesTo, Tells}
use Rattle.aug_trie.specs.declared.updates.told.Told.{Told}
use Rattle.aug_trie.specs.inside.Knows.{knows}
use Rattle.aug_trie.specs.inside.LastingState.{lasting_facts, HasLastingPass}
use Rattle.aug_trie.specs.inside.PassState.{pass_facts}
use Rattle.aug_trie.proofs.LastingUpdates.{keeps, full, still_steps, updated_after, came_to, told_after, holds_after, update_steps}
use Rattle.aug_trie.proofs.lasting.pass.LastingPass.update.Goals as goal

pub returns-then-not-has_room-clause-full : goal.returns-then-not-has_room-clause-full
returns-then-not-has_room-clause-full g c = let f = face g.A.Monoid.parts g.B.Monoid.parts in let i = c.self.inside in let k : Known = c.pass-words.result in let there = sym c.take.ensures.value ∙ c.in-Some.is ∙ ap Some (sym c.pass-words.ensures) in
    let first = keeps f i.words i.stock i.leaves i.bits i.look c.args.self.now k c.self.invariant c.self.view_is there c.table.invariant (c.requires.together ∙ sym c.table.view_is) in let w : Known = c.has_room.new.pass in let table = c.has_room.ensures.keeps.together.one_table ∙ sym first.together.one_table in let after = c.has_room.new.stock in
    let no_room = c.has_room.ensures.full c.if-not-has_room.true in
    (refl, subst (λ (z : Known). IsFull c.args.self.now (lasting_facts z after i.look)) (sym c.into_half.ensures) (full f i.words i.stock i.leaves i.bits i.look c.args.self.now k c.self.invariant c.self.view_is there w after table no_room.0 no_room.1))

pub returns-then-not-has_room-clause-goes_on : goal.returns-then-not-has_room-clause-goes_on
returns-then-not-has_room-clause-goes_on g c = let f = face g.A.Monoid.parts g.B.Monoid.parts in let i = c.self.inside in let k : Known = c.pass-words.result in let there = sym c.take.ensures.value ∙ c.in-Some.is ∙ ap Some (sym c.pass-words.ensures) in
    let first = keeps f i.words i.stock i.leaves i.bits i.look c.args.self.now k c.self.invariant c.self.view_is there c.table.invariant (c.requires.together ∙ sym c.table.view_is) in let w : Known = c.has_room.new.pass in let table = c.has_room.ensures.keeps.together.one_table ∙ sym first.together.one_table in let after = c.has_room.new.stock in
    subst (λ (z : Known). (steps : ℕ) × (steps ≤ most_lasting_steps c.args.self.now.pass.round.bits c.args.self.now.pass.round.workers) × GoesOn 0 steps c.args.self.now.pass (pass_facts z z.view.shape.updates)) (sym c.into_half.ensures)
    (still_steps f i.words i.stock i.leaves i.bits i.look c.args.self.now k c.self.invariant c.self.view_is there w after table c.has_room.ensures.works)

pub invariant_of-self-2 : goal.invariant_of-self-2
invariant_of-self-2 g c = let f = face g.A.Monoid.parts g.B.Monoid.parts in let i = c.self.inside in let k : Known = c.pass-words.result in let there = sym c.take.ensures.value ∙ c.in-Some.is ∙ ap Some (sym c.pass-words.ensures) in
    let first = keeps f i.words i.stock i.leaves i.bits i.look c.args.self.now k c.self.invariant c.self.view_is there c.table.invariant (c.requires.together ∙ sym c.table.view_is) in let u : Known = c.has_room.new.pass in let w : Known = c.update_held-made.new.pass in let table = c.update_held-made.ensures.keeps.together.one_table ∙ sym first.together.one_table in let after = c.update_held-made.new.stock in
    let o = updated_after f c.has_room.ensures.works c.update_held-made.ensures.updated in
    subst (λ (z : Known). HasLastingPass f (Some z) after i.leaves i.bits i.look) (sym c.into_half-2.ensures) (holds_after f i.words i.stock i.leaves i.bits i.look c.args.self.now k c.self.invariant c.self.view_is there w after table c.requires.key o c.requires.no_look c.update_held-made.ensures.keeps.stocks c.update_held-made.ensures.none c.update_held-made.ensures.rests)

pub returns-clause-comes_to : goal.returns-clause-comes_to
returns-clause-comes_to g c = let f = face g.A.Monoid.parts g.B.Monoid.parts in let i = c.self.inside in let k : Known = c.pass-words.result in let there = sym c.take.ensures.value ∙ c.in-Some.is ∙ ap Some (sym c.pass-words.ensures) in
    let first = keeps f i.words i.stock i.leaves i.bits i.look c.args.self.now k c.self.invariant c.self.view_is there c.table.invariant (c.requires.together ∙ sym c.table.view_is) in let u : Known = c.has_room.new.pass in let w : Known = c.update_held-made.new.pass in let table = c.update_held-made.ensures.keeps.together.one_table ∙ sym first.together.one_table in let after = c.update_held-made.new.stock in
    let o = updated_after f c.has_room.ensures.works c.update_held-made.ensures.updated in
    subst (λ (z : Known). ComesTo c.args.request c.args.k c.update_held-made.result.outcome c.args.self.now.pass.knows (knows z.view)) (sym c.into_half-2.ensures) (came_to f i.words i.stock i.leaves i.bits i.look c.args.self.now k c.self.invariant c.self.view_is there w after table c.requires.key o)

pub returns-clause-tells : goal.returns-clause-tells
returns-clause-tells g c = let f = face g.A.Monoid.parts g.B.Monoid.parts in let i = c.self.inside in let k : Known = c.pass-words.result in let there = sym c.take.ensures.value ∙ c.in-Some.is ∙ ap Some (sym c.pass-words.ensures) in
    let first = keeps f i.words i.stock i.leaves i.bits i.look c.args.self.now k c.self.invariant c.self.view_is there c.table.invariant (c.requires.together ∙ sym c.table.view_is) in let u : Known = c.has_room.new.pass in let w : Known = c.update_held-made.new.pass in let table = c.update_held-made.ensures.keeps.together.one_table ∙ sym first.together.one_table in let after = c.update_held-made.new.stock in
    let o = updated_after f c.has_room.ensures.works c.update_held-made.ensures.updated in
    subst (λ (z : Known). Tells c.args.request c.args.k (record { outcome = c.update_held-made.result.outcome; before = c.weight_in-before.result; now = c.weight_in-now.result }) c.args.self.now.pass.knows (knows z.view)) (sym c.into_half-2.ensures) (subst (λ (z : Told). Tells c.args.request c.args.k z c.args.self.now.pass.knows (knows w.view)) (λ j. record { outcome = c.update_held-made.result.outcome; before = sym c.weight_in-before.ensures j; now = sym c.weight_in-now.ensures j }) (told_after f i.words i.stock i.leaves i.bits i.look c.args.self.now k c.self.invariant c.self.view_is there w after table c.requires.key o))

pub returns-clause-goes_on : goal.returns-clause-goes_on
returns-clause-goes_on g c = let f = face g.A.Monoid.parts g.B.Monoid.parts in let i = c.self.inside in let k : Known = c.pass-words.result in let there = sym c.take.ensures.value ∙ c.in-Some.is ∙ ap Some (sym c.pass-words.ensures) in
    let first = keeps f i.words i.stock i.leaves i.bits i.look c.args.self.now k c.self.invariant c.self.view_is there c.table.invariant (c.requires.together ∙ sym c.table.view_is) in let u : Known = c.has_room.new.pass in let w : Known = c.update_held-made.new.pass in let table = c.update_held-made.ensures.keeps.together.one_table ∙ sym first.together.one_table in let after = c.update_held-made.new.stock in
    let o = updated_after f c.has_room.ensures.works c.update_held-made.ensures.updated in
    subst (λ (z : Known). (steps : ℕ) × (steps ≤ most_lasting_steps c.args.self.now.pass.round.bits c.args.self.now.pass.round.workers) × GoesOn 0 steps c.args.self.now.pass (pass_facts z z.view.shape.updates)) (sym c.into_half-2.ensures)
    (update_steps f i.words i.stock i.leaves i.bits i.look c.args.self.now k c.self.invariant c.self.view_is there w after table c.requires.key o)
