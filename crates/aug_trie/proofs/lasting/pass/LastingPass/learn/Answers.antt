use Rattle.std.proofs.Common.{◌≤◌, ℕ, Some, sym, ap, ◌∙◌, subst}
use Rattle.aug_core.specs.Faces.{face}
use Rattle.aug_words.specs.Seats.{Known}
use Rattle.aug_trie.specs.Pass.{GoesOn, chain_of}
use Rattle.aug_trie.specs.Passes.{HasLearnt}
use Rattle.aug_trie.specs.inside.Knows.{knows}
use Rattle.aug_trie.specs.inside.LastingState.{HasLastingPass}
use Rattle.aug_trie.specs.inside.PassState.{pass_facts}
use Rattle.aug_trie.proofs.LastingNotes.{lasting_here, lasting_learnt, lasting_learns, learnt_goes_on}
use Rattle.aug_trie.proofs.Noting.{view_chain}
use Rattle.aug_trie.proofs.lasting.pass.LastingPass.learn.Goals as goal

pub learn-requires : goal.learn-requires
learn-requires g c = let f = face g.A.Monoid.parts g.B.Monoid.parts in let i = c.self.inside in let k : Known = c.pass-words.result in let there = sym c.take.ensures.value ∙ c.in-Some.is ∙ ap Some (sym c.pass-words.ensures) in
    record { table = lasting_here f i.words i.stock i.leaves i.bits i.look c.args.self.now k c.self.invariant c.self.view_is there c.note.inside.words c.args.note c.note.view_is c.requires.table }

pub invariant_of-self : goal.invariant_of-self
invariant_of-self g c = let f = face g.A.Monoid.parts g.B.Monoid.parts in let i = c.self.inside in let k : Known = c.pass-words.result in let there = sym c.take.ensures.value ∙ c.in-Some.is ∙ ap Some (sym c.pass-words.ensures) in
    subst (λ (z : Known). HasLastingPass f (Some z) i.stock i.leaves i.bits i.look) (sym c.into_half.ensures) (lasting_learnt f i.words i.stock i.leaves i.bits i.look c.args.self.now k c.self.invariant c.self.view_is there c.note.inside.words c.learn.new.self c.args.note c.learn.result c.note.view_is c.note.invariant c.learn.ensures.view c.learn.ensures.table c.requires.no_look)

pub returns-clause-learns : goal.returns-clause-learns
returns-clause-learns g c = let f = face g.A.Monoid.parts g.B.Monoid.parts in let i = c.self.inside in let k : Known = c.pass-words.result in let there = sym c.take.ensures.value ∙ c.in-Some.is ∙ ap Some (sym c.pass-words.ensures) in
    subst (λ (z : Known). HasLearnt c.args.self.now.pass.round.era (chain_of c.args.self.now.pass) c.args.self.now.pass.knows c.args.note (view_chain z.view) (knows z.view)) (sym c.into_half.ensures) (lasting_learns f i.words i.stock i.leaves i.bits i.look c.args.self.now k c.self.invariant c.self.view_is there c.note.inside.words c.learn.new.self c.args.note c.learn.result c.note.view_is c.note.invariant c.learn.ensures.view c.learn.ensures.table)

pub returns-clause-goes_on : goal.returns-clause-goes_on
returns-clause-goes_on g c = let f = face g.A.Monoid.parts g.B.Monoid.parts in let i = c.self.inside in let k : Known = c.pass-words.result in let there = sym c.take.ensures.value ∙ c.in-Some.is ∙ ap Some (sym c.pass-words.ensures) in
    subst (λ (z : Known). (steps : ℕ) × (steps ≤ 1) × GoesOn 0 steps c.args.self.now.pass (pass_facts z z.view.shape.updates)) (sym c.into_half.ensures) (learnt_goes_on f i.words i.stock i.leaves i.bits i.look c.args.self.now k c.self.invariant c.self.view_is there c.note.inside.words c.learn.new.self c.args.note c.learn.result c.note.view_is c.note.invariant c.learn.ensures.view c.learn.ensures.table)
