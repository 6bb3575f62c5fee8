use Rattle.std.proofs.Common.{◌≤◌, ℕ, Some, sym, ap, ◌∙◌, subst}
use Rattle.std.specs.Prelude.{None}
use Rattle.aug_core.specs.Faces.{face}
use Rattle.aug_words.specs.Seats.{Known}
use Rattle.aug_trie.specs.Pass.{GoesOn}
use Rattle.aug_trie.specs.LastingTable.{LastingFacts}
use Rattle.aug_trie.specs.inside.Knows.{knows}
use Rattle.aug_trie.specs.inside.LastingState.{HasLastingPass}
use Rattle.aug_trie.specs.inside.PassState.{pass_facts}
use Rattle.aug_trie.proofs.LastingLooks.{holds_none, end_goes_on}
use Rattle.aug_trie.proofs.LastingUpdates.{keeps, now_is}
use Rattle.aug_trie.proofs.lasting.pass.LastingPass.end_look.Goals as goal

pub invariant_of-self : goal.invariant_of-self
invariant_of-self g c = let f = face g.A.Monoid.parts g.B.Monoid.parts in let i = c.self.inside in let k : Known = c.pass-words.result in let there = sym c.take.ensures.value ∙ c.in-Some.is ∙ ap Some (sym c.pass-words.ensures) in
    let first = keeps f i.words i.stock i.leaves i.bits i.look c.args.self.now k c.self.invariant c.self.view_is there c.table.invariant (c.requires.together ∙ sym c.table.view_is) in let w : Known = c.release.new.pass in let table = c.release.ensures.keeps.together.one_table ∙ sym first.together.one_table in let after = c.release.new.stock in
    subst (λ (z : Known). HasLastingPass f (Some z) after i.leaves i.bits None) (sym c.into_half.ensures) (holds_none g.A.Monoid.parts g.B.Monoid.parts i.words i.stock i.leaves i.bits i.look c.args.self.now k c.self.invariant c.self.view_is there w after table c.release.ensures.keeps.stocks c.release.ensures.works c.release.ensures.same)

pub returns-clause-goes_on : goal.returns-clause-goes_on
returns-clause-goes_on g c = let f = face g.A.Monoid.parts g.B.Monoid.parts in let i = c.self.inside in let k : Known = c.pass-words.result in let there = sym c.take.ensures.value ∙ c.in-Some.is ∙ ap Some (sym c.pass-words.ensures) in
    let first = keeps f i.words i.stock i.leaves i.bits i.look c.args.self.now k c.self.invariant c.self.view_is there c.table.invariant (c.requires.together ∙ sym c.table.view_is) in let w : Known = c.release.new.pass in let table = c.release.ensures.keeps.together.one_table ∙ sym first.together.one_table in let after = c.release.new.stock in
    subst (λ (z : Known). (steps : ℕ) × (steps ≤ 1) × GoesOn 0 steps c.args.self.now.pass (pass_facts z z.view.shape.updates)) (sym c.into_half.ensures) (end_goes_on g.A.Monoid.parts g.B.Monoid.parts i.words i.stock i.leaves i.bits i.look c.args.self.now k c.self.invariant c.self.view_is there w after table c.release.ensures.keeps.stocks c.release.ensures.works)

pub returns-clause-knows : goal.returns-clause-knows
returns-clause-knows g c = let f = face g.A.Monoid.parts g.B.Monoid.parts in let i = c.self.inside in let k : Known = c.pass-words.result in let there = sym c.take.ensures.value ∙ c.in-Some.is ∙ ap Some (sym c.pass-words.ensures) in
    let first = keeps f i.words i.stock i.leaves i.bits i.look c.args.self.now k c.self.invariant c.self.view_is there c.table.invariant (c.requires.together ∙ sym c.table.view_is) in let w : Known = c.release.new.pass in let table = c.release.ensures.keeps.together.one_table ∙ sym first.together.one_table in let after = c.release.new.stock in
    ap (λ (z : Known). knows z.view) c.into_half.ensures ∙ c.release.ensures.knows ∙ ap (λ (z : LastingFacts). z.pass.knows) (now_is f i.words i.stock i.leaves i.bits i.look c.args.self.now k c.self.invariant c.self.view_is there)
