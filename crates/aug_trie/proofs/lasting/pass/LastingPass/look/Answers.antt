use Rattle.std.proofs.Common.{◌≤◌, ℕ, Some, sym, ap, ◌∙◌, subst}
use Rattle.aug_core.specs.Faces.{face}
use Rattle.aug_words.specs.Seats.{Known}
use Rattle.aug_trie.specs.LastingTable.{LoadsRootLast, look_steps}
use Rattle.aug_trie.specs.Pass.{GoesOn}
use Rattle.aug_trie.specs.Updates.{TakesSnapshot}
use Rattle.aug_trie.specs.inside.Knows.{knows}
use Rattle.aug_trie.specs.inside.LastingState.{HasLastingPass}
use Rattle.aug_trie.specs.inside.NamedCuts.{HasNamed, cut_named}
use Rattle.aug_trie.specs.inside.PassState.{pass_facts}
use Rattle.aug_trie.proofs.LastingLooks.{holds_look, takes, has_look, look_loads, look_goes_on}
use Rattle.aug_trie.proofs.LastingUpdates.{keeps}
use Rattle.aug_trie.proofs.lasting.pass.LastingPass.look.Goals as goal

pub invariant_of-self : goal.invariant_of-self
invariant_of-self g c = let f = face g.A.Monoid.parts g.B.Monoid.parts in let i = c.self.inside in let k : Known = c.pass-words.result in let there = sym c.take.ensures.value ∙ c.in-Some.is ∙ ap Some (sym c.pass-words.ensures) in
    let first = keeps f i.words i.stock i.leaves i.bits i.look c.args.self.now k c.self.invariant c.self.view_is there c.table.invariant (c.requires.together ∙ sym c.table.view_is) in let w : Known = c.look_at_root-number.new.pass in let table = c.look_at_root-number.ensures.keeps.together.one_table ∙ sym first.together.one_table in let after = c.look_at_root-number.new.stock in
    subst (λ (z : Known). HasLastingPass f (Some z) after i.leaves i.bits (Some (record { number = c.look_at_root-number.result }))) (sym c.into_half.ensures) (holds_look g.A.Monoid.parts g.B.Monoid.parts i.words i.stock i.leaves i.bits i.look c.args.self.now k c.self.invariant c.self.view_is there w after table c.look_at_root-number.result c.look_at_root-number.ensures.keeps.stocks c.look_at_root-number.ensures.looks c.look_at_root-number.ensures.same)

pub returns-clause-takes : goal.returns-clause-takes
returns-clause-takes g c = let f = face g.A.Monoid.parts g.B.Monoid.parts in let i = c.self.inside in let k : Known = c.pass-words.result in let there = sym c.take.ensures.value ∙ c.in-Some.is ∙ ap Some (sym c.pass-words.ensures) in
    let first = keeps f i.words i.stock i.leaves i.bits i.look c.args.self.now k c.self.invariant c.self.view_is there c.table.invariant (c.requires.together ∙ sym c.table.view_is) in let w : Known = c.look_at_root-number.new.pass in let table = c.look_at_root-number.ensures.keeps.together.one_table ∙ sym first.together.one_table in let after = c.look_at_root-number.new.stock in
    subst (λ (z : Known). TakesSnapshot c.args.self.now.pass.knows (knows z.view) (cut_named z.view.shape z.view.seen (record { number = c.look_at_root-number.result }))) (sym c.into_half.ensures) (takes g.A.Monoid.parts g.B.Monoid.parts i.words i.stock i.leaves i.bits i.look c.args.self.now k c.self.invariant c.self.view_is there w after table c.look_at_root-number.result c.look_at_root-number.ensures.keeps.stocks c.look_at_root-number.ensures.looks)

pub returns-clause-known : goal.returns-clause-known
returns-clause-known g c = let f = face g.A.Monoid.parts g.B.Monoid.parts in let i = c.self.inside in let k : Known = c.pass-words.result in let there = sym c.take.ensures.value ∙ c.in-Some.is ∙ ap Some (sym c.pass-words.ensures) in
    let first = keeps f i.words i.stock i.leaves i.bits i.look c.args.self.now k c.self.invariant c.self.view_is there c.table.invariant (c.requires.together ∙ sym c.table.view_is) in let w : Known = c.look_at_root-number.new.pass in let table = c.look_at_root-number.ensures.keeps.together.one_table ∙ sym first.together.one_table in let after = c.look_at_root-number.new.stock in
    subst (λ (z : Known). HasNamed z.view.shape z.view.seen (record { number = c.look_at_root-number.result })) (sym c.into_half.ensures) (has_look g.A.Monoid.parts g.B.Monoid.parts i.words i.stock i.leaves i.bits i.look c.args.self.now k c.self.invariant c.self.view_is there w after table c.look_at_root-number.result c.look_at_root-number.ensures.keeps.stocks c.look_at_root-number.ensures.looks)

pub returns-clause-last_step : goal.returns-clause-last_step
returns-clause-last_step g c = let f = face g.A.Monoid.parts g.B.Monoid.parts in let i = c.self.inside in let k : Known = c.pass-words.result in let there = sym c.take.ensures.value ∙ c.in-Some.is ∙ ap Some (sym c.pass-words.ensures) in
    let first = keeps f i.words i.stock i.leaves i.bits i.look c.args.self.now k c.self.invariant c.self.view_is there c.table.invariant (c.requires.together ∙ sym c.table.view_is) in let w : Known = c.look_at_root-number.new.pass in let table = c.look_at_root-number.ensures.keeps.together.one_table ∙ sym first.together.one_table in let after = c.look_at_root-number.new.stock in
    subst (λ (z : Known). LoadsRootLast c.args.self.now.pass c.look_at_root-number.result (pass_facts z z.view.shape.updates)) (sym c.into_half.ensures) (look_loads g.A.Monoid.parts g.B.Monoid.parts i.words i.stock i.leaves i.bits i.look c.args.self.now k c.self.invariant c.self.view_is there w after table c.look_at_root-number.result c.look_at_root-number.ensures.keeps.stocks c.look_at_root-number.ensures.looks)

pub returns-clause-goes_on : goal.returns-clause-goes_on
returns-clause-goes_on g c = let f = face g.A.Monoid.parts g.B.Monoid.parts in let i = c.self.inside in let k : Known = c.pass-words.result in let there = sym c.take.ensures.value ∙ c.in-Some.is ∙ ap Some (sym c.pass-words.ensures) in
    let first = keeps f i.words i.stock i.leaves i.bits i.look c.args.self.now k c.self.invariant c.self.view_is there c.table.invariant (c.requires.together ∙ sym c.table.view_is) in let w : Known = c.look_at_root-number.new.pass in let table = c.look_at_root-number.ensures.keeps.together.one_table ∙ sym first.together.one_table in let after = c.look_at_root-number.new.stock in
    subst (λ (z : Known). (steps : ℕ) × (steps ≤ look_steps) × GoesOn 0 steps c.args.self.now.pass (pass_facts z z.view.shape.updates)) (sym c.into_half.ensures) (look_goes_on g.A.Monoid.parts g.B.Monoid.parts i.words i.stock i.leaves i.bits i.look c.args.self.now k c.self.invariant c.self.view_is there w after table c.look_at_root-number.result c.look_at_root-number.ensures.keeps.stocks c.look_at_root-number.ensures.looks)
