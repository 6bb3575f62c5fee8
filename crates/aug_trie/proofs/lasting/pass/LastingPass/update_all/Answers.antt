use Rattle.std.proofs.Common.{◌∙◌, ◌*◌, ◌≤◌, ℕ, Some, length, sym, ap, subst}
use Rattle.aug_core.specs.Faces.{face}
use Rattle.aug_words.specs.Seats.{Known}
use Rattle.aug_trie.specs.LastingBatches.{LastingBatch}
use Rattle.aug_trie.specs.LastingTable.{IsShort, most_lasting_steps}
use Rattle.aug_trie.specs.Pass.{GoesOn}
use Rattle.aug_trie.specs.inside.Knows.{knows}
use Rattle.aug_trie.specs.inside.LastingState.{lasting_facts, HasLastingPass}
use Rattle.aug_trie.specs.inside.PassState.{pass_facts}
use Rattle.aug_trie.proofs.LastingBatches.{batch_steps, batch_stops, does_batch, holds_batch, may_run}
use Rattle.aug_trie.proofs.LastingUpdates.{keeps}
use Rattle.aug_trie.proofs.lasting.pass.LastingPass.update_all.Goals as goal

pub update_runs-made-requires : goal.update_runs-made-requires
update_runs-made-requires g c = let f = face g.A.Monoid.parts g.B.Monoid.parts in let i = c.self.inside in let k : Known = c.pass-words.result in let there = sym c.take.ensures.value ∙ c.in-Some.is ∙ ap Some (sym c.pass-words.ensures) in
    let may = may_run f i.words i.stock i.leaves i.bits i.look c.args.self.now k c.self.invariant c.self.view_is there c.requires.keys c.requires.no_look in record {
      keeps = keeps f i.words i.stock i.leaves i.bits i.look c.args.self.now k c.self.invariant c.self.view_is there c.table.invariant (c.requires.together ∙ sym c.table.view_is);
      leaves = may.leaves_are;
      bits = may.bits_are;
      some = may.some;
      keys = may.low;
      requests = c.requires.requests;
      outcomes = c.requires.outcomes;
      none = may.none;
      rests = may.rests;
    }

pub invariant_of-self : goal.invariant_of-self
invariant_of-self g c = let f = face g.A.Monoid.parts g.B.Monoid.parts in let i = c.self.inside in let k : Known = c.pass-words.result in let there = sym c.take.ensures.value ∙ c.in-Some.is ∙ ap Some (sym c.pass-words.ensures) in
    let first = keeps f i.words i.stock i.leaves i.bits i.look c.args.self.now k c.self.invariant c.self.view_is there c.table.invariant (c.requires.together ∙ sym c.table.view_is) in let done = c.update_runs-made.ensures in let w : Known = c.update_runs-made.new.pass in let table = done.keeps.together.one_table ∙ sym first.together.one_table in let after = c.update_runs-made.new.stock in
    subst (λ (z : Known). HasLastingPass f (Some z) after i.leaves i.bits i.look) (sym c.into_half.ensures) (holds_batch f i.words i.stock i.leaves i.bits i.look c.args.self.now k c.self.invariant c.self.view_is there w after table c.requires.keys done.few done.makes c.requires.no_look done.keeps.stocks done.none done.rests)

pub returns-clause-does : goal.returns-clause-does
returns-clause-does g c = let f = face g.A.Monoid.parts g.B.Monoid.parts in let i = c.self.inside in let k : Known = c.pass-words.result in let there = sym c.take.ensures.value ∙ c.in-Some.is ∙ ap Some (sym c.pass-words.ensures) in
    let first = keeps f i.words i.stock i.leaves i.bits i.look c.args.self.now k c.self.invariant c.self.view_is there c.table.invariant (c.requires.together ∙ sym c.table.view_is) in let done = c.update_runs-made.ensures in let w : Known = c.update_runs-made.new.pass in let table = done.keeps.together.one_table ∙ sym first.together.one_table in let after = c.update_runs-made.new.stock in
    subst (λ (z : Known). LastingBatch c.args.requests.now c.args.keys.now c.update_runs-made.new.outcomes c.update_runs-made.result c.args.self.now.pass.knows (knows z.view)) (sym c.into_half.ensures) (does_batch f i.words i.stock i.leaves i.bits i.look c.args.self.now k c.self.invariant c.self.view_is there w after table c.requires.keys done.few done.makes)

pub returns-clause-stops : goal.returns-clause-stops
returns-clause-stops g c = let f = face g.A.Monoid.parts g.B.Monoid.parts in let i = c.self.inside in let k : Known = c.pass-words.result in let there = sym c.take.ensures.value ∙ c.in-Some.is ∙ ap Some (sym c.pass-words.ensures) in
    let first = keeps f i.words i.stock i.leaves i.bits i.look c.args.self.now k c.self.invariant c.self.view_is there c.table.invariant (c.requires.together ∙ sym c.table.view_is) in let done = c.update_runs-made.ensures in let w : Known = c.update_runs-made.new.pass in let table = done.keeps.together.one_table ∙ sym first.together.one_table in let after = c.update_runs-made.new.stock in
    λ less. let short = done.full less in subst (λ (z : Known). IsShort c.args.self.now (lasting_facts z after i.look)) (sym c.into_half.ensures) (batch_stops f i.words i.stock i.leaves i.bits i.look c.args.self.now k c.self.invariant c.self.view_is there w after table c.requires.keys done.few done.makes short.0 short.1)

pub returns-clause-goes_on : goal.returns-clause-goes_on
returns-clause-goes_on g c = let f = face g.A.Monoid.parts g.B.Monoid.parts in let i = c.self.inside in let k : Known = c.pass-words.result in let there = sym c.take.ensures.value ∙ c.in-Some.is ∙ ap Some (sym c.pass-words.ensures) in
    let first = keeps f i.words i.stock i.leaves i.bits i.look c.args.self.now k c.self.invariant c.self.view_is there c.table.invariant (c.requires.together ∙ sym c.table.view_is) in let done = c.update_runs-made.ensures in let w : Known = c.update_runs-made.new.pass in let table = done.keeps.together.one_table ∙ sym first.together.one_table in let after = c.update_runs-made.new.stock in
    subst (λ (z : Known). (steps : ℕ) × (steps ≤ length c.args.keys.now * most_lasting_steps c.args.self.now.pass.round.bits c.args.self.now.pass.round.workers) × GoesOn 0 steps c.args.self.now.pass (pass_facts z z.view.shape.updates)) (sym c.into_half.ensures)
    (batch_steps f i.words i.stock i.leaves i.bits i.look c.args.self.now k c.self.invariant c.self.view_is there w after table c.requires.keys done.few done.makes)
