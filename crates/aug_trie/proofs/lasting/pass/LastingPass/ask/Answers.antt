use Rattle.std.proofs.Common.{◌≡◌, ℕ, Some, sym, ap, ◌∙◌, subst, le_of_eq}
use Rattle.aug_model.specs.Folds.{summary_of}
use Rattle.aug_model.specs.Keys.{SetFacts}
use Rattle.aug_core.specs.Faces.{face}
use Rattle.aug_query.specs.Descend.{Loads}
use Rattle.aug_words.specs.Seats.{Known}
use Rattle.aug_trie.specs.LastingTable.{LastingFacts}
use Rattle.aug_trie.specs.Node.{Reads, steps_for}
use Rattle.aug_trie.specs.Snapshot.{set_at}
use Rattle.aug_trie.specs.inside.LastingState.{HasLastingPass}
use Rattle.aug_trie.specs.inside.PassState.{pass_facts, known_in}
use Rattle.aug_trie.specs.inside.SnapshotWalk.{set_seen}
use Rattle.aug_trie.proofs.Asking.{same_set}
use Rattle.aug_trie.proofs.LastingLooks.{asked_still, asked_reads}
use Rattle.aug_trie.proofs.LastingUpdates.{is_pass}
use Rattle.aug_trie.proofs.lasting.pass.LastingPass.ask.Goals as goal

pub of_held-walk-requires : goal.of_held-walk-requires
of_held-walk-requires g c = let i = c.self.inside in let there = sym c.take.ensures.value ∙ c.in-Some.is ∙ ap Some (sym c.pass.ensures) in
    ((is_pass (face g.A.Monoid.parts g.B.Monoid.parts) i.words i.stock i.leaves i.bits i.look c.args.self.now c.pass.result c.self.invariant c.self.view_is there).looks c.args.s (ap (λ (z : LastingFacts). z.look) c.self.view_is ∙ c.requires.looks)).walk

pub invariant_of-self : goal.invariant_of-self
invariant_of-self g c = let f = face g.A.Monoid.parts g.B.Monoid.parts in let i = c.self.inside in let w = c.of_held-walk.result in let most : Loads = g.Q.Query.most c.args.query (set_seen w.words.view w.snapshot) in
    let there : i.words ≡ Some w.words = sym c.take.ensures.value ∙ c.in-Some.is ∙ ap Some (sym c.pass.ensures) ∙ ap Some c.of_held-walk.ensures.words in
    subst (λ (z : Known). HasLastingPass f (Some z) i.stock i.leaves i.bits i.look) (sym (c.into_half.ensures ∙ c.into_pass.ensures)) (asked_still g.A.Monoid.parts g.B.Monoid.parts i.words i.stock i.leaves i.bits i.look c.args.self.now w c.run-answer.new.tree c.self.invariant c.self.view_is there most.nodes most.counts most.summaries most.passed c.run-answer.ensures.descends)

pub returns-clause-reads : goal.returns-clause-reads
returns-clause-reads g c = let f = face g.A.Monoid.parts g.B.Monoid.parts in let i = c.self.inside in let w = c.of_held-walk.result in let most : Loads = g.Q.Query.most c.args.query (set_seen w.words.view w.snapshot) in
    let there : i.words ≡ Some w.words = sym c.take.ensures.value ∙ c.in-Some.is ∙ ap Some (sym c.pass.ensures) ∙ ap Some c.of_held-walk.ensures.words in
    let all : ℕ = steps_for (g.Q.Query.most c.args.query (set_at c.args.self.now.pass c.args.s)) in
    let same = same_set i.words w c.args.s (known_in i.words).view.shape.updates c.args.self.now.pass there c.of_held-walk.ensures.snapshot (ap (λ (z : LastingFacts). z.pass) c.self.view_is) in
    subst (λ (z : Known). Reads (summary_of g.A.Monoid.parts g.B.Monoid.parts) all c.args.self.now.pass (pass_facts z z.view.shape.updates)) (sym (c.into_half.ensures ∙ c.into_pass.ensures)) (asked_reads g.A.Monoid.parts g.B.Monoid.parts i.words i.stock i.leaves i.bits i.look c.args.self.now w c.run-answer.new.tree c.self.invariant c.self.view_is there most.nodes most.counts most.summaries most.passed c.run-answer.ensures.descends all
    (le_of_eq (ap (λ (z : SetFacts). steps_for (g.Q.Query.most c.args.query z)) same)))
