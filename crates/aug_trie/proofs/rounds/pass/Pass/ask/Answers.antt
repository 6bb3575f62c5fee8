use Rattle.std.proofs.Common.{ℕ, Option, sym, ap, ◌∙◌, subst, le_of_eq, Some}
use Rattle.aug_model.specs.Folds.{summary_of}
use Rattle.aug_model.specs.Keys.{SetFacts}
use Rattle.aug_core.specs.Faces.{face}
use Rattle.aug_query.specs.Descend.{Loads}
use Rattle.aug_words.specs.Seats.{Known}
use Rattle.aug_trie.specs.Node.{Reads, steps_for}
use Rattle.aug_trie.specs.Snapshot.{set_at}
use Rattle.aug_trie.specs.inside.PassState.{pass_facts, KeepsAccount}
use Rattle.aug_trie.specs.inside.SnapshotWalk.{set_seen, HasWalk}
use Rattle.aug_trie.proofs.Asking.{may_walk, same_set, still_pass, reads_of}
use Rattle.aug_trie.proofs.rounds.pass.Pass.ask.Goals as goal

pub of_pass-walk-requires : goal.of_pass-walk-requires
of_pass-walk-requires g c = let i = c.self.inside in
    subst (λ (z : Option Known). HasWalk (face g.A.Monoid.parts g.B.Monoid.parts) (λ word. word) z c.args.s i.account.bits) (sym c.take.ensures.value)
    (may_walk g.A.Monoid.parts g.B.Monoid.parts i.words i.account.leaves i.account.bits i.account.next i.account.left c.args.self.now c.args.s c.self.invariant.pass c.self.view_is c.requires)

pub invariant_of-self : goal.invariant_of-self
invariant_of-self g c = let i = c.self.inside in let w = c.of_pass-walk.result in let most : Loads = g.Q.Query.most c.args.query (set_seen w.words.view w.snapshot) in
    let still = still_pass g.A.Monoid.parts g.B.Monoid.parts i.words w c.run-answer.new.tree i.account.leaves i.account.bits i.account.next i.account.left i.account.inserts i.account.removals most.nodes most.counts most.summaries most.passed c.self.invariant.pass c.self.invariant.counts
    (sym c.take.ensures.value ∙ c.of_pass-walk.ensures.words) c.run-answer.ensures.descends in
    subst (λ (z : Known). KeepsAccount (face g.A.Monoid.parts g.B.Monoid.parts) (Some z) i.account) (sym c.into_words.ensures) record { pass = still.0; counts = still.1 }

pub returns : goal.returns
returns g c = let i = c.self.inside in let w = c.of_pass-walk.result in let most : Loads = g.Q.Query.most c.args.query (set_seen w.words.view w.snapshot) in
    let there = sym c.take.ensures.value ∙ c.of_pass-walk.ensures.words in
    let same = same_set i.words w c.args.s i.account.left c.args.self.now there c.of_pass-walk.ensures.snapshot c.self.view_is in
    let all : ℕ = steps_for (g.Q.Query.most c.args.query (set_at c.args.self.now c.args.s)) in record {
      answer = subst (λ (z : SetFacts). g.Q.Query.Answers c.args.query z c.run-answer.result) same c.run-answer.ensures.answer;
      reads = subst (λ (z : Known). Reads (summary_of g.A.Monoid.parts g.B.Monoid.parts) all c.args.self.now (pass_facts z i.account.left)) (sym c.into_words.ensures)
          (reads_of g.A.Monoid.parts g.B.Monoid.parts i.words w c.run-answer.new.tree i.account.left most.nodes most.counts most.summaries most.passed all c.args.self.now there c.self.view_is c.run-answer.ensures.descends
          (le_of_eq (ap (λ (z : SetFacts). steps_for (g.Q.Query.most c.args.query z)) same)));
    }
