use Rattle.std.proofs.Common.{refl, rules, ℕ, ◌-◌, ◌*◌, Option, sym, ap, ◌∙◌, subst, arith, Some}
use Rattle.aug_model.specs.Folds.{summary_of}
use Rattle.aug_model.specs.Keys.{SetFacts}
use Rattle.aug_core.specs.Faces.{face}
use Rattle.aug_query.specs.Yields.{YieldsNext}
use Rattle.aug_words.specs.Seats.{Known}
use Rattle.aug_trie.specs.Node.{Reads}
use Rattle.aug_trie.specs.inside.Cursors.{IsCursorOf}
use Rattle.aug_trie.specs.inside.PassState.{pass_facts, KeepsAccount}
use Rattle.aug_trie.specs.inside.SnapshotWalk.{HasWalk}
use Rattle.aug_trie.proofs.Asking.{may_walk, same_set, still_pass, reads_of}
use Rattle.aug_trie.proofs.Cursors.{cursor_in, walked_out}
use Rattle.aug_trie.proofs.rounds.pass.Pass.next.Goals as goal

pub of_pass-walk-requires : goal.of_pass-walk-requires
of_pass-walk-requires g c = let i = c.self.inside in
    subst (λ (z : Option Known). HasWalk (face g.A.Monoid.parts g.B.Monoid.parts) (λ word. word) z c.args.at.now.snapshot i.account.bits) (sym c.take.ensures.value)
    (may_walk g.A.Monoid.parts g.B.Monoid.parts i.words i.account.leaves i.account.bits i.account.next i.account.left c.args.self.now c.args.at.now.snapshot c.self.invariant.pass c.self.view_is c.requires.of_pass)

pub next-found-requires : goal.next-found-requires
next-found-requires g c = let i = c.self.inside in
    (search rules, cursor_in (face g.A.Monoid.parts g.B.Monoid.parts) i.words c.of_pass-walk.result i.account.leaves i.account.bits i.account.next i.account.left c.args.self.now c.args.at.now c.self.invariant.pass (sym c.take.ensures.value ∙ c.of_pass-walk.ensures.words) c.of_pass-walk.ensures.snapshot c.self.view_is c.requires)

pub invariant_of-self : goal.invariant_of-self
invariant_of-self g c = let i = c.self.inside in let w = c.of_pass-walk.result in let bits : ℕ = w.words.view.shape.bits in
    let still = still_pass g.A.Monoid.parts g.B.Monoid.parts i.words w c.next-found.new.tree i.account.leaves i.account.bits i.account.next i.account.left i.account.inserts i.account.removals (3 * bits - 2) (2 * bits - 1) 0 0 c.self.invariant.pass c.self.invariant.counts
    (sym c.take.ensures.value ∙ c.of_pass-walk.ensures.words) c.next-found.ensures.descends in
    subst (λ (z : Known). KeepsAccount (face g.A.Monoid.parts g.B.Monoid.parts) (Some z) i.account) (sym c.into_words.ensures) record { pass = still.0; counts = still.1 }

pub returns : goal.returns
returns g c = let i = c.self.inside in let w = c.of_pass-walk.result in let bits : ℕ = w.words.view.shape.bits in let from = c.args.at.now in
    let there = sym c.take.ensures.value ∙ c.of_pass-walk.ensures.words in let e = c.next-found.ensures in
    let same = same_set i.words w from.snapshot i.account.left c.args.self.now there c.of_pass-walk.ensures.snapshot c.self.view_is in let most : ℕ = 5 * c.args.self.now.round.bits - 3 in record {
      of_pass = subst (λ (z : Known). IsCursorOf (pass_facts z i.account.left) (record { snapshot = from.snapshot; cursor = c.next-found.new.self })) (sym c.into_words.ensures)
          (walked_out g.A.Monoid.parts g.B.Monoid.parts i.words w c.next-found.new.tree i.account.left (3 * bits - 2) (2 * bits - 1) 0 0 c.args.self.now (record { snapshot = from.snapshot; cursor = c.next-found.new.self }) there c.of_pass-walk.ensures.snapshot c.self.view_is c.requires.of_pass e.descends e.of_tree);
      snapshot = refl;
      answer = subst (λ (z : SetFacts). YieldsNext z from.cursor.gap c.next-found.new.self.gap c.next-found.result) same e.answer;
      reads = subst (λ (z : Known). Reads (summary_of g.A.Monoid.parts g.B.Monoid.parts) most c.args.self.now (pass_facts z i.account.left)) (sym c.into_words.ensures)
          (reads_of g.A.Monoid.parts g.B.Monoid.parts i.words w c.next-found.new.tree i.account.left (3 * bits - 2) (2 * bits - 1) 0 0 most c.args.self.now there c.self.view_is e.descends (omega (arith, ap (λ (z : SetFacts). z.bits) same)));
    }
