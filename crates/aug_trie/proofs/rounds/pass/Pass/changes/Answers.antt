use Rattle.std.proofs.Common.{◌≡◌, ◌*◌, Some, sym, ap, ◌∙◌, subst, take}
use Rattle.aug_model.specs.Differences.{changes_from}
use Rattle.aug_core.specs.Faces.{face}
use Rattle.aug_query.specs.DescendBoth.{BothSets, differing_nodes}
use Rattle.aug_words.specs.Seats.{Known}
use Rattle.aug_trie.specs.inside.BothWalk.{both_seen}
use Rattle.aug_trie.specs.inside.PassState.{pass_facts, KeepsAccount}
use Rattle.aug_trie.proofs.Comparing.{walks_both, same_both, still_pass_both, compared, none_read}
use Rattle.aug_trie.proofs.Passing.{pass_records, pass_told}
use Rattle.aug_trie.proofs.rounds.pass.Pass.changes.Goals as goal

pub over-walk-requires : goal.over-walk-requires
over-walk-requires g c = let i = c.self.inside in
    let told = pass_told (face g.A.Monoid.parts g.B.Monoid.parts) i.words c.in-Some.words i.account.leaves i.account.bits i.account.next i.account.left c.args.self.now c.self.invariant.pass (sym c.take.ensures.value ∙ c.in-Some.is) c.self.view_is in
    walks_both g.A.Monoid.parts g.B.Monoid.parts c.in-Some.words i.account.bits i.account.left c.args.self.now c.args.earlier c.args.later (pass_records told.0) told.0.bits_are told.1 c.requires.earlier c.requires.later

pub invariant_of-self : goal.invariant_of-self
invariant_of-self g c = let i = c.self.inside in let w = c.over-walk.result in
    let there : i.words ≡ Some w.words = sym c.take.ensures.value ∙ c.in-Some.is ∙ ap (λ (z : Known). Some z) (sym c.over-walk.ensures.words) in
    let still = still_pass_both g.A.Monoid.parts g.B.Monoid.parts i.words w c.next_changes-page.new.trees i.account.leaves i.account.bits i.account.next i.account.left i.account.inserts i.account.removals
    (2 * differing_nodes (both_seen w.words.view w.earlier w.later) c.args.from) c.self.invariant.pass c.self.invariant.counts there c.next_changes-page.ensures.descends in
    subst (λ (z : Known). KeepsAccount (face g.A.Monoid.parts g.B.Monoid.parts) (Some z) i.account) (sym c.into_words.ensures) record { pass = still.0; counts = still.1 }

pub returns : goal.returns
returns g c = let i = c.self.inside in let w = c.over-walk.result in
    let there : i.words ≡ Some w.words = sym c.take.ensures.value ∙ c.in-Some.is ∙ ap (λ (z : Known). Some z) (sym c.over-walk.ensures.words) in
    let same = same_both i.words w c.args.earlier c.args.later i.account.left c.args.self.now there c.over-walk.ensures.earlier c.over-walk.ensures.later c.self.view_is in
    let reads = compared g.A.Monoid.parts g.B.Monoid.parts i.words (Some c.into_words.result) w c.next_changes-page.new.trees c.args.earlier c.args.later c.args.from i.account.left c.args.self.now there c.over-walk.ensures.earlier c.over-walk.ensures.later c.self.view_is
    c.next_changes-page.ensures.descends (ap (λ (z : Known). Some z) c.into_words.ensures) in record {
      answer = c.next_changes-page.ensures.answer ∙ ap (λ (z : BothSets). take 32 (changes_from z.earlier z.later c.args.from)) same;
      reads = reads;
      none = none_read g.A.Monoid.parts g.B.Monoid.parts c.args.self.now (pass_facts c.into_words.result i.account.left) c.args.earlier c.args.later c.args.from reads;
    }
