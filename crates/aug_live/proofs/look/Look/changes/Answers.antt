use Rattle.std.proofs.Common.{◌≡◌, ◌∙◌, ap, sym}
use Rattle.std.specs.Arc.{arc_value}
use Rattle.std.specs.Prelude.{take}
use Rattle.aug_model.specs.Differences.{changes_from}
use Rattle.aug_trie.specs.Pass.{PassFacts}
use Rattle.aug_trie.specs.Snapshot.{set_at}
use Rattle.aug_live.specs.LiveHandles.{LookFacts}
use Rattle.aug_live.specs.inside.LaneKnowledge.{half_in}
use Rattle.aug_live.proofs.Shown.{look_on}
use Rattle.aug_live.proofs.look.Look.changes.Goals as goal

pub invariant_of-self : goal.invariant_of-self
invariant_of-self g c = let i = c.self.inside in let asked = c.changes.ensures.reads.stays in
    look_on i.out (arc_value i.round) i.reader i.held i.before i.era c.in-Some.reader c.changes.new.self c.self.invariant c.in-Some.is (ap (λ (z : PassFacts). z.round) asked.same) (λ s. asked.keeps.snapshots s)

pub returns-clause-answer : goal.returns-clause-answer
returns-clause-answer g c = let i = c.self.inside in let now = c.args.self.now in
    let reader : c.in-Some.reader ≡ now.reader = sym (ap half_in c.in-Some.is) ∙ ap (λ (l : LookFacts). l.reader) c.self.view_is in
    let held : i.held ≡ now.snapshot = ap (λ (l : LookFacts). l.snapshot) c.self.view_is in let before : i.before ≡ now.before = ap (λ (l : LookFacts). l.before) c.self.view_is in
    c.changes.ensures.answer ∙ (λ k. take 32 (changes_from (set_at (reader k) (before k)) (set_at (reader k) (held k)) c.args.from))
