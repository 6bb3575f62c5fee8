use Rattle.std.proofs.Common.{◌≡◌, ℕ, Some, sym, ap, ◌∙◌, subst, le_of_eq}
use Rattle.aug_model.specs.Folds.{summary_of}
use Rattle.aug_model.specs.Keys.{SetFacts}
use Rattle.aug_core.specs.Faces.{face}
use Rattle.aug_query.specs.Descend.{Loads}
use Rattle.aug_words.specs.Seats.{Known}
use Rattle.aug_trie.specs.Node.{Reads, steps_for}
use Rattle.aug_trie.specs.Pass.{PassFacts}
use Rattle.aug_trie.specs.Snapshot.{HasSnapshot, set_at}
use Rattle.aug_trie.specs.inside.PassState.{pass_facts}
use Rattle.aug_trie.specs.inside.ReaderState.{HoldsReader}
use Rattle.aug_trie.specs.inside.SnapshotWalk.{set_seen}
use Rattle.aug_trie.proofs.Asking.{walks_by, same_set, looks_of, reads_of}
use Rattle.aug_trie.proofs.Lending.{reader_told, reader_together, still_reader}
use Rattle.aug_trie.proofs.rounds.reader.Reader.ask.Goals as goal

pub of_reader-walk-requires-clause-together : goal.of_reader-walk-requires-clause-together
of_reader-walk-requires-clause-together g c = let i = c.self.inside in
    reader_together (face g.A.Monoid.parts g.B.Monoid.parts) c.round.inside.words i.words c.in-Some.words c.args.self.now c.args.round.now c.round.invariant.keeps_records
    (reader_told (face g.A.Monoid.parts g.B.Monoid.parts) i.words c.in-Some.words i.bits c.args.self.now c.self.invariant (sym c.take.ensures.value ∙ c.in-Some.is) c.self.view_is).1.keeps_records (sym c.take.ensures.value ∙ c.in-Some.is) c.self.view_is c.requires.together c.round.view_is

pub of_reader-walk-requires-clause-walk : goal.of_reader-walk-requires-clause-walk
of_reader-walk-requires-clause-walk g c = let i = c.self.inside in
    let told = reader_told (face g.A.Monoid.parts g.B.Monoid.parts) i.words c.in-Some.words i.bits c.args.self.now c.self.invariant (sym c.take.ensures.value ∙ c.in-Some.is) c.self.view_is in
    walks_by g.A.Monoid.parts g.B.Monoid.parts c.in-Some.words i.bits 0 c.args.s told.1 told.0 (subst (λ (z : PassFacts). HasSnapshot z c.args.s) (sym told.2) c.requires.snapshot)

pub invariant_of-self : goal.invariant_of-self
invariant_of-self g c = let i = c.self.inside in let w = c.of_reader-walk.result in let most : Loads = g.Q.Query.most c.args.query (set_seen w.words.view w.snapshot) in
    let there : i.words ≡ Some w.words = sym c.take.ensures.value ∙ c.in-Some.is ∙ ap (λ (z : Known). Some z) (sym c.of_reader-walk.ensures.words) in
    subst (λ (z : Known). HoldsReader (face g.A.Monoid.parts g.B.Monoid.parts) (Some z) i.bits) (sym c.into_reader.ensures)
    (still_reader (face g.A.Monoid.parts g.B.Monoid.parts) (steps_for most) i.words w.words c.run-answer.new.tree.words i.bits c.args.self.now c.self.invariant there c.self.view_is
    (looks_of g.A.Monoid.parts g.B.Monoid.parts most.nodes most.counts most.summaries most.passed w c.run-answer.new.tree c.run-answer.ensures.descends))

pub returns : goal.returns
returns g c = let i = c.self.inside in let w = c.of_reader-walk.result in let most : Loads = g.Q.Query.most c.args.query (set_seen w.words.view w.snapshot) in
    let there : i.words ≡ Some w.words = sym c.take.ensures.value ∙ c.in-Some.is ∙ ap (λ (z : Known). Some z) (sym c.of_reader-walk.ensures.words) in
    let same = same_set i.words w c.args.s 0 c.args.self.now there c.of_reader-walk.ensures.snapshot c.self.view_is in
    let all : ℕ = steps_for (g.Q.Query.most c.args.query (set_at c.args.self.now c.args.s)) in record {
      answer = subst (λ (z : SetFacts). g.Q.Query.Answers c.args.query z c.run-answer.result) same c.run-answer.ensures.answer;
      reads = subst (λ (z : Known). Reads (summary_of g.A.Monoid.parts g.B.Monoid.parts) all c.args.self.now (pass_facts z 0)) (sym c.into_reader.ensures)
          (reads_of g.A.Monoid.parts g.B.Monoid.parts i.words w c.run-answer.new.tree 0 most.nodes most.counts most.summaries most.passed all c.args.self.now there c.self.view_is c.run-answer.ensures.descends
          (le_of_eq (ap (λ (z : SetFacts). steps_for (g.Q.Query.most c.args.query z)) same)));
    }
