use Rattle.std.proofs.Common.{◌≡◌, ◌*◌, Some, sym, ap, ◌∙◌, subst, take}
use Rattle.aug_model.specs.Differences.{changes_from}
use Rattle.aug_core.specs.Faces.{face}
use Rattle.aug_query.specs.DescendBoth.{BothSets, differing_nodes}
use Rattle.aug_words.specs.Seats.{Known}
use Rattle.aug_trie.specs.inside.BothWalk.{both_seen}
use Rattle.aug_trie.specs.inside.PassState.{pass_facts}
use Rattle.aug_trie.specs.inside.ReaderState.{HoldsReader}
use Rattle.aug_trie.proofs.Comparing.{walks_both, same_both, looks_of_both, compared, none_read}
use Rattle.aug_trie.proofs.Lending.{reader_told, still_reader}
use Rattle.aug_trie.proofs.rounds.reader.Reader.changes.Goals as goal

pub over-walk-requires : goal.over-walk-requires
over-walk-requires g c = let i = c.self.inside in
    let told = reader_told (face g.A.Monoid.parts g.B.Monoid.parts) i.words c.in-Some.reader i.bits c.args.self.now c.self.invariant (sym c.take.ensures.value ∙ c.in-Some.is) c.self.view_is in
    walks_both g.A.Monoid.parts g.B.Monoid.parts c.in-Some.reader i.bits 0 c.args.self.now c.args.earlier c.args.later told.1 told.0 told.2 c.requires.earlier c.requires.later

pub invariant_of-self : goal.invariant_of-self
invariant_of-self g c = let f = face g.A.Monoid.parts g.B.Monoid.parts in let i = c.self.inside in let w = c.over-walk.result in let n = 2 * differing_nodes (both_seen w.words.view w.earlier w.later) c.args.from in
    let there : i.words ≡ Some w.words = sym c.take.ensures.value ∙ c.in-Some.is ∙ ap (λ (z : Known). Some z) (sym c.over-walk.ensures.words) in
    subst (λ (z : Known). HoldsReader f (Some z) i.bits) (sym (c.reader.view_is ∙ c.into_words.ensures))
    (still_reader f (2 * n) i.words w.words c.next_changes-page.new.trees.words i.bits c.args.self.now c.self.invariant there c.self.view_is (looks_of_both f n w c.next_changes-page.new.trees c.next_changes-page.ensures.descends))

pub returns : goal.returns
returns g c = let i = c.self.inside in let w = c.over-walk.result in
    let there : i.words ≡ Some w.words = sym c.take.ensures.value ∙ c.in-Some.is ∙ ap (λ (z : Known). Some z) (sym c.over-walk.ensures.words) in
    let same = same_both i.words w c.args.earlier c.args.later 0 c.args.self.now there c.over-walk.ensures.earlier c.over-walk.ensures.later c.self.view_is in
    let reads = compared g.A.Monoid.parts g.B.Monoid.parts i.words (Some c.reader.inside.reader) w c.next_changes-page.new.trees c.args.earlier c.args.later c.args.from 0 c.args.self.now there c.over-walk.ensures.earlier c.over-walk.ensures.later c.self.view_is
    c.next_changes-page.ensures.descends (ap (λ (z : Known). Some z) (c.reader.view_is ∙ c.into_words.ensures)) in record {
      answer = c.next_changes-page.ensures.answer ∙ ap (λ (z : BothSets). take 32 (changes_from z.earlier z.later c.args.from)) same;
      reads = reads;
      none = none_read g.A.Monoid.parts g.B.Monoid.parts c.args.self.now (pass_facts c.reader.inside.reader 0) c.args.earlier c.args.later c.args.from reads;
    }
