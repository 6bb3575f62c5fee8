use Rattle.std.proofs.Common.{◌≤◌, ◌∙◌, arith, ap, sym, subst, rules}
use Rattle.aug_monoid.proofs.BoundLaws.{laws_of}
use Rattle.aug_core.specs.Faces.{face}
use Rattle.aug_model.specs.Folds.{summary_of}
use Rattle.aug_trie.specs.Ended.{EndedFacts}
use Rattle.aug_trie.specs.inside.EndedTree.{IsVersion}
use Rattle.aug_model.specs.NodeKeys.{pairs_below}
use Rattle.aug_trie.specs.inside.EndedState.{pairs_at_rest}
use Rattle.aug_trie.proofs.EndedWalks.{inner_inside}
use Rattle.aug_trie.proofs.Versions.{count_fits, tells, leaf_tells, some_bits, few_bits}
use Rattle.aug_trie.proofs.rounds.ended.Ended.summary_of_word.Goals as goal

pub returns-then-level-eq0 : goal.returns-then-level-eq0
returns-then-level-eq0 g c = let now = c.args.self.now in
    leaf_tells g.A.Monoid.parts g.B.Monoid.parts now.rest now.members c.args.level c.args.place c.args.word c.if-level-eq0.true c.requires.version c.leaf_summary.result c.leaf_summary.ensures

pub record_word-count-requires : goal.record_word-count-requires
record_word-count-requires g c = let inner : 1 ≤ c.args.level = search rules in inner_inside g.A.Monoid.parts g.B.Monoid.parts _ c.args.self.now c.args.level c.args.place c.args.word c.self.view_is inner c.requires.version

pub record_word-a-requires : goal.record_word-a-requires
record_word-a-requires g c = let inner : 1 ≤ c.args.level = search rules in inner_inside g.A.Monoid.parts g.B.Monoid.parts _ c.args.self.now c.args.level c.args.place c.args.word c.self.view_is inner c.requires.version

pub record_word-b-requires : goal.record_word-b-requires
record_word-b-requires g c = let inner : 1 ≤ c.args.level = search rules in inner_inside g.A.Monoid.parts g.B.Monoid.parts _ c.args.self.now c.args.level c.args.place c.args.word c.self.view_is inner c.requires.version

pub overflow_cast-result : goal.overflow_cast-result
overflow_cast-result g c = let m = g.A.Monoid.parts in let n = g.B.Monoid.parts in let e = c.self.inside in let inner : 1 ≤ c.args.level = search rules in
    let version : IsVersion (face m n) e.rest (pairs_at_rest e.rest e.bits 0 e.root) c.args.level c.args.place c.args.word = subst (λ (z : EndedFacts). IsVersion (face m n) z.rest z.members c.args.level c.args.place c.args.word) (sym c.self.view_is) c.requires.version in
    let fits = count_fits m n e.rest (pairs_at_rest e.rest e.bits 0 e.root) c.args.level c.args.place c.args.word inner version e.bits (some_bits m n e.rest e.root e.bits c.self.invariant) (few_bits m n e.rest e.root e.bits c.self.invariant) c.self.invariant.is_key_set in
    let is = c.record_word-count.ensures in let few : c.record_word-count.result ≤ 65536 = omega arith in omega arith

pub returns : goal.returns
returns g c = let m = g.A.Monoid.parts in let n = g.B.Monoid.parts in let e = c.self.inside in let inner : 1 ≤ c.args.level = search rules in
    let version : IsVersion (face m n) e.rest (pairs_at_rest e.rest e.bits 0 e.root) c.args.level c.args.place c.args.word = subst (λ (z : EndedFacts). IsVersion (face m n) z.rest z.members c.args.level c.args.place c.args.word) (sym c.self.view_is) c.requires.version in
    (λ i. record { count = c.record_word-count.ensures i; a = c.from_word.result; b = c.from_word-2.result })
    ∙ tells m n e.rest (pairs_at_rest e.rest e.bits 0 e.root) c.args.level c.args.place c.args.word inner version c.self.invariant.fit
    (laws_of g.met.A.Monoid) (laws_of g.met.B.Monoid) c.from_word.result c.from_word-2.result (c.from_word.ensures ∙ ap m.from_word c.record_word-a.ensures) (c.from_word-2.ensures ∙ ap n.from_word c.record_word-b.ensures)
    ∙ ap (λ (z : EndedFacts). summary_of m n (pairs_below z.members c.args.level c.args.place)) c.self.view_is
