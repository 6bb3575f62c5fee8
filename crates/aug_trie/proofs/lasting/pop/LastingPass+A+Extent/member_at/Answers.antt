use Rattle.std.proofs.Common.{◌≡◌, ◌+◌, ◌*◌, Some, ap, sym, ◌∙◌, subst, arith}
use Rattle.aug_model.specs.Folds.{summary_of}
use Rattle.aug_model.specs.Keys.{SetFacts, list_of}
use Rattle.aug_monoid.specs.Extent.{extent_parts}
use Rattle.aug_trie.specs.Pass.{PassFacts}
use Rattle.aug_trie.specs.Pops.{member_at}
use Rattle.aug_trie.specs.Snapshot.{set_at}
use Rattle.aug_trie.proofs.Popping.{end_weighs, end_low, reads_both}
use Rattle.aug_trie.proofs.lasting.pop.LastingPass+A+Extent.member_at.Goals as goal

pub unreachable-requires : goal.unreachable-requires
unreachable-requires g c = let same = ap (λ (z : PassFacts). set_at z c.args.s) c.key_at.ensures.reads.stays.same in
    end_weighs c.args.side (set_at c.key_at.new.self.pass c.args.s) c.in-Some.k (subst (λ (z : SetFacts). member_at c.args.side (list_of z) ≡ Some c.in-Some.k) (sym same) (sym c.key_at.ensures.answer ∙ c.in-Some.is)) (sym c.ask.ensures.answer ∙ c.in_default-ask.is)

pub returns-clause-key : goal.returns-clause-key
returns-clause-key g c = end_low c.args.side (set_at c.args.self.now.pass c.args.s) c.in-Some.k (c.bits-bits.ensures.sets c.args.s c.requires.look) (sym c.key_at.ensures.answer ∙ c.in-Some.is)

pub returns-clause-reads : goal.returns-clause-reads
returns-clause-reads g c = let now : PassFacts = c.args.self.now.pass in let mid : PassFacts = c.key_at.new.self.pass in let bits = ap (λ (z : PassFacts). z.round.bits) c.key_at.ensures.reads.stays.same in
    reads_both (summary_of g.A.Monoid.parts extent_parts) 4 (mid.round.bits + 1 + 1 + 3 * 0 + 2 * 0) (now.round.bits + 6) now mid c.ask.new.self.pass (omega (arith, bits)) c.key_at.ensures.reads c.ask.ensures.reads
