use Rattle.std.proofs.Common.{◌≡◌, ℕ, ◌+◌, ◌^◌, ◌<◌, Option, Some, IfSome, slice_get, sym, refl, subst, ◌∙◌}
use Rattle.aug_model.specs.Folds.{summary_of}
use Rattle.aug_model.specs.Keys.{list_of}
use Rattle.aug_trie.specs.Pass.{PassFacts}
use Rattle.aug_trie.specs.Pops.{PopsTo}
use Rattle.aug_trie.specs.Snapshot.{set_at}
use Rattle.aug_trie.specs.declared.rounds.pop.Pop.TheVariants.{Empty}
use Rattle.aug_trie.proofs.Popping.{one_of_all, weighs_some, reads_none}
use Rattle.aug_trie.proofs.rounds.pass.Pass.take_shown.Goals as goal

pub returns-in_default : goal.returns-in_default
returns-in_default g c = let parts = summary_of g.A.Monoid.parts g.B.Monoid.parts in let now : PassFacts = c.args.self.now in record {
  asked = now;
  reads = reads_none parts (now.round.bits + 2) now;
  pops_to = subst (λ (z : Option ℕ). PopsTo parts (set_at now c.args.s) z Empty now now) (sym c.in_default.is) refl;
}

pub unreachable-requires : goal.unreachable-requires
unreachable-requires g c = let set = set_at c.args.self.now c.args.s in
    let stands = subst (λ (z : Option ℕ). IfSome z (λ k. (i : ℕ) × (slice_get (list_of set) i ≡ Some k))) c.in-Some.is c.requires.member in
    weighs_some set.pairs stands.0 c.in-Some.k stands.1 (sym c.ask.ensures.answer ∙ c.in_default-ask.is)

pub take-requires-clause-key : goal.take-requires-clause-key
take-requires-clause-key g c = let now : PassFacts = c.args.self.now in let set = set_at now c.args.s in
    let stands = subst (λ (z : Option ℕ). IfSome z (λ k. (i : ℕ) × (slice_get (list_of set) i ≡ Some k))) c.in-Some.is c.requires.member in
    subst (λ (z : PassFacts). c.in-Some.k < 2 ^ z.round.bits) (sym c.ask.ensures.reads.stays.same)
    (one_of_all (λ k. k < 2 ^ now.round.bits) (list_of set) stands.0 c.in-Some.k (c.bits-bits.ensures.sets c.args.s c.requires.snapshot).is_key_set.below stands.1)
