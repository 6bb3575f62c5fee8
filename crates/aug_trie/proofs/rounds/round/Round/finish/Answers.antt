use Rattle.std.proofs.Common.{false, ◌≡◌, ℕ, ◌+◌, ◌∙◌, List, ◌∷◌, [], refl, sym, ap, subst}
use Rattle.aug_core.specs.Cuts.{opening_cut}
use Rattle.aug_core.specs.Places.{Shape}
use Rattle.aug_query.specs.Tree.{IsTreeSet}
use Rattle.aug_trie.specs.Chains.{chapters}
use Rattle.aug_trie.specs.Crew.{CrewFacts, crew_chain}
use Rattle.aug_trie.specs.Round.{TableFacts, RoundFacts}
use Rattle.aug_trie.proofs.rounds.round.Round.finish.Goals as goal

pub returns-clause-rolls : goal.returns-clause-rolls
returns-clause-rolls g c =
    let now : RoundFacts = c.args.crew.round in let last : CrewFacts = c.over-inserts.new.self in let a = c.over-inserts.ensures in let round : RoundFacts = record now { era = now.era + 1; members = a.ended.members } in
    let next : CrewFacts = record { round = round; past = chapters (crew_chain last); knows = record { history = opening_cut now.bits a.ended.members ∷ []; accepted = [] }; steps = []; handed = 0; back = 0; words = last.words; free = false } in (
      next,
      record {
        last = last;
        last_is = a.last_is;
        weights = a.weights;
        goes_on = a.goes_on;
        same_changes = a.same_changes;
        loads = a.loads;
        ended = a.ended;
        ends = a.ends;
        none_missing = a.none_missing;
        sizes = a.sizes;
        inserts_are = a.inserts_are;
        removals_are = a.removals_are;
        round_is = refl;
        crew_is = refl;
      },
      c.list.ensures.set ∙ sym a.ends.members,
    )

pub invariant_of-result : goal.invariant_of-result
invariant_of-result g c =
    let tree = c.list.ensures.is_set in
    let bits : c.over-inserts.new.self.round.bits ≡ c.bits-bits.result = ap (λ (z : CrewFacts). z.round.bits) c.over-inserts.ensures.last_is ∙ ap (λ (z : TableFacts). z.bits) (c.requires.together ∙ sym c.self.view_is) ∙ ap (λ (z : Shape). z.bits) (sym c.self.invariant.laid_out) ∙ sym c.bits-bits.ensures in
    subst (λ (z : ℕ × List (ℕ × ℕ)). IsTreeSet (record { bits = z.0; pairs = z.1 })) (λ j. (bits j, sym c.list.ensures.set j)) tree
