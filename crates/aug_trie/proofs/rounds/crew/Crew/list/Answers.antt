use Rattle.std.proofs.Common.{ℕ, List, ◌+◌, ◌*◌, ◌++◌, length, arith, ap, sym, refl, ◌∙◌, le_of_eq}
use Rattle.aug_core.specs.Places.{Shape}
use Rattle.aug_model.specs.Keys.{SetFacts}
use Rattle.aug_trie.specs.inside.SnapshotWalk.{set_seen}
use Rattle.aug_trie.proofs.CrewWalks.{walked_set, walked_tree_set, walked_few, walked}
use Rattle.aug_trie.proofs.RoundLemmas.{of_round, crew_told}
use Rattle.aug_trie.proofs.rounds.crew.Crew.list.Goals as goal

pub of_crew-walk-requires-clause-together : goal.of_crew-walk-requires-clause-together
of_crew-walk-requires-clause-together g c = of_round c.round.inside.words c.in-Some.lead c.args.self.now c.args.round.now c.round.invariant.keeps_records (crew_told c.self.invariant (sym c.take.ensures.value ∙ c.in-Some.is) c.self.view_is).0.is_crew.keeps_records (crew_told c.self.invariant (sym c.take.ensures.value ∙ c.in-Some.is) c.self.view_is).1 c.requires.together c.round.view_is

pub of_crew-walk-requires-clause-bits : goal.of_crew-walk-requires-clause-bits
of_crew-walk-requires-clause-bits g c = let together = of_round c.round.inside.words c.in-Some.lead c.args.self.now c.args.round.now c.round.invariant.keeps_records (crew_told c.self.invariant (sym c.take.ensures.value ∙ c.in-Some.is) c.self.view_is).0.is_crew.keeps_records (crew_told c.self.invariant (sym c.take.ensures.value ∙ c.in-Some.is) c.self.view_is).1 c.requires.together c.round.view_is in
    c.bits.ensures ∙ ap (λ (s : Shape). s.bits) (c.round.invariant.laid_out ∙ sym together.one_shape)

pub append_pairs-requires : goal.append_pairs-requires
append_pairs-requires g c = let i = c.self.inside in let e = c.of_crew-walk.ensures in
    let few = walked_few g.A.Monoid.parts g.B.Monoid.parts i.lead c.in-Some.lead c.args.self.now i.back i.inserts i.removals c.self.invariant (sym c.take.ensures.value ∙ c.in-Some.is) c.self.view_is c.of_crew-walk.result e.words e.newest in let room = c.requires.room in let none = ap (λ (xs : List (ℕ × ℕ)). length xs) c.requires.empty in let counted = c.args.list.now.ok.0 in omega (arith, few, room, none, counted)

pub invariant_of-self : goal.invariant_of-self
invariant_of-self g c = let i = c.self.inside in let e = c.of_crew-walk.ensures in let w = c.of_crew-walk.result in let set : SetFacts = set_seen w.words.view w.snapshot in let n : ℕ = length set.pairs in
    (walked g.A.Monoid.parts g.B.Monoid.parts i.lead c.in-Some.lead c.args.self.now i.back i.inserts i.removals c.self.invariant (sym c.take.ensures.value ∙ c.in-Some.is) c.self.view_is c.of_crew-walk.result e.words e.newest c.append_pairs.new.tree c.into_lead.result (2 * set.bits * n + 1) (set.bits * n + 1) 0 0 (2 * set.bits * n + 1 + (set.bits * n + 1) + 3 * 0 + 2 * 0) c.into_lead.ensures c.append_pairs.ensures.descends (le_of_eq refl)).0

pub returns-clause-same : goal.returns-clause-same
returns-clause-same g c = let i = c.self.inside in let e = c.of_crew-walk.ensures in let w = c.of_crew-walk.result in let set : SetFacts = set_seen w.words.view w.snapshot in let n : ℕ = length set.pairs in
    (walked g.A.Monoid.parts g.B.Monoid.parts i.lead c.in-Some.lead c.args.self.now i.back i.inserts i.removals c.self.invariant (sym c.take.ensures.value ∙ c.in-Some.is) c.self.view_is c.of_crew-walk.result e.words e.newest c.append_pairs.new.tree c.into_lead.result (2 * set.bits * n + 1) (set.bits * n + 1) 0 0 (2 * set.bits * n + 1 + (set.bits * n + 1) + 3 * 0 + 2 * 0) c.into_lead.ensures c.append_pairs.ensures.descends (le_of_eq refl)).1.same

pub returns-clause-set : goal.returns-clause-set
returns-clause-set g c = let i = c.self.inside in let e = c.of_crew-walk.ensures in let w = c.of_crew-walk.result in let set : SetFacts = set_seen w.words.view w.snapshot in
    c.append_pairs.ensures.answer ∙ ap (λ (xs : List (ℕ × ℕ)). xs ++ set.pairs) c.requires.empty ∙ ap (λ (z : SetFacts). z.pairs) (walked_set g.A.Monoid.parts g.B.Monoid.parts i.lead c.in-Some.lead c.args.self.now i.back i.inserts i.removals c.self.invariant (sym c.take.ensures.value ∙ c.in-Some.is) c.self.view_is c.of_crew-walk.result e.words e.newest)

pub returns-clause-is_set : goal.returns-clause-is_set
returns-clause-is_set g c = let i = c.self.inside in let e = c.of_crew-walk.ensures in walked_tree_set g.A.Monoid.parts g.B.Monoid.parts i.lead c.in-Some.lead c.args.self.now i.back i.inserts i.removals c.self.invariant (sym c.take.ensures.value ∙ c.in-Some.is) c.self.view_is c.of_crew-walk.result e.words e.newest

pub of_crew-walk-requires-clause-knows : goal.of_crew-walk-requires-clause-knows
of_crew-walk-requires-clause-knows g c = let crew = (crew_told c.self.invariant (sym c.take.ensures.value ∙ c.in-Some.is) c.self.view_is).0.is_crew in record { knows_table = crew.knows_table; keeps_records = crew.keeps_records }
