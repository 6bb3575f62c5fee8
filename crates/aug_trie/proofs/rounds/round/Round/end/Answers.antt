use Rattle.std.proofs.Common.{◌-◌, ◌≤◌, ◌^◌, ◌∙◌, ℕ, arith, ap, subst, sym, refl}
use Rattle.aug_model.specs.Keys.{keys_of}
use Rattle.aug_model.proofs.Boundaries.{IsKeySet-few}
use Rattle.aug_model.proofs.Pairs.{length-keys_of}
use Rattle.aug_core.specs.Places.{Shape}
use Rattle.aug_core.specs.Faces.{face}
use Rattle.aug_trie.specs.Ended.{EndedFacts}
use Rattle.aug_trie.specs.inside.EndedState.{pairs_at_rest}
use Rattle.aug_trie.proofs.Endings.{no_more_back, round_ended}
use Rattle.aug_trie.proofs.RoundLemmas.{of_round, crew_told}
use Rattle.aug_trie.proofs.rounds.round.Round.end.Goals as goal

pub overflow_sub-ended : goal.overflow_sub-ended
overflow_sub-ended g c = let i = c.crew.inside in let lead = c.in-Some.lead in let told = crew_told c.crew.invariant c.in-Some.is c.crew.view_is in let few = no_more_back (face g.A.Monoid.parts g.B.Monoid.parts) lead c.args.crew c.handed-handed.result told.1 told.0 c.handed-handed.ensures c.at_rest-ended.ensures.rule in omega arith

pub returns : goal.returns
returns g c = let i = c.crew.inside in let lead = c.in-Some.lead in let told = crew_told c.crew.invariant c.in-Some.is c.crew.view_is in let r = c.ended.inside in let made = c.at_rest-ended.ensures in
    let ended : EndedFacts = record { bits = r.bits; members = pairs_at_rest r.rest r.bits 0 r.root; inserts = i.inserts; removals = i.removals; missing = c.handed-handed.result - i.back; calls = r.calls.made; rest = r.rest; root = r.root } in
    let closed = round_ended (face g.A.Monoid.parts g.B.Monoid.parts) lead c.args.crew c.handed-handed.result told.1 told.0 c.handed-handed.ensures made.rule
    ended (ap (λ (z : EndedFacts). z.bits) c.ended.view_is ∙ made.bits ∙ c.bits.ensures ∙ ap (λ (z : Shape). z.bits) (c.self.invariant.laid_out ∙ sym (of_round c.self.inside.words lead c.args.crew c.args.self c.self.invariant.keeps_records told.0.is_crew.keeps_records told.1 c.requires.together c.self.view_is).one_shape)) (ap (λ (z : EndedFacts). z.members) c.ended.view_is ∙ made.members) refl refl refl (ap (λ (z : EndedFacts). z.calls) c.ended.view_is ∙ made.no_calls) in
    record { ends = closed.0; sizes = closed.1; few = subst (λ (n : ℕ). n ≤ 2 ^ r.bits) (length-keys_of ended.members) (IsKeySet-few r.bits (keys_of ended.members) c.ended.invariant.is_key_set) }

pub at_rest-ended-requires-clause-keeps : goal.at_rest-ended-requires-clause-keeps
at_rest-ended-requires-clause-keeps g c = (crew_told c.crew.invariant c.in-Some.is c.crew.view_is).0.is_crew.keeps_records
