use Rattle.std.proofs.Common.{arith, rules, ap, subst, sym, refl, ◌∙◌, ◌≡◌, ℕ, ◌≤◌, List, length, All, Ok, Err}
use Rattle.aug_monoid.specs.Weighted.{FitsPair}
use Rattle.aug_model.specs.Keys.{IsKeySet, keys_of}
use Rattle.aug_model.proofs.Rising.{is_wider}
use Rattle.aug_core.specs.Places.{Shape, shape_of}
use Rattle.aug_core.specs.Layout.{IsLayout}
use Rattle.aug_trie.specs.inside.EndedState.{pairs_at_rest}
use Rattle.aug_trie.specs.Crew.{BeginsIn, CrewFacts}
use Rattle.aug_trie.specs.Round.{TableFacts}
use Rattle.aug_trie.specs.Ended.{EndedFacts}
use Rattle.aug_trie.proofs.Refusals.{are_fewer, not_fewer, says_narrower, says_cause, says_no_memory, says_begun}
use Rattle.aug_trie.proofs.rounds.round.Round.begin_wider.Goals.{After-ended}
use Rattle.aug_trie.proofs.rounds.round.Round.begin_wider.Goals as goal

pub over-requires-clause-keys : goal.over-requires-clause-keys
over-requires-clause-keys g c = let e = c.ended.inside in let list : List (ℕ × ℕ) = pairs_at_rest e.rest e.bits 0 e.root in
    let laid : IsLayout (shape_of c.args.bits c.args.workers c.args.updates c.size.result) = search rules in
    let wide : e.bits ≤ c.args.bits = not_fewer refl c.if-contains.ensures.cases laid.bits.0 in let set : IsKeySet c.args.bits (keys_of list) = is_wider e.bits c.args.bits (keys_of list) wide c.ended.invariant.is_key_set in
    let members : c.as_slice.result.now ≡ list = c.as_slice.ensures.value ∙ c.in-Ok-pairs.ensures.answer ∙ sym (ap (λ (z : EndedFacts). z.members) c.ended.view_is) in
    subst (λ (z : Shape × List (ℕ × ℕ)). IsKeySet z.0.bits (keys_of z.1)) (λ j. (sym c.in-Ok.ensures.layout j, sym members j)) set

pub over-requires-clause-fit : goal.over-requires-clause-fit
over-requires-clause-fit g c = subst (All FitsPair) (ap (λ (z : EndedFacts). z.members) c.ended.view_is ∙ sym (c.as_slice.ensures.value ∙ c.in-Ok-pairs.ensures.answer)) c.ended.invariant.fit

-- the trie at rest is of a set whose weights fit
is_set : (g : _) (c : After-ended g) → let e = c.args.ended in IsKeySet e.bits (keys_of e.members) × All FitsPair e.members
is_set g c = subst (λ (z : EndedFacts). IsKeySet z.bits (keys_of z.members) × All FitsPair z.members) c.ended.view_is (c.ended.invariant.is_key_set, c.ended.invariant.fit)

pub returns-then-contains : goal.returns-then-contains
returns-then-contains g c = let e = c.args.ended in
    let low : e.bits ≤ 16 = subst (λ (z : EndedFacts). z.bits ≤ 16) c.ended.view_is (omega (arith, c.ended.invariant.laid_out.bits.1, c.ended.invariant.bits_are)) in
    let says = says_narrower {T = TableFacts × CrewFacts} e e.bits c.args.bits c.args.workers c.args.updates (length e.members) low (are_fewer (ap (λ (z : EndedFacts). z.bits) c.ended.view_is) c.if-contains.ensures.cases) in
    let set = is_set g (goal.at.returns-then-contains g c).After-ended in search rules

pub returns-in-Err : goal.returns-in-Err
returns-in-Err g c = let e = c.args.ended in let are = c.in-Err.ensures in
    let says = says_cause {T = TableFacts × CrewFacts} (Err c.in-Err.cause) e e.bits c.args.bits c.args.workers c.args.updates c.size.result (length e.members) c.size.ensures (not_fewer (ap (λ (z : EndedFacts). z.bits) c.ended.view_is) c.if-contains.ensures.cases) are.bad_bits are.bad_workers are.bad_updates are.too_large c.in-Err.cause c.from.result refl c.from.ensures in
    let set = is_set g (goal.at.returns-in-Err g c).After-ended in search rules

pub returns-in_default : goal.returns-in_default
returns-in_default g c = let e = c.args.ended in let are = c.in-Ok.ensures in
    let says = says_no_memory {T = TableFacts × CrewFacts} (Ok c.in-Ok.layout) e e.bits c.args.bits c.args.workers c.args.updates c.size.result (length e.members) c.size.ensures (not_fewer (ap (λ (z : EndedFacts). z.bits) c.ended.view_is) c.if-contains.ensures.cases) are.bad_bits are.bad_workers are.bad_updates are.too_large c.in-Ok.layout c.pairs.new.tree refl in
    let set = is_set g (goal.at.returns-in_default g c).After-ended in let same = c.in_default.ensures.walks.keeps_rest in search rules

pub returns-in-Err-over : goal.returns-in-Err-over
returns-in-Err-over g c = let e = c.args.ended in let are = c.in-Ok.ensures in
    let says = says_no_memory {T = TableFacts × CrewFacts} (Ok c.in-Ok.layout) e e.bits c.args.bits c.args.workers c.args.updates c.size.result (length e.members) c.size.ensures (not_fewer (ap (λ (z : EndedFacts). z.bits) c.ended.view_is) c.if-contains.ensures.cases) are.bad_bits are.bad_workers are.bad_updates are.too_large c.in-Ok.layout c.pairs.new.tree refl in
    let set = is_set g (goal.at.returns-in-Err-over g c).After-ended in let same = c.in-Ok-pairs.ensures.walks.keeps_rest in search rules

pub returns-in-Ok-over : goal.returns-in-Ok-over
returns-in-Ok-over g c = let e = c.args.ended in let are = c.in-Ok.ensures in
    let says = says_begun (Ok c.in-Ok.layout) e e.bits c.args.bits c.args.workers c.args.updates c.size.result (length e.members) c.size.ensures (not_fewer (ap (λ (z : EndedFacts). z.bits) c.ended.view_is) c.if-contains.ensures.cases) are.bad_bits are.bad_workers are.bad_updates are.too_large c.in-Ok.layout c.in-Ok-over.begun refl in
    let members : c.as_slice.result.now ≡ e.members = c.as_slice.ensures.value ∙ c.in-Ok-pairs.ensures.answer in let room : c.in-Ok.layout.members ≡ length e.members = ap (λ (z : Shape). z.members) are.layout ∙ c.size.ensures in
    let set = is_set g (goal.at.returns-in-Ok-over g c).After-ended in
    let begun = subst (λ (z : Shape × List (ℕ × ℕ)). BeginsIn z.0.members z.1 z.0.bits z.0.workers z.0.updates c.in-Ok-over.begun.0 c.in-Ok-over.begun.1) (λ j. (record (are.layout j) { members = room j }, members j)) c.in-Ok-over.ensures in
    search rules

pub over-requires-clause-few : goal.over-requires-clause-few
over-requires-clause-few g c =
    let room : c.in-Ok.layout.members ≡ c.size.result = ap (λ (z : Shape). z.members) c.in-Ok.ensures.layout in let all = c.size.ensures in
    let same = ap (λ (z : List (ℕ × ℕ)). length z) (c.as_slice.ensures.value ∙ c.in-Ok-pairs.ensures.answer) in omega (arith, room, all, same)
