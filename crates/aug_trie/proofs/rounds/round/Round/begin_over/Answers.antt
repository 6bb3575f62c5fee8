use Rattle.std.proofs.Common.{rules, subst, sym, refl, ap, ◌≡◌, ◌∙◌, ℕ, ◌≤◌, List, length, Ok, Err}
use Rattle.aug_model.specs.Keys.{SetFacts, IsKeySet, keys_of}
use Rattle.aug_model.proofs.Rising.{is_wider}
use Rattle.aug_core.specs.Places.{Shape, shape_of}
use Rattle.aug_core.specs.Layout.{IsLayout}
use Rattle.aug_trie.specs.Crew.{BeginsIn, CrewFacts}
use Rattle.aug_trie.specs.Round.{TableFacts}
use Rattle.aug_trie.proofs.Refusals.{are_fewer, not_fewer, says_narrower, says_cause, says_no_memory, says_begun}
use Rattle.aug_trie.proofs.rounds.round.Round.begin_over.Goals as goal

pub over-requires-clause-keys : goal.over-requires-clause-keys
over-requires-clause-keys g c = let list : List (ℕ × ℕ) = c.args.members.pairs in
    let laid : IsLayout (shape_of c.args.bits c.args.workers c.args.updates c.size.result) = search rules in
    let wide : c.args.members.bits ≤ c.args.bits = not_fewer c.bits.ensures c.if-contains.ensures.cases laid.bits.0 in
    let set : IsKeySet c.args.members.bits (keys_of list) = subst (λ (z : SetFacts). IsKeySet z.bits (keys_of z.pairs)) c.members.view_is c.members.invariant.is_key_set in
    let wider : IsKeySet c.args.bits (keys_of list) = is_wider c.args.members.bits c.args.bits (keys_of list) wide set in
    subst (λ (z : Shape × List (ℕ × ℕ)). IsKeySet z.0.bits (keys_of z.1)) (λ j. (sym c.in-Ok.ensures.layout j, sym c.as_slice.ensures j)) wider

pub returns-then-contains : goal.returns-then-contains
returns-then-contains g c = let m = c.args.members in
    let says = says_narrower {T = TableFacts × CrewFacts} m m.bits c.args.bits c.args.workers c.args.updates (length m.pairs) (subst (λ (z : SetFacts). z.bits ≤ 16) c.members.view_is c.members.invariant.few_bits) (are_fewer c.bits.ensures c.if-contains.ensures.cases) in
    search rules

pub returns-in-Err : goal.returns-in-Err
returns-in-Err g c = let m = c.args.members in let are = c.in-Err.ensures in
    let says = says_cause {T = TableFacts × CrewFacts} (Err c.in-Err.cause) m m.bits c.args.bits c.args.workers c.args.updates c.size.result (length m.pairs) c.size.ensures (not_fewer c.bits.ensures c.if-contains.ensures.cases) are.bad_bits are.bad_workers are.bad_updates are.too_large c.in-Err.cause c.from.result refl c.from.ensures in
    search rules

pub returns-in-Err-over : goal.returns-in-Err-over
returns-in-Err-over g c = let m = c.args.members in let are = c.in-Ok.ensures in
    let says = says_no_memory {T = TableFacts × CrewFacts} (Ok c.in-Ok.layout) m m.bits c.args.bits c.args.workers c.args.updates c.size.result (length m.pairs) c.size.ensures (not_fewer c.bits.ensures c.if-contains.ensures.cases) are.bad_bits are.bad_workers are.bad_updates are.too_large c.in-Ok.layout m refl in
    search rules

pub returns-in-Ok-over : goal.returns-in-Ok-over
returns-in-Ok-over g c = let m = c.args.members in let are = c.in-Ok.ensures in let room : c.in-Ok.layout.members ≡ length m.pairs = ap (λ (z : Shape). z.members) are.layout ∙ c.size.ensures in
    let says = says_begun (Ok c.in-Ok.layout) m m.bits c.args.bits c.args.workers c.args.updates c.size.result (length m.pairs) c.size.ensures (not_fewer c.bits.ensures c.if-contains.ensures.cases) are.bad_bits are.bad_workers are.bad_updates are.too_large c.in-Ok.layout c.in-Ok-over.begun refl in
    let begun = subst (λ (z : Shape × List (ℕ × ℕ)). BeginsIn z.0.members z.1 z.0.bits z.0.workers z.0.updates c.in-Ok-over.begun.0 c.in-Ok-over.begun.1) (λ j. (record (are.layout j) { members = room j }, c.as_slice.ensures j)) c.in-Ok-over.ensures in
    search rules
