use Rattle.std.proofs.Common.{sym, refl, subst, ℕ, List, [], false}
use Rattle.aug_query.specs.Tree.{IsTreeSet}
use Rattle.aug_core.specs.Faces.{face}
use Rattle.aug_core.specs.Opening.{Opening}
use Rattle.aug_core.specs.Places.{Shape}
use Rattle.aug_core.specs.declared.view.SeatView.{SeatView}
use Rattle.aug_trie.specs.Crew.{BeginsIn}
use Rattle.aug_trie.specs.inside.CrewState.{crew_facts}
use Rattle.aug_trie.specs.inside.LastingState.{IsLastingCrew}
use Rattle.aug_trie.specs.inside.RoundState.{facts_of}
use Rattle.aug_trie.proofs.LastingCalls.{laid_with, opens_with, says_too_large, lasting_begins, lasting_opens}
use Rattle.aug_trie.proofs.lasting.table.Lasting.open.Goals as goal

pub returns-in-Err-clause-too_large : goal.returns-in-Err-clause-too_large
returns-in-Err-clause-too_large g c = let are = c.in-Err.ensures in
    says_too_large c.in-Err.cause c.bits.result c.args.members.bits c.args.workers c.args.updates c.bits.ensures c.universe-universe.ensures.bits are.ok are.bad_bits are.bad_workers are.bad_updates c.args.members c.from.result c.from.ensures

pub open-requires-clause-few : goal.open-requires-clause-few
open-requires-clause-few g c = let are = c.in-Ok.ensures in
    (opens_with c.args.members c.in-Ok.layout c.as_slice.result.now c.bits.result c.args.workers c.args.updates (subst IsTreeSet c.members.view_is c.members.invariant) c.bits.ensures are.layout (are.ok.0 refl) c.as_slice.ensures).few

pub invariant_of-result-in-Ok-open : goal.invariant_of-result-in-Ok-open
invariant_of-result-in-Ok-open g c = let are = c.in-Ok.ensures in let f = face g.A.Monoid.parts g.B.Monoid.parts in
    let o : Opening = record { shape = c.in-Ok.layout; members = c.as_slice.result.now } in
    let opens = opens_with c.args.members c.in-Ok.layout c.as_slice.result.now c.bits.result c.args.workers c.args.updates (subst IsTreeSet c.members.view_is c.members.invariant) c.bits.ensures are.layout (are.ok.0 refl) c.as_slice.ensures in
    let begun : IsLastingCrew f c.in-Ok-open.lead.view 0 = subst (λ (z : SeatView). IsLastingCrew f z 0) (sym c.in-Ok-open.ensures.lead) (lasting_begins f o opens [] 0 0 [] [] _) in
    (0, begun)

pub returns-in-Ok-open-clause-begun : goal.returns-in-Ok-open-clause-begun
returns-in-Ok-open-clause-begun g c = let m = c.args.members in let are = c.in-Ok.ensures in let f = face g.A.Monoid.parts g.B.Monoid.parts in
    let o : Opening = record { shape = c.in-Ok.layout; members = c.as_slice.result.now } in
    let opens = opens_with m c.in-Ok.layout c.as_slice.result.now c.bits.result c.args.workers c.args.updates (subst IsTreeSet c.members.view_is c.members.invariant) c.bits.ensures are.layout (are.ok.0 refl) c.as_slice.ensures in
    let to = laid_with c.in-Ok.layout c.bits.result m.bits c.args.workers c.args.updates are.layout c.bits.ensures in
    subst (λ (z : Shape × List (ℕ × ℕ)). BeginsIn z.0.members z.1 z.0.bits z.0.workers z.0.updates (facts_of c.in-Ok-open.words) (crew_facts c.in-Ok-open.lead false)) (λ j. (to j, c.as_slice.ensures j))
    (lasting_opens f o opens c.in-Ok-open.words c.in-Ok-open.lead 0 [] [] _ c.in-Ok-open.ensures.together c.in-Ok-open.ensures.lead)
