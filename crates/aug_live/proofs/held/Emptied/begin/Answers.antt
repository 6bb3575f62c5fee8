use Rattle.std.proofs.Common.{◌≡◌, ◌∙◌, List, ap, sym, subst}
use Rattle.aug_trie.specs.Chains.{Chapter}
use Rattle.aug_trie.specs.Round.{RoundFacts, table_of}
use Rattle.aug_live.specs.LiveHandles.{Follows, HandleFacts}
use Rattle.aug_live.specs.inside.LaneKnowledge.{LaneFacts, dealt}
use Rattle.aug_live.specs.inside.Rolls.{HasEnded}
use Rattle.aug_live.proofs.Carries.{begun_follows}
use Rattle.aug_live.proofs.Tied.{roller_deals, turn_out}
use Rattle.aug_live.proofs.held.Emptied.begin.Goals as goal

pub put-requires-clause-holds : goal.put-requires-clause-holds
put-requires-clause-holds g c =
    let out = c.self.inside.out in let rest : LaneFacts = c.self.inside.rest in let inv = c.self.invariant in let round = c.args.crew.now.round in let past = c.args.crew.now.past in let new : LaneFacts = c.next.result in let fresh = c.start-work.ensures.fresh in
    let ready = subst (HasEnded (table_of round) past c.args.era) (sym c.self.view_is) c.requires.ready in
    let follows = subst (λ (z : HandleFacts × LaneFacts). Follows z.0 z.1.at) (λ i. (inv.0 i, sym c.next.ensures i)) (begun_follows rest.at c.start-work.result round past ready.part c.requires.led ready.table_is fresh.round_is) in
    let together : table_of new.at.half.round ≡ table_of rest.at.half.round = ap (λ (z : LaneFacts). table_of z.at.half.round) c.next.ensures ∙ ap (λ (z : RoundFacts × List Chapter). table_of z.0) fresh.round_is ∙ sym ready.table_is in
    turn_out dealt out new c.out.view_is c.out.invariant.1 c.out.invariant.2 (λ views ties at. roller_deals _ out.known out.taken new views ties at inv.3 inv.4 (ap (λ (z : LaneFacts). z.number) c.next.ensures ∙ inv.1) (ap (λ (z : LaneFacts). z.is_out) c.next.ensures ∙ inv.2) follows
    (together ∙ ap (λ (z : HandleFacts). table_of z.half.round) inv.0) (ap (λ (z : LaneFacts). z.at.half.knows.accepted) c.next.ensures ∙ fresh.none_accepted))
