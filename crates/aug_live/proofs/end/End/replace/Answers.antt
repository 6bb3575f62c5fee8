use Rattle.std.proofs.Common.{◌≡◌, ◌∙◌, List, true, ap, sym, subst}
use Rattle.aug_core.specs.Prefixes.{IsPrefix}
use Rattle.aug_trie.specs.Chains.{Chapter}
use Rattle.aug_trie.specs.Pass.{PassFacts}
use Rattle.aug_trie.specs.Round.{RoundFacts, table_of}
use Rattle.ruled_lock.specs.Locks.{client_of}
use Rattle.aug_live.specs.LiveHandles.{Follows}
use Rattle.aug_live.specs.inside.LaneKnowledge.{EndFacts, KnownFacts, LaneFacts, Learnt, dealt, rounds_at}
use Rattle.aug_live.specs.inside.Rolls.{rounds_in}
use Rattle.aug_live.proofs.Carries.{replaced_follows}
use Rattle.aug_live.proofs.Dealing.{port_rolls}
use Rattle.aug_live.proofs.Tied.{roller_deals, rolls_on, turn_by}
use Rattle.aug_live.proofs.end.End.replace.Goals as goal

pub put-requires-clause-holds : goal.put-requires-clause-holds
put-requires-clause-holds g c =
    let own = c.args.self.now.known in let lane : LaneFacts = c.in-Ok.lane in let spent = c.into_work-spent.ensures in let work = c.start-work.result in let fresh = c.start-work.ensures.fresh in let new : LaneFacts = c.with.result in let history = c.back.new.self.knows.history in
    let was : client_of c.self.inside.key ≡ own = ap (λ (z : EndFacts). z.known) c.self.view_is in let roller = port_rolls own.whose c.requires.of_round.whose in
    let knows = rolls_on own lane (subst (λ (z : KnownFacts). Learnt z lane) was c.in-Ok.ensures.fact) roller c.requires.some in
    let is : new ≡ record lane { works = true; at = record lane.at { half = work } } = c.with.ensures ∙ ap (λ (z : LaneFacts). record z { works = true; at = record z.at { half = work } }) spent.rest in
    let rounds : rounds_at work ≡ rounds_at lane.at.half = fresh.round_is ∙ ap rounds_in c.back.ensures.crew_is ∙ sym c.requires.of_round.round_is ∙ sym knows.round in
    let follows = replaced_follows lane.at work history rounds (subst (λ (z : PassFacts). IsPrefix z.knows.history history) (c.pass.ensures ∙ spent.work) c.back.ensures.knows.takes_up) c.start-work.ensures.knows in (
      lane,
      c.in-Ok.ensures.holds,
      turn_by dealt _ _ own lane new (c.take.ensures.view ∙ was) (λ views ties at. roller_deals _ own lane new views ties at roller c.requires.some (ap (λ (z : LaneFacts). z.number) is) (ap (λ (z : LaneFacts). z.is_out) is)
          (subst (λ (z : LaneFacts). Follows lane.at z.at) (sym is) follows) (ap (λ (z : LaneFacts). table_of z.at.half.round) is ∙ ap (λ (z : RoundFacts × List Chapter). table_of z.0) rounds) (ap (λ (z : LaneFacts). z.at.half.knows.accepted) is ∙ fresh.none_accepted)),
    )
