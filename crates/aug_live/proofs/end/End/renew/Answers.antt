use Rattle.std.proofs.Common.{◌≡◌, ◌∙◌, ◌<◌, ℕ, ap, sym, subst}
use Rattle.aug_trie.specs.Pass.{PassFacts}
use Rattle.ruled_lock.specs.Locks.{client_of}
use Rattle.aug_live.specs.inside.LaneKnowledge.{EndFacts, KnownFacts, LaneFacts, Learnt, given_out, renumbered}
use Rattle.aug_live.specs.inside.Rolls.{GetsHandle}
use Rattle.aug_live.proofs.Dealing.{gets, knows_of, port_rolls, whole_on}
use Rattle.aug_live.proofs.Tied.{forks, put_back, roller_renumbers, rolls_on, turn_by}
use Rattle.aug_live.proofs.end.End.renew.Goals as goal

pub put-requires-clause-holds : goal.put-requires-clause-holds
put-requires-clause-holds g c =
    let own = c.args.self.now.known in let lane : LaneFacts = c.in-Ok.lane in let new : LaneFacts = c.working-lane.result in let made = c.working-lane.ensures in
    let was : client_of c.self.inside.key ≡ own = ap (λ (z : EndFacts). z.known) c.self.view_is in let roller = port_rolls own.whose c.requires.of_round.whose in
    let knows = rolls_on own lane (subst (λ (z : KnownFacts). Learnt z lane) was c.in-Ok.ensures.fact) roller c.requires.some in
    let newer : lane.number < new.number = subst (λ (z : ℕ × ℕ). z.0 < z.1) (λ i. (sym knows.number i, sym (ap (λ (z : LaneFacts). z.number) made) i)) c.requires.newer in
    let at : c.deref-in-Ok.result.now.era ≡ c.rest.inside.parts.value.era = λ i. (c.deref-in-Ok.ensures i).era in
    let era : new.at.era ≡ lane.at.era = ap (λ (z : LaneFacts). z.at.era) made ∙ at ∙ ap (λ (z : LaneFacts). z.at.era) (c.rest.view_is ∙ c.into_work-work.ensures.rest) in let begun : 0 < new.at.era = subst (λ n. 0 < n) (sym (era ∙ knows.era)) c.requires.some in
    let accepted = ap (λ (z : PassFacts). z.knows.accepted) c.into_half.ensures ∙ c.learn.ensures.learns.same_changes ∙ ap (λ (z : PassFacts). z.knows.accepted) (c.pass-pass.ensures ∙ c.into_work-work.ensures.work) in
    let whole = whole_on own lane.at new.at era (ap (λ (z : LaneFacts). z.at.half.knows.accepted) made ∙ accepted) knows.whole in (
      lane,
      c.in-Ok.ensures.holds,
      turn_by (λ v _ new. renumbered v new) _ _ own lane new (c.take.ensures.view ∙ was) (λ views ties at. roller_renumbers _ own lane new views ties at roller newer (ap (λ (z : LaneFacts). z.is_out) made) begun whole),
    )

pub another-key-requires-clause-rule : goal.another-key-requires-clause-rule
another-key-requires-clause-rule g c =
    let lane : LaneFacts = c.in-Ok.lane in let new : LaneFacts = c.working-lane.result in let knows = knows_of _ c.args.self.now _ lane c.requires.of_round c.requires.some (ap (λ (z : EndFacts). z.known) c.self.view_is) c.in-Ok.ensures.fact in
    let is = put_back (client_of c.put.new.key) (λ _. renumbered (client_of c.take.new.key) new) c.take.new.key.me.0.taken lane c.in-Ok.ensures.holds.0 c.put.ensures.then in
    let at : c.deref-in-Ok.result.now.era ≡ c.rest.inside.parts.value.era = λ i. (c.deref-in-Ok.ensures i).era in
    let era = ap (λ (z : KnownFacts). z.at.era) is ∙ ap (λ (z : LaneFacts). z.at.era) c.working-lane.ensures ∙ at ∙ ap (λ (z : LaneFacts). z.at.era) (c.rest.view_is ∙ c.into_work-work.ensures.rest) ∙ knows.0 in
    forks _ _ (ap (λ (z : KnownFacts). z.whose) is) (subst (λ n. 0 < n) (sym era) c.requires.some)

pub returns-in-Ok-clause-gets : goal.returns-in-Ok-clause-gets
returns-in-Ok-clause-gets g c =
    let self : EndFacts = c.args.self.now in let new : LaneFacts = c.working-lane.result in let was : client_of c.self.inside.key ≡ self.known = ap (λ (z : EndFacts). z.known) c.self.view_is in
    let is = put_back (client_of c.put.new.key) (λ _. renumbered (client_of c.take.new.key) new) c.take.new.key.me.0.taken c.in-Ok.lane c.in-Ok.ensures.holds.0 c.put.ensures.then in
    let known = c.another-key.ensures.left ∙ ap given_out (is ∙ ap (λ (v : KnownFacts). renumbered v new) (c.take.ensures.view ∙ was)) in let lock = ap (λ (z : EndFacts). z.lock) c.self.view_is in
    subst (GetsHandle c.args.number self) (λ i. record { lock = sym lock i; known = sym known i }) (gets self.lock c.args.number self.known new (ap (λ (z : LaneFacts). z.number) c.working-lane.ensures))
