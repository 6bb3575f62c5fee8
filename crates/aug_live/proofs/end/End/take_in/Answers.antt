use Rattle.std.proofs.Common.{◌≡◌, ◌∙◌, ◌<◌, ⊎_elim, ap, refl, sym, subst}
use Rattle.std.proofs.lemmas.Bool.{false≢true}
use Rattle.ruled_lock.specs.Locks.{client_of}
use Rattle.aug_live.specs.declared.known.Whose.TheVariants.{Roller}
use Rattle.aug_live.specs.inside.LaneKnowledge.{EndFacts, KnownFacts, LaneFacts, Learnt, settled, taken_in}
use Rattle.aug_live.proofs.Dealing.{port_rolls}
use Rattle.aug_live.proofs.Tied.{keeps, meets, roller_settles, rolls_on, turn_by}
use Rattle.aug_live.proofs.end.End.take_in.Goals as goal

pub join-requires-clause-rule : goal.join-requires-clause-rule
join-requires-clause-rule g c =
    let own = c.args.self.now.known in let theirs = c.args.other.known in let is : client_of c.take.new.key ≡ own = c.take.ensures.view ∙ ap (λ (z : EndFacts). z.known) c.self.view_is in
    let other : client_of c.other.inside.key ≡ theirs = ap (λ (z : EndFacts). z.known) c.other.view_is in let lane : LaneFacts = c.in-Ok.lane in
    let knows = rolls_on own lane (subst (λ (z : KnownFacts). Learnt z lane) (ap (λ (z : EndFacts). z.known) c.self.view_is) c.in-Ok.ensures.fact) (port_rolls own.whose c.requires.port) c.requires.some.0 in
    let at : c.deref-in-Ok.result.now.number ≡ c.lane.inside.parts.value.number = λ i. (c.deref-in-Ok.ensures i).number in let number = c.requires.number ∙ sym c.if-deref-number.true ∙ at ∙ ap (λ (z : LaneFacts). z.number) c.lane.view_is ∙ knows.number in
    let out : c.deref-then-deref-number.result.now.is_out ≡ c.lane.inside.parts.value.is_out = λ i. (c.deref-then-deref-number.ensures i).is_out in let is_out = sym (out ∙ ap (λ (z : LaneFacts). z.is_out) c.lane.view_is) ∙ c.if-deref.true in
    let here : own.whose ≡ Roller = ⊎_elim (λ e. e) (λ e. absurd (false≢true (sym (knows.idle e) ∙ is_out))) c.requires.port in
    meets _ _ _ _ (ap (λ (z : KnownFacts). z.whose) is ∙ here) (subst (λ (z : KnownFacts). 0 < z.at.era) (sym is) c.requires.some.0)
    (ap (λ (z : KnownFacts). z.whose) other ∙ c.requires.handle) (subst (λ (z : KnownFacts). 0 < z.at.era) (sym other) c.requires.some.1) (ap (λ (z : KnownFacts). z.number) other ∙ number ∙ ap (λ (z : KnownFacts). z.number) (sym is))

pub put-requires-clause-holds : goal.put-requires-clause-holds
put-requires-clause-holds g c =
    let lane : LaneFacts = c.in-Ok.lane in let new : LaneFacts = c.settled.result in let joined = c.join.ensures in let known : KnownFacts = taken_in c.args.self.now.known (client_of c.other.inside.key) in
    let is : client_of c.join.new.key ≡ known = joined.both ∙ ap (λ (z : KnownFacts). taken_in z (client_of c.other.inside.key)) (c.take.ensures.view ∙ ap (λ (z : EndFacts). z.known) c.self.view_is) in (
      lane,
      (joined.taken ∙ c.in-Ok.ensures.holds.0, joined.slots ∙ c.in-Ok.ensures.holds.1),
      turn_by (λ v _ new. settled v new) _ _ known lane new is (λ views ties at. roller_settles _ known lane new views ties at refl c.requires.some.0 c.settled.ensures),
    )

pub put-requires-else-deref-number-clause-holds : goal.put-requires-else-deref-number-clause-holds
put-requires-else-deref-number-clause-holds g c = (c.in-Ok.lane, c.in-Ok.ensures.holds, λ views ties at. keeps _ _ c.in-Ok.lane c.in-Ok.lane views ties at refl)
