use Rattle.std.proofs.Common.{◌∙◌, ◌<◌, [], refl, ap, arith, sym, subst}
use Rattle.ruled_lock.specs.Locks.{client_of}
use Rattle.aug_live.specs.inside.LaneKnowledge.{IsWhole, KnownFacts, LaneFacts, renumbered, rolls, taken_by}
use Rattle.aug_live.proofs.Adding.{none_made}
use Rattle.aug_live.proofs.Tied.{forks, put_back, roller_renumbers, turn_out, what_is}
use Rattle.aug_live.proofs.end.Berth.open.Goals as goal

pub put-requires-clause-holds : goal.put-requires-clause-holds
put-requires-clause-holds g c =
    let out = c.args.self.out in let new : LaneFacts = c.working.result in let is = c.working.ensures in let none = ap (λ (z : LaneFacts). z.at.half.knows.accepted) is ∙ c.start-work.ensures.fresh.none_accepted in
    let number = ap (λ (z : LaneFacts). z.number) is in let newer : out.taken.number < new.number = omega (arith, c.requires.number, number) in
    turn_out (λ v _ new. renumbered v new) out new c.out.view_is c.out.invariant.1 c.out.invariant.2 (λ views ties at. roller_renumbers _ out.known out.taken new views ties at (ap (λ (z : KnownFacts). rolls z.whose) c.requires.first) newer (ap (λ (z : LaneFacts). z.is_out) is)
    (subst (λ (z : LaneFacts). 0 < z.at.era) (sym is) (omega arith)) (subst (λ (z : KnownFacts). IsWhole z new.at) (sym c.requires.first) (record { own = []; whole = none_made [] new.at none; none_out = λ _. refl })))

pub another-other-requires-clause-rule : goal.another-other-requires-clause-rule
another-other-requires-clause-rule g c =
    let new : LaneFacts = c.working.result in let o = c.out.inside.key.me.0.taken in
    let is = put_back (client_of c.put.new.key) (λ _. renumbered (client_of c.out.inside.key) new) o (taken_by o) (what_is o _ c.out.invariant.1) c.put.ensures.then in
    forks _ _ (ap (λ (z : KnownFacts). z.whose) is) (subst (λ (z : KnownFacts). 0 < z.at.era) (sym is) (subst (λ (z : LaneFacts). 0 < z.at.era) (sym c.working.ensures) (omega arith)))
