use Rattle.std.proofs.Common.{◌≡◌, ◌∙◌, ◌⊎◌, length, inr, ℕ, List, ap, refl, sym, subst, arith}
use Rattle.std.specs.Arc.{arc_value}
use Rattle.std.specs.Prelude.{Some, Result, IfErr, IfOk}
use Rattle.std.proofs.lemmas.List.{length-map}
use lib.ListN.{get_elem?}
use Rattle.atomic_table.specs.Seated.{TableId}
use Rattle.ruled_lock.specs.Locks.{client_of}
use Rattle.aug_trie.specs.Chains.{IsPart}
use Rattle.aug_trie.specs.Note.{NoteFacts, chain_of_note}
use Rattle.aug_trie.specs.Pass.{chain_of}
use Rattle.aug_trie.proofs.Chaining.{part_trans}
use Rattle.aug_live.specs.Ledgers.{Made}
use Rattle.aug_live.specs.LiveHandles.{HandleFacts}
use Rattle.aug_live.specs.LiveErrors.{IfRefused, RefusesBack, RefusesCall, RefusesRoll}
use Rattle.aug_live.specs.LiveTries.{CameBack, LaneKnown, TrieFacts, ids_of}
use Rattle.aug_live.specs.declared.error.LiveError.{LiveError}
use Rattle.aug_live.specs.declared.error.LiveError.TheVariants.{Closed, Exhausted, Replaced, NoLane, TooMany, Looking}
use Rattle.aug_live.specs.inside.LaneKnowledge.{handle_by}
use Rattle.aug_live.proofs.Carries.{ok_any}
use Rattle.aug_live.proofs.Counted.{came_from}
use Rattle.aug_live.proofs.DeskSteps.{keeps_from, knows_on_from}
use Rattle.aug_live.proofs.Handing.{is_below}
use Rattle.aug_live.proofs.Lanes.{ids_more, keeps_by, keeps_on, keeps_self, more_on}
use Rattle.aug_live.proofs.Looked.{lock_of}
use Rattle.aug_live.proofs.live.Live.back.Goals as goal
use Rattle.aug_live.proofs.live.Live.back.Goals.{in-Ok-done, in-Err-done+in-Refused}

pub returns-in-Err-clause-goes_on : goal.returns-in-Err-clause-goes_on
returns-in-Err-clause-goes_on g c = keeps_self c.args.self.now

pub learn-working-requires : goal.learn-working-requires
learn-working-requires g c = ap (λ (z : NoteFacts). z.round.table) c.in-Ok.ensures.note ∙ c.in-Ok.ensures.follows.table ∙ c.requires.trie.0 ∙ ap (λ (z : TrieFacts). z.table) (sym c.self.view_is) ∙ sym c.in-Ok-take_settled.ensures.settled.0.more.table

pub back-done-requires-clause-lock : goal.back-done-requires-clause-lock
back-done-requires-clause-lock g c = λ id at.
    let i = c.handle.inside in let there : i.end ≡ Some c.in-Some.end = sym c.take.ensures.value ∙ c.in-Some.is in let own = c.args.self.now in let was = c.in-Ok-take_settled.working in let learnt = c.learn-working.result in
    let mine : handle_by i.desk i.lane (Some c.in-Some.end) ≡ c.note.new.self = ap (handle_by i.desk i.lane) (sym there) ∙ c.handle.view_is in
    let more = knows_on_from own _ learnt c.self.view_is (more_on _ was learnt c.in-Ok-take_settled.ensures.settled.0.more c.learn-working.ensures.goes_on.more) in
    let lanes : ids_of i.desk ≡ ids_of learnt = ap (λ (z : HandleFacts). ids_of z.who.trie) mine ∙ c.in-Ok.ensures.follows.same_handle.lanes ∙ c.requires.trie.1 ∙ sym (ids_more own learnt more) in
    lock_of c.in-Some.end i.end (arc_value i.round) i.bits i.number i.lane (ids_of i.desk) id c.handle.invariant.0 there (ap (λ (z : List TableId). get_elem? z i.lane) lanes ∙ at)

pub back-done-requires-clause-lane : goal.back-done-requires-clause-lane
back-done-requires-clause-lane g c =
    let i = c.handle.inside in let there : i.end ≡ Some c.in-Some.end = sym c.take.ensures.value ∙ c.in-Some.is in let own = c.args.self.now in let was = c.in-Ok-take_settled.working in let learnt = c.learn-working.result in
    let mine : handle_by i.desk i.lane (Some c.in-Some.end) ≡ c.note.new.self = ap (handle_by i.desk i.lane) (sym there) ∙ c.handle.view_is in
    let more = knows_on_from own _ learnt c.self.view_is (more_on _ was learnt c.in-Ok-take_settled.ensures.settled.0.more c.learn-working.ensures.goes_on.more) in
    let lanes : ids_of i.desk ≡ ids_of learnt = ap (λ (z : HandleFacts). ids_of z.who.trie) mine ∙ c.in-Ok.ensures.follows.same_handle.lanes ∙ c.requires.trie.1 ∙ sym (ids_more own learnt more) in
    let low = is_below (ids_of i.desk) i.lane c.handle.invariant.0.mine.lock c.handle.invariant.0.id in let long = length-map learnt.lanes (λ (l : LaneKnown). l.id) in
    omega (arith, low, ap length lanes, long)

pub lay_on-requires-clause-goes_on : goal.lay_on-requires-clause-goes_on
lay_on-requires-clause-goes_on g c = keeps_from _ _ _ c.in-Ok-take_settled.ensures.takes (keeps_on _ c.learn-working.result _ c.learn-working.ensures.goes_on c.back-done.ensures.goes_on)

pub returns-in-Err-Refused-clause-goes_on : goal.returns-in-Err-Refused-clause-goes_on
returns-in-Err-Refused-clause-goes_on g c = keeps_by c.args.self.now _ _ _ c.self.view_is c.in-Err-Refused.ensures.free.1 refl

-- a roll-over that is refused is why the handle does not come back
not_rolled : (lane number : ℕ) (trie : TrieFacts) (cause : LiveError) → RefusesRoll trie cause → RefusesBack lane number trie cause
not_rolled lane number trie Closed why = why
not_rolled lane number trie Exhausted why = why
not_rolled lane number trie Replaced why = absurd why
not_rolled lane number trie NoLane why = why
not_rolled lane number trie TooMany why = why
not_rolled lane number trie (Looking found) why = why

pub returns-in-Err-Refused-clause-refused : goal.returns-in-Err-Refused-clause-refused
returns-in-Err-Refused-clause-refused g c = let new = client_of c.take_settled.new.key in
    let why : RefusesBack c.args.handle.who.lane c.args.handle.who.number new c.in-Err-Refused.cause = not_rolled _ _ new _ (subst (IfRefused (RefusesRoll new)) c.in-Err-Refused.field-0-is c.in-Err-Refused.ensures.refused) in
    rw c.in-Err-Refused.field-0-is (inr why)

pub returns-clause-goes_on : goal.returns-clause-goes_on
returns-clause-goes_on g c = let was = c.in-Ok-take_settled.working in let learnt = c.learn-working.result in
    keeps_by c.args.self.now _ _ _ c.self.view_is (keeps_on _ was _ c.in-Ok-take_settled.ensures.settled.0 (keeps_on was learnt _ c.learn-working.ensures.goes_on c.back-done.ensures.goes_on)) c.lay_on.ensures.view

pub returns-clause-knows : goal.returns-clause-knows
returns-clause-knows g c = let mine = chain_of c.args.handle.half in let note = chain_of_note c.in-Ok.note in let learnt = c.learn-working.result in let now = c.back-done.new.self in
    let told : IsPart mine note = subst (λ (z : NoteFacts). IsPart mine (chain_of_note z)) (sym c.in-Ok.ensures.note) c.in-Ok.ensures.follows.goes_on in
    ok_any _ (subst (λ (z : TrieFacts). IsPart mine z.rounds) (sym c.lay_on.ensures.view) (part_trans mine note now.rounds told (part_trans note learnt.rounds now.rounds c.learn-working.ensures.learns c.back-done.ensures.goes_on.more.part)))

pub returns-clause-done : goal.returns-clause-done
returns-clause-done g c = let i = c.handle.inside in let there : i.end ≡ Some c.in-Some.end = sym c.take.ensures.value ∙ c.in-Some.is in let new = client_of c.lay_on.new.key in
    let own = c.args.self.now in let was = c.in-Ok-take_settled.working in let learnt = c.learn-working.result in
    let mine : handle_by i.desk i.lane (Some c.in-Some.end) ≡ c.note.new.self = ap (handle_by i.desk i.lane) (sym there) ∙ c.handle.view_is in
    let made : c.in-Some.end.known.made ≡ c.args.handle.made = ap (λ (z : HandleFacts). z.made) mine ∙ c.in-Ok.ensures.follows.made in
    let more = knows_on_from own _ learnt c.self.view_is (more_on _ was learnt c.in-Ok-take_settled.ensures.settled.0.more c.learn-working.ensures.goes_on.more) in
    elim c.match-done.branch [
      | in-Ok-done w ↦ subst (λ (r : Result _ _). IfOk r (λ _. CameBack c.args.handle.made own new)) (sym w.result-is)
          (subst (λ (z : List Made × TrieFacts). CameBack z.0 own z.1) (λ k. (made k, sym c.lay_on.ensures.view k)) (came_from own learnt c.back-done.new.self c.in-Some.end.known.made more w.in-Ok-done.ensures.takes))
      | in-Err-done+in-Refused w ↦ subst (λ (r : Result _ _). IfOk r (λ _. CameBack c.args.handle.made own new)) (sym w.result-is) tt
    ]

pub returns-clause-refused : goal.returns-clause-refused
returns-clause-refused g c = let i = c.handle.inside in let now = c.back-done.new.self in let new = client_of c.lay_on.new.key in let h = c.args.handle in
    let is = c.in-Ok.ensures.follows.same_handle in let held = c.handle.invariant.0 in
    let own : handle_by i.desk i.lane (Some held.mine) ≡ c.note.new.self = ap (handle_by i.desk i.lane) (sym held.there) ∙ c.handle.view_is in
    let lane : i.lane ≡ h.who.lane = ap (λ (z : HandleFacts). z.who.lane) own ∙ is.lane in
    let number : i.number ≡ h.who.number = sym held.number_is ∙ ap (λ (z : HandleFacts). z.who.number) own ∙ is.number in
    elim c.match-done.branch [
      | in-Ok-done w ↦ subst (λ (r : Result _ _). IfErr r (λ e. RefusesCall e.0 e.1 ⊎ RefusesBack h.who.lane h.who.number new e.1)) (sym w.result-is) tt
      | in-Err-done+in-Refused w ↦ subst (λ (r : Result _ _). IfErr r (λ e. RefusesCall e.0 e.1 ⊎ RefusesBack h.who.lane h.who.number new e.1)) (sym w.result-is)
          (inr (subst (λ (z : (ℕ × ℕ) × TrieFacts). RefusesBack z.0.0 z.0.1 z.1 w.in-Refused.cause) (λ k. ((lane k, number k), sym c.lay_on.ensures.view k)) (subst (IfRefused (RefusesBack i.lane i.number now)) w.in-Refused.is w.in-Err-done.ensures.refused)))
    ]
