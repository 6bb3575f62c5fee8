use Rattle.std.proofs.Common.{ℕ, ◌∙◌, ◌≤◌, ap, sym, subst, length, refl, arith}
use Rattle.std.specs.Prelude.{Result, Ok, Err, IfOk, IsErr}
use Rattle.aug_live.specs.LiveHandles.{HandleFacts, IsHandleOf}
use Rattle.aug_live.specs.LiveTries.{KnowsMore, TrieFacts, ids_of}
use Rattle.aug_live.proofs.DeskSteps.{forks, knows_on_from, owner_from}
use Rattle.aug_live.proofs.Handing.{is_below}
use Rattle.aug_live.proofs.Lanes.{as_many, ids_more, more_on, more_self}
use Rattle.aug_live.proofs.live.Live.give.Goals as goal

pub another-key-requires-clause-rule : goal.another-key-requires-clause-rule
another-key-requires-clause-rule g c = let owner = c.self.invariant.2 in forks _ _ owner.first owner.some

pub give-given-requires-clause-desk : goal.give-given-requires-clause-desk
give-given-requires-clause-desk g c = let made = c.another-key.ensures in ap ids_of (made.new.2 ∙ sym made.left) ∙ sym (ids_more _ _ c.in-Ok-take_settled.ensures.settled.0.more)

pub give-given-requires-clause-table : goal.give-given-requires-clause-table
give-given-requires-clause-table g c = let made = c.another-key.ensures in ap (λ (z : TrieFacts). z.table) (made.new.2 ∙ sym made.left) ∙ sym c.in-Ok-take_settled.ensures.settled.0.more.table

pub lay_on-requires-clause-goes_on : goal.lay_on-requires-clause-goes_on
lay_on-requires-clause-goes_on g c = owner_from _ _ _ c.in-Ok-take_settled.ensures.takes c.take_settled.ensures.owner.first c.give-given.ensures.more

-- a lane of a handle is there
there : {E : Type 0} (r : Result HandleFacts E) (lane : ℕ) (old new : TrieFacts) → KnowsMore old new → IfOk r (IsHandleOf lane new) → length old.lanes ≤ lane → IsErr r
there (Ok h) lane old new more of_trie high = absurd (let low = is_below new.lanes lane of_trie.known of_trie.last in let many = as_many old.lanes new.lanes more.lanes in omega (arith, low, many, high))
there (Err e) lane old new more of_trie high = refl

pub returns-in_default-clause-more : goal.returns-in_default-clause-more
returns-in_default-clause-more g c = more_self c.args.self.now

pub returns-in-Ok-take_settled-clause-more : goal.returns-in-Ok-take_settled-clause-more
returns-in-Ok-take_settled-clause-more g c = let own = c.args.self.now in let was = c.in-Ok-take_settled.working in let now = c.give-given.new.self in
    subst (KnowsMore own) (sym c.lay_on.ensures.view) (knows_on_from own _ now (c.another-key.ensures.left ∙ c.self.view_is) (more_on _ was now c.in-Ok-take_settled.ensures.settled.0.more c.give-given.ensures.more))

pub returns-in-Err-clause-more : goal.returns-in-Err-clause-more
returns-in-Err-clause-more g c = knows_on_from c.args.self.now _ _ (c.another-key.ensures.left ∙ c.self.view_is) c.in-Err.ensures.free.1.more

pub returns-in-Ok-take_settled-clause-beyond : goal.returns-in-Ok-take_settled-clause-beyond
returns-in-Ok-take_settled-clause-beyond g c = let own = c.args.self.now in let was = c.in-Ok-take_settled.working in let now = c.give-given.new.self in
    there c.give-given.result c.args.lane own now (knows_on_from own _ now (c.another-key.ensures.left ∙ c.self.view_is) (more_on _ was now c.in-Ok-take_settled.ensures.settled.0.more c.give-given.ensures.more)) c.give-given.ensures.of_trie
