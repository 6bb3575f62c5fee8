use Rattle.std.proofs.Common.{◌≡◌, ◌∙◌, sym, subst, Ok}
use Rattle.std.specs.Prelude.{Result, IfOk}
use Rattle.aug_trie.specs.Pops.{pop_updates, Pops}
use Rattle.aug_trie.specs.declared.rounds.pop.Pop.{Pop}
use Rattle.aug_trie.specs.declared.rounds.pop.Side.{Side}
use Rattle.aug_live.specs.LiveHandles.{HandleFacts, Makes}
use Rattle.aug_c.specs.UserCalls.{span_of}
use Rattle.aug_c.proofs.pops.pop_by_access.Goals as goal
use Rattle.aug_c.proofs.pops.pop_by_access.Goals.{in-First, in-Last}

-- a pop at one end came to this, by what it promises of that end
from_end : {E : Type 0} (asked end : Side) (done : Pop) (old new same : HandleFacts) (answer result : Result Pop E) → asked ≡ end → new ≡ same → answer ≡ result → answer ≡ Ok done
    → IfOk result (λ it. Makes (pop_updates it) (Pops span_of end it) old same) → Makes (pop_updates done) (Pops span_of asked done) old new
from_end asked end done old new same answer result at is says ok made =
    subst (λ (s : Side). Makes (pop_updates done) (Pops span_of s done) old new) (sym at)
    (subst (λ (h : HandleFacts). Makes (pop_updates done) (Pops span_of end done) old h) (sym is)
    (subst (λ (r : Result Pop _). IfOk r (λ it. Makes (pop_updates it) (Pops span_of end it) old same)) (sym says ∙ ok) made))

pub returns-in-Ok-clause-popped : goal.returns-in-Ok-clause-popped
returns-in-Ok-clause-popped c = elim c.match-side.branch [
  | in-First w ↦ from_end c.args.side _ c.in-Ok.done c.args.access.now c.match-side.access _ c.match-side.answer _ w.in-First.is w.access-is w.answer-is c.in-Ok.is w.try_pop_first-answer.ensures.popped
  | in-Last w ↦ from_end c.args.side _ c.in-Ok.done c.args.access.now c.match-side.access _ c.match-side.answer _ w.in-Last.is w.access-is w.answer-is c.in-Ok.is w.try_pop_last-answer.ensures.popped
]
