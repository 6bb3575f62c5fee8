use Rattle.std.proofs.Common.{subst}
use Rattle.aug_model.specs.Folds.{summary_of}
use Rattle.aug_monoid.specs.Extent.{extent_parts}
use Rattle.aug_trie.specs.declared.rounds.pop.Pop.{Pop}
use Rattle.aug_trie.specs.Pops.{pop_updates, Pops}
use Rattle.aug_live.specs.LiveHandles.{Makes}
use Rattle.aug_live.proofs.Carries.{follows_self, follows_on, runs_on, err_any}
use Rattle.aug_live.proofs.Popped.{refused_pop_follows}
use Rattle.aug_live.proofs.handle.Handle+A+Extent.pop.Goals as goal

pub loop-init : goal.loop-init
loop-init g c = follows_self c.args.self.now

pub returns-in_err-done-clause-not_made : goal.returns-in_err-done-clause-not_made
returns-in_err-done-clause-not_made g c = err_any c.from_residual.result (follows_on c.args.self.now c.loop.self c.make.new.self c.loop.invariant c.in_err-done.ensures.not_made)

pub loop-preserved : goal.loop-preserved
loop-preserved g c = let parts = summary_of g.A.Monoid.parts extent_parts in follows_on c.args.self.now c.loop.self c.make.new.self c.loop.invariant
    (refused_pop_follows parts c.args.side c.loop.self c.make.new.self
    (subst (λ (z : Pop). Makes (pop_updates z) (Pops parts c.args.side z) c.loop.self c.make.new.self) c.in-Refused.is c.in_ok-done.ensures.made))

pub returns-in-Member-clause-popped : goal.returns-in-Member-clause-popped
returns-in-Member-clause-popped g c = let parts = summary_of g.A.Monoid.parts extent_parts in
    subst (λ (z : Pop). Makes (pop_updates z) (Pops parts c.args.side z) c.args.self.now c.make.new.self) c.in-Member.is (runs_on _ c.args.self.now c.loop.self _ c.loop.invariant c.in_ok-done.ensures.made)

pub returns-in-Empty-clause-popped : goal.returns-in-Empty-clause-popped
returns-in-Empty-clause-popped g c = let parts = summary_of g.A.Monoid.parts extent_parts in
    subst (λ (z : Pop). Makes (pop_updates z) (Pops parts c.args.side z) c.args.self.now c.make.new.self) c.in-Empty.is (runs_on _ c.args.self.now c.loop.self _ c.loop.invariant c.in_ok-done.ensures.made)
