use Rattle.aug_live.proofs.Carries.{follows_self, follows_on, runs_on, refused_follows, err_any}
use Rattle.aug_live.proofs.handle.Handle.until_made.Goals as goal

pub loop-init : goal.loop-init
loop-init g c = follows_self c.args.self.now

pub returns-in_err-told-clause-not_made : goal.returns-in_err-told-clause-not_made
returns-in_err-told-clause-not_made g c = err_any c.from_residual.result (follows_on c.args.self.now c.loop.self c.update.new.self c.loop.invariant c.in_err-told.ensures.not_made)

pub loop-preserved : goal.loop-preserved
loop-preserved g c = follows_on c.args.self.now c.loop.self c.update.new.self c.loop.invariant (refused_follows c.args.request c.args.k c.in_ok-told.told c.loop.self c.update.new.self c.in-Refused.is c.in_ok-told.ensures.made)

pub returns-in_default : goal.returns-in_default
returns-in_default g c = record {
  made = runs_on _ c.args.self.now c.loop.self _ c.loop.invariant c.in_ok-told.ensures.made;
  made_at_last = c.in_default.not-Refused;
  not_made = tt;
  refused = tt;
}
