use Rattle.std.proofs.Common.{◌≡◌, ◌∙◌, ap, refl, subst}
use Rattle.std.specs.Prelude.{IfNone, IfSome, Option}
use Rattle.aug_trie.specs.declared.queries.snapshot.Snapshot.{Snapshot}
use Rattle.aug_live.specs.LiveHandles.{Follows, Runs}
use Rattle.aug_live.specs.inside.Looks.{HandleShows, HasReaders, ShowsOrNot}
use Rattle.aug_live.proofs.Carries.{err_any, follows_on, follows_self}
use Rattle.aug_live.proofs.Shown.{none_runs, shown_runs, shows_on}
use Rattle.aug_live.proofs.handle.Handle.show.Goals as goal

pub loop-init : goal.loop-init
loop-init g c = (follows_self c.args.self.now, refl, c.requires.needs)

pub returns-in_err-made-clause-not_made : goal.returns-in_err-made-clause-not_made
returns-in_err-made-clause-not_made g c = let was = c.loop.invariant in
    err_any c.from_residual.result (follows_on c.args.self.now c.loop.self c.make.new.self was.0 c.in_err-made.ensures.not_made, ap (λ z. z.reader) c.in_err-made.ensures.kept ∙ was.1)

pub returns-in-Some-made-clause-shows : goal.returns-in-Some-made-clause-shows
returns-in-Some-made-clause-shows g c = let was = c.loop.invariant in let op = c.make.new.op in let old = c.loop.show.reader in
    shows_on c.args.show.now.reader old op.reader op.era c.in-Some-made.held c.args.self.now c.loop.self c.make.new.self was.0 was.1
    (shown_runs old op.reader op.left op.era c.in-Some-made.held c.loop.self c.make.new.self (subst (λ (z : Option Snapshot). Runs (ShowsOrNot old op.reader op.left op.era z) c.loop.self c.make.new.self) c.in-Some-made.is c.in_ok-made.ensures.made))

pub returns-in-Some-shown-clause-shows : goal.returns-in-Some-shown-clause-shows
returns-in-Some-shown-clause-shows g c = let was = c.loop.invariant in let op = c.make.new.op in let show = c.show_at_desk.new.show in let old = c.loop.show.reader in let made = c.make.new.self in
    let n = none_runs old op.reader op.left op.era c.loop.self made (subst (λ (z : Option Snapshot). Runs (ShowsOrNot old op.reader op.left op.era z) c.loop.self made) c.in-None-made.is c.in_ok-made.ensures.made) in
    shows_on c.args.show.now.reader op.reader show.reader show.era c.in-Some-shown.held c.args.self.now made c.show_at_desk.new.self (follows_on c.args.self.now c.loop.self made was.0 n.0) (n.1 ∙ was.1)
    (subst (λ (z : Option Snapshot). IfSome z (λ held. HandleShows op.reader show.reader show.era held made c.show_at_desk.new.self)) c.in-Some-shown.is c.in-Ok.ensures.shows)

pub loop-preserved : goal.loop-preserved
loop-preserved g c = let was = c.loop.invariant in let op = c.make.new.op in let show = c.show_at_desk.new.show in let old = c.loop.show.reader in let made = c.make.new.self in
    let n = none_runs old op.reader op.left op.era c.loop.self made (subst (λ (z : Option Snapshot). Runs (ShowsOrNot old op.reader op.left op.era z) c.loop.self made) c.in-None-made.is c.in_ok-made.ensures.made) in
    let later = subst (λ (z : Option Snapshot). IfNone z (Follows made c.show_at_desk.new.self × (show.reader ≡ op.reader) × HasReaders show.reader show.left made.half.round.table)) c.in-None-shown.is c.in-Ok.ensures.not_made in
    let on = follows_on c.args.self.now c.loop.self made was.0 n.0 in
    (follows_on c.args.self.now made c.show_at_desk.new.self on later.0, later.1 ∙ n.1 ∙ was.1, subst (HasReaders show.reader show.left) on.table later.2)
