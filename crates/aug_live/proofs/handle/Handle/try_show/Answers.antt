use Rattle.std.proofs.Common.{◌≡◌, ◌∙◌, ap, subst}
use Rattle.std.specs.Prelude.{IfNone, IfSome, Option}
use Rattle.aug_trie.specs.declared.queries.snapshot.Snapshot.{Snapshot}
use Rattle.aug_live.specs.LiveHandles.{Follows, Runs}
use Rattle.aug_live.specs.inside.Looks.{HandleShows, HasReaders, ShowsOrNot}
use Rattle.aug_live.proofs.Carries.{follows_on, follows_same}
use Rattle.aug_live.proofs.Shown.{none_runs, shows_on}
use Rattle.aug_live.proofs.handle.Handle.try_show.Goals as goal

pub returns-in-Some-shown-clause-shows : goal.returns-in-Some-shown-clause-shows
returns-in-Some-shown-clause-shows g c = let op = c.try_make.new.op in let show = c.show_at_desk.new.show in let old = c.args.show.now.reader in let made = c.try_make.new.self in
    let n = none_runs old op.reader op.left op.era c.args.self.now made (subst (λ (z : Option Snapshot). Runs (ShowsOrNot old op.reader op.left op.era z) c.args.self.now made) c.in-None.is c.in_ok-made.ensures.made) in
    shows_on old op.reader show.reader show.era c.in-Some-shown.held c.args.self.now made c.show_at_desk.new.self n.0 n.1
    (subst (λ (z : Option Snapshot). IfSome z (λ held. HandleShows op.reader show.reader show.era held made c.show_at_desk.new.self)) c.in-Some-shown.is c.in-Ok.ensures.shows)

pub returns-in-None-shown-clause-not_made : goal.returns-in-None-shown-clause-not_made
returns-in-None-shown-clause-not_made g c = let op = c.try_make.new.op in let show = c.show_at_desk.new.show in let old = c.args.show.now.reader in let made = c.try_make.new.self in
    let n = none_runs old op.reader op.left op.era c.args.self.now made (subst (λ (z : Option Snapshot). Runs (ShowsOrNot old op.reader op.left op.era z) c.args.self.now made) c.in-None.is c.in_ok-made.ensures.made) in
    let later = subst (λ (z : Option Snapshot). IfNone z (Follows made c.show_at_desk.new.self × (show.reader ≡ op.reader) × HasReaders show.reader show.left made.half.round.table)) c.in-None-shown.is c.in-Ok.ensures.not_made in
    (follows_on c.args.self.now made c.show_at_desk.new.self n.0 later.0, later.1 ∙ n.1)

pub returns-in-Err-clause-not_made : goal.returns-in-Err-clause-not_made
returns-in-Err-clause-not_made g c = let op = c.try_make.new.op in let old = c.args.show.now.reader in let made = c.try_make.new.self in let missed = c.in-Err.ensures.missed in
    let n = none_runs old op.reader op.left op.era c.args.self.now made (subst (λ (z : Option Snapshot). Runs (ShowsOrNot old op.reader op.left op.era z) c.args.self.now made) c.in-None.is c.in_ok-made.ensures.made) in
    (follows_on c.args.self.now made c.show_at_desk.new.self n.0 (follows_same made c.show_at_desk.new.self missed.0), ap (λ z. z.reader) missed.1 ∙ n.1)
