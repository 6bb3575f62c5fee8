use Rattle.aug_live.proofs.Planning.{suits_alike, not_large}
use Rattle.aug_live.proofs.live.Live.open.Goals as goal

pub returns-clause-too_large : goal.returns-clause-too_large
returns-clause-too_large g c =
    let fits = c.in-Some.ensures in (
      λ refused. absurd (not_large c.args.set.bits c.bits.result c.args.memory c.in-Some.plan c.bits.ensures fits.greatest.fits (c.open_with.ensures.too_large.0 refused)),
      λ none. absurd (none.1 (suits_alike c.args.set.bits c.bits.result c.args.handles c.args.memory c.bits.ensures fits.fits)),
    )
