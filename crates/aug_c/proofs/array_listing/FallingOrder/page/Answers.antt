use Rattle.aug_c.proofs.Listing.{falling_more}
use Rattle.aug_c.proofs.array_listing.FallingOrder.page.Goals as goal

pub returns-clause-more : goal.returns-clause-more
returns-clause-more c = falling_more c.args.look.now c.args.key c.ask-page.result.items c.last_key-next.result c.ask-page.ensures.answer c.last_key-next.ensures
