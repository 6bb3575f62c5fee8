use Rattle.aug_c.proofs.Listing.{rising_more}
use Rattle.aug_c.proofs.array_listing.RisingOrder.page.Goals as goal

pub returns-in-Some-clause-more : goal.returns-in-Some-clause-more
returns-in-Some-clause-more c = rising_more c.args.look.now c.args.key c.in-Some.last c.ask-page.result.items c.ask-page.ensures.answer.0 c.in-Some.ensures
