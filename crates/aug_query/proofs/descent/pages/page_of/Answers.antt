use Rattle.std.proofs.Common.{arith}
use Rattle.aug_model.specs.NodeKeys.{first_key, end_key}
use Rattle.aug_query.proofs.Descending.{further, counted}
use Rattle.aug_query.proofs.Pages.{page_nodes, page_counts, page_few}
use Rattle.aug_query.proofs.descent.pages.page_of.Goals as goal

pub returns-clause-descends : goal.returns-clause-descends
returns-clause-descends g c =
    let bits = c.bits-bits.ensures.value in
    let few = page_few c.args.stretch (first_key c.bits-bits.result 0) (end_key c.bits-bits.result 0) c.new-page.result.items c.append_members.new.page.items _ c.new-page.ensures c.append_members.ensures.answer in
    further g.met.D.Descend.keeps_on (counted g.met.D.Descend.keeps_on c.top-top.ensures.descends c.count-count.ensures.descends) c.append_members.ensures.descends (page_nodes _ c.bits-bits.result _ bits few) (page_counts _ c.bits-bits.result _ bits few) (omega arith) (omega arith)
