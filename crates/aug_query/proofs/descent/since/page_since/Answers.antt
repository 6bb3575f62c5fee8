use Rattle.std.proofs.Common.{◌∙◌}
use Rattle.aug_query.proofs.Merging.{whole_page, whole_load}
use Rattle.aug_query.proofs.descent.since.page_since.Goals as goal

pub returns-clause-answer : goal.returns-clause-answer
returns-clause-answer g c =
    let earlier = g.L.MemberList.set_of c.args.list.now in let set = g.D.Descend.set_of c.args.tree.now in
    let same = c.count-count.ensures.descends.same_set ∙ c.top-top.ensures.descends.same_set in
    whole_page earlier set c.args.from c.bits-bits.result c.bits-bits.ensures.value (g.D.Descend.set_of c.count-count.new.self) c.new.result.items c.append_since.new.merge.page.items same c.new.ensures c.append_since.ensures.answer

pub returns-clause-descends : goal.returns-clause-descends
returns-clause-descends g c =
    let earlier = g.L.MemberList.set_of c.args.list.now in let set = g.D.Descend.set_of c.args.tree.now in
    let same = c.count-count.ensures.descends.same_set ∙ c.top-top.ensures.descends.same_set in
    whole_load earlier set c.args.from c.bits-bits.result c.bits-bits.ensures.value g.met.D.Descend.keeps_on (g.D.Descend.set_of c.count-count.new.self) same c.top-top.ensures.descends c.count-count.ensures.descends c.append_since.ensures.descends
