use Rattle.std.proofs.Common.{sym, subst, ◌∙◌, arith, rules}
use Rattle.aug_query.proofs.Choosing.{whole_length, listed_whole, whole_descends}
use Rattle.aug_query.proofs.Descending.{counted, within}
use Rattle.aug_query.proofs.descent.listing.list.Goals as goal

pub returns-clause-answer : goal.returns-clause-answer
returns-clause-answer g c =
    let same = c.count-count.ensures.descends.same_set ∙ c.top-top.ensures.descends.same_set in
    listed_whole g.E.Element.element_of (g.D.Descend.set_of c.args.tree.now) (g.D.Descend.set_of c.count-count.new.self) c.bits-bits.result c.in_ok-list.list.items c.list_members.new.list.items
    c.bits-bits.ensures.set c.bits-bits.ensures.value same c.in_ok-list.ensures.items c.list_members.ensures.answer

pub returns-clause-room : goal.returns-clause-room
returns-clause-room g c =
    let all = whole_length (g.D.Descend.set_of c.args.tree.now) (g.D.Descend.set_of c.top-top.new.self) c.bits-bits.result c.count-count.result c.bits-bits.ensures.set c.bits-bits.ensures.value c.top-top.ensures.descends.same_set c.count-count.ensures.value in
    omega (arith, c.list_members.ensures.room, c.in_ok-list.ensures.exact, all)

pub returns-clause-descends : goal.returns-clause-descends
returns-clause-descends g c =
    let all = whole_length (g.D.Descend.set_of c.args.tree.now) (g.D.Descend.set_of c.top-top.new.self) c.bits-bits.result c.count-count.result c.bits-bits.ensures.set c.bits-bits.ensures.value c.top-top.ensures.descends.same_set c.count-count.ensures.value in
    whole_descends g.met.D.Descend.keeps_on _ c.bits-bits.result c.count-count.result _ c.bits-bits.ensures.value all c.top-top.ensures.descends c.count-count.ensures.descends c.list_members.ensures.descends

pub returns-in_err-list-clause-descends : goal.returns-in_err-list-clause-descends
returns-in_err-list-clause-descends g c = within (counted g.met.D.Descend.keeps_on c.top-top.ensures.descends c.count-count.ensures.descends) (omega arith) (omega arith) (omega arith) (omega arith)

pub list_members-requires-clause-node : goal.list_members-requires-clause-node
list_members-requires-clause-node g c = record { name = c.count-count.ensures.descends.keeps_names _ _ _ (subst (λ n. g.D.Descend.Names c.top-top.new.self n 0 c.top-top.result) (sym c.bits-bits.ensures.value) c.top-top.ensures.name); count = search rules }
