use Rattle.std.proofs.Common.{◌∙◌, ◌++◌, ap, arith}
use Rattle.aug_model.proofs.Pairs.{length-keys_of}
use Rattle.aug_query.proofs.Choosing.{whole_length, listed_after, whole_descends}
use Rattle.aug_query.proofs.Listed.{pairs-listed}
use Rattle.aug_query.proofs.descent.listing.append_pairs.Goals as goal

pub list_members-requires-clause-room : goal.list_members-requires-clause-room
list_members-requires-clause-room g c =
    let all = whole_length (g.D.Descend.set_of c.args.tree.now) (g.D.Descend.set_of c.top-top.new.self) c.bits-bits.result c.count-count.result c.bits-bits.ensures.set c.bits-bits.ensures.value c.top-top.ensures.descends.same_set c.count-count.ensures.value in
    let same = length-keys_of (g.D.Descend.set_of c.args.tree.now).pairs in
    omega (arith, c.requires, all, same)

pub returns-clause-answer : goal.returns-clause-answer
returns-clause-answer g c =
    let same = c.count-count.ensures.descends.same_set ∙ c.top-top.ensures.descends.same_set in
    listed_after (λ k w. (k, w)) (g.D.Descend.set_of c.args.tree.now) (g.D.Descend.set_of c.count-count.new.self) c.bits-bits.result c.args.list.now.items c.list_members.new.list.items
    c.bits-bits.ensures.set c.bits-bits.ensures.value same c.list_members.ensures.answer ∙ ap (λ ps. c.args.list.now.items ++ ps) (pairs-listed c.bits-bits.ensures.set)

pub returns-clause-descends : goal.returns-clause-descends
returns-clause-descends g c =
    let all = whole_length (g.D.Descend.set_of c.args.tree.now) (g.D.Descend.set_of c.top-top.new.self) c.bits-bits.result c.count-count.result c.bits-bits.ensures.set c.bits-bits.ensures.value c.top-top.ensures.descends.same_set c.count-count.ensures.value in
    let same = length-keys_of (g.D.Descend.set_of c.args.tree.now).pairs in
    whole_descends g.met.D.Descend.keeps_on _ c.bits-bits.result c.count-count.result _ c.bits-bits.ensures.value (all ∙ same) c.top-top.ensures.descends c.count-count.ensures.descends c.list_members.ensures.descends
