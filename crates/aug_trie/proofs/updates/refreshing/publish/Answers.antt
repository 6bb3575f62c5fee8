use Rattle.std.proofs.Common.{◌∙◌}
use Rattle.aug_trie.proofs.Going.{may_store_room}
use Rattle.aug_trie.proofs.Publishing.{may_publish_filled, publishes}
use Rattle.aug_trie.proofs.updates.refreshing.publish.Goals as goal

pub fill-requires : goal.fill-requires
fill-requires g c = may_store_room c.args.pass.now.view c.args.number c.requires.room

pub try_node-requires-clause-own : goal.try_node-requires-clause-own
try_node-requires-clause-own g c = may_publish_filled g.A.Monoid.parts g.B.Monoid.parts c.args.five c.requires.room c.requires.knows c.fill.ensures.view c.requires.loaded

pub returns : goal.returns
returns g c = let made = publishes g.A.Monoid.parts g.B.Monoid.parts c.args.five c.requires.room c.requires.knows c.fill.ensures.view c.requires.inner c.try_node.ensures.view in
    record { goes = made.goes; took = made.took; published = made.published; again = made.again; table = c.try_node.ensures.table ∙ c.fill.ensures.table }
