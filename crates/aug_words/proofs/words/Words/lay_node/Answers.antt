use Rattle.std.proofs.Common.{ap, ◌+◌, ◌/◌}
use Rattle.aug_core.specs.Places.{Shape}
use Rattle.aug_words.specs.Seats.{Store}
use Rattle.aug_words.proofs.Brought.{lays_node}
use Rattle.aug_words.proofs.Lays.{changes_on, leaves_are}
use Rattle.aug_words.proofs.words.Words.lay_node.Goals as goal

pub returns-clause-changes : goal.returns-clause-changes
returns-clause-changes g c = changes_on c.args.base c.args.self.now.shape _ _ _ c.put_five.ensures.changes c.put_word.ensures.puts.changes

pub returns-clause-lays : goal.returns-clause-lays
returns-clause-lays g c = let s : Shape = c.args.self.now.shape in
    let leaves = leaves_are _ _ _ s _ _ c.self.invariant (ap (λ (z : Store). z.shape) c.self.view_is) in
    lays_node s c.args.node c.own_place.result (c.self.inside.lanes / 2 + 1) c.own_number.result c.next_word.result c.next_word-2.result c.args.five _ _ _
    leaves c.next_word.ensures c.next_word-2.ensures
    c.own_place.ensures.at c.own_number.ensures c.put_five.ensures.writes c.put_word.ensures.puts.puts
