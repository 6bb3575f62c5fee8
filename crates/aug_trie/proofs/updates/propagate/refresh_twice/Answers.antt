use Rattle.std.proofs.Common.{Bool, subst, sym, ◌∙◌, ◌+◌}
use Rattle.aug_core.specs.Faces.{face}
use Rattle.aug_core.specs.Addresses.{IsInner}
use Rattle.aug_core.specs.Places.{Shape}
use Rattle.aug_core.specs.declared.view.SeatView.{SeatView}
use Rattle.aug_trie.specs.inside.Goes.{HasLeaves}
use Rattle.aug_trie.specs.inside.Points.{TryOver}
use Rattle.aug_trie.proofs.Ascending.{missed, covered_once, covered_twice}
use Rattle.aug_trie.proofs.Going.{may_store_room, room_again}
use Rattle.aug_trie.proofs.updates.propagate.refresh_twice.Goals as goal

pub refresh-requires-2 : goal.refresh-requires-2
refresh-requires-2 g c = let over = c.refresh.ensures.view in let shaped = over.goes.shaped in record {
  leaves = subst (λ (z : Shape). HasLeaves z c.args.leaves) (sym shaped) c.requires.leaves;
  inner = subst (λ (z : Shape). IsInner z c.args.node) (sym shaped) c.requires.inner;
  knows = over.goes.knows_table;
  room = room_again (face g.A.Monoid.parts g.B.Monoid.parts) c.args.pass.now.view c.refresh.new.pass.view c.args.number (c.args.number + 1) over.goes (over.tries.again c.if-refresh.false (may_store_room c.args.pass.now.view c.args.number c.requires.room)) c.requires.room;
}

pub returns : goal.returns
returns g c = let f = face g.A.Monoid.parts g.B.Monoid.parts in let v : SeatView = c.args.pass.now.view in let w : SeatView = c.refresh.new.pass.view in
    record {
      table = c.refresh-2.ensures.table ∙ c.refresh.ensures.table;
      view = covered_twice f v w c.refresh-2.new.pass.view c.args.node c.args.number c.refresh-2.result c.requires.inner
          (missed f v w c.args.node c.args.number (subst (λ (z : Bool). TryOver f v c.args.node c.args.number z w) c.if-refresh.false c.refresh.ensures.view)) c.refresh-2.ensures.view;
    }

pub returns-then-refresh : goal.returns-then-refresh
returns-then-refresh g c = let f = face g.A.Monoid.parts g.B.Monoid.parts in let v : SeatView = c.args.pass.now.view in let w : SeatView = c.refresh.new.pass.view in
    record { table = c.refresh.ensures.table; view = covered_once f v w c.args.node c.args.number (subst (λ (z : Bool). TryOver f v c.args.node c.args.number z w) c.if-refresh.true c.refresh.ensures.view) }
