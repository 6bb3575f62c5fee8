use Rattle.std.proofs.Common.{◌<◌, [], ◌∙◌, ap, get_or, length, rules, arith, List}
use Rattle.std.specs.Vec.Iter.{into_iter_items, into_iter_deque}
use Rattle.std.proofs.lemmas.List.{map-set, get_or-map, length-map}
use Rattle.aug_script.specs.declared.reply.Reply.{Reply}
use Rattle.aug_run.proofs.Merging.{merged_none, merged_more, merged_all, lane_low, some_left, has_room}
use Rattle.aug_run.proofs.Working.{no_row}
use Rattle.aug_run.proofs.lanes.returning.in_order.Goals as goal

pub loop-row-init : goal.loop-row-init
loop-row-init c = merged_none _ _ _ _ _ c.requires.empty (search rules) c.requires.room

pub unreachable-requires : goal.unreachable-requires
unreachable-requires c =
    let m = c.loop-row.invariant in
    let lane = (get_or c.args.rows.now c.loop-row.row-index no_row).lane in
    let below = lane_low _ _ c.requires.answered _ c.loop-row-test.true _ _ _ _ m in
    let some = some_left _ _ c.requires.answered _ c.loop-row-test.true _ _ _ _ m in
    let low : lane < length c.loop-row.lanes = omega (arith, below, m.same_lanes, length-map c.loop-row.lanes (λ l. into_iter_items l)) in
    let zero = c.in_default.ensures.cases.0 in
    let read = get_or-map (λ l. into_iter_items l) c.loop-row.lanes lane c.index-lanes-row.result [] low in
    let long = (into_iter_deque (get_or c.loop-row.lanes lane c.index-lanes-row.result)).ok.0 in
    omega (arith, some, zero, long, ap (λ (l : List Reply). length l) read)

pub push_reserved-requires : goal.push_reserved-requires
push_reserved-requires c = has_room _ _ c.requires.answered _ c.loop-row-test.true _ _ _ _ c.loop-row.invariant

pub loop-row-preserved : goal.loop-row-preserved
loop-row-preserved c =
    let m = c.loop-row.invariant in
    let lane = (get_or c.args.rows.now c.loop-row.row-index no_row).lane in
    let below = lane_low _ _ c.requires.answered _ c.loop-row-test.true _ _ _ _ m in
    let low : lane < length c.loop-row.lanes = omega (arith, below, m.same_lanes, length-map c.loop-row.lanes (λ l. into_iter_items l)) in
    merged_more _ _ c.requires.answered _ c.loop-row-test.true _ _ _ _ m c.in-Some.reply (into_iter_items c.next.new.self) _ _ _ _
    (get_or-map (λ l. into_iter_items l) c.loop-row.lanes lane _ [] low ∙ c.in-Some.ensures.cases.0) (map-set (λ l. into_iter_items l) c.loop-row.lanes lane c.next.new.self)
    c.push_reserved.ensures.items c.push_reserved.ensures.len (omega (arith, c.push_reserved.ensures.capacity))

pub returns : goal.returns
returns c = merged_all _ _ c.requires.answered _ _ _ _ _ c.loop-row-test.false c.loop-row.invariant
