-- From a leaf to the root, level by level.
use Rattle.std.proofs.Common.{◌≡◌, ℕ, zero, suc, add-one, ◌+◌, ◌-◌, ◌*◌, ◌/◌, ◌^◌, ◌<◌, ◌≤◌, Bool, true, false, if◌then◌else◌, ne_eqb, List, [], sym, refl, ap, ◌∙◌, subst, arith}
use Rattle.aug_core.specs.Places.{Shape}
use Rattle.aug_core.specs.Addresses.{IsInner, left_of}
use Rattle.aug_core.specs.Book.{IsBook}
use Rattle.aug_core.specs.inside.Refreshes.{NewestCovers, Refreshed}
use Rattle.aug_core.specs.inside.Shows.{above, Lifts}
use Rattle.aug_core.specs.declared.view.SeatView.{SeatView}
use Rattle.aug_core.proofs.Refreshing.{covers_second}
use Rattle.aug_core.proofs.Showing.{above_inner}
use Rattle.aug_trie.specs.Pass.{most_rise_steps}
use Rattle.aug_trie.specs.inside.Goes.{Goes, Took, TookBetween, HasRoom, part_steps, try_steps, level_steps, least_rise_steps}
use Rattle.aug_trie.specs.inside.Points.{TryAt, TryOver, point_turns}
use Rattle.aug_trie.specs.inside.Stages.{LostTry, IsTry, IsCovered, HasRisen, MayRise, IsAtNode, IsOnWay, IsPastTry, part_above, ascent_turns}
use Rattle.aug_trie.specs.declared.turns.points.Point.{Point}
use Rattle.aug_trie.specs.declared.turns.points.Point.TheVariants.{Node, Left, Right, Part, Record}
use Rattle.aug_trie.specs.declared.turns.ascents.Ascent.{Ascent}
use Rattle.aug_trie.proofs.Going.{goes_on, goes_more, goes_self, took_none, took_on, room_left, room_again, may_store_room}
use Rattle.aug_trie.proofs.Levels.{lifts_none, place_is, cost_first, cost_later, took_level, lifts_level}
use Rattle.aug_trie.proofs.Advancing.{goes_at}

module _ (f : ℕ → ℕ → List (ℕ × ℕ) → List ℕ) where
  -- ---- one try at a node, and the second

  -- a try that failed
  pub missed : (below w : SeatView) (q number : ℕ) → TryOver f below q number false w → LostTry f below w q number
  missed below w q number over = record { goes = over.goes; took = over.took; longer = over.tries.refreshed.longer refl }

  -- the first try published its record
  pub covered_once : (below w : SeatView) (q number : ℕ) → TryOver f below q number true w → IsCovered f below w q number
  covered_once below w q number over = let n : ℕ = try_steps (part_steps below.shape (left_of below.shape q)) in
      record { goes = over.goes; took = record { steps = n; least_steps = omega arith; most_steps = omega arith; took = over.took }; covers = over.tries.refreshed.covers refl }

  -- it failed, and whatever the second came to, the node covers what had been seen
  pub covered_twice : (below begun w : SeatView) (q number : ℕ) (done : Bool) → IsInner below.shape q → LostTry f below begun q number → TryOver f begun q number done w → IsCovered f below w q number
  covered_twice below begun w q number done inner m over = let n : ℕ = try_steps (part_steps below.shape (left_of below.shape q)) in let shaped = m.goes.shaped in
      let second : Took begun w n = subst (λ (z : Shape). Took begun w (try_steps (part_steps z (left_of z q)))) shaped over.took in
      let whole = goes_on f (number + 1) (number + 1) (number + 1) [] below begun w (omega arith) (omega arith) m.goes over.goes in record {
        goes = whole;
        took = record { steps = n + n; least_steps = omega arith; most_steps = omega arith; took = took_on below begun w n n (n + n) refl m.took second };
        covers = covers_second f below.shape below.seen begun.seen w.seen q done inner (subst (λ (z : Shape). IsBook f z w.seen) whole.shaped whole.knows_table.book) m.goes.later whole.fresh m.longer
            (subst (λ (z : Shape). Refreshed z begun.seen q done w.seen) shaped over.tries.refreshed);
      }

  -- ---- the levels

  module _ (bits number key : ℕ) (leaf : SeatView) (m : MayRise f bits number key leaf) where
    pub risen_none : HasRisen f bits number key leaf 0 leaf
    risen_none = record {
      goes = goes_more f 0 (number + 0) [] leaf leaf (omega arith) (goes_self f leaf m.knows_table);
      took = record { steps = 0; least_steps = omega arith; most_steps = omega arith; took = took_none leaf leaf refl };
      lifts = lifts_none leaf.shape leaf.seen key;
    }

    module _ (level : ℕ) (below : SeatView) (low : level < bits) (risen : HasRisen f bits number key leaf level below) where
      up : suc level ≤ leaf.shape.bits
      up = let b = m.bits_are in omega arith

      -- the node above is one
      pub inner_above : (node : ℕ) → node ≡ above leaf.shape key (suc level) → IsInner below.shape node
      inner_above node is = subst (λ (z : Shape). IsInner z node) (sym risen.goes.shaped) (subst (IsInner leaf.shape) (sym is) (above_inner leaf.shape key level m.low up))

      -- and there is a record for it
      pub room_above : HasRoom below (number + level) 1
      room_above = room_left f leaf below number level bits 1 [] (omega arith) risen.goes m.room

      -- once the node is covered, the level above shows it too
      pub risen_on : (node : ℕ) (w : SeatView) → node ≡ above leaf.shape key (suc level) → IsCovered f below w node (number + level) → HasRisen f bits number key leaf (level + 1) w
      risen_on node w is c = let s : Shape = leaf.shape in let one : suc level ≡ level + 1 = sym (add-one level) in let shaped = risen.goes.shaped in
          let goes : Goes f (number + (level + 1)) [] leaf w = goes_on f (number + level) (number + level + 1) (number + (level + 1)) [] leaf below w (omega arith) (omega arith) risen.goes c.goes in
          let took : TookBetween below w (try_steps (part_steps s (left_of s (above s key (suc level))))) (2 * try_steps (part_steps s (left_of s (above s key (suc level))))) =
          subst (λ (z : ℕ). TookBetween below w (try_steps (part_steps s (left_of s z))) (2 * try_steps (part_steps s (left_of s z)))) is
          (subst (λ (z : Shape). TookBetween below w (try_steps (part_steps z (left_of z node))) (2 * try_steps (part_steps z (left_of z node)))) shaped c.took) in
          let covers : NewestCovers s below.seen w.seen (above s key (suc level)) = subst (NewestCovers s below.seen w.seen) is (subst (λ (z : Shape). NewestCovers z below.seen w.seen node) shaped c.covers) in
          let book : IsBook f s w.seen = subst (λ (z : Shape). IsBook f z w.seen) goes.shaped goes.knows_table.book in record {
            goes = goes;
            took = subst (λ (z : ℕ). TookBetween leaf w (least_rise_steps z) (most_rise_steps z)) one (took_level s leaf below w key level m.low up risen.took took);
            lifts = subst (Lifts s leaf.seen w.seen key) one (lifts_level f s leaf.seen below w key level m.low up book c.goes.later covers risen.lifts);
          }

    -- ---- one step after another

    -- the way begins at the first node above the leaf
    pub way_begins : (a : Ascent) → 1 ≤ bits → a.level ≡ 0 → a.node ≡ 2 ^ leaf.shape.bits + key / 2 → a.second ≡ false → a.point ≡ Node → IsOnWay f bits number key leaf a leaf
    way_begins a some el en es ep = subst (λ (z : Ascent). IsOnWay f bits number key leaf z leaf) (sym (λ i. record { level = el i; node = en i; second = es i; point = ep i })) record {
      begun = leaf;
      at_node = record { may_rise = m; below_root = some; node_is = refl; below = leaf; risen = risen_none; is_try = refl };
      try_at = record { inner = inner_above 0 leaf some risen_none (2 ^ leaf.shape.bits + key / 2) refl; knows_table = m.knows_table; room = room_above 0 leaf some risen_none; is_at = refl };
    }

  module _ (bits number key : ℕ) (leaf : SeatView) (a : Ascent) (done : Bool) (w : SeatView) (p : IsPastTry f bits number key leaf a done w) where
    abbrev n : IsAtNode f bits number key leaf a p.begun
    n = p.at_node

    inner_now : IsInner n.below.shape a.node
    inner_now = inner_above bits number key leaf n.may_rise a.level n.below n.below_root n.risen a.node n.node_is

    over_first : IsTry f n.below p.begun a.node (number + a.level) false → TryOver f n.below a.node (number + a.level) done w
    over_first is = subst (λ (z : SeatView). TryOver f z a.node (number + a.level) done w) is p.try_over

    covered : (second : Bool) → IsTry f n.below p.begun a.node (number + a.level) second → (second ≡ false → done ≡ true) → IsCovered f n.below w a.node (number + a.level)
    covered true t good = covered_twice n.below p.begun w a.node (number + a.level) done inner_now t p.try_over
    covered false t good = covered_once n.below w a.node (number + a.level) (subst (λ (z : Bool). TryOver f n.below a.node (number + a.level) z w) (good refl) (over_first t))

    -- the node is done with, and so is its level
    pub level_done : (a.second ≡ false → done ≡ true) → HasRisen f bits number key leaf (a.level + 1) w
    level_done good = risen_on bits number key leaf n.may_rise a.level n.below n.below_root n.risen a.node w n.node_is (covered a.second n.is_try good)

    -- the first try failed, and the second begins
    pub second_begins : (next : Ascent) → next ≡ record { level = a.level; node = a.node; second = true; point = Node } → a.second ≡ false → done ≡ false → IsOnWay f bits number key leaf next w
    second_begins next is first bad = let t : IsTry f n.below p.begun a.node (number + a.level) false = subst (IsTry f n.below p.begun a.node (number + a.level)) first n.is_try in
        let o = over_first t in let lost = subst (λ (z : Bool). TryOver f n.below a.node (number + a.level) z w) bad o in
        let room_first : HasRoom n.below (number + a.level) 1 = subst (λ (z : SeatView). HasRoom z (number + a.level) 1) t p.room in
        subst (λ (z : Ascent). IsOnWay f bits number key leaf z w) (sym is) record {
          begun = w;
          at_node = record { may_rise = n.may_rise; below_root = n.below_root; node_is = n.node_is; below = n.below; risen = n.risen; is_try = missed n.below w a.node (number + a.level) lost };
          try_at = record {
            inner = subst (λ (z : Shape). IsInner z a.node) (sym o.goes.shaped) inner_now;
            knows_table = o.goes.knows_table;
            room = room_again f n.below w (number + a.level) (number + a.level + 1) o.goes (o.tries.again bad (may_store_room n.below (number + a.level) room_first)) room_first;
            is_at = refl;
          };
        }

    -- the next level begins
    pub level_begins : (leaves : ℕ) (next : Ascent) → leaves ≡ 2 ^ bits → next ≡ record { level = a.level + 1; node = leaves + a.node / 2; second = false; point = Node } → a.level + 1 < bits → (a.second ≡ false → done ≡ true) → IsOnWay f bits number key leaf next w
    level_begins leaves next are is low good = let risen = level_done good in
        let node : leaves + a.node / 2 ≡ above leaf.shape key (suc (a.level + 1)) = place_is leaf.shape key (a.level + 1) leaves a.node (are ∙ ap (λ (z : ℕ). 2 ^ z) n.may_rise.bits_are) (n.node_is ∙ ap (above leaf.shape key) (sym (add-one a.level))) in
        subst (λ (z : Ascent). IsOnWay f bits number key leaf z w) (sym is) record {
          begun = w;
          at_node = record { may_rise = n.may_rise; below_root = low; node_is = node; below = w; risen = risen; is_try = refl };
          try_at = record {
            inner = inner_above bits number key leaf n.may_rise (a.level + 1) w low risen (leaves + a.node / 2) node;
            knows_table = risen.goes.knows_table;
            room = room_above bits number key leaf n.may_rise (a.level + 1) w low risen;
            is_at = refl;
          };
        }

    -- the root is done with
    pub at_root : a.level + 1 ≡ bits → (a.second ≡ false → done ≡ true) → HasRisen f bits number key leaf bits w
    at_root is good = subst (λ (z : ℕ). HasRisen f bits number key leaf z w) is (level_done good)

  -- ---- a step of a try, on the way

  module _ (bits number key : ℕ) (leaf : SeatView) (a : Ascent) (old : SeatView) (o : IsOnWay f bits number key leaf a old) where
    shaped : old.shape ≡ leaf.shape
    shaped = (goes_at f o.begun a.node (number + a.level) a.point old o.try_at).shaped ∙ begun_shaped a.second o.at_node.is_try ∙ o.at_node.risen.goes.shaped
      where
        begun_shaped : (second : Bool) → IsTry f o.at_node.below o.begun a.node (number + a.level) second → o.begun.shape ≡ o.at_node.below.shape
        begun_shaped true t = t.goes.shaped
        begun_shaped false t = ap (λ (z : SeatView). z.shape) t

    -- the way is in that table
    pub leaves_are : (leaves : ℕ) → leaves ≡ 2 ^ old.shape.bits → leaves ≡ 2 ^ bits
    leaves_are leaves are = are ∙ ap (λ (z : ℕ). 2 ^ z) (ap (λ (z : Shape). z.bits) shaped ∙ sym o.at_node.may_rise.bits_are)

    -- what a child's part takes at this level
    pub part_is : part_steps old.shape (left_of old.shape a.node) ≡ part_above a.level
    part_is = ap (λ (z : Shape). part_steps z (left_of z a.node)) shaped ∙ ap (λ (z : ℕ). part_steps leaf.shape (left_of leaf.shape z)) o.at_node.node_is ∙ at_level a.level (let b = o.at_node.may_rise.bits_are in let low = o.at_node.below_root in omega arith)
      where
        at_level : (level : ℕ) → suc level ≤ leaf.shape.bits → part_steps leaf.shape (left_of leaf.shape (above leaf.shape key (suc level))) ≡ part_above level
        at_level zero up = cost_first leaf.shape key o.at_node.may_rise.low up
        at_level (suc j) up = cost_later leaf.shape key j o.at_node.may_rise.low up ∙ sym (ap (λ (z : Bool). if z then 0 else 3) (ne_eqb (suc j) 0 (λ is. omega arith)))

    pub step_on : (w : SeatView) (point : Point) → TryAt f o.begun a.node (number + a.level) point w → IsOnWay f bits number key leaf (record { level = a.level; node = a.node; second = a.second; point = point }) w
    step_on w point t = let n = o.at_node in record {
      begun = o.begun;
      at_node = record { may_rise = n.may_rise; below_root = n.below_root; node_is = n.node_is; below = n.below; risen = n.risen; is_try = n.is_try };
      try_at = t;
    }

    pub past_try : (w : SeatView) (done : Bool) → TryOver f o.begun a.node (number + a.level) done w → IsPastTry f bits number key leaf a done w
    past_try w done over = record { begun = o.begun; at_node = o.at_node; room = o.try_at.room; try_over = over }

-- ---- the turns that are left

-- some are, at every point
pub point_some : (f : ℕ → ℕ → List (ℕ × ℕ) → List ℕ) (v : SeatView) (q number part : ℕ) (point : Point) (w : SeatView) → TryAt f v q number point w → 1 ≤ point_turns part point
point_some f v q number part Node w t = omega arith
point_some f v q number part (Left from) w t = omega arith
point_some f v q number part (Right from left) w t = omega arith
point_some f v q number part (Part r) w t = let few = t.is_at.few in omega arith
point_some f v q number part (Record r) w t = let few = t.is_at.few in omega arith

one_less : (x y p q : ℕ) → p + 1 ≡ q → x + y + p < x + y + q
one_less x y p q e = omega arith

some_more : (x y p : ℕ) → 1 ≤ p → 1 ≤ x + y + p
some_more x y p e = omega arith

-- and each step leaves one less
pub ascent_falls : (bits part : ℕ) (a : Ascent) (point : Point) → part ≡ part_above a.level → point_turns part point + 1 ≡ point_turns part a.point → 1 ≤ point_turns (part_above a.level) point
    → (ascent_turns bits (record { level = a.level; node = a.node; second = a.second; point = point }) < ascent_turns bits a) × (1 ≤ ascent_turns bits (record { level = a.level; node = a.node; second = a.second; point = point }))
ascent_falls bits part a point is falls some = (
  one_less ((bits - 1 - a.level) * level_steps) (if a.second then 0 else try_steps (part_above a.level)) (point_turns (part_above a.level) point) (point_turns (part_above a.level) a.point)
      (subst (λ (z : ℕ). point_turns z point + 1 ≡ point_turns z a.point) is falls),
  some_more ((bits - 1 - a.level) * level_steps) (if a.second then 0 else try_steps (part_above a.level)) (point_turns (part_above a.level) point) some,
)
