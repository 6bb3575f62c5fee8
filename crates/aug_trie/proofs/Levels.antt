-- One level of a propagation.
use Rattle.std.proofs.Common.{◌≡◌, ℕ, zero, suc, ◌+◌, ◌-◌, ◌*◌, ◌/◌, ◌^◌, ◌<◌, ◌≤◌, Bool, if◌then◌else◌, List, lt-ltb, le-ltb, ap, arith}
use Rattle.aug_core.specs.Places.{Shape}
use Rattle.aug_core.specs.Addresses.{IsInner, left_of, place_count}
use Rattle.aug_core.specs.Book.{Book, ArePrefixes, IsBook}
use Rattle.aug_core.specs.inside.Shows.{above, Lifts}
use Rattle.aug_core.specs.inside.Refreshes.{NewestCovers}
use Rattle.aug_core.specs.declared.view.SeatView.{SeatView}
use Rattle.aug_core.proofs.Showing.{first_children, later_children, shows_up}
use Rattle.aug_core.proofs.Sizes.{twice}
use Rattle.aug_trie.specs.Pass.{most_rise_steps}
use Rattle.aug_trie.specs.inside.Goes.{HasLeaves, TookBetween, part_steps, try_steps, least_rise_steps}
use Rattle.aug_trie.proofs.Going.{between_on}

pub lifts_none : (s : Shape) (seen : Book) (key : ℕ) → Lifts s seen seen key 0
lifts_none s seen key = record { lifted = λ n h. h }

pub place_is : (s : Shape) (key level leaves node : ℕ) → leaves ≡ 2 ^ s.bits → node ≡ above s key level → leaves + node / 2 ≡ above s key (suc level)
place_is s key level leaves node a b = omega arith

-- the parts of the children of the first node above a leaf take no load, and those of the others three
pub cost_first : (s : Shape) (key : ℕ) → key < 2 ^ s.bits → 1 ≤ s.bits → part_steps s (left_of s (above s key 1)) ≡ 0
cost_first s key low some = let below = first_children s key low some in ap (λ (z : Bool). if z then 0 else 3) (lt-ltb (left_of s (above s key 1)) (2 ^ s.bits) (omega arith))

pub cost_later : (s : Shape) (key j : ℕ) → key < 2 ^ s.bits → suc (suc j) ≤ s.bits → part_steps s (left_of s (above s key (suc (suc j)))) ≡ 3
cost_later s key j low up = ap (λ (z : Bool). if z then 0 else 3) (le-ltb (left_of s (above s key (suc (suc j)))) (2 ^ s.bits) (later_children s key j low up))

-- the steps of one level more
pub took_level : (s : Shape) (u v w : SeatView) (key level : ℕ) → key < 2 ^ s.bits → suc level ≤ s.bits → TookBetween u v (least_rise_steps level) (most_rise_steps level)
    → TookBetween v w (try_steps (part_steps s (left_of s (above s key (suc level))))) (2 * try_steps (part_steps s (left_of s (above s key (suc level))))) → TookBetween u w (least_rise_steps (suc level)) (most_rise_steps (suc level))
took_level s u v w key zero low up x y = let c = cost_first s key low up in between_on u v w 0 0 _ _ (try_steps 0) (2 * try_steps 0) (omega arith) (omega arith) x y
took_level s u v w key (suc j) low up x y = let c = cost_later s key j low up in between_on u v w _ _ _ _ _ _ (omega arith) (omega arith) x y

module _ (f : ℕ → ℕ → List (ℕ × ℕ) → List ℕ) where
  pub lifts_level : (s : Shape) (seen : Book) (v w : SeatView) (key level : ℕ) → key < 2 ^ s.bits → suc level ≤ s.bits → IsBook f s w.seen → ArePrefixes v.seen w.seen → NewestCovers s v.seen w.seen (above s key (suc level)) → Lifts s seen v.seen key level → Lifts s seen w.seen key (suc level)
  lifts_level s seen v w key level low up b later c h = record { lifted = λ n x. shows_up f s w.seen b key low v.seen level n up later c (h.lifted n x) }

-- the words of the children of an inner node are words of the table, also of one of the same shape
pub child_places : {s t u : Shape} {q leaves : ℕ} → HasLeaves s leaves → IsInner t q → t ≡ s → u ≡ s → (2 * (q - leaves) < place_count u) × (2 * (q - leaves) + 1 < place_count u)
child_places {s} {t} {u} leaves inner same last = let here : 2 ^ t.bits ≡ 2 ^ s.bits = ap (λ (z : Shape). 2 ^ z.bits) same in let there : 2 ^ u.bits ≡ 2 ^ s.bits = ap (λ (z : Shape). 2 ^ z.bits) last in
    let are = leaves.are in let past = inner.past_leaves in let inside = inner.inside in (omega (arith, twice t.bits, twice u.bits), omega (arith, twice t.bits, twice u.bits))
