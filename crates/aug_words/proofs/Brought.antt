-- What the calls that lay a part out hand on to each other, over plain values.

use Rattle.std.proofs.Common.{◌≡◌, ℕ, ◌+◌, ◌-◌, ◌*◌, ◌^◌, ◌<◌, ◌≤◌, List, [], ◌∷◌, length, get_or, set, ap, sym, ◌∙◌, subst}
use Rattle.std.proofs.Common.{arith}
use Rattle.aug_core.specs.Addresses.{IsInner, place_count}
use Rattle.aug_core.specs.Places.{Shape, lane_place, record_start, word_count}
use Rattle.aug_core.specs.Lanes.{word_of_state}
use Rattle.aug_core.specs.declared.view.LaneState.TheVariants.{Free}
use Rattle.aug_core.proofs.Sizes.{twice}
use Rattle.aug_words.specs.inside.Builds.{WritesFive}
use Rattle.aug_core.specs.inside.OwnNumbers.{own_number}
use Rattle.aug_words.specs.inside.Laying.{FreesLanes, NamesEntry, LaysNode, next_record, next_word}
use Rattle.aug_words.proofs.Lays.{frees_more}
use Rattle.aug_core.specs.Effects.{KnowsBook}
use Rattle.aug_core.specs.declared.view.SeatView.{SeatView}
use Rattle.aug_core.proofs.Books.{plainly_named}

-- a node's own record and then its word are stored as the code computes them
pub lays_node : (s : Shape) (q start leaves number x y : ℕ) (five old mid new : List ℕ) → leaves ≡ 2 ^ s.bits
    → x ≡ next_word s (2 * (q - leaves)) (get_or five 0 0) → y ≡ next_word s (2 * (q - leaves) + 1) (get_or five 1 0)
    → start ≡ record_start s (own_number s q) → number ≡ own_number s q
    → WritesFive old mid start (x ∷ y ∷ get_or five 2 0 ∷ get_or five 3 0 ∷ get_or five 4 0 ∷ []) → new ≡ set mid q number
    → LaysNode s q (next_record s q five) old new
lays_node s q start leaves number x y five old mid new many left right at own writes is =
    let x_is = left ∙ ap (λ (z : ℕ). next_word s (2 * (q - z)) (get_or five 0 0)) many in let y_is = right
    ∙ ap (λ (z : ℕ). next_word s (2 * (q - z) + 1) (get_or five 1 0)) many in record {
      mid = mid;
      writes = subst (λ (z : ℕ × ℕ × ℕ). WritesFive old mid z.0 (z.1 ∷ z.2 ∷ get_or five 2 0 ∷ get_or five 3 0 ∷ get_or five 4 0 ∷ [])) (λ i. (
        at i,
        x_is i,
        y_is i,
      )) writes;
      is = is ∙ ap (set mid q) own;
    }

-- what is no leaf is an inner node
pub inner_by : (s : Shape) (q leaves : ℕ) → leaves ≡ 2 ^ s.bits → leaves ≤ q → q < place_count s → IsInner s q
inner_by s q leaves many past inside = record { past_leaves = omega (arith, many, past); inside = inside }

-- in a round the word of a node is its record's number
pub numbered_in : (f : ℕ → ℕ → List (ℕ × ℕ) → List ℕ) (s : Shape) (v : SeatView) (q word : ℕ) → v.shape ≡ s → v.shape.reservations ≡ 0 → KnowsBook f v → IsInner s q → (n : NamesEntry v.seen q word) → n.entry.number ≡ word
numbered_in f s v q word shaped off kn inner n = sym (plainly_named f v.shape v.seen kn.book off q n.index n.entry (subst (λ (z : Shape). IsInner z q) (sym shaped) inner) n.at) ∙ n.named

-- and there is a note of it
pub slot_in : (s : Shape) (q leaves n : ℕ) → leaves ≡ 2 ^ s.bits → leaves ≤ q → q < place_count s → n ≡ 2 ^ s.bits → q - leaves < n
slot_in s q leaves n many past inside long = let t = twice s.bits in omega (arith, many, past, inside, long, t)

-- ---- loops

pub goes_on : (a b n : ℕ) → a < b → b ≡ n → a + 1 ≤ n
goes_on a b n low is = omega (arith, low, is)

-- one more lane is freed, by a store as the code computes its place
pub lane_freed : (s : Shape) (lane last lanes : ℕ) (v u w : List ℕ) → lane < last → last ≡ s.workers → lanes ≡ lane_place s 0 → length u ≡ word_count s
    → FreesLanes s lane v u → w ≡ set u (lanes + lane) (word_of_state Free) → FreesLanes s (lane + 1) v w
lane_freed s lane last lanes v u w low all begins long f is = let at : lanes + lane ≡ lane_place s lane = omega (arith, begins) in
    frees_more s lane v u w f (is ∙ ap (λ (z : ℕ). set u z (word_of_state Free)) at) (omega (arith, low, all, long))

-- ---- seats that were split off
