-- One try as a whole: what was loaded is what the five words say.
use Rattle.std.proofs.Common.{◌≡◌, ℕ, zero, suc, ◌+◌, ◌-◌, ◌*◌, ◌^◌, ◌<◌, ◌≤◌, Bool, false, ltb, lt-ltb, le-ltb, if◌then◌else◌, List, [], ◌∷◌, ◌++◌, get_or, sym, refl, ap, ◌∙◌, subst, ⊎_elim, arith}
use Rattle.std.proofs.lemmas.Bool.{cases_lt}
use Rattle.std.proofs.Math.Nat.{two-pow-succ}
use Rattle.aug_monoid.specs.Parts.{Parts}
use Rattle.aug_monoid.specs.inside.Laws.{IsMonoid}
use Rattle.aug_core.specs.Places.{Shape}
use Rattle.aug_core.specs.Addresses.{place_count, IsInner, left_of, right_of}
use Rattle.aug_core.specs.Faces.{face}
use Rattle.aug_core.specs.Book.{At, ArePrefixes, IsBook}
use Rattle.aug_core.specs.inside.Refreshes.{HasEntry, HasNewest, SaysLoaded, Published}
use Rattle.aug_core.specs.Effects.{Covers, LoadsLeaf, LoadsNode, MayStore, KnowsBook}
use Rattle.aug_core.specs.declared.view.Entry.{Entry}
use Rattle.aug_core.specs.declared.view.SeatView.{SeatView}
use Rattle.aug_core.proofs.Sizes.{twice}
use Rattle.aug_core.proofs.EntryKeys.{are_small}
use Rattle.aug_core.proofs.Refreshing.{is_loaded, refreshed, has_entry}
use Rattle.aug_trie.specs.inside.Goes.{HasLeaves, HasRoom, Goes, Took, Tries, IsPartOf, part_steps, publish_steps, try_steps}
use Rattle.aug_trie.specs.inside.Points.{TryOver}
use Rattle.aug_trie.proofs.Going.{took_on, room_on, goes_on}
use Rattle.aug_trie.proofs.Telling.{held_plainly, words_are}
use Rattle.aug_core.proofs.PrefixLemmas.{book_trans, entry_stays}

book_at : (f : ℕ → ℕ → List (ℕ × ℕ) → List ℕ) (s : Shape) (w : SeatView) → w.shape ≡ s → KnowsBook f w → IsBook f s w.seen
book_at f s w shaped kn = subst (λ (z : Shape). IsBook f z w.seen) shaped kn.book

-- what a load of a leaf shows
pub leaf_loaded : (f : ℕ → ℕ → List (ℕ × ℕ) → List ℕ) (v w : SeatView) (key r : ℕ) → key < 2 ^ v.shape.bits → LoadsLeaf f v key r w → HasNewest w.seen key r
leaf_loaded f v w key r low l = record { index = l.index; entry = l.entry; newest = l.newest; named = sym l.found; shown = l.shown }

-- and one of a node
pub node_loaded : (f : ℕ → ℕ → List (ℕ × ℕ) → List ℕ) (v w : SeatView) (q r : ℕ) → LoadsNode f v q r w → HasNewest w.seen q r
node_loaded f v w q r l = record { index = l.index; entry = l.entry; newest = l.newest; named = sym l.found; shown = l.shown }

module _ {A B : Type 0} (parts_a : Parts A) (parts_b : Parts B) where
  abbrev both : ℕ → ℕ → List (ℕ × ℕ) → List ℕ
  both = face parts_a parts_b

  -- a part counts few keys
  pub part_few : (s : Shape) (w : SeatView) (place word number m : ℕ) (x : A) (y : B) → w.shape ≡ s → 2 ^ s.bits ≤ 65536 → place < place_count s → KnowsBook both w
      → (there : HasEntry w.seen place word) → (IsInner w.shape place → Covers w place there.index there.entry × (there.entry.number ≡ number)) → IsPartOf parts_a parts_b w place word number m x y → m ≤ 65536
  part_few s w place word number m x y shaped few inside kn there held part = let e = (part.of there.index there.entry there.at there.named held).count_is in
      let t = (are_small both s w.seen (book_at both s w shaped kn) few place there.index there.entry inside there.at).few in omega arith

  module _ (laws_a : IsMonoid parts_a) (laws_b : IsMonoid parts_b) where
    -- the words of a record over two entries of a node's children, whose parts were loaded
    pub five_over : (s : Shape) (w2 w3 : SeatView) (q i j ln rn number other m k : ℕ) (l r : Entry) (x x' : A) (y y' : B) (xa xb : ℕ) → IsInner s q → 2 ^ s.bits ≤ 65536 → w2.shape ≡ s → w3.shape ≡ s → KnowsBook both w2 → KnowsBook both w3
        → At w2.seen (left_of s q) i l → At w3.seen (right_of s q) j r → l.word ≡ ln → r.word ≡ rn
        → (IsInner w2.shape (left_of s q) → Covers w2 (left_of s q) i l × (l.number ≡ number)) → (IsInner w3.shape (right_of s q) → Covers w3 (right_of s q) j r × (r.number ≡ other))
        → IsPartOf parts_a parts_b w2 (left_of s q) ln number m x y → IsPartOf parts_a parts_b w3 (right_of s q) rn other k x' y'
        → xa ≡ parts_a.to_word (parts_a.join x x') → xb ≡ parts_b.to_word (parts_b.join y y') → ln ∷ rn ∷ (m + k) ∷ xa ∷ xb ∷ [] ≡ both ln rn (l.pairs ++ r.pairs)
    five_over s w2 w3 q i j ln rn number other m k l r x x' y y' xa xb inner few s2 s3 kn2 kn3 l_at r_at l_named r_named held_l held_r part_l part_r ea eb =
        let past = inner.past_leaves in let inside = inner.inside in let t = twice s.bits in
        let small_l = (are_small both s w2.seen (book_at both s w2 s2 kn2) few (left_of s q) i l (omega arith) l_at).small in
        let small_r = (are_small both s w3.seen (book_at both s w3 s3 kn3) few (right_of s q) j r (omega arith) r_at).small in
        (λ n. ln ∷ rn ∷ (m + k) ∷ ea n ∷ eb n ∷ []) ∙ words_are parts_a parts_b laws_a laws_b ln rn m k x x' y y' l.pairs r.pairs small_l small_r (part_l.of i l l_at l_named held_l) (part_r.of j r r_at r_named held_r)

    -- in a round: the views after the loads of a node, of its left and of its right child, and after the loads of their parts
    pub says : (v w0 w1 w2 w3 w4 : SeatView) (q old ln rn m k : ℕ) (x x' : A) (y y' : B) (xa xb : ℕ) → v.shape.reservations ≡ 0 → IsInner v.shape q → 2 ^ v.shape.bits ≤ 65536
        → Goes both 0 [] v w0 → Goes both 0 [] w0 w1 → Goes both 0 [] w1 w2 → Goes both 0 [] w2 w3 → Goes both 0 [] w3 w4
        → HasNewest w0.seen q old → HasNewest w1.seen (left_of v.shape q) ln → HasNewest w2.seen (right_of v.shape q) rn
        → IsPartOf parts_a parts_b w2 (left_of v.shape q) ln ln m x y → IsPartOf parts_a parts_b w3 (right_of v.shape q) rn rn k x' y'
        → xa ≡ parts_a.to_word (parts_a.join x x') → xb ≡ parts_b.to_word (parts_b.join y y') → SaysLoaded both w4.shape w4.seen q old (ln ∷ rn ∷ (m + k) ∷ xa ∷ xb ∷ [])
    says v w0 w1 w2 w3 w4 q old ln rn m k x x' y y' xa xb off inner few g0 g1 g2 g3 g4 at_node at_left at_right part_l part_r ea eb =
        let s : Shape = v.shape in let s0 = g0.shaped in let s2 = g2.shaped ∙ g1.shaped ∙ s0 in let s3 = g3.shaped ∙ s2 in let s4 = g4.shaped ∙ s3 in
        let l_at : At w2.seen (left_of s q) at_left.index at_left.entry = entry_stays g2.later (left_of s q) at_left.index at_left.entry at_left.newest.at in
        let r_at : At w3.seen (right_of s q) at_right.index at_right.entry = entry_stays g3.later (right_of s q) at_right.index at_right.entry at_right.newest.at in
        subst (λ (z : Shape). SaysLoaded both z w4.seen q old (ln ∷ rn ∷ (m + k) ∷ xa ∷ xb ∷ [])) (sym s4) record {
          is_loaded = is_loaded both s w0.seen w1.seen w2.seen w4.seen q old ln rn inner g1.later g2.later (book_trans g3.later g4.later) at_node at_left at_right (book_at both s w0 s0 g0.knows_table);
          left_named = at_left.named;
          right_named = at_right.named;
          five_are = five_over s w2 w3 q at_left.index at_right.index ln rn ln rn m k at_left.entry at_right.entry x x' y y' xa xb inner few s2 s3 g2.knows_table g3.knows_table l_at r_at at_left.named at_right.named
              (held_plainly both w2 (left_of s q) at_left.index ln at_left.entry (ap (λ (z : Shape). z.reservations) s2 ∙ off) g2.knows_table l_at at_left.named)
              (held_plainly both w3 (right_of s q) at_right.index rn at_right.entry (ap (λ (z : Shape). z.reservations) s3 ∙ off) g3.knows_table r_at at_right.named) part_l part_r ea eb;
        }

-- what the try left
pub tries : (f : ℕ → ℕ → List (ℕ × ℕ) → List ℕ) (v w0 w1 w2 w4 w : SeatView) (q old ln rn number : ℕ) (done : Bool) → IsInner v.shape q → w4.shape ≡ v.shape → ArePrefixes v.seen w0.seen → ArePrefixes w0.seen w1.seen → ArePrefixes w1.seen w2.seen → ArePrefixes w2.seen w.seen
    → HasNewest w0.seen q old → HasNewest w1.seen (left_of v.shape q) ln → HasNewest w2.seen (right_of v.shape q) rn → Published w4.shape q old ln rn done w.seen → (done ≡ false → MayStore w number) → Tries v q number done w
tries f v w0 w1 w2 w4 w q old ln rn number done inner shaped4 c0 c01 c12 c23 at_node at_left at_right p again = record {
  refreshed = refreshed f v.shape w0.seen w1.seen w2.seen w.seen q old ln rn inner c01 c12 c23 at_node at_left at_right v.seen done c0 (subst (λ (z : Shape). Published z q old ln rn done w.seen) shaped4 p);
  again = λ bad _. again bad;
}

-- the number of leaves is even, where there is a node
pub even : (b n : ℕ) → 2 * n < 2 ^ b → n + 1 < 2 ^ b → 2 * n + 1 < 2 ^ b
even zero n low few = omega arith
even (suc b) n low few = let t = two-pow-succ b in omega arith

-- the children of a node are both leaves or both nodes
pub same_steps : (s : Shape) (q : ℕ) → IsInner s q → (if ltb (right_of s q) (2 ^ s.bits) then 0 else 3) ≡ part_steps s (left_of s q)
same_steps s q inner = let past = inner.past_leaves in ⊎_elim
    (λ (low : left_of s q < 2 ^ s.bits). ap (λ (z : Bool). if z then 0 else 3) (lt-ltb (right_of s q) (2 ^ s.bits) (right_low low) ∙ sym (lt-ltb (left_of s q) (2 ^ s.bits) low)))
    (λ (high : 2 ^ s.bits ≤ left_of s q). ap (λ (z : Bool). if z then 0 else 3) (le-ltb (right_of s q) (2 ^ s.bits) (omega arith) ∙ sym (le-ltb (left_of s q) (2 ^ s.bits) high))) (cases_lt (left_of s q) (2 ^ s.bits))
  where
    right_low : left_of s q < 2 ^ s.bits → right_of s q < 2 ^ s.bits
    right_low low = even s.bits (q - 2 ^ s.bits) low (let i = inner.inside in let t = twice s.bits in omega arith)

pub took_refresh : (s : Shape) (q : ℕ) (v w0 w1 w2 w3 w4 w : SeatView) → IsInner s q → w2.shape ≡ s → w3.shape ≡ s → Took v w0 1 → Took w0 w1 1 → Took w1 w2 1 → Took w2 w3 (part_steps w2.shape (left_of s q)) → Took w3 w4 (part_steps w3.shape (right_of s q)) → Took w4 w publish_steps
    → Took v w (try_steps (part_steps s (left_of s q)))
took_refresh s q v w0 w1 w2 w3 w4 w inner s2 s3 t0 t1 t2 t3 t4 t5 = let n : ℕ = part_steps s (left_of s q) in
    let t3' : Took w2 w3 n = subst (λ (z : Shape). Took w2 w3 (part_steps z (left_of s q))) s2 t3 in
    let t4' : Took w3 w4 n = subst (Took w3 w4) (same_steps s q inner) (subst (λ (z : Shape). Took w3 w4 (part_steps z (right_of s q))) s3 t4) in
    let a = took_on v w0 w1 1 1 2 (omega arith) t0 t1 in let b = took_on v w1 w2 2 1 3 (omega arith) a t2 in let c = took_on v w2 w3 3 n (3 + n) (omega arith) b t3' in
    let d = took_on v w3 w4 (3 + n) n (3 + 2 * n) (omega arith) c t4' in took_on v w4 w (3 + 2 * n) publish_steps (try_steps n) (omega arith) d t5

module _ {A B : Type 0} (parts_a : Parts A) (parts_b : Parts B) where
  abbrev f : ℕ → ℕ → List (ℕ × ℕ) → List ℕ
  f = face parts_a parts_b

  -- what was loaded at a node before the view `w`: the record `number` may be filled with it, and then published, which ends a try that began at `v`
  pub record TryLoaded (v w : SeatView) (q number old left right m k : ℕ) (rest : List ℕ) : Type 0 where
    pub room : HasRoom w number 1
    pub few : m + k < 2 ^ 64
    pub loaded : (five : List ℕ) → five ≡ left ∷ right ∷ (m + k) ∷ rest → SaysLoaded f w.shape w.seen q old five
    pub over : (w' : SeatView) (done : Bool) (five : List ℕ) → five ≡ left ∷ right ∷ (m + k) ∷ rest → Goes f (number + 1) [] w w' → Took w w' publish_steps → Published w.shape q old (get_or five 0 0) (get_or five 1 0) done w'.seen → (done ≡ false → MayStore w' number)
        → TryOver f v q number done w'

  -- so it is after the loads of the words of a node and of its two children, and those of the children's parts
  pub try_loaded : {v w0 w1 w2 w3 w4 : SeatView} {leaves q number old left right m k : ℕ} {x x' : A} {y y' : B} → IsMonoid parts_a → IsMonoid parts_b → HasLeaves v.shape leaves → IsInner v.shape q → HasRoom v number 1
      → Goes f 0 [] v w0 → Took v w0 1 → HasNewest w0.seen q old → Goes f 0 [] w0 w1 → Took w0 w1 1 → HasNewest w1.seen (2 * (q - leaves)) left → Goes f 0 [] w1 w2 → Took w1 w2 1 → HasNewest w2.seen (2 * (q - leaves) + 1) right
      → Goes f 0 [] w2 w3 → Took w2 w3 (part_steps w2.shape (2 * (q - leaves))) → IsPartOf parts_a parts_b w2 (2 * (q - leaves)) left left m x y
      → Goes f 0 [] w3 w4 → Took w3 w4 (part_steps w3.shape (2 * (q - leaves) + 1)) → IsPartOf parts_a parts_b w3 (2 * (q - leaves) + 1) right right k x' y' → TryLoaded v w4 q number old left right m k (parts_a.to_word (parts_a.join x x') ∷ parts_b.to_word (parts_b.join y y') ∷ [])
  try_loaded {v} {w0} {w1} {w2} {w3} {w4} {leaves} {q} {number} {old} {left} {right} {m} {k} {x} {x'} {y} {y'} laws_a laws_b table inner room g0 t0 at_node g1 t1 at_l g2 t2 at_r g3 t3 part_l g4 t4 part_r =
      let s : Shape = v.shape in let past = inner.past_leaves in let inside = inner.inside in let are = table.are in let few = table.few in let t = twice s.bits in
      let el : 2 * (q - leaves) ≡ left_of s q = omega arith in let er : 2 * (q - leaves) + 1 ≡ right_of s q = omega arith in
      let s2 = g2.shaped ∙ g1.shaped ∙ g0.shaped in let s3 = g3.shaped ∙ s2 in let s4 = g4.shaped ∙ s3 in
      let at_left = subst (λ (z : ℕ). HasNewest w1.seen z left) el at_l in let at_right = subst (λ (z : ℕ). HasNewest w2.seen z right) er at_r in
      let part_left = subst (λ (z : ℕ). IsPartOf parts_a parts_b w2 z left left m x y) el part_l in let part_right = subst (λ (z : ℕ). IsPartOf parts_a parts_b w3 z right right k x' y') er part_r in
      let off = room.keeps_records in let off2 = ap (λ (z : Shape). z.reservations) s2 ∙ off in let off3 = ap (λ (z : Shape). z.reservations) s3 ∙ off in
      let e_l = has_entry f s w2.seen w1.seen (left_of s q) left g2.later at_left in let e_r = has_entry f s w3.seen w2.seen (right_of s q) right g3.later at_right in
      let few_left = part_few parts_a parts_b s w2 (left_of s q) left left m x y s2 (omega arith) (omega arith) g2.knows_table e_l (held_plainly f w2 (left_of s q) e_l.index left e_l.entry off2 g2.knows_table e_l.at e_l.named) part_left in
      let few_right = part_few parts_a parts_b s w3 (right_of s q) right right k x' y' s3 (omega arith) (omega arith) g3.knows_table e_r (held_plainly f w3 (right_of s q) e_r.index right e_r.entry off3 g3.knows_table e_r.at e_r.named) part_right in
      let h1 = goes_on f 0 0 0 [] v w0 w1 (omega arith) (omega arith) g0 g1 in let h2 = goes_on f 0 0 0 [] v w1 w2 (omega arith) (omega arith) h1 g2 in
      let h3 = goes_on f 0 0 0 [] v w2 w3 (omega arith) (omega arith) h2 g3 in let h4 = goes_on f 0 0 0 [] v w3 w4 (omega arith) (omega arith) h3 g4 in record {
        room = room_on f [] v w4 number 1 h4 room;
        few = omega arith;
        loaded = λ five is. subst (SaysLoaded f w4.shape w4.seen q old) (sym is)
            (says parts_a parts_b laws_a laws_b v w0 w1 w2 w3 w4 q old left right m k x x' y y' _ _ off inner (omega arith) g0 g1 g2 g3 g4 at_node at_left at_right part_left part_right refl refl);
        over = λ w done five is g took p again. record {
          goes = goes_on f 0 (number + 1) (number + 1) [] v w4 w (omega arith) (omega arith) h4 g;
          took = took_refresh s q v w0 w1 w2 w3 w4 w inner s2 s3 t0 t1 t2 (subst (λ (z : ℕ). Took w2 w3 (part_steps w2.shape z)) el t3) (subst (λ (z : ℕ). Took w3 w4 (part_steps w3.shape z)) er t4) took;
          tries = tries f v w0 w1 w2 w4 w q old left right number done inner s4 g0.later g1.later g2.later (book_trans g3.later (book_trans g4.later g.later)) at_node at_left at_right
              (subst (λ (z : List ℕ). Published w4.shape q old (get_or z 0 0) (get_or z 1 0) done w.seen) is p) again;
        };
      }
