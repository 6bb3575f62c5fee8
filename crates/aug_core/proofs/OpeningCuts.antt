-- The first cut of a table is the opening cut.
use Rattle.std.proofs.Common.{true, false, ◌≡◌, ℕ, zero, suc, ◌+◌, ◌*◌, ◌^◌, ◌<◌, ◌≤◌, Bool, le-ltb, if◌then◌else◌, List, [], ◌∷◌, ◌++◌, get_or, map, sym, refl, ap, ◌∙◌, arith}
use Rattle.std.specs.List.{range_with_len}
use Rattle.std.proofs.lemmas.List.{map-append}
use Rattle.std.proofs.Math.Nat.{pow-le-pow_right}
use Rattle.aug_core.specs.Addresses.{IsInner, left_of, right_of, root_place}
use Rattle.aug_core.specs.inside.WordPlaces.{IsWord}
use Rattle.aug_core.specs.Opening.{Opening, opening_serial, opening_index, opening_entry, opening_book, serial_entry}
use Rattle.aug_core.specs.declared.view.Entry.{Entry}
use Rattle.aug_core.proofs.Sizes.{twice}
use Rattle.aug_core.proofs.Openings.{index_of_leaf, inner_history, newest_of, newest_entry}
use Rattle.aug_model.specs.Keys.{is_member, keys_of}
use Rattle.aug_model.specs.Queries.{weight_in}
use Rattle.aug_core.specs.Book.{history_of}
use Rattle.aug_core.specs.Cuts.{opening_cut}
use Rattle.aug_core.specs.inside.EntryCuts.{entry_of, cut_under}
use Rattle.aug_core.proofs.CutLists.{read, range_split}
use Rattle.aug_core.proofs.Levels.{root_word, inner_word, left_word, right_word, leaf_word}
use Rattle.aug_core.proofs.CutsUnder.{halves}

module _ (face : ℕ → ℕ → List (ℕ × ℕ) → List ℕ) (o : Opening) where
  abbrev serial_at_first : ℕ → ℕ × ℕ
  serial_at_first key = if is_member (keys_of o.members) key then (1, weight_in o.members key) else (0, 0)

  first_of : (b : Bool) (q : ℕ) → ◌≡◌ {A = ℕ × ℕ} ((if b then 1 else 0), (newest_of face o b q).weight) (if b then (1, weight_in o.members q) else (0, 0))
  first_of true q = refl
  first_of false q = refl

  -- the opening entry of a leaf shows its serial and its weight
  leaf_first : (q : ℕ) → q < 2 ^ o.shape.bits → ◌≡◌ {A = ℕ × ℕ} (opening_index o q, (entry_of (opening_book face o) q (opening_index o q)).weight) (serial_at_first q)
  leaf_first q low = let e = newest_entry face o q low in (λ i. (index_of_leaf o q low i, (read (history_of (opening_book face o) q) (opening_index o q) (serial_entry 0 0 0) (newest_of face o (is_member (keys_of o.members) q) q) e i).weight)) ∙ first_of (is_member (keys_of o.members) q) q

  pub index_inner : (q : ℕ) → IsInner o.shape q → opening_index o q ≡ 0
  index_inner q inner = ap (λ (z : Bool). if z then opening_serial o.members q else 0) (le-ltb q (2 ^ o.shape.bits) inner.past_leaves)

  pub first_entry : (q : ℕ) → IsInner o.shape q → entry_of (opening_book face o) q 0 ≡ opening_entry face o q
  first_entry q inner = ap (λ (z : List Entry). get_or z 0 (serial_entry 0 0 0)) (inner_history face o q inner)

  opening_under : (level place q : ℕ) → IsWord o.shape level place q → cut_under o.shape (opening_book face o) level q (opening_index o q) ≡ map serial_at_first (range_with_len (place * 2 ^ level) (2 ^ level))
  opening_under zero place q w = let l = leaf_word o.shape place q w in let one : q ≡ place * 2 ^ zero = let l0 = l.0 in omega arith in
      ap (λ (z : ℕ × ℕ). z ∷ []) (leaf_first q l.1 ∙ ap serial_at_first one)
  opening_under (suc level) place q w = let inner = inner_word o.shape level place q w in let e : Entry = opening_entry face o q in let t = halves level place in
      let is : entry_of (opening_book face o) q (opening_index o q) ≡ e = ap (entry_of (opening_book face o) q) (index_inner q inner) ∙ first_entry q inner in
      let l = opening_under level (2 * place) (left_of o.shape q) (left_word o.shape level place q w) ∙ ap (λ (z : ℕ). map serial_at_first (range_with_len z (2 ^ level))) t.0 in
      let r = opening_under level (2 * place + 1) (right_of o.shape q) (right_word o.shape level place q w) ∙ ap (λ (z : ℕ). map serial_at_first (range_with_len z (2 ^ level))) t.1 in
      let a : ℕ = place * 2 ^ suc level in let n : ℕ = 2 ^ level in
      ap (λ (z : Entry). cut_under o.shape (opening_book face o) level (left_of o.shape q) z.left ++ cut_under o.shape (opening_book face o) level (right_of o.shape q) z.right) is
      ∙ (λ k. l k ++ r k) ∙ sym (map-append serial_at_first (range_with_len a n) (range_with_len (a + n) n)) ∙ ap (map serial_at_first) (sym (range_split n n a (a + n) refl))
      ∙ ap (λ (z : ℕ). map serial_at_first (range_with_len a z)) (sym t.2)

  -- the root is a node where there is a bit
  pub root_inner : 1 ≤ o.shape.bits → IsInner o.shape (root_place o.shape)
  root_inner some = let p : 2 ^ 1 ≤ 2 ^ o.shape.bits = pow-le-pow_right (omega arith) some in let t = twice o.shape.bits in record { past_leaves = omega arith; inside = omega arith }

  pub opening_first : 1 ≤ o.shape.bits → cut_under o.shape (opening_book face o) o.shape.bits (root_place o.shape) 0 ≡ opening_cut o.shape.bits o.members
  opening_first some = ap (cut_under o.shape (opening_book face o) o.shape.bits (root_place o.shape)) (sym (index_inner (root_place o.shape) (root_inner some)))
      ∙ opening_under o.shape.bits 0 (root_place o.shape) (root_word o.shape) ∙ (let z : 0 * 2 ^ o.shape.bits ≡ 0 = omega arith in ap (λ (x : ℕ). map serial_at_first (range_with_len x (2 ^ o.shape.bits))) z)
