-- What the words of a node's record show of its tree, and what loads of them leave as it was.
use Rattle.std.proofs.Common.{inl, ◌≡◌, ℕ, suc, ◌+◌, ◌-◌, ◌*◌, ◌^◌, ◌≤◌, List, [], ◌++◌, length, sym, refl, ap, ◌∙◌, subst, arith}
use Rattle.std.proofs.lemmas.List.{append-nil}
use Rattle.aug_monoid.specs.Parts.{Parts}
use Rattle.aug_monoid.specs.inside.Laws.{IsMonoid}
use Rattle.aug_model.specs.Folds.{summary_of}
use Rattle.aug_model.specs.Queries.{range_of, weight_in}
use Rattle.aug_model.specs.declared.summary.Summary.{Summary}
use Rattle.aug_core.specs.Faces.{face}
use Rattle.aug_core.specs.Cuts.{Cut, set_of_cut, pairs_of_cut}
use Rattle.aug_core.specs.Counts.{changes_of}
use Rattle.aug_core.specs.Effects.{GuardsRecord, Says, KnowsBook}
use Rattle.aug_core.specs.declared.view.SeatView.{SeatView}
use Rattle.aug_core.proofs.Books.{fresh_now, plainly_named}
use Rattle.aug_core.proofs.Fits.{book_as}
use Rattle.aug_core.proofs.PlaceLemmas.{keys-within}
use Rattle.aug_trie.specs.LeafWords.{weight_in_word}
use Rattle.aug_trie.specs.inside.LeafPairs.{leaf_pairs}
use Rattle.aug_trie.specs.inside.NodeWords.{HoldsNodeAt, IsNodeAt}
use Rattle.aug_trie.specs.inside.Goes.{Goes, KnowsRecords, Looks, ReadsBelow}
use Rattle.aug_trie.specs.TreeOf.{IsTreeOf}
use Rattle.aug_trie.proofs.Walking.{node_guarded, left_node, right_node, node_told, count_few, count_told, leaf_told, leaf_weight}
use Rattle.aug_core.proofs.PrefixLemmas.{book_refl}
use Rattle.aug_core.proofs.Clients.{may_store_same}

-- a view that made steps and learnt nothing
pub goes_looking : (f : ℕ → ℕ → List (ℕ × ℕ) → List ℕ) (most : ℕ) (v w : SeatView) → Looks most v w → KnowsBook f v → Goes f 0 [] v w
goes_looking f most v w l kn = subst (Goes f 0 [] v) (sym l.is) record {
  later = book_refl v.seen;
  fresh = fresh_now v.shape v.seen;
  knows_table = book_as f v refl refl refl kn;
  shaped = refl;
  same_members = refl;
  same_eras = refl;
  lane = refl;
  changes = sym (append-nil (changes_of v.held));
  holds = λ one. one;
  still_owned = λ n _ may. may_store_same v (record v { steps = v.steps ++ l.more }) n refl refl may;
}

module _ {A B : Type 0} (parts_a : Parts A) (parts_b : Parts B) (v : SeatView) (kn : KnowsBook (face parts_a parts_b) v) (cut : Cut) (level place word : ℕ) (t : IsNodeAt v.shape v.seen cut level place word) where
  -- what a leaf's word tells
  pub leaf_tells : (told : Summary A B) → level ≡ 0 → told ≡ summary_of parts_a parts_b (leaf_pairs place word) → IsTreeOf (summary_of parts_a parts_b) v.shape.bits cut level place told
  leaf_tells told low is = subst (λ (z : ℕ). IsTreeOf (summary_of parts_a parts_b) v.shape.bits cut z place told) (sym low)
      (leaf_told parts_a parts_b v kn.book cut place word (subst (λ (z : ℕ). IsNodeAt v.shape v.seen cut z place word) low t) told is)

  -- and what its key weighs
  pub leaf_weighs : level ≡ 0 → weight_in_word word ≡ weight_in (pairs_of_cut cut) place
  leaf_weighs low = leaf_weight parts_a parts_b v kn.book cut place word (subst (λ (z : ℕ). IsNodeAt v.shape v.seen cut z place word) low t)

-- what the record of an inner node tells, if the view may read it
module _ {A B : Type 0} (parts_a : Parts A) (parts_b : Parts B) (number : ℕ → ℕ) (v : SeatView) (reads : ReadsBelow (face parts_a parts_b) number v) (cut : Cut) (level place word : ℕ) (h : HoldsNodeAt v cut level place word) (inner : 1 ≤ level) where
  one_up : level ≡ suc (level - 1)
  one_up = omega arith

  below : HoldsNodeAt v cut (suc (level - 1)) place word
  below = subst (λ (z : ℕ). HoldsNodeAt v cut z place word) one_up h

  few_keys : 2 ^ v.shape.bits ≤ 65536
  few_keys = let kn = reads.knows_table in (keys-within v.shape.bits kn.laid_out.bits.0 kn.laid_out.bits.1).1

  pub record_guarded : GuardsRecord v (number word)
  record_guarded = node_guarded parts_a parts_b v reads.knows_table.book cut number reads (level - 1) place word below

  pub left_is : (r : ℕ) → Says v (number word) 0 r → HoldsNodeAt v cut (level - 1) (2 * place) r
  left_is = left_node parts_a parts_b v reads.knows_table.book cut number reads (level - 1) place word below

  pub right_is : (r : ℕ) → Says v (number word) 1 r → HoldsNodeAt v cut (level - 1) (2 * place + 1) r
  right_is = right_node parts_a parts_b v reads.knows_table.book cut number reads (level - 1) place word below

  pub count_fits : (n : ℕ) → Says v (number word) 2 n → n ≤ 65536
  count_fits n = count_few parts_a parts_b v reads.knows_table.book cut number reads (level - 1) place word below n few_keys

  -- and it is that of the cut's keys that it covers
  pub count_is : (n : ℕ) → Says v (number word) 2 n → n ≡ length (range_of (set_of_cut cut) (place * 2 ^ level) ((place + 1) * 2 ^ level))
  count_is n says = count_told parts_a parts_b v reads.knows_table.book cut number reads (level - 1) place word below n says ∙ ap (λ (z : ℕ). length (range_of (set_of_cut cut) (place * 2 ^ z) ((place + 1) * 2 ^ z))) (sym one_up)

  pub record_tells : (n x y : ℕ) → IsMonoid parts_a → IsMonoid parts_b → Says v (number word) 2 n → Says v (number word) 3 x → Says v (number word) 4 y
      → IsTreeOf (summary_of parts_a parts_b) v.shape.bits cut level place (record { count = n; a = parts_a.from_word x; b = parts_b.from_word y })
  record_tells n x y laws_a laws_b says_n says_x says_y = subst (λ (z : ℕ). IsTreeOf (summary_of parts_a parts_b) v.shape.bits cut z place (record { count = n; a = parts_a.from_word x; b = parts_b.from_word y })) (sym one_up)
      (node_told parts_a parts_b v reads.knows_table.book cut number reads (level - 1) place word below n x y few_keys laws_a laws_b says_n says_x says_y)

-- where no record is used again, each that was seen may be read, and what names it is its number
pub reads_plainly : (f : ℕ → ℕ → List (ℕ × ℕ) → List ℕ) (v : SeatView) → KnowsRecords f v → ReadsBelow f (λ word. word) v
reads_plainly f v kn = record { knows_table = kn.knows_table; closed = inl kn.keeps_records; numbered = λ q i e inner at. plainly_named f v.shape v.seen kn.knows_table.book kn.keeps_records q i e inner at }

abbrev pub holds_plainly : (v : SeatView) → v.shape.reservations ≡ 0 → (cut : Cut) (level place word : ℕ) → IsNodeAt v.shape v.seen cut level place word → HoldsNodeAt v cut level place word
holds_plainly v off cut level place word node = record { node = node; covers = λ _. inl off }
