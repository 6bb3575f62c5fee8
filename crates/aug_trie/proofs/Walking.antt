-- From the root of a cut's tree down.
use Rattle.std.specs.Prelude.{◌⊎◌}
use Rattle.std.proofs.lemmas.Bool.{cases_lt}
use Rattle.std.proofs.Common.{inl, inr, ⊎_elim, ◌≡◌, ℕ, zero, suc, ◌+◌, ◌*◌, ◌%◌, ◌^◌, ◌<◌, ◌≤◌, Bool, eqb, eq-eqb, if◌then◌else◌, Option, Some, None, unwrap_or, List, [], ◌∷◌, length, get_or, sym, refl, ap, ◌∙◌, subst, arith}
use Rattle.aug_monoid.specs.Parts.{Parts}
use Rattle.aug_monoid.specs.inside.Laws.{IsMonoid}
use Rattle.aug_monoid.proofs.FoldLemmas.{of_word-fold_of}
use Rattle.aug_model.specs.Folds.{summary_of}
use Rattle.aug_model.specs.Queries.{range_of, weighted_range_of, weight_in}
use Rattle.aug_model.proofs.Pairs.{range-pairs_of, length-pairs_of}
use Rattle.aug_model.proofs.Changes.{weight_of-range}
use Rattle.aug_model.specs.declared.summary.Summary.{Summary}
use Rattle.aug_core.specs.Addresses.{root_place, left_of, right_of, IsInner}
use Rattle.aug_core.specs.Faces.{face}
use Rattle.aug_core.specs.Book.{At, IsSerial, IsBook, StandsOver}
use Rattle.aug_core.specs.Cuts.{Cut, weight_at, set_of_cut, pairs_of_cut}
use Rattle.aug_core.specs.inside.EntryCuts.{entry_of, IsPartOfCut}
use Rattle.aug_core.specs.inside.RootCuts.{root_cut}
use Rattle.aug_core.specs.Effects.{Covers, GuardsRecord, Says}
use Rattle.aug_core.specs.Records.{Lists, IsClosed, floor_of}
use Rattle.aug_core.specs.declared.view.Entry.{Entry}
use Rattle.aug_core.specs.declared.view.Reserved.{Reserved}
use Rattle.aug_core.specs.declared.view.SeatView.{SeatView}
use Rattle.aug_core.proofs.Books.{at_below}
use Rattle.aug_core.proofs.Levels.{inner_word, leaf_word}
use Rattle.aug_core.proofs.EntryCuts.{entry_at, entry_is, root_part, left_part, right_part, part_words, part_pairs, part_fits}
use Rattle.aug_core.proofs.EntryKeys.{are_small}
use Rattle.aug_core.proofs.FaceLemmas.{left_in, right_in, count_in, a_in, b_in}
use Rattle.aug_trie.specs.LeafWords.{serial_in_word, weight_in_word}
use Rattle.aug_trie.specs.inside.LeafPairs.{leaf_pairs}
use Rattle.aug_trie.specs.inside.NamedCuts.{IsSnapshotOf}
use Rattle.aug_trie.specs.inside.Goes.{ReadsBelow}
use Rattle.aug_trie.specs.inside.NodeWords.{HoldsNodeAt, IsNodeAt}
use Rattle.aug_trie.specs.TreeOf.{IsTreeOf}
use Rattle.aug_trie.proofs.LeafWords.{parity_of_entry, weight_of_entry, pairs_of_serial}

-- an interval has as many pairs as keys
range_long : (cut : Cut) (a b : ℕ) → length (weighted_range_of (pairs_of_cut cut) a b) ≡ length (range_of (set_of_cut cut) a b)
range_long cut a b = ap length (range-pairs_of (weight_at cut) (set_of_cut cut) a b) ∙ length-pairs_of (weight_at cut) (range_of (set_of_cut cut) a b)

-- a serial says how many pairs its leaf has
pub pairs_counted : (key word : ℕ) → length (leaf_pairs key word) ≡ serial_in_word word % 2
pairs_counted key word = counted (serial_in_word word % 2) (omega arith)
  where
    counted : (n : ℕ) → n < 2 → length {A = ℕ × ℕ} (if eqb n 1 then (key, weight_in_word word) ∷ [] else []) ≡ n
    counted zero low = refl
    counted (suc zero) low = refl
    counted (suc (suc n)) low = absurd (let e : suc (suc n) < 2 = low in omega arith)

-- and its weight is that of its pair, where an even one has none
weighs_alone : (key word : ℕ) → (serial_in_word word % 2 ≡ 0 → weight_in_word word ≡ 0) → weight_in_word word ≡ weight_in (leaf_pairs key word) key
weighs_alone key word light = weighs (serial_in_word word % 2) (omega arith) light
  where
    weighs : (n : ℕ) → n < 2 → (n ≡ 0 → weight_in_word word ≡ 0) → weight_in_word word ≡ weight_in (if eqb n 1 then (key, weight_in_word word) ∷ [] else []) key
    weighs zero low none = none refl
    weighs (suc zero) low none = sym (ap (λ (z : Bool). unwrap_or (if z then Some (weight_in_word word) else None) 0) (eq-eqb key key refl))
    weighs (suc (suc n)) low none = absurd (let e : suc (suc n) < 2 = low in omega arith)

module _ {A B : Type 0} (parts_a : Parts A) (parts_b : Parts B) where
  abbrev both : ℕ → ℕ → List (ℕ × ℕ) → List ℕ
  both = face parts_a parts_b

  -- what is covered on the way down: an entry below one that is covered was made no later, and comes no sooner
  covers_on : (number : ℕ → ℕ) (v : SeatView) → ReadsBelow both number v → (q i : ℕ) (e : Entry) → IsInner v.shape q → At v.seen q i e → Covers v q i e → (p j : ℕ) (d : Entry) → (0 < v.shape.reservations → d.birth ≤ e.birth)
      → ((from : ℕ → ℕ) → (from (left_of v.shape q) ≤ e.left) × (from (right_of v.shape q) ≤ e.right) → from p ≤ j) → Covers v p j d
  covers_on number v reads q i e inner at (inl off) p j d born down = inl off
  covers_on number v reads q i e inner at (inr (x, is, made, past)) p j d born down = closed_on reads.closed
    where
      closed_on : (v.shape.reservations ≡ 0) ⊎ ((y : Reserved) → Lists v.reserved y → IsClosed v.shape v.seen (floor_of y)) → Covers v p j d
      closed_on (inl off) = inl off
      closed_on (inr closed) = ⊎_elim (λ (used : 0 < v.shape.reservations). inr (x, is, (let b = born used in omega (arith, b, made)), down (floor_of x) ((closed x is).below q i e inner at past)))
          (λ (none : v.shape.reservations ≤ 0). inl (omega arith)) (cases_lt 0 v.shape.reservations)

  module _ (v : SeatView) (b : IsBook both v.shape v.seen) (cut : Cut) where
    -- the top of a snapshot's tree
    abbrev pub top_node : (number : ℕ) → (t : IsSnapshotOf v.shape v.seen number) → cut ≡ root_cut v.shape v.seen t.index → IsNodeAt v.shape v.seen cut v.shape.bits 0 number
    top_node number t cut_is = record {
      q = root_place v.shape;
      index = t.index;
      part = subst (λ (z : Cut). IsPartOfCut v.shape v.seen z v.shape.bits 0 (root_place v.shape) t.index) (sym cut_is) (root_part both v.shape v.seen b t.index (at_below _ t.index t.entry t.at));
      named = ap (λ (z : Entry). z.word) (entry_is v.seen (root_place v.shape) t.index t.entry t.at) ∙ sym t.named;
    }

    -- whatever is told of a node's keys is told of the cut's tree
    tree_is : (level place word : ℕ) (t : IsNodeAt v.shape v.seen cut level place word) (told : Summary A B) → told ≡ summary_of parts_a parts_b (entry_of v.seen t.q t.index).pairs → IsTreeOf (summary_of parts_a parts_b) v.shape.bits cut level place told
    tree_is level place word t told is = record {
      place_fits = part_fits both v.shape v.seen b cut level place t.q t.index t.part;
      tells = is ∙ ap (summary_of parts_a parts_b) (part_pairs both v.shape v.seen b cut level place t.q t.index t.part);
    }

    module _ (number : ℕ → ℕ) (reads : ReadsBelow both number v) (level place word : ℕ) (h : HoldsNodeAt v cut (suc level) place word) where
      abbrev t : IsNodeAt v.shape v.seen cut (suc level) place word
      t = h.node

      abbrev entry : Entry
      entry = entry_of v.seen t.q t.index

      inner : IsInner v.shape t.q
      inner = inner_word v.shape level place t.q t.part.word

      at : At v.seen t.q t.index entry
      at = entry_at v.seen t.q t.index t.part.there

      numbered : entry.number ≡ number word
      numbered = sym (reads.numbered t.q t.index entry inner at) ∙ ap number t.named

      covered : Covers v t.q t.index entry
      covered = h.covers inner

      over_children : StandsOver both v.shape v.seen t.q entry
      over_children = b.over t.q t.index entry inner at

      -- so are its children, if they are nodes
      pub left_covered : Covers v (left_of v.shape t.q) entry.left (entry_of v.seen (left_of v.shape t.q) entry.left)
      left_covered = covers_on number v reads t.q t.index entry inner at covered (left_of v.shape t.q) entry.left
          (entry_of v.seen (left_of v.shape t.q) entry.left)
          (λ used. subst (λ (z : Entry). z.birth ≤ entry.birth) (sym (entry_is v.seen (left_of v.shape t.q) entry.left over_children.left_child over_children.left_at)) (over_children.left_born used))
          (λ from below. below.0)

      pub right_covered : Covers v (right_of v.shape t.q) entry.right (entry_of v.seen (right_of v.shape t.q) entry.right)
      right_covered = covers_on number v reads t.q t.index entry inner at covered (right_of v.shape t.q) entry.right
          (entry_of v.seen (right_of v.shape t.q) entry.right)
          (λ used. subst (λ (z : Entry). z.birth ≤ entry.birth) (sym (entry_is v.seen (right_of v.shape t.q) entry.right over_children.right_child over_children.right_at)) (over_children.right_born used))
          (λ from below. below.1)

      -- its record may be read
      pub node_guarded : GuardsRecord v (number word)
      node_guarded = record { place = t.q; index = t.index; entry = entry; guards = record { inner = inner; at = at; covers = covered }; numbered = numbered }

      pub read : (field r : ℕ) → Says v (number word) field r → r ≡ get_or entry.words field 0
      read field r says = says t.q t.index entry (record { inner = inner; at = at; covers = covered }) numbered

      words : entry.words ≡ both (entry_of v.seen (left_of v.shape t.q) entry.left).word (entry_of v.seen (right_of v.shape t.q) entry.right).word (weighted_range_of (pairs_of_cut cut) (place * 2 ^ suc level) ((place + 1) * 2 ^ suc level))
      words = part_words both v.shape v.seen b cut level place t.q t.index t.part

      pub over : (field : ℕ) → get_or entry.words field 0 ≡ get_or (both (entry_of v.seen (left_of v.shape t.q) entry.left).word (entry_of v.seen (right_of v.shape t.q) entry.right).word entry.pairs) field 0
      over field = ap (λ (z : List ℕ). get_or z field 0) (words ∙ ap (both (entry_of v.seen (left_of v.shape t.q) entry.left).word (entry_of v.seen (right_of v.shape t.q) entry.right).word) (sym (part_pairs both v.shape v.seen b cut (suc level) place t.q t.index t.part)))

      -- its first word names its left child
      abbrev pub left_node : (r : ℕ) → Says v (number word) 0 r → HoldsNodeAt v cut level (2 * place) r
      left_node r says = record {
        node = record {
          q = left_of v.shape t.q;
          index = entry.left;
          part = left_part both v.shape v.seen b cut level place t.q t.index t.part;
          named = sym (read 0 r says ∙ over 0 ∙ left_in parts_a parts_b _ _ entry.pairs);
        };
        covers = λ _. left_covered;
      }

      -- its second its right child
      abbrev pub right_node : (r : ℕ) → Says v (number word) 1 r → HoldsNodeAt v cut level (2 * place + 1) r
      right_node r says = record {
        node = record {
          q = right_of v.shape t.q;
          index = entry.right;
          part = right_part both v.shape v.seen b cut level place t.q t.index t.part;
          named = sym (read 1 r says ∙ over 1 ∙ right_in parts_a parts_b _ _ entry.pairs);
        };
        covers = λ _. right_covered;
      }

      -- its third says how many keys are below it, which are not many
      pub count_few : (n : ℕ) → 2 ^ v.shape.bits ≤ 65536 → Says v (number word) 2 n → n ≤ 65536
      count_few n few says = let f = (are_small both v.shape v.seen b few t.q t.index entry inner.inside at).few in let count = read 2 n says ∙ over 2 ∙ count_in parts_a parts_b _ _ entry.pairs in omega arith

      -- they are the keys of the cut that it covers
      pub count_told : (n : ℕ) → Says v (number word) 2 n → n ≡ length (range_of (set_of_cut cut) (place * 2 ^ suc level) ((place + 1) * 2 ^ suc level))
      count_told n says = read 2 n says ∙ ap (λ (z : List ℕ). get_or z 2 0) words ∙ count_in parts_a parts_b _ _ (weighted_range_of (pairs_of_cut cut) (place * 2 ^ suc level) ((place + 1) * 2 ^ suc level))
          ∙ range_long cut (place * 2 ^ suc level) ((place + 1) * 2 ^ suc level)

      -- and the others say what is below it
      pub node_told : (n x y : ℕ) → 2 ^ v.shape.bits ≤ 65536 → IsMonoid parts_a → IsMonoid parts_b → Says v (number word) 2 n → Says v (number word) 3 x → Says v (number word) 4 y
          → IsTreeOf (summary_of parts_a parts_b) v.shape.bits cut (suc level) place (record { count = n; a = parts_a.from_word x; b = parts_b.from_word y })
      node_told n x y few laws_a laws_b says_n says_x says_y = let small = (are_small both v.shape v.seen b few t.q t.index entry inner.inside at).small in
          let count = read 2 n says_n ∙ over 2 ∙ count_in parts_a parts_b _ _ entry.pairs in
          let fold_a = ap parts_a.from_word (read 3 x says_x ∙ over 3 ∙ a_in parts_a parts_b _ _ entry.pairs) ∙ of_word-fold_of laws_a entry.pairs small in
          let fold_b = ap parts_b.from_word (read 4 y says_y ∙ over 4 ∙ b_in parts_a parts_b _ _ entry.pairs) ∙ of_word-fold_of laws_b entry.pairs small in
          tree_is (suc level) place word t (record { count = n; a = parts_a.from_word x; b = parts_b.from_word y }) (λ i. record { count = count i; a = fold_a i; b = fold_b i })

    -- a leaf's word has its serial, which says whether its key is there, and its weight
    module _ (key word : ℕ) (t : IsNodeAt v.shape v.seen cut 0 key word) where
      abbrev leaf : Entry
      leaf = entry_of v.seen t.q t.index

      serial : (t.q ≡ key) × IsSerial t.q t.index leaf
      serial = let l = leaf_word v.shape key t.q t.part.word in (l.0, b.serials t.q t.index leaf l.1 (entry_at v.seen t.q t.index t.part.there))

      pairs_are : leaf.pairs ≡ leaf_pairs key word
      pairs_are = pairs_of_serial t.q t.index leaf serial.1 ∙ (λ i. leaf_pairs (serial.0 i) (t.named i))

      pub leaf_told : (told : Summary A B) → told ≡ summary_of parts_a parts_b (leaf_pairs key word) → IsTreeOf (summary_of parts_a parts_b) v.shape.bits cut 0 key told
      leaf_told told is = tree_is 0 key word t told (is ∙ ap (summary_of parts_a parts_b) (sym pairs_are))

      -- its serial counts the members that it covers
      pub leaf_count : serial_in_word word % 2 ≡ length (range_of (set_of_cut cut) (key * 2 ^ 0) ((key + 1) * 2 ^ 0))
      leaf_count = sym (pairs_counted key word) ∙ ap length (sym pairs_are ∙ part_pairs both v.shape v.seen b cut 0 key t.q t.index t.part) ∙ range_long cut (key * 2 ^ 0) ((key + 1) * 2 ^ 0)

      -- its weight is what the key weighs among the cut's pairs
      pub leaf_weight : weight_in_word word ≡ weight_in (pairs_of_cut cut) key
      leaf_weight = let all : List (ℕ × ℕ) = pairs_of_cut cut in let first : ℕ = key * 2 ^ 0 in let end : ℕ = (key + 1) * 2 ^ 0 in
          let light : serial_in_word word % 2 ≡ 0 → weight_in_word word ≡ 0 = λ even. ap weight_in_word (sym t.named) ∙ weight_of_entry t.q t.index leaf serial.1
          ∙ serial.1.none_if_even (sym (ap (λ (z : ℕ). serial_in_word z % 2) (sym t.named) ∙ parity_of_entry t.q t.index leaf serial.1) ∙ even) in
          weighs_alone key word light ∙ ap (λ (z : List (ℕ × ℕ)). weight_in z key) (sym pairs_are ∙ part_pairs both v.shape v.seen b cut 0 key t.q t.index t.part)
          ∙ ap (λ (z : Option ℕ). unwrap_or z 0) (weight_of-range all key first end (omega arith) (omega arith))
