-- The words of a table at rest name a version of the tree of the last cut that a lead knows.
use Rattle.std.proofs.Common.{◌≡◌, ◌≢◌, ◌⊎◌, ℕ, zero, suc, ◌+◌, ◌-◌, ◌*◌, ◌%◌, ◌^◌, ◌<◌, ◌≤◌, Bool, true, false, eqb, leb, ltb, lt-ltb, le-leb, ◌&&◌, if◌then◌else◌, Some, unwrap_or, List, [], ◌∷◌, ◌++◌, length, get_or, All, refl, sym, ap, ◌∙◌, subst, ⊎_elim, inl, inr, arith}
use Rattle.std.proofs.lemmas.Bool.{cases_eq, eq-eqb, ne_eqb}
use Rattle.std.proofs.lemmas.List.Elements.{All-filter}
use Rattle.aug_monoid.specs.Parts.{Parts}
use Rattle.aug_monoid.specs.inside.Laws.{IsMonoid}
use Rattle.aug_monoid.specs.Weighted.{FitsPair}
use Rattle.aug_monoid.proofs.FoldLemmas.{of_word-fold_of}
use Rattle.aug_model.specs.Folds.{summary_of}
use Rattle.aug_model.specs.Keys.{IsKeySet, keys_of, pairs_of}
use Rattle.aug_model.specs.Queries.{range_of, weighted_range_of, weight_of, weight_in}
use Rattle.aug_model.specs.declared.summary.Summary.{Summary}
use Rattle.aug_model.proofs.Boundaries.{IsKeySet-few}
use Rattle.aug_model.proofs.Pairs.{length-keys_of, range-again, pairs_of-append, pairs-again, agrees-own}
use Rattle.aug_model.proofs.Ranges.{Rises, rises_from, all_below_from, range_whole}
use Rattle.aug_query.specs.Tree.{sum_of, IsTreeSet}
use Rattle.aug_model.specs.NodeKeys.{first_key, end_key, keys_below, pairs_below}
use Rattle.aug_query.proofs.Nodes.{node_cut, left_covers, right_covers}
use Rattle.aug_core.specs.Faces.{face}
use Rattle.aug_core.specs.Places.{Shape, record_count, record_words}
use Rattle.aug_core.specs.Addresses.{IsInner, root_place, left_of, right_of}
use Rattle.aug_core.specs.Book.{Book, history_of, At, IsBook}
use Rattle.aug_core.specs.Cuts.{Cut, pairs_of_cut}
use Rattle.aug_core.specs.inside.EntryCuts.{entry_of, IsPartOfCut}
use Rattle.aug_core.specs.inside.RootCuts.{root_cut}
use Rattle.aug_core.specs.Effects.{KnowsBook}
use Rattle.aug_core.specs.declared.view.Entry.{Entry}
use Rattle.aug_core.specs.declared.view.SeatView.{SeatView}
use Rattle.aug_core.proofs.Books.{at_below, plainly_named}
use Rattle.aug_core.proofs.Levels.{inner_word, leaf_word}
use Rattle.aug_core.proofs.EntryCuts.{entry_at, entry_is, root_part, left_part, right_part, part_words, part_pairs}
use Rattle.aug_core.proofs.FaceLemmas.{left_in, right_in, count_in, a_in, b_in}
use Rattle.aug_core.proofs.PlaceLemmas.{keys-within}
use Rattle.aug_words.specs.Rests.{AtRest}
use Rattle.aug_words.specs.Seats.{NamesRoot}
use Rattle.aug_trie.specs.History.{last_cut}
use Rattle.aug_trie.specs.inside.Knows.{knows}
use Rattle.aug_trie.specs.LeafWords.{serial_in_word, weight_in_word}
use Rattle.aug_trie.specs.inside.LeafPairs.{leaf_pairs}
use Rattle.aug_trie.specs.inside.EndedTree.{word_in, IsLeafOf, IsVersion}
use Rattle.aug_trie.specs.inside.EndedState.{pairs_at_rest, HoldsVersion}
use Rattle.aug_core.proofs.Counting.{filter_shorter}
use Rattle.aug_trie.proofs.Histories.{last_is}
use Rattle.aug_trie.proofs.LeafWords.{parity_of_entry, weight_of_entry, pairs_of_serial}
use Rattle.aug_trie.proofs.Trees.{tree_set, inner_root}
use Rattle.aug_core.specs.Layout.{IsLayout}

-- ---- what a node of a tree covers of a list of pairs

module _ (pairs : List (ℕ × ℕ)) (rises : Rises (keys_of pairs)) where
  -- the keys that it covers, each with its weight
  below_again : (level place : ℕ) → pairs_below pairs level place ≡ pairs_of (weight_in pairs) (keys_below (keys_of pairs) level place)
  below_again level place = range-again pairs (first_key level place) (end_key level place) rises

  -- what its two children cover, in order
  below_cut : (level place : ℕ) → pairs_below pairs level (2 * place) ++ pairs_below pairs level (2 * place + 1) ≡ pairs_below pairs (suc level) place
  below_cut level place =
      let keys : List ℕ = keys_of pairs in let l : level + 1 ≡ suc level = omega arith in
      let left : List ℕ = keys_below keys level (2 * place) in let right : List ℕ = keys_below keys level (2 * place + 1) in
      let a = left_covers keys (suc level) place level (2 * place) l refl in let b = right_covers keys (suc level) place level (2 * place + 1) l refl in
      let halves : left ++ right ≡ keys_below keys (suc level) place = (λ k. a k ++ b k) ∙ sym (node_cut keys (suc level) place rises (omega arith)) in
      (λ k. below_again level (2 * place) k ++ below_again level (2 * place + 1) k) ∙ sym (pairs_of-append (weight_in pairs) left right)
      ∙ ap (pairs_of (weight_in pairs)) halves ∙ sym (below_again (suc level) place)

  -- the root covers them all
  below_whole : (bits : ℕ) → IsKeySet bits (keys_of pairs) → pairs_below pairs bits 0 ≡ pairs
  below_whole bits set = let from : 0 * 2 ^ bits ≡ 0 = omega arith in let to : (0 + 1) * 2 ^ bits ≡ 2 ^ bits = omega arith in
      below_again bits 0 ∙ (λ k. pairs_of (weight_in pairs) (range_of (keys_of pairs) (from k) (to k)))
      ∙ ap (pairs_of (weight_in pairs)) (range_whole (keys_of pairs) (2 ^ bits) (all_below_from (2 ^ bits) (keys_of pairs) set.below)) ∙ pairs-again (weight_in pairs) pairs (agrees-own pairs rises)

-- what a key weighs among the pairs of an interval that has it
weight_between : (pairs : List (ℕ × ℕ)) (a b key : ℕ) → a ≤ key → key < b → weight_in (weighted_range_of pairs a b) key ≡ weight_in pairs key
weight_between [] a b key low high = refl
weight_between (p ∷ ps) a b key low high = ⊎_elim
    (λ (is : p.0 ≡ key). ap (λ (z : Bool). weight_in (if z then p ∷ weighted_range_of ps a b else weighted_range_of ps a b) key) (λ k. le-leb a p.0 (omega arith) k && lt-ltb p.0 b (omega arith) k)
    ∙ ap (λ (z : Bool). unwrap_or (if z then Some p.1 else weight_of (weighted_range_of ps a b) key) 0) (eq-eqb p.0 key is)
    ∙ ap (λ (z : Bool). unwrap_or (if z then Some p.1 else weight_of ps key) 0) (sym (eq-eqb p.0 key is)))
    (λ ne. let rest = weight_between ps a b key low high in let off = ne_eqb p.0 key ne in
    passed (leb a p.0 && ltb p.0 b) off ∙ rest ∙ ap (λ (z : Bool). unwrap_or (if z then Some p.1 else weight_of ps key) 0) (sym off)) (cases_eq p.0 key)
  where
    passed : (c : Bool) → eqb p.0 key ≡ false → weight_in (if c then p ∷ weighted_range_of ps a b else weighted_range_of ps a b) key ≡ weight_in (weighted_range_of ps a b) key
    passed true off = ap (λ (z : Bool). unwrap_or (if z then Some p.1 else weight_of (weighted_range_of ps a b) key) 0) off
    passed false off = refl

-- a leaf's word has what its key weighs
pub leaf_weighs : (pairs : List (ℕ × ℕ)) (place word : ℕ) → IsLeafOf pairs place word → weight_in_word word ≡ weight_in pairs place
leaf_weighs pairs place word leaf = sym (sym (weight_between pairs (first_key 0 place) (end_key 0 place) place (omega arith) (omega arith)) ∙ ap (λ z. weight_in z place) leaf.says ∙ either (cases_eq (serial_in_word word % 2) 1))
  where
    either : (serial_in_word word % 2 ≡ 1) ⊎ (serial_in_word word % 2 ≢ 1) → weight_in (leaf_pairs place word) place ≡ weight_in_word word
    either (inl odd) = ap (λ (z : Bool). weight_in (if z then (place, weight_in_word word) ∷ [] else []) place) (eq-eqb (serial_in_word word % 2) 1 odd)
        ∙ ap (λ (z : Bool). unwrap_or (if z then Some (weight_in_word word) else weight_of [] place) 0) (eq-eqb place place refl)
    either (inr even) = ap (λ (z : Bool). weight_in (if z then (place, weight_in_word word) ∷ [] else []) place) (ne_eqb (serial_in_word word % 2) 1 even) ∙ sym (leaf.none_if_even (omega arith))

module _ {A B : Type 0} (parts_a : Parts A) (parts_b : Parts B) where
  abbrev both : ℕ → ℕ → List (ℕ × ℕ) → List ℕ
  both = face parts_a parts_b

  -- the words of all records that were seen are their entries'
  abbrev ShowSeen : Shape → Book → AtRest → Type 0
  ShowSeen s book rest = (q i field : ℕ) (e : Entry) → IsInner s q → At book q i e → field < record_words → word_in rest e.number field ≡ get_or e.words field 0

  module _ (s : Shape) (off : s.reservations ≡ 0) (book : Book) (b : IsBook both s book) (words : List ℕ) (seen : ShowSeen s book (record { shape = s; words = words })) (cut : Cut) where
    abbrev rest : AtRest
    rest = record { shape = s; words = words }

    abbrev pairs : List (ℕ × ℕ)
    pairs = pairs_of_cut cut

    -- a leaf's entry that stands below a cut
    leaf_at : (place q i : ℕ) → IsPartOfCut s book cut 0 place q i → IsLeafOf pairs place (entry_of book q i).word
    leaf_at place q i p = let l = leaf_word s place q p.word in let e : Entry = entry_of book q i in let serial = b.serials q i e l.1 (entry_at book q i p.there) in record {
      says = sym (part_pairs both s book b cut 0 place q i p) ∙ pairs_of_serial q i e serial ∙ ap (λ z. leaf_pairs z e.word) l.0;
      none_if_even = λ even. weight_of_entry q i e serial ∙ serial.none_if_even (sym (parity_of_entry q i e serial) ∙ even);
    }

    -- what stands below a cut is a version of the tree of its set
    version_at : (level place q i : ℕ) → IsPartOfCut s book cut level place q i → IsVersion both rest pairs level place (entry_of book q i).word
    version_at zero place q i p = leaf_at place q i p
    version_at (suc level) place q i p = let inner = inner_word s level place q p.word in let e : Entry = entry_of book q i in let at = entry_at book q i p.there in
        let l : Entry = entry_of book (left_of s q) e.left in let r : Entry = entry_of book (right_of s q) e.right in
        let number : e.number ≡ e.word = sym (plainly_named both s book b off q i e inner at) in let below = b.below q i e inner at in let here : List (ℕ × ℕ) = pairs_below pairs (suc level) place in
        let read : (field : ℕ) → field < record_words → word_in rest e.word field ≡ get_or (both l.word r.word here) field 0 = λ field low.
        ap (λ (z : ℕ). word_in rest z field) (sym number) ∙ seen q i field e inner at low ∙ ap (λ (z : List ℕ). get_or z field 0) (part_words both s book b cut level place q i p) in
        let left : word_in rest e.word 0 ≡ l.word = read 0 (omega arith) ∙ left_in parts_a parts_b l.word r.word here in
        let right : word_in rest e.word 1 ≡ r.word = read 1 (omega arith) ∙ right_in parts_a parts_b l.word r.word here in (
          record { inside = omega arith; says = λ field low. read field low ∙ (λ k. get_or (both (sym left k) (sym right k) here) field 0) },
          subst (IsVersion both rest pairs level (2 * place)) (sym left) (version_at level (2 * place) (left_of s q) e.left (left_part both s book b cut level place q i p)),
          subst (IsVersion both rest pairs level (2 * place + 1)) (sym right) (version_at level (2 * place + 1) (right_of s q) e.right (right_part both s book b cut level place q i p)),
        )

  module _ (rest : AtRest) (list : List (ℕ × ℕ)) (rises : Rises (keys_of list)) where
    -- a version shows the members that it covers
    shows : (level place word : ℕ) → IsVersion both rest list level place word → pairs_at_rest rest level place word ≡ pairs_below list level place
    shows zero place word v = sym v.says
    shows (suc level) place word v = let a = shows level (2 * place) (word_in rest word 0) v.1 in let b = shows level (2 * place + 1) (word_in rest word 1) v.2 in
        (λ k. a k ++ b k) ∙ below_cut list rises level place

  -- the version of the root's newest record that a view has seen is that of the last cut that it knows
  module _ (v : SeatView) (off : v.shape.reservations ≡ 0) (kn : KnowsBook both v) (number : ℕ) (n : NamesRoot v number) (rest : AtRest) (shaped : rest.shape ≡ v.shape) (seen : ShowSeen v.shape v.seen rest) where
    abbrev last : Cut
    last = last_cut (knows v).history

    inner : IsInner v.shape (root_place v.shape)
    inner = inner_root parts_a parts_b v kn

    is_last : last ≡ root_cut v.shape v.seen n.index
    is_last = last_is v.shape v.seen n.index n.newest.last

    there : n.index < length (history_of v.seen (root_place v.shape))
    there = at_below (history_of v.seen (root_place v.shape)) n.index n.entry n.newest.at

    named : (entry_of v.seen (root_place v.shape) n.index).word ≡ number
    named = ap (λ (z : Entry). z.word) (entry_is v.seen (root_place v.shape) n.index n.entry n.newest.at) ∙ sym n.named

    same : record { shape = v.shape; words = rest.words } ≡ rest
    same = λ i. record { shape = sym shaped i; words = rest.words }

    set_is : IsTreeSet (record { bits = v.shape.bits; pairs = pairs_of_cut last })
    set_is = subst (λ (z : Cut). IsTreeSet (record { bits = v.shape.bits; pairs = pairs_of_cut z })) (sym is_last) (tree_set both v n.index kn)

    version : IsVersion both rest (pairs_of_cut last) v.shape.bits 0 number
    version = subst (λ (z : AtRest). IsVersion both z (pairs_of_cut last) v.shape.bits 0 number) same (subst (λ (z : ℕ). IsVersion both (record { shape = v.shape; words = rest.words }) (pairs_of_cut last) v.shape.bits 0 z) named
        (version_at v.shape off v.seen kn.book rest.words (subst (ShowSeen v.shape v.seen) (sym same) seen) last v.shape.bits 0 (root_place v.shape) n.index
        (subst (λ (z : Cut). IsPartOfCut v.shape v.seen z v.shape.bits 0 (root_place v.shape) n.index) (sym is_last) (root_part both v.shape v.seen kn.book n.index there))))

    pub members_are : pairs_at_rest rest v.shape.bits 0 number ≡ pairs_of_cut last
    members_are = let rises = rises_from (keys_of (pairs_of_cut last)) set_is.is_key_set.rising in
        shows rest (pairs_of_cut last) rises v.shape.bits 0 number version ∙ below_whole (pairs_of_cut last) rises v.shape.bits set_is.is_key_set

    pub holds_version : HoldsVersion both rest number v.shape.bits
    holds_version = record {
      laid_out = subst (λ (z : Shape). IsLayout z) (sym shaped) kn.laid_out;
      bits_are = ap (λ (z : Shape). z.bits) (sym shaped);
      is_key_set = subst (λ (z : List (ℕ × ℕ)). IsKeySet v.shape.bits (keys_of z)) (sym members_are) set_is.is_key_set;
      fit = subst (All FitsPair) (sym members_are) set_is.fit;
      is_version = subst (λ (z : List (ℕ × ℕ)). IsVersion both rest z v.shape.bits 0 number) (sym members_are) version;
    }

  -- what the words of an inner node's record tell
  module _ (rest : AtRest) (list : List (ℕ × ℕ)) (level place word : ℕ) (inner : 1 ≤ level) (v : IsVersion both rest list level place word) where
    up : level ≡ suc (level - 1)
    up = omega arith

    at : IsVersion both rest list (suc (level - 1)) place word
    at = subst (λ (z : ℕ). IsVersion both rest list z place word) up v

    abbrev here : List (ℕ × ℕ)
    here = pairs_below list level place

    pub inside_of : word < record_count rest.shape
    inside_of = at.0.inside

    says : (field : ℕ) → field < record_words → word_in rest word field ≡ get_or (both (word_in rest word 0) (word_in rest word 1) here) field 0
    says field low = at.0.says field low ∙ ap (λ (z : ℕ). get_or (both (word_in rest word 0) (word_in rest word 1) (pairs_below list z place)) field 0) (sym up)

    pub count_is : word_in rest word 2 ≡ length here
    count_is = says 2 (omega arith) ∙ count_in parts_a parts_b (word_in rest word 0) (word_in rest word 1) here

    pub count_fits : (bits : ℕ) → 1 ≤ bits → bits ≤ 16 → IsKeySet bits (keys_of list) → word_in rest word 2 ≤ 65536
    count_fits bits some_bits few_bits set = let is = count_is in
        let le : length here ≤ length list = filter_shorter (λ (p : ℕ × ℕ). leb (first_key level place) p.0 && ltb p.0 (end_key level place)) list in
        let all = IsKeySet-few bits (keys_of list) set in let long = length-keys_of list in let keys = keys-within bits some_bits few_bits in omega arith

    pub tells : All FitsPair list → IsMonoid parts_a → IsMonoid parts_b → (x : A) (y : B) → x ≡ parts_a.from_word (word_in rest word 3) → y ≡ parts_b.from_word (word_in rest word 4)
        → record { count = word_in rest word 2; a = x; b = y } ≡ summary_of parts_a parts_b here
    tells fit laws_a laws_b x y ex ey = let l : ℕ = word_in rest word 0 in let r : ℕ = word_in rest word 1 in
        let small : All FitsPair here = All-filter _ FitsPair list fit in
        let fold_a = ex ∙ ap parts_a.from_word (says 3 (omega arith) ∙ a_in parts_a parts_b l r here) ∙ of_word-fold_of laws_a here small in
        let fold_b = ey ∙ ap parts_b.from_word (says 4 (omega arith) ∙ b_in parts_a parts_b l r here) ∙ of_word-fold_of laws_b here small in
        λ i. record { count = count_is i; a = fold_a i; b = fold_b i }

  module _ (rest : AtRest) (list : List (ℕ × ℕ)) (level place word : ℕ) (low : level ≡ 0) (v : IsVersion both rest list level place word) where
    is_leaf : IsLeafOf list place word
    is_leaf = subst (λ (z : ℕ). IsVersion both rest list z place word) low v

    -- a leaf's word says whether its key is a member
    pub leaf_tells : (told : Summary A B) → told ≡ summary_of parts_a parts_b (leaf_pairs place word) → told ≡ summary_of parts_a parts_b (pairs_below list level place)
    leaf_tells told is = is ∙ ap (summary_of parts_a parts_b) (sym is_leaf.says) ∙ ap (λ (z : ℕ). summary_of parts_a parts_b (pairs_below list z place)) (sym low)

    -- and what it weighs
    pub version_weighs : weight_in_word word ≡ weight_in list place
    version_weighs = leaf_weighs list place word is_leaf

  -- a trie at rest
  module _ (rest : AtRest) (root bits : ℕ) (h : HoldsVersion both rest root bits) where
    abbrev members : List (ℕ × ℕ)
    members = pairs_at_rest rest bits 0 root

    pub some_bits : 1 ≤ bits
    some_bits = let some = h.laid_out.bits.0 in let is = h.bits_are in omega arith

    pub few_bits : bits ≤ 16
    few_bits = let few = h.laid_out.bits.1 in let is = h.bits_are in omega arith

    pub ended_set : IsTreeSet (record { bits = bits; pairs = members })
    ended_set = record { some_bits = some_bits; few_bits = few_bits; is_key_set = h.is_key_set; fit = h.fit }

    -- the root's record is one of the table, and counts the members
    pub root_inside : root < record_count rest.shape
    root_inside = inside_of rest members bits 0 root some_bits h.is_version

    pub root_counts : word_in rest root 2 ≡ length members
    root_counts = count_is rest members bits 0 root some_bits h.is_version
        ∙ ap (λ (z : List (ℕ × ℕ)). length z) (below_whole members (rises_from (keys_of members) h.is_key_set.rising) bits h.is_key_set)

    pub root_fits : word_in rest root 2 ≤ 65536
    root_fits = count_fits rest members bits 0 root some_bits h.is_version bits some_bits few_bits h.is_key_set

-- what is told of the members that a node covers is told of their keys with their weights
pub told_of_keys : {A B : Type 0} (summary : List (ℕ × ℕ) → Summary A B) (list : List (ℕ × ℕ)) (level place : ℕ) (told : Summary A B) → Rises (keys_of list) → told ≡ summary (pairs_below list level place)
    → told ≡ sum_of summary list (keys_below (keys_of list) level place)
told_of_keys summary list level place told rises is = is ∙ ap summary (below_again list rises level place)
