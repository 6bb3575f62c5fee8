-- What a child's part says, and what the words of two parts are.
use Rattle.std.proofs.Common.{inl, ◌≡◌, ℕ, ◌+◌, ◌^◌, ◌<◌, ◌≤◌, List, [], ◌∷◌, ◌++◌, All, get_or, length-append, sym, ap, ◌∙◌, subst, arith}
use Rattle.aug_monoid.specs.Parts.{Parts}
use Rattle.aug_monoid.specs.inside.Laws.{IsMonoid}
use Rattle.aug_monoid.specs.Weighted.{FitsPair}
use Rattle.aug_monoid.proofs.FoldLemmas.{fold_of-append, of_word-fold_of}
use Rattle.aug_core.specs.Addresses.{IsInner}
use Rattle.aug_core.specs.Book.{At}
use Rattle.aug_core.specs.Faces.{face}
use Rattle.aug_core.specs.inside.Refreshes.{HasEntry}
use Rattle.aug_core.specs.Effects.{Covers, Guards, GuardsRecord, Says, stepping, KnowsBook}
use Rattle.aug_core.specs.declared.step.StepTaken.{StepTaken}
use Rattle.aug_core.specs.declared.view.Entry.{Entry}
use Rattle.aug_core.specs.declared.view.SeatView.{SeatView}
use Rattle.aug_core.proofs.EntryKeys.{are_small}
use Rattle.aug_core.proofs.Clients.{guards_same, says_same}
use Rattle.aug_core.proofs.FaceLemmas.{count_in, a_in, b_in, face_is}
use Rattle.aug_trie.specs.inside.LeafPairs.{leaf_pairs}
use Rattle.aug_trie.specs.inside.Goes.{Goes, IsPart, IsPartOf}
use Rattle.aug_trie.proofs.LeafWords.{pairs_of_serial}
use Rattle.aug_trie.proofs.Going.{goes_on, goes_stepping}
use Rattle.aug_core.proofs.Books.{plainly_named}

-- a record that an entry of a node has may be read
pub guards_named : (f : ℕ → ℕ → List (ℕ × ℕ) → List ℕ) (v : SeatView) (node number : ℕ) → v.shape.reservations ≡ 0 → KnowsBook f v → IsInner v.shape node → HasEntry v.seen node number → GuardsRecord v number
guards_named f v node number off kn inner n = record { place = node; index = n.index; entry = n.entry; guards = record { inner = inner; at = n.at; covers = inl off }; numbered = sym (plainly_named f v.shape v.seen kn.book off node n.index n.entry inner n.at) ∙ n.named }

-- in a round each entry with a word has the record of that number, and is guarded
pub held_plainly : (f : ℕ → ℕ → List (ℕ × ℕ) → List ℕ) (v : SeatView) (q i word : ℕ) (e : Entry) → v.shape.reservations ≡ 0 → KnowsBook f v → At v.seen q i e → e.word ≡ word → IsInner v.shape q → Covers v q i e × (e.number ≡ word)
held_plainly f v q i word e off kn at is inner = (inl off, sym (plainly_named f v.shape v.seen kn.book off q i e inner at) ∙ is)

pub guards_on : (v w : SeatView) (taken : StepTaken) (number : ℕ) → w ≡ stepping v taken → GuardsRecord v number → GuardsRecord w number
guards_on v w taken number is h = guards_same v w number (ap (λ (z : SeatView). z.shape) is) (ap (λ (z : SeatView). z.seen) is) (ap (λ (z : SeatView). z.reserved) is) h

-- what a record says is the same after a step that shows nothing of the book
pub says_before : (v w : SeatView) (taken : StepTaken) (number field r : ℕ) → w ≡ stepping v taken → Says w number field r → Says v number field r
says_before v w taken number field r is says = says_same v w number field r (ap (λ (z : SeatView). z.shape) is) (ap (λ (z : SeatView). z.seen) is) (ap (λ (z : SeatView). z.reserved) is) says

-- three steps that show nothing of the book
pub goes_three : (f : ℕ → ℕ → List (ℕ × ℕ) → List ℕ) (v v1 v2 v3 : SeatView) (t1 t2 t3 : StepTaken) → KnowsBook f v → v1 ≡ stepping v t1 → v2 ≡ stepping v1 t2 → v3 ≡ stepping v2 t3 → Goes f 0 [] v v3
goes_three f v v1 v2 v3 t1 t2 t3 kn e1 e2 e3 =
    let x = goes_stepping f v v1 t1 e1 kn in let y = goes_stepping f v1 v2 t2 e2 x.knows_table in let z = goes_stepping f v2 v3 t3 e3 y.knows_table in
    goes_on f 0 0 0 [] v v2 v3 (omega arith) (omega arith) (goes_on f 0 0 0 [] v v1 v2 (omega arith) (omega arith) x y) z

module _ {A B : Type 0} (parts_a : Parts A) (parts_b : Parts B) (laws_a : IsMonoid parts_a) (laws_b : IsMonoid parts_b) where
  abbrev both : ℕ → ℕ → List (ℕ × ℕ) → List ℕ
  both = face parts_a parts_b

  -- three words of a record tell the part of an entry of a node that has it
  pub part_of_node : (v : SeatView) (node word number x y z : ℕ) → 2 ^ v.shape.bits ≤ 65536 → KnowsBook both v → IsInner v.shape node → Says v number 2 x → Says v number 3 y → Says v number 4 z
      → IsPartOf parts_a parts_b v node word number x (parts_a.from_word y) (parts_b.from_word z)
  part_of_node v node word number x y z few kn inner says_x says_y says_z = record {
    of = λ i e p is held. let o = kn.book.over node i e inner p in let guards : Guards v node i e = record { inner = inner; at = p; covers = (held inner).0 } in let numbered = (held inner).1 in
        let small = (are_small both v.shape v.seen kn.book few node i e inner.inside p).small in record {
          count_is = says_x node i e guards numbered ∙ ap (λ (w : List ℕ). get_or w 2 0) o.words_say ∙ count_in parts_a parts_b _ _ e.pairs;
          a_is = ap parts_a.from_word (says_y node i e guards numbered ∙ ap (λ (w : List ℕ). get_or w 3 0) o.words_say ∙ a_in parts_a parts_b _ _ e.pairs) ∙ of_word-fold_of laws_a e.pairs small;
          b_is = ap parts_b.from_word (says_z node i e guards numbered ∙ ap (λ (w : List ℕ). get_or w 4 0) o.words_say ∙ b_in parts_a parts_b _ _ e.pairs) ∙ of_word-fold_of laws_b e.pairs small;
        };
  }

  -- a leaf's word has its serial and its weight, and tells whether its key is there
  pub part_of_leaf : (v : SeatView) (key word number n : ℕ) (a : A) (b : B) → KnowsBook both v → key < 2 ^ v.shape.bits → IsPart parts_a parts_b n a b (leaf_pairs key word) → IsPartOf parts_a parts_b v key word number n a b
  part_of_leaf v key word number n a b kn low part = record {
    of = λ i e p is _. let serial = kn.book.serials key i e low p in
        subst (IsPart parts_a parts_b n a b) (sym (pairs_of_serial key i e serial ∙ ap (leaf_pairs key) is)) part;
  }

  -- the words of two parts
  pub words_are : (l r m k : ℕ) (a a' : A) (b b' : B) (xs ys : List (ℕ × ℕ)) → All FitsPair xs → All FitsPair ys → IsPart parts_a parts_b m a b xs → IsPart parts_a parts_b k a' b' ys
      → l ∷ r ∷ (m + k) ∷ parts_a.to_word (parts_a.join a a') ∷ parts_b.to_word (parts_b.join b b') ∷ [] ≡ both l r (xs ++ ys)
  words_are l r m k a a' b b' xs ys small small' p q = face_is parts_a parts_b l r (m + k) (parts_a.to_word (parts_a.join a a')) (parts_b.to_word (parts_b.join b b')) (xs ++ ys)
      ((λ i. p.count_is i + q.count_is i) ∙ sym (length-append xs ys))
      (ap parts_a.to_word ((λ i. parts_a.join (p.a_is i) (q.a_is i)) ∙ sym (fold_of-append laws_a xs ys small small')))
      (ap parts_b.to_word ((λ i. parts_b.join (p.b_is i) (q.b_is i)) ∙ sym (fold_of-append laws_b xs ys small small')))
