-- A record of the own lane is filled and published.
use Rattle.std.proofs.Common.{inl, ◌≡◌, ◌≢◌, ◌↔◌, ℕ, zero, suc, ◌+◌, Bool, true, false, IsTrue, List, [], get_or, sym, refl, ap, ◌∙◌, subst, ⊎_elim, arith}
use Rattle.aug_trie.specs.inside.Points.{QuietStep}
use Rattle.aug_words.proofs.Passes.{names_plainly, told_plainly}
use Rattle.std.proofs.lemmas.Bool.{cases_eq, false≢true}
use Rattle.aug_monoid.specs.Parts.{Parts}
use Rattle.aug_core.specs.Addresses.{IsInner}
use Rattle.aug_core.specs.Faces.{face}
use Rattle.aug_core.specs.Kinds.{store_record_word}
use Rattle.aug_core.specs.inside.Refreshes.{SaysLoaded, Published, stored}
use Rattle.aug_core.specs.Effects.{MayStore, IsFilled, TriesNode, KnowsBook}
use Rattle.aug_core.specs.declared.view.SeatView.{SeatView}
use Rattle.aug_core.specs.Places.{record_start, record_words, Shape}
use Rattle.aug_core.proofs.FaceLemmas.{left_in, right_in}
use Rattle.aug_core.proofs.Clients.{owns_what_it_stores}
use Rattle.aug_core.proofs.Filling.{filled_view, may_fill, says, is_filled}
use Rattle.aug_words.specs.Seats.{TriedNode, NamesOwn}
use Rattle.aug_trie.specs.inside.Goes.{HasRoom, Took, Goes, publish_steps}
use Rattle.aug_trie.proofs.Going.{took_none, took_one, took_on, goes_self, goes_on, goes_more, goes_storing, goes_seeing, goes_publishing, may_store_room, quiet_publishing, quiet_seeing}

module _ (face : ℕ → ℕ → List (ℕ × ℕ) → List ℕ) where
  module _ (v : SeatView) (number : ℕ) (five : List ℕ) (may : MayStore v number) where
    -- a record that says what was loaded may be published
    pub may_publish : (q old : ℕ) → v.shape.reservations ≡ 0 → SaysLoaded face v.shape v.seen q old five → IsFilled face (filled_view v number five) q old 0 number
    may_publish q old off says = is_filled v number five may face q old 0 says (inl off) (inl off) (inl off)

    -- what the try tells
    pub published : (w : SeatView) (q old new found : ℕ) (done : Bool) → IsInner v.shape q → ((l r : ℕ) (pairs : List (ℕ × ℕ)) → get_or (face l r pairs) 0 0 ≡ l) → ((l r : ℕ) (pairs : List (ℕ × ℕ)) → get_or (face l r pairs) 1 0 ≡ r)
        → (IsTrue done ↔ (found ≡ old)) → TriesNode face (filled_view v number five) q old number new found w → Published v.shape q old (get_or five 0 0) (get_or five 1 0) done w.seen
    published w q old new found done inner names_left names_right decided told = let o = told.sees.book.over q told.index told.entry inner told.newest.at in
        let mine : MayStore (filled_view v number five) number = may_fill v number five may record_words in
        let same = λ (good : IsTrue done). (told.hit (decided.0 good)).2 mine.own (owns_what_it_stores (filled_view v number five) number mine) in record {
          index = told.index;
          entry = told.entry;
          newest = told.newest;
          left_child = o.left_child;
          right_child = o.right_child;
          left_at = o.left_at;
          right_at = o.right_at;
          left_is = λ good. sym (names_left o.left_child.word o.right_child.word told.entry.pairs) ∙ ap (λ (z : List ℕ). get_or z 0 0) (sym o.words_say) ∙ sym (same good 0 (omega arith)) ∙ says v number five may record_words 0 (omega arith) (omega arith);
          right_is = λ good. sym (names_right o.left_child.word o.right_child.word told.entry.pairs) ∙ ap (λ (z : List ℕ). get_or z 1 0) (sym o.words_say) ∙ sym (same good 1 (omega arith)) ∙ says v number five may record_words 1 (omega arith) (omega arith);
          last = λ good. told.last (decided.0 good) o.left_child o.right_child o.left_at o.right_at;
          missed = λ bad same. let miss = lost done found old decided bad in miss ((told.miss miss).1 ∙ sym same);
        }
      where
        lost : (done : Bool) (found old : ℕ) → (IsTrue done ↔ (found ≡ old)) → done ≡ false → found ≢ old
        lost done found old decided is same = let good : done ≡ true = decided.1 same in false≢true (sym is ∙ good)

  module _ (v w : SeatView) (q old number new found : ℕ) (done : Bool) (decided : IsTrue done ↔ (found ≡ old)) (told : TriesNode face v q old number new found w) (kn : KnowsBook face v) where
    pub goes_tried : Goes face (number + 1) [] v w
    goes_tried = ⊎_elim
        (λ (hit : found ≡ old). goes_publishing face v w number _ (told.hit hit).0 kn told.sees)
        (λ miss. goes_more face 0 (number + 1) [] v w (omega arith) (goes_seeing face v w _ (told.miss miss).0 kn told.sees)) (cases_eq found old)

    pub quiet_try : QuietStep v w
    quiet_try = ⊎_elim (λ (hit : found ≡ old). quiet_publishing v w number _ (told.hit hit).0 told.sees.later) (λ miss. quiet_seeing v w _ (told.miss miss).0 told.sees.later) (cases_eq found old)

    -- a try that failed leaves the record its own
    pub own_again : done ≡ false → MayStore v number → MayStore w number
    own_again is f = let miss : found ≢ old = λ same. (let good : done ≡ true = decided.1 same in false≢true (sym is ∙ good)) in
        (goes_seeing face v w _ (told.miss miss).0 kn told.sees).still_owned number (omega arith) f

  -- stores of words of a record show nothing of the book
  pub goes_stored : (v : SeatView) (number : ℕ) (words : List ℕ) (n : ℕ) → KnowsBook face v → Goes face 0 [] v (stored v number words n)
  goes_stored v number words zero kn = goes_self face v kn
  goes_stored v number words (suc n) kn = let u : SeatView = stored v number words n in let g = goes_stored v number words n kn in
      goes_on face 0 0 0 [] v u (stored v number words (suc n)) (omega arith) (omega arith) g (goes_storing face u (stored v number words (suc n)) (record_start u.shape number + n) (get_or words n 0) refl g.knows_table)

pub took_stored : (v : SeatView) (number : ℕ) (words : List ℕ) (n : ℕ) → Took v (stored v number words n) n
took_stored v number words zero = took_none v v refl
took_stored v number words (suc n) = let u : SeatView = stored v number words n in
    took_on v u (stored v number words (suc n)) n 1 (suc n) (omega arith) (took_stored v number words n) (took_one u (stored v number words (suc n)) (store_record_word (record_start u.shape number + n) (get_or words n 0)) refl refl)

-- ---- both, by what the calls of the stores and of the try say

module _ {A B : Type 0} (parts_a : Parts A) (parts_b : Parts B) where
  abbrev f : ℕ → ℕ → List (ℕ × ℕ) → List ℕ
  f = face parts_a parts_b

  -- what a try to publish a record that was filled leaves
  pub record Publishes (v w : SeatView) (q old number left right : ℕ) (done : Bool) : Type 0 where
    pub goes : Goes f (number + 1) [] v w
    pub took : Took v w publish_steps
    pub published : Published v.shape q old left right done w.seen
    pub again : done ≡ false → MayStore w number

  -- the view after the five stores of the record
  module _ {v u : SeatView} {number : ℕ} (five : List ℕ) (room : HasRoom v number 1) (kn : KnowsBook f v) (is : u ≡ filled_view v number five) where
    may : MayStore v number
    may = may_store_room v number room

    goes : Goes f 0 [] v u
    goes = subst (Goes f 0 [] v) (sym is) (goes_stored f v number five record_words kn)

    off : u.shape.reservations ≡ 0
    off = ap (λ (z : Shape). z.reservations) goes.shaped ∙ room.keeps_records

    pub may_publish_filled : {q old : ℕ} → SaysLoaded f v.shape v.seen q old five → NamesOwn f u q old number
    may_publish_filled {q} {old} says = names_plainly off (goes.still_owned number (omega arith) may) (subst (λ (z : SeatView). IsFilled f z q old 0 number) (sym is) (may_publish f v number five may q old room.keeps_records says))

    pub publishes : {q old : ℕ} {done : Bool} {w : SeatView} → IsInner v.shape q → TriedNode f u q old number done w → Publishes v w q old number (get_or five 0 0) (get_or five 1 0) done
    publishes {q} {old} {done} {w} inner t = let told = told_plainly off (goes.still_owned number (omega arith) may) t in record {
      goes = goes_on f 0 (number + 1) (number + 1) [] v u w (omega arith) (omega arith) goes (goes_tried f u w q old number number t.found done t.decided told goes.knows_table);
      took = took_on v u w record_words 1 publish_steps refl (subst (λ (z : SeatView). Took v z record_words) (sym is) (took_stored v number five record_words)) (took_one u w _ refl told.stepped);
      published = published f v number five may w q old number t.found done inner (left_in parts_a parts_b) (right_in parts_a parts_b) t.decided (subst (λ (z : SeatView). TriesNode f z q old number number t.found w) is told);
      again = λ bad. own_again f u w q old number number t.found done t.decided told goes.knows_table bad (goes.still_owned number (omega arith) may);
    }
