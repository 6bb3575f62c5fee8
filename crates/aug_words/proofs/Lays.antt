-- A lead lays out the part of its table beside the one at work, and then all of that part is as an opening demands.
use Rattle.std.proofs.Common.{◌≡◌, ℕ, ◌+◌, ◌-◌, ◌/◌, ◌^◌, ◌<◌, ◌≤◌, ◌≢◌, ◌⊎◌, inl, inr, List, [], ◌∷◌, ◌++◌, length, append-nil, get_or, set, All, refl, sym, ap, ◌∙◌, subst, ⊎_elim, arith, length-set, get_or-set_other, get_or-set_same}
use Rattle.std.proofs.lemmas.Bool.{cases_eq}
use Rattle.aug_model.specs.Keys.{IsKeySet, keys_of}
use Rattle.aug_model.proofs.Boundaries.{IsKeySet-few}
use Rattle.aug_monoid.specs.Weighted.{FitsPair}
use Rattle.atomic_table.specs.Seated.{TableId}
use Rattle.aug_core.specs.Places.{Shape, lane_place, record_start, word_count}
use Rattle.aug_core.specs.Addresses.{place_count, root_place, IsInner, level_of, place_on}
use Rattle.aug_core.specs.Book.{ArePrefixes, IsBook}
use Rattle.aug_core.specs.Opening.{Opening, opening_number, shared_words}
use Rattle.aug_core.specs.Renewals.{rewriting, reread, rewrote, IsOpened}
use Rattle.aug_core.specs.declared.view.SeatView.{SeatView}
use Rattle.aug_core.proofs.Sizes.{twice, some_leaf}
use Rattle.aug_core.proofs.Levels.{on_level}
use Rattle.aug_core.proofs.PrefixLemmas.{prefix_trans}
use Rattle.aug_words.specs.inside.Builds.{AreWords, WritesFive, IsReady}
use Rattle.aug_words.specs.inside.SeatState.{IsStore}
use Rattle.aug_core.specs.inside.OwnNumbers.{own_number}
use Rattle.aug_words.specs.inside.Laying.{InChunk, FreesLanes, SharesRecords, ChangesPart, StepsBeside, PutsWord, MayLay, MayBring, IsLaidAs, ShownBelow, IsDraft, Drafts, words_in}
use Rattle.aug_core.specs.declared.opening.TableKey.{TableKey}
use Rattle.aug_core.specs.declared.step.StepTaken.{StepTaken}
use Rattle.aug_core.specs.declared.view.LaneState.TheVariants.{Free}
use Rattle.aug_core.specs.Lanes.{word_of_state}
use Rattle.aug_core.specs.Effects.{Sat, Says}
use Rattle.aug_core.specs.inside.ClearParts.{IsClear}
use Rattle.aug_core.specs.Eras.{table_part, Ruled}
use Rattle.aug_core.proofs.Clients.{says_same}
use Rattle.aug_core.proofs.Fits.{book_as}
use Rattle.aug_core.proofs.Eras.{part_set, part_long, beside_set}
use Rattle.aug_core.proofs.Renewals.{looks_beside, lays}
use Rattle.atomic_table.specs.Table.{step, Allows}
use mathlib.Core.Option.{none}
use Rattle.aug_core.proofs.Below.{own_full, room_number}
use Rattle.aug_words.proofs.Chunks.{laid_later}

-- ---- in the numbers of the code

-- how many leaves there are, by the place of the first lane
pub leaves_are : (table : TableId) (made : TableKey) (layout s : Shape) (lanes records : ℕ) → IsStore table made layout lanes records → layout ≡ s → lanes / 2 + 1 ≡ 2 ^ s.bits
leaves_are table made layout s lanes records store same = let at : lanes ≡ lane_place s 0 = store.lanes_are ∙ ap (λ (z : Shape). lane_place z 0) same in let t = twice s.bits in let some = some_leaf s.bits in omega arith

-- and the root's place
pub root_at : (table : TableId) (made : TableKey) (layout s : Shape) (lanes records : ℕ) → IsStore table made layout lanes records → layout ≡ s → (1 ≤ lanes) × (lanes - 1 ≡ root_place s) × (lanes - 1 < place_count s)
root_at table made layout s lanes records store same = let at : lanes ≡ lane_place s 0 = store.lanes_are ∙ ap (λ (z : Shape). lane_place z 0) same in let t = twice s.bits in let some = some_leaf s.bits in (omega arith, omega arith, omega arith)

-- ---- the whole table

-- all leaves and nodes lie in the root's chunk
pub whole : (s : Shape) (q : ℕ) → q < place_count s → InChunk s s.bits 0 q
whole s q inside = let on = on_level s q inside in let fits = on.place_fits in record { level = level_of s q; place = place_on s q; here = on; low = on.level_fits; from_first = omega arith; to_last = omega arith }

-- once all of it is laid out, the shared records are filled and all lanes are free, the part is as the opening demands
pub laid_opens : (face : ℕ → ℕ → List (ℕ × ℕ) → List ℕ) (o : Opening) (u v w : List ℕ) → o.shape.reservations ≡ 0 → 2 ^ o.shape.bits ≤ o.shape.members → IsKeySet o.shape.bits (keys_of o.members) → All FitsPair o.members → length u ≡ word_count o.shape
    → ((q : ℕ) → q < place_count o.shape → IsReady face o u q) → SharesRecords face o.shape o.shape.bits u v → FreesLanes o.shape o.shape.workers v w → IsOpened face o w
laid_opens face o u v w off room set fit wide ready shares frees =
    let t = twice o.shape.bits in
    -- words before the lanes and behind the shared records stay
    let low : (i : ℕ) → i < place_count o.shape → get_or w i 0 ≡ get_or u i 0 = λ i inside. frees.before i (omega arith) ∙ shares.others i (inl (omega arith)) in
    let high : (i : ℕ) → record_start o.shape o.shape.bits ≤ i → get_or w i 0 ≡ get_or u i 0 = λ i past. frees.others i (omega arith) ∙ shares.others i (inr past) in record {
      key_set = set;
      members_fit = fit;
      few = (let few = IsKeySet-few o.shape.bits (keys_of o.members) set in omega arith);
      room = inr room;
      numbers = λ used. absurd (omega arith);
      wide = frees.long ∙ shares.long ∙ wide;
      named = λ q inside. low q inside ∙ (ready q inside).word;
      records = λ q k inner small. let number = room_number o room q inner in
          high (record_start o.shape (opening_number o q) + k) (omega arith) ∙ (ready q inner.inside).node inner.past_leaves k small;
      shared = λ level k low small. frees.others (record_start o.shape level + k) (omega arith) ∙ shares.shared level low k small;
      idle = λ n k is small. let all = own_full o.shape.bits o.shape.members o.shape.bits room (omega arith) in let none : o.shape.bits - o.shape.bits ≡ 0 = omega arith in let one : 2 ^ (o.shape.bits - o.shape.bits) ≡ 1 = ap (λ (z : ℕ). 2 ^ z) none in
          let q : ℕ = 2 ^ o.shape.bits + (n - o.shape.bits) in let own = is.own in let low = is.opening in let inner : IsInner o.shape q = record { past_leaves = omega arith; inside = omega arith } in
          absurd (is.unnamed q inner (room_number o room q inner ∙ (let same : own_number o.shape q ≡ n = omega arith in same)));
      lanes = λ lane low. frees.free lane low;
    }

-- ---- the lanes

pub frees_none : (s : Shape) (words : List ℕ) → FreesLanes s 0 words words
frees_none s words = record { long = refl; free = λ lane low. absurd (omega arith); before = λ i low. refl; others = λ i past. refl }

-- one more is freed
pub frees_more : (s : Shape) (lane : ℕ) (v u w : List ℕ) → FreesLanes s lane v u → w ≡ set u (lane_place s lane) (word_of_state Free) → lane_place s lane < length u → FreesLanes s (lane + 1) v w
frees_more s lane v u w f is inside = subst (FreesLanes s (lane + 1) v) (sym is) record {
  long = length-set u (lane_place s lane) (word_of_state Free) ∙ f.long;
  free = λ k low. ⊎_elim
      (λ (same : k ≡ lane). subst (λ (z : ℕ). get_or (set u (lane_place s lane) (word_of_state Free)) (lane_place s z) 0 ≡ word_of_state Free) (sym same) (get_or-set_same u (lane_place s lane) (word_of_state Free) 0 inside))
      (λ ne. get_or-set_other u (lane_place s lane) (lane_place s k) (word_of_state Free) 0 (λ e. ne (omega (arith, e))) ∙ f.free k (omega (arith, ne))) (cases_eq k lane);
  before = λ i low. get_or-set_other u (lane_place s lane) i (word_of_state Free) 0 (λ e. omega arith) ∙ f.before i low;
  others = λ i past. get_or-set_other u (lane_place s lane) i (word_of_state Free) 0 (λ e. omega arith) ∙ f.others i (omega arith);
}

-- ---- the records that levels share

pub shares_none : (f : ℕ → ℕ → List (ℕ × ℕ) → List ℕ) (s : Shape) (words : List ℕ) → SharesRecords f s 0 words words
shares_none f s words = record { long = refl; shared = λ level low. absurd (omega arith); others = λ i out. refl }

-- one more is filled
pub shares_more : (f : ℕ → ℕ → List (ℕ × ℕ) → List ℕ) (s : Shape) (level : ℕ) (five u v w : List ℕ) → SharesRecords f s level u v → WritesFive v w (record_start s level) five → five ≡ shared_words f level → SharesRecords f s (level + 1) u w
shares_more f s level five u v w a b is = record {
  long = b.long ∙ a.long;
  shared = λ n low k small. ⊎_elim
      (λ (same : n ≡ level). subst (λ (z : ℕ). get_or w (record_start s z + k) 0 ≡ get_or (shared_words f z) k 0) (sym same) (b.written k small ∙ ap (λ (z : List ℕ). get_or z k 0) is))
      (λ ne. b.before (record_start s n + k) (omega (arith, ne)) ∙ a.shared n (omega (arith, ne)) k small) (cases_eq n level);
  others = λ i out. ⊎_elim (λ low. b.before i (omega (arith, low)) ∙ a.others i (inl low)) (λ high. b.behind i (omega (arith, high)) ∙ a.others i (inr (omega (arith, high)))) out;
}

-- ---- a seat that lays a part out

module _ (base : ℕ) (s : Shape) where
  pub changes_none : (v : SeatView) → ChangesPart base s v v
  changes_none v = record { view_is = refl; beside = record { long = refl; same = λ i apart. refl } }

  pub changes_on : (u v w : SeatView) → ChangesPart base s u v → ChangesPart base s v w → ChangesPart base s u w
  changes_on u v w a b = record {
    view_is = b.view_is ∙ (λ i. record (a.view_is i) { whole = w.whole });
    beside = record { long = a.beside.long ∙ b.beside.long; same = λ i apart. a.beside.same i apart ∙ b.beside.same i apart };
  }

  -- a word is put there
  pub puts_word : (v w : SeatView) (i place value : ℕ) → i ≡ base + place → place < word_count s → w ≡ rewriting v i value → PutsWord base s place value v w
  puts_word v w i place value at inside is = subst (PutsWord base s place value v) (sym is) (subst (λ (z : ℕ). PutsWord base s place value v (rewriting v z value)) (sym at) record {
    changes = record { view_is = refl; beside = beside_set base (word_count s) place value v.whole v.whole inside record { long = refl; same = λ k apart. refl } };
    puts = part_set base (word_count s) place value v.whole inside;
  })

  module _ (a a' t : TableId) (me me' : Sat) (m : MayLay a t base s me) (one : a' ≡ a) (empty : me'.1 ≡ []) where
    -- it may go on to do so
    pub lays_on : ChangesPart base s me.0 me'.0 → MayLay a' t base s me'
    lays_on c = subst (λ (z : SeatView × List (ℕ × Unit {0})). MayLay a' t base s z) (λ i. (sym c.view_is i, sym empty i)) record {
      seated = one ∙ m.seated;
      no_slot = refl;
      long = sym c.beside.long ∙ m.long;
      inside = m.inside;
      few = m.few;
      leads = let l = m.leads in record { next = l.next; leads = l.leads; live = l.live; apart = l.apart; clear = l.clear };
    }

  module _ (a t : TableId) (me : Sat) (m : MayLay a t base s me) where
    -- the part has its words
    pub part_words : length (words_in base s me.0) ≡ word_count s
    part_words = part_long base (word_count s) me.0.whole (let e = m.long in let inside = m.inside in omega arith)

    module _ (face : ℕ → ℕ → List (ℕ × ℕ) → List ℕ) (shape : Shape) (n id place i x : ℕ) (at : i ≡ base + place) (inside : place < word_count s) where
      -- each word of it may be loaded
      pub lay_loads : Allows (Ruled face shape) n id me i (λ z. z) (reread (step n i 0 0 none) me)
      lay_loads = let l = m.leads in looks_beside face shape n id l.next i me l.leads m.no_slot l.live (⊎_elim (λ below. inl (omega (arith, below, at, inside))) (λ above. inr (omega (arith, above, at))) l.apart)

      -- and stored
      pub lay_stores : Allows (Ruled face shape) n id me i (λ _. x) (λ _ m. rewrote (step n i x 0 none) me x m)
      lay_stores = let l = m.leads in lays face shape n id l.next i x me l.leads m.no_slot l.live (⊎_elim (λ below. inl (omega (arith, below, at, inside))) (λ above. inr (omega (arith, above, at))) l.apart)
          (subst (λ (z : ℕ). IsClear (word_count me.0.shape) me.0.lent z) (sym at) (l.clear place inside))

-- ---- a lead that brings it up to what it has seen

module _ (base : ℕ) (s : Shape) where
  pub beside_on : (u v w : SeatView) → StepsBeside base s u v → StepsBeside base s v w → StepsBeside base s u w
  beside_on u v w a b = record {
    view_is = b.view_is ∙ (λ i. record (a.view_is i) { whole = w.whole; steps = w.steps });
    beside = record { long = a.beside.long ∙ b.beside.long; same = λ i apart. a.beside.same i apart ∙ b.beside.same i apart };
    steps = prefix_trans u.steps v.steps w.steps a.steps b.steps;
  }

  -- it stored words
  pub beside_stored : (v w : SeatView) → ChangesPart base s v w → StepsBeside base s v w
  beside_stored v w c = record {
    view_is = c.view_is ∙ (λ i. record v { whole = w.whole; steps = (sym (ap (λ (z : SeatView). z.steps) c.view_is)) i });
    beside = c.beside;
    steps = ([], ap (λ (z : SeatView). z.steps) c.view_is ∙ sym (append-nil v.steps));
  }

  -- or loaded one
  pub beside_looked : (v w : SeatView) (taken : StepTaken) → w ≡ record v { steps = v.steps ++ taken ∷ [] } → StepsBeside base s v w
  beside_looked v w taken is = subst (StepsBeside base s v) (sym is) record { view_is = refl; beside = record { long = refl; same = λ i apart. refl }; steps = (taken ∷ [], refl) }

  pub beside_seen : (v w : SeatView) → StepsBeside base s v w → w.seen ≡ v.seen
  beside_seen v w b = ap (λ (z : SeatView). z.seen) b.view_is

  -- what a word says of a record that was seen before
  pub says_on : (v w : SeatView) (number field r : ℕ) → StepsBeside base s v w → Says w number field r → Says v number field r
  says_on v w number field r b told = says_same v w number field r (ap (λ (z : SeatView). z.shape) b.view_is) (ap (λ (z : SeatView). z.seen) b.view_is) (ap (λ (z : SeatView). z.reserved) b.view_is) told

  module _ (f : ℕ → ℕ → List (ℕ × ℕ) → List ℕ) (a a' t : TableId) (records : ℕ) (me me' : Sat) (m : MayBring f a t records base s me) where
    -- it may go on to do so
    pub brings_on : a' ≡ a → me'.1 ≡ [] → StepsBeside base s me.0 me'.0 → MayBring f a' t records base s me'
    brings_on one empty c = subst (λ (z : SeatView × List (ℕ × Unit {0})). MayBring f a' t records base s z) (λ i. (sym c.view_is i, sym empty i)) record {
      may = record {
        seated = one ∙ m.may.seated;
        no_slot = refl;
        long = sym c.beside.long ∙ m.may.long;
        inside = m.may.inside;
        few = m.may.few;
        leads = let l = m.may.leads in record { next = l.next; leads = l.leads; live = l.live; apart = l.apart; clear = l.clear };
      };
      shaped = m.shaped;
      wide = m.wide;
      records_are = m.records_are;
      keeps_records = m.keeps_records;
      knows = book_as f me.0 refl refl refl m.knows;
      room = m.room;
    }

-- ---- what is noted of the part

-- it stays so as the lead sees more
pub drafts_on : (f : ℕ → ℕ → List (ℕ × ℕ) → List ℕ) (a a' : TableId) (base : ℕ) (shown : List ℕ) (v w : SeatView) → a' ≡ a → w.shape ≡ v.shape → w.base ≡ v.base → w.whole ≡ v.whole → IsBook f v.shape v.seen → ArePrefixes v.seen w.seen → Drafts f a base shown v → Drafts f a' base shown w
drafts_on f a a' base shown v w one shape place words book grows d room =
    let room' : 2 ^ v.shape.bits ≤ v.shape.members = subst (λ (z : Shape). 2 ^ z.bits ≤ z.members) shape room in let was = d room' in
    let below : ShownBelow f v.shape w.seen (words_in base v.shape w) shown v.shape.bits 0 = λ q n inner at shown'.
    laid_later v.shape room' f v.seen book w.seen q n (words_in base v.shape w) grows (subst (λ (z : List ℕ). IsLaidAs f v.shape v.seen q n (table_part base (word_count v.shape) z)) (sym words) (was.below q n inner at shown')) in
    let now : IsDraft f a' base shown (record w { shape = v.shape; base = v.base }) = record {
      inside = subst (λ (z : TableId). base + word_count v.shape ≤ z.words) (sym one) was.inside;
      apart = was.apart;
      noted = was.noted;
      below = below;
    } in subst (IsDraft f a' base shown) (λ i. record w { shape = (sym shape) i; base = (sym place) i }) now

-- ---- five words

module _ (words five : List ℕ) (i : ℕ) (inside : i + 5 ≤ length words) where
  -- as five stores leave them
  abbrev five_stored : List ℕ
  five_stored = set (set (set (set (set words i (get_or five 0 0)) (i + 1) (get_or five 1 0)) (i + 2) (get_or five 2 0)) (i + 3) (get_or five 3 0)) (i + 4) (get_or five 4 0)

  five_there : AreWords five_stored i five
  five_there k small =
      let w1 : List ℕ = set words i (get_or five 0 0) in let w2 : List ℕ = set w1 (i + 1) (get_or five 1 0) in let w3 : List ℕ = set w2 (i + 2) (get_or five 2 0) in let w4 : List ℕ = set w3 (i + 3) (get_or five 3 0) in
      let l1 = length-set words i (get_or five 0 0) in let l2 = length-set w1 (i + 1) (get_or five 1 0) in let l3 = length-set w2 (i + 2) (get_or five 2 0) in let l4 = length-set w3 (i + 3) (get_or five 3 0) in
      let at : (j : ℕ) → k ≡ j → get_or five_stored (i + j) 0 ≡ get_or five j 0 → get_or five_stored (i + k) 0 ≡ get_or five k 0 = λ j is here. subst (λ (z : ℕ). get_or five_stored (i + z) 0 ≡ get_or five z 0) (sym is) here in
      let none : i + 0 ≡ i = omega arith in
      ⊎_elim (λ (z : k ≡ 0). at 0 z (ap (λ (j : ℕ). get_or five_stored j 0) none ∙ get_or-set_other w4 (i + 4) i (get_or five 4 0) 0 (λ q. omega arith) ∙ get_or-set_other w3 (i + 3) i (get_or five 3 0) 0 (λ q. omega arith)
      ∙ get_or-set_other w2 (i + 2) i (get_or five 2 0) 0 (λ q. omega arith) ∙ get_or-set_other w1 (i + 1) i (get_or five 1 0) 0 (λ q. omega arith) ∙ get_or-set_same words i (get_or five 0 0) 0 (omega arith)))
      (λ n0. ⊎_elim (λ (z : k ≡ 1). at 1 z (get_or-set_other w4 (i + 4) (i + 1) (get_or five 4 0) 0 (λ q. omega arith) ∙ get_or-set_other w3 (i + 3) (i + 1) (get_or five 3 0) 0 (λ q. omega arith)
      ∙ get_or-set_other w2 (i + 2) (i + 1) (get_or five 2 0) 0 (λ q. omega arith) ∙ get_or-set_same w1 (i + 1) (get_or five 1 0) 0 (omega arith)))
      (λ n1. ⊎_elim (λ (z : k ≡ 2). at 2 z (get_or-set_other w4 (i + 4) (i + 2) (get_or five 4 0) 0 (λ q. omega arith) ∙ get_or-set_other w3 (i + 3) (i + 2) (get_or five 3 0) 0 (λ q. omega arith) ∙ get_or-set_same w2 (i + 2) (get_or five 2 0) 0 (omega arith)))
      (λ n2. ⊎_elim (λ (z : k ≡ 3). at 3 z (get_or-set_other w4 (i + 4) (i + 3) (get_or five 4 0) 0 (λ q. omega arith) ∙ get_or-set_same w3 (i + 3) (get_or five 3 0) 0 (omega arith)))
      (λ n3. at 4 (omega (arith, n0, n1, n2, n3)) (get_or-set_same w4 (i + 4) (get_or five 4 0) 0 (omega arith))) (cases_eq k 3)) (cases_eq k 2)) (cases_eq k 1)) (cases_eq k 0)

  five_apart : (j : ℕ) → (j < i) ⊎ (i + 5 ≤ j) → get_or five_stored j 0 ≡ get_or words j 0
  five_apart j out =
      let w1 : List ℕ = set words i (get_or five 0 0) in let w2 : List ℕ = set w1 (i + 1) (get_or five 1 0) in let w3 : List ℕ = set w2 (i + 2) (get_or five 2 0) in let w4 : List ℕ = set w3 (i + 3) (get_or five 3 0) in
      let other : (m : ℕ) → m ≤ 4 → j ≢ i + m = λ m few. ⊎_elim (λ low q. omega (arith, low)) (λ high q. omega (arith, high)) out in let none : j ≢ i = λ q. other 0 (omega arith) (omega arith) in
      get_or-set_other w4 (i + 4) j (get_or five 4 0) 0 (other 4 (omega arith)) ∙ get_or-set_other w3 (i + 3) j (get_or five 3 0) 0 (other 3 (omega arith)) ∙ get_or-set_other w2 (i + 2) j (get_or five 2 0) 0 (other 2 (omega arith))
      ∙ get_or-set_other w1 (i + 1) j (get_or five 1 0) 0 (other 1 (omega arith)) ∙ get_or-set_other words i j (get_or five 0 0) 0 none

  pub five_put : (after : List ℕ) → after ≡ five_stored → WritesFive words after i five
  five_put after is =
      let w1 : List ℕ = set words i (get_or five 0 0) in let w2 : List ℕ = set w1 (i + 1) (get_or five 1 0) in let w3 : List ℕ = set w2 (i + 2) (get_or five 2 0) in let w4 : List ℕ = set w3 (i + 3) (get_or five 3 0) in
      subst (λ (z : List ℕ). WritesFive words z i five) (sym is) record {
        written = five_there;
        before = λ j low. five_apart j (inl low);
        behind = λ j high. five_apart j (inr high);
        long = length-set w4 (i + 4) (get_or five 4 0) ∙ length-set w3 (i + 3) (get_or five 3 0) ∙ length-set w2 (i + 2) (get_or five 2 0) ∙ length-set w1 (i + 1) (get_or five 1 0) ∙ length-set words i (get_or five 0 0);
      }
