-- A chunk of a part that is laid out: what lies in it, when it is as an opening demands, and what its two halves come to.
use Rattle.std.proofs.Common.{◌≡◌, ℕ, suc, ◌+◌, ◌-◌, ◌*◌, ◌/◌, ◌%◌, ◌^◌, ◌<◌, ◌≤◌, ◌≢◌, ◌⊎◌, inl, inr, Bool, true, false, eqb, if◌then◌else◌, List, [], ◌∷◌, ◌++◌, length, get_or, set, refl, sym, ap, ◌∙◌, subst, ⊎_elim, arith, length-set, get_or-set_other, get_or-set_same}
use Rattle.std.proofs.Math.Nat.{two-pow-succ, mul-add, mul_assoc, mul-le-mul_right}
use Rattle.std.proofs.lemmas.Nat.{pow-add}
use Rattle.std.proofs.lemmas.Bool.{lt-ltb, le-ltb, cases_lt, cases_order}
use Rattle.aug_model.specs.Keys.{is_member, keys_of}
use Rattle.aug_model.specs.Queries.{weight_in}
use Rattle.aug_model.proofs.Pairs.{weight-none}
use Rattle.aug_model.proofs.Ranges.{rises_from}
use Rattle.aug_monoid.specs.Parts.{Parts}
use Rattle.aug_core.specs.Places.{Shape, level_start, record_start, word_count, record_words}
use Rattle.aug_core.specs.Addresses.{place_count, IsInner, left_of, right_of, level_of, place_on}
use Rattle.aug_core.specs.Book.{Book, At, ArePrefixes, IsBook, NamesOnce, StandsOver, word_of_leaf}
use Rattle.aug_core.specs.Cuts.{Cut, pairs_of_cut}
use Rattle.aug_core.specs.Eras.{opening_with}
use Rattle.aug_core.specs.Faces.{face}
use Rattle.aug_core.specs.inside.EntryCuts.{IsPartOfCut}
use Rattle.aug_core.specs.inside.WordPlaces.{IsWord}
use Rattle.aug_core.specs.Opening.{Opening, opening_number, opening_pairs, opening_words}
use Rattle.aug_core.specs.declared.view.Entry.{Entry}
use Rattle.aug_core.proofs.Sizes.{twice}
use Rattle.aug_core.proofs.FaceLemmas.{left_in as left_is, right_in as right_is, count_in, a_in, b_in, face_is}
use Rattle.aug_core.proofs.Levels.{Above, above, on_level, leaf_level, leaf_word, level_inside, level_is, one_level}
use Rattle.aug_core.proofs.Below.{own_low, room_number, number_of_leaf, pairs_are, pairs_of_leaf}
use Rattle.aug_core.proofs.Books.{at_below}
use Rattle.aug_core.proofs.Fits.{HasFewSerials}
use Rattle.aug_core.proofs.Refreshing.{same_word}
use Rattle.aug_core.proofs.EntryCuts.{entry_is, cut_later, left_part, right_part, part_pairs}
use Rattle.aug_core.proofs.PrefixLemmas.{entry_stays}
use Rattle.aug_words.specs.inside.Builds.{IsReady}
use Rattle.aug_core.specs.inside.OwnNumbers.{own_number}
use Rattle.aug_words.specs.inside.Laying.{InChunk, IsKept, KeepsRest, LaysNode, renewed_word, next_word, next_record, NamesEntry, IsLaidAs, ShownBelow, Brings}
use Rattle.aug_words.proofs.CutSets.{members_rise}

-- ---- what lies in a chunk

-- all of a leaf's and all of a node's is in the two halves and the node
double : (height level : ℕ) → level ≤ height → 2 ^ (suc height - level) ≡ 2 ^ (height - level) + 2 ^ (height - level)
double height level low = let e : suc height - level ≡ suc (height - level) = omega arith in ap (λ (z : ℕ). 2 ^ z) e ∙ two-pow-succ (height - level)

double_width : (height level chunk : ℕ) → level ≤ height → chunk * 2 ^ (suc height - level) ≡ chunk * 2 ^ (height - level) + chunk * 2 ^ (height - level)
double_width height level chunk low = ap (λ (z : ℕ). chunk * z) (double height level low) ∙ mul-add chunk (2 ^ (height - level)) (2 ^ (height - level))

module _ (s : Shape) (height chunk : ℕ) where
  pub chunk_parts : (node q : ℕ) → IsWord s (suc height) chunk node → InChunk s (suc height) chunk q → (q ≡ node) ⊎ InChunk s height (2 * chunk) q ⊎ InChunk s height (2 * chunk + 1) q
  chunk_parts node q w t = ⊎_elim
      (λ (lt : t.level < suc height). let w : ℕ = 2 ^ (height - t.level) in let a = double_width height t.level chunk (omega arith) in let b = double_width height t.level (chunk + 1) (omega arith) in let first = t.from_first in let last = t.to_last in ⊎_elim
      (λ (left : t.place < (2 * chunk + 1) * w). inr (inl record { level = t.level; place = t.place; here = t.here; low = omega arith; from_first = omega arith; to_last = left }))
      (λ (right : (2 * chunk + 1) * w ≤ t.place). inr (inr record { level = t.level; place = t.place; here = t.here; low = omega arith; from_first = right; to_last = omega arith })) (cases_lt t.place ((2 * chunk + 1) * w)))
      (λ (ge : suc height ≤ t.level). let low = t.low in let on : t.level ≡ suc height = omega arith in let none : suc height - t.level ≡ 0 = omega arith in let one : 2 ^ (suc height - t.level) ≡ 1 = ap (λ (z : ℕ). 2 ^ z) none in
      let a = ap (λ (z : ℕ). chunk * z) one in let b = ap (λ (z : ℕ). (chunk + 1) * z) one in let first = t.from_first in let last = t.to_last in let same : t.place ≡ chunk = omega arith in
      inl (t.here.is ∙ (λ i. level_start s (on i) + same i) ∙ sym w.is)) (cases_lt t.level (suc height))

  pub left_in : (q : ℕ) → InChunk s height (2 * chunk) q → InChunk s (suc height) chunk q
  left_in q t = let a = double_width height t.level chunk t.low in let b = double_width height t.level (chunk + 1) t.low in let first = t.from_first in let last = t.to_last in
      record { level = t.level; place = t.place; here = t.here; low = (let low = t.low in omega arith); from_first = omega arith; to_last = omega arith }

  pub right_in : (q : ℕ) → InChunk s height (2 * chunk + 1) q → InChunk s (suc height) chunk q
  right_in q t = let a = double_width height t.level chunk t.low in let b = double_width height t.level (chunk + 1) t.low in let first = t.from_first in let last = t.to_last in
      record { level = t.level; place = t.place; here = t.here; low = (let low = t.low in omega arith); from_first = omega arith; to_last = omega arith }

  -- the halves have nothing in common
  pub halves_apart : (q : ℕ) → InChunk s height (2 * chunk) q → InChunk s height (2 * chunk + 1) q → ⊥
  halves_apart q a b = let same = one_level s q a.level b.level a.place b.place a.here b.here in let last = a.to_last in
      let first : (2 * chunk + 1) * 2 ^ (height - a.level) ≤ b.place = subst (λ (z : ℕ). (2 * chunk + 1) * 2 ^ (height - z) ≤ b.place) (sym same.0) b.from_first in let place = same.1 in omega arith

  -- a chunk has no node above it
  pub none_above : (level place q : ℕ) → IsWord s level place q → height < level → InChunk s height chunk q → ⊥
  none_above level place q w high t = let same = (one_level s q t.level level t.place place t.here w).0 in let low = t.low in omega arith

  pub node_in : (q : ℕ) → IsWord s height chunk q → InChunk s height chunk q
  node_in q w = let none : height - height ≡ 0 = omega arith in let one : 2 ^ (height - height) ≡ 1 = ap (λ (z : ℕ). 2 ^ z) none in let a = ap (λ (z : ℕ). chunk * z) one in let b = ap (λ (z : ℕ). (chunk + 1) * z) one in
      record { level = height; place = chunk; here = w; low = omega arith; from_first = omega arith; to_last = omega arith }

-- what is in a chunk of a chunk is in that
pub chunk_in : (s : Shape) (l p m k q r : ℕ) → IsWord s m k q → InChunk s l p q → InChunk s m k r → InChunk s l p r
chunk_in s l p m k q r w c d =
    let same = one_level s q m c.level k c.place w c.here in let low = c.low in let under = d.low in
    let first : p * 2 ^ (l - m) ≤ k = subst (λ (z : ℕ × ℕ). p * 2 ^ (l - z.0) ≤ z.1) (λ i. (sym same.0 i, sym same.1 i)) c.from_first in
    let last : k + 1 ≤ (p + 1) * 2 ^ (l - m) = (let t : k < (p + 1) * 2 ^ (l - m) = subst (λ (z : ℕ × ℕ). z.1 < (p + 1) * 2 ^ (l - z.0)) (λ i. (sym same.0 i, sym same.1 i)) c.to_last in omega arith) in
    let j : ℕ = d.level in let level = same.0 in let e : l - j ≡ (l - m) + (m - j) = omega arith in
    let wide : 2 ^ (l - j) ≡ 2 ^ (l - m) * 2 ^ (m - j) = ap (λ (z : ℕ). 2 ^ z) e ∙ pow-add 2 (l - m) (m - j) in
    let a : p * 2 ^ (l - j) ≡ p * 2 ^ (l - m) * 2 ^ (m - j) = ap (λ (z : ℕ). p * z) wide ∙ sym (mul_assoc p (2 ^ (l - m)) (2 ^ (m - j))) in
    let b : (p + 1) * 2 ^ (l - j) ≡ (p + 1) * 2 ^ (l - m) * 2 ^ (m - j) = ap (λ (z : ℕ). (p + 1) * z) wide ∙ sym (mul_assoc (p + 1) (2 ^ (l - m)) (2 ^ (m - j))) in
    let below = mul-le-mul_right (2 ^ (m - j)) first in let over = mul-le-mul_right (2 ^ (m - j)) last in let from = d.from_first in let to = d.to_last in
    record { level = j; place = d.place; here = d.here; low = omega arith; from_first = omega arith; to_last = omega arith }

-- ---- a leaf, and a node over its children

module _ (s : Shape) where
  pub kept_on : (a b c : List ℕ) (q : ℕ) → IsKept s a b q → IsKept s b c q → IsKept s a c q
  kept_on a b c q x y = record { word = y.word ∙ x.word; own_record = λ k inner small. y.own_record k inner small ∙ x.own_record k inner small }

  pub kept_none : (a : List ℕ) (q : ℕ) → IsKept s a a q
  kept_none a q = record { word = refl; own_record = λ k inner small. refl }

module _ (face : ℕ → ℕ → List (ℕ × ℕ) → List ℕ) (o : Opening) (room : 2 ^ o.shape.bits ≤ o.shape.members) where
  pub ready_kept : (old new : List ℕ) (q : ℕ) → length new ≡ length old → IsReady face o old q → IsKept o.shape old new q → IsReady face o new q
  ready_kept old new q long r k = record {
    inside = r.inside;
    long = long ∙ r.long;
    word = k.word ∙ r.word;
    node = λ past n small. let inner : IsInner o.shape q = record { past_leaves = past; inside = r.inside } in let number = room_number o room q inner in
        ap (λ (z : ℕ). get_or new (record_start o.shape z + n) 0) number ∙ k.own_record n inner small ∙ ap (λ (z : ℕ). get_or old (record_start o.shape z + n) 0) (sym number) ∙ r.node past n small;
  }

  -- a node's record and word are stored, and nothing else
  module _ (q : ℕ) (inner : IsInner o.shape q) (five v w : List ℕ) (n : LaysNode o.shape q five v w) (wide : length v ≡ word_count o.shape) where
    abbrev number : ℕ
    number = own_number o.shape q

    lies : (place_count o.shape ≤ record_start o.shape number) × (record_start o.shape number + record_words ≤ length v)
    lies = let low = own_low o.shape q room inner in (omega arith, omega arith)

    words_are : w ≡ set n.mid q number
    words_are = n.is

    pub node_long : length w ≡ length v
    node_long = ap length words_are ∙ length-set n.mid q number ∙ n.writes.long

    pub node_ready : five ≡ opening_words face o q → IsReady face o w q
    node_ready are = let l = lies in let l0 = l.0 in let inside = inner.inside in let long = n.writes.long in let t = twice o.shape.bits in let e = room_number o room q inner in subst (λ (z : List ℕ). IsReady face o z q) (sym words_are) record {
      inside = inner.inside;
      long = length-set n.mid q number ∙ n.writes.long ∙ wide;
      word = get_or-set_same n.mid q number 0 (omega arith) ∙ sym e;
      node = λ _ k small. ap (λ (z : ℕ). get_or (set n.mid q number) (record_start o.shape z + k) 0) e ∙ get_or-set_other n.mid q (record_start o.shape number + k) number 0 (λ same. omega arith) ∙ n.writes.written k small ∙ ap (λ (z : List ℕ). get_or z k 0) are;
    }

    pub node_keeps : (r : ℕ) → r < place_count o.shape → r ≢ q → IsKept o.shape v w r
    node_keeps r low other = let l = lies in let l0 = l.0 in let inside = inner.inside in let past = inner.past_leaves in subst (λ (z : List ℕ). IsKept o.shape v z r) (sym words_are) record {
      word = get_or-set_other n.mid q r number 0 other ∙ n.writes.before r (omega arith);
      own_record = λ k inner' small. let past' = inner'.past_leaves in let m : ℕ = own_number o.shape r in get_or-set_other n.mid q (record_start o.shape m + k) number 0 (λ e. omega arith) ∙ ⊎_elim
          (λ (same : m ≡ number). absurd (other (omega arith)))
          (λ z. ⊎_elim (λ (lt : m < number). n.writes.before (record_start o.shape m + k) (omega arith)) (λ (gt : number < m). n.writes.behind (record_start o.shape m + k) (omega arith)) z) (cases_order m number);
    }

    pub node_between : (i : ℕ) → place_count o.shape ≤ i → i < record_start o.shape o.shape.bits → get_or w i 0 ≡ get_or v i 0
    node_between i past under = let inside = inner.inside in let past' = inner.past_leaves in
        ap (λ (z : List ℕ). get_or z i 0) words_are ∙ get_or-set_other n.mid q i number 0 (λ e. omega arith) ∙ n.writes.before i (omega arith)

-- ---- what is laid out as an entry

module _ (s : Shape) (room : 2 ^ s.bits ≤ s.members) where
  -- a leaf's chunk
  leaf_only : (key r : ℕ) → key < 2 ^ s.bits → InChunk s 0 key r → r ≡ key
  leaf_only key r low c = let none : c.level ≡ 0 = (let under = c.low in omega arith) in let here = leaf_word s c.place r (subst (λ (z : ℕ). IsWord s z c.place r) none c.here) in let first = c.from_first in let last = c.to_last in
      let one : 0 - c.level ≡ 0 = omega (arith, none) in let e : 2 ^ (0 - c.level) ≡ 1 = ap (λ (z : ℕ). 2 ^ z) one in let a = ap (λ (z : ℕ). key * z) e in let b = ap (λ (z : ℕ). (key + 1) * z) e in let h = here.0 in omega arith

  -- a leaf's word is stored, and nothing else
  leaf_keeps : (key value : ℕ) (w : List ℕ) → key < 2 ^ s.bits → KeepsRest s 0 key w (set w key value)
  leaf_keeps key value w low = let t = twice s.bits in let stays : (i : ℕ) → i ≢ key → get_or (set w key value) i 0 ≡ get_or w i 0 = λ i other. get_or-set_other w key i value 0 other in record {
    long = length-set w key value;
    others = λ q inside out. record {
      word = stays q (λ e. out (subst (InChunk s 0 key) (sym e) (node_in s 0 key key (leaf_level s key low))));
      own_record = λ k inner small. stays (record_start s (own_number s q) + k) (λ e. omega arith);
    };
    between = λ i past under. stays i (λ e. omega arith);
  }

  keeps_none : (height chunk : ℕ) (w : List ℕ) → KeepsRest s height chunk w w
  keeps_none height chunk w = record { long = refl; others = λ q inside out. kept_none s w q; between = λ i past under. refl }

  module _ (f : ℕ → ℕ → List (ℕ × ℕ) → List ℕ) (book : Book) where
    -- nothing was done
    pub brings_none : (height chunk : ℕ) (w h : List ℕ) → ShownBelow f s book w h height chunk → Brings f s book height chunk w w h h
    brings_none height chunk w h below = record { keeps = keeps_none height chunk w; noted = refl; others = λ q inner out. refl; below = below }

    -- by other names
    pub brings_same : (seen : Book) (q p : ℕ) (u v w x h k m : List ℕ) → seen ≡ book → q ≡ p → u ≡ w → v ≡ x → h ≡ k → Brings f s seen (level_of s q) (place_on s q) u v h m → Brings f s book (level_of s p) (place_on s p) w x k m
    brings_same seen q p u v w x h k m a b c d e told = subst (λ (z : Book × ℕ × List ℕ × List ℕ × List ℕ). Brings f s z.0 (level_of s z.1) (place_on s z.1) z.2 z.3 z.4 m) (λ i. (a i, b i, c i, d i, e i)) told

    pub below_same : (seen : Book) (q p : ℕ) (u w h k : List ℕ) → book ≡ seen → p ≡ q → w ≡ u → k ≡ h → ShownBelow f s book w k (level_of s p) (place_on s p) → ShownBelow f s seen u h (level_of s q) (place_on s q)
    below_same seen q p u w h k a b c d told = subst (λ (z : Book × ℕ × List ℕ × List ℕ). ShownBelow f s z.0 z.2 z.3 (level_of s z.1) (place_on s z.1)) (λ i. (a i, b i, c i, d i)) told

    pub laid_same : (seen : Book) (q p n m : ℕ) (u w : List ℕ) → seen ≡ book → q ≡ p → n ≡ m → u ≡ w → IsLaidAs f s seen q n u → IsLaidAs f s book p m w
    laid_same seen q p n m u w a b c d told = subst (λ (z : Book × ℕ × ℕ × List ℕ). IsLaidAs f s z.0 z.1 z.2 z.3) (λ i. (a i, b i, c i, d i)) told

    -- a leaf was laid out
    pub brings_leaf : (key value : ℕ) (w h : List ℕ) → key < 2 ^ s.bits → Brings f s book (level_of s key) (place_on s key) w (set w key value) h h
    brings_leaf key value w h low = let on = level_is s key 0 key (leaf_level s key low) in
        let brought : Brings f s book 0 key w (set w key value) h h = record {
          keeps = leaf_keeps key value w low;
          noted = refl;
          others = λ q inner out. refl;
          below = λ q n inner c shown. let past = inner.past_leaves in let same = leaf_only key q low c in absurd (omega (arith, same));
        } in subst (λ (z : ℕ × ℕ). Brings f s book z.0 z.1 w (set w key value) h h) (λ i. (sym on.0 i, sym on.1 i)) brought

    -- what lies beside a changed chunk stays laid out
    laid_kept : (q n : ℕ) (v w : List ℕ) → length w ≡ length v → ((r : ℕ) → r < place_count s → InChunk s (level_of s q) (place_on s q) r → IsKept s v w r) → IsLaidAs f s book q n v → IsLaidAs f s book q n w
    laid_kept q n v w long kept laid = record { names = laid.names; laid = λ cut part r c. ready_kept f (opening_with s (pairs_of_cut cut)) room v w r long (laid.laid cut part r c) (kept r (level_inside s r c.level c.place c.here) c) }

    -- beside a half
    other_half : (l p c c' : ℕ) (v w h k : List ℕ) → ((q : ℕ) → InChunk s l c q → InChunk s l c' q → ⊥) → Brings f s book l c v w h k → ShownBelow f s book v h l c' → ShownBelow f s book w k l c'
    other_half l p c c' v w h k apart b below q n inner at shown = let on = on_level s q inner.inside in
        let was : get_or h (q - 2 ^ s.bits) 0 ≡ n + 1 = sym (b.others q inner (λ z. apart q z at)) ∙ shown in
        laid_kept q n v w b.keeps.long (λ r inside z. b.keeps.others r inside (λ y. apart r y (chunk_in s l c' (level_of s q) (place_on s q) q r on at z))) (below q n inner at was)

    module _ (q : ℕ) (inner : IsInner s q) where
      abbrev t : Above s q
      t = above s q inner

      abbrev slot : ℕ → ℕ
      slot r = r - 2 ^ s.bits

      -- the node lies in no half
      not_left : InChunk s t.level (2 * t.place) q → ⊥
      not_left c = none_above s t.level (2 * t.place) (suc t.level) t.place q t.here (omega arith) c

      not_right : InChunk s t.level (2 * t.place + 1) q → ⊥
      not_right c = none_above s t.level (2 * t.place + 1) (suc t.level) t.place q t.here (omega arith) c

      other_slot : (r : ℕ) → IsInner s r → r ≢ q → slot r ≢ slot q
      other_slot r inner' ne e = let past = inner.past_leaves in let past' = inner'.past_leaves in ne (omega arith)

      -- nothing is noted of it while its halves are changed
      abbrev cleared : List ℕ → List ℕ
      cleared h = set h (slot q) 0

      cleared_half : (c : ℕ) (w h : List ℕ) → (InChunk s t.level c q → ⊥) → ((r : ℕ) → InChunk s t.level c r → InChunk s (suc t.level) t.place r) → ShownBelow f s book w h (suc t.level) t.place → ShownBelow f s book w (cleared h) t.level c
      cleared_half c w h out up below r n inner' at shown = let ne : r ≢ q = λ e. out (subst (InChunk s t.level c) e at) in
          below r n inner' (up r at) (sym (get_or-set_other h (slot q) (slot r) 0 0 (other_slot r inner' ne)) ∙ shown)

      on : (level_of s q ≡ suc t.level) × (place_on s q ≡ t.place)
      on = level_is s q (suc t.level) t.place t.here

      on_left : (level_of s (left_of s q) ≡ t.level) × (place_on s (left_of s q) ≡ 2 * t.place)
      on_left = level_is s (left_of s q) t.level (2 * t.place) t.left

      on_right : (level_of s (right_of s q) ≡ t.level) × (place_on s (right_of s q) ≡ 2 * t.place + 1)
      on_right = level_is s (right_of s q) t.level (2 * t.place + 1) t.right

      module _ (w h : List ℕ) (below : ShownBelow f s book w h (level_of s q) (place_on s q)) where
        here : ShownBelow f s book w h (suc t.level) t.place
        here = subst (λ (z : ℕ × ℕ). ShownBelow f s book w h z.0 z.1) (λ i. (on.0 i, on.1 i)) below

        pub left_below : ShownBelow f s book w (cleared h) (level_of s (left_of s q)) (place_on s (left_of s q))
        left_below = subst (λ (z : ℕ × ℕ). ShownBelow f s book w (cleared h) z.0 z.1) (λ i. (sym on_left.0 i, sym on_left.1 i)) (cleared_half (2 * t.place) w h not_left (left_in s t.level t.place) here)

        module _ (w' h' : List ℕ) (left : Brings f s book (level_of s (left_of s q)) (place_on s (left_of s q)) w w' (cleared h) h') where
          first : Brings f s book t.level (2 * t.place) w w' (cleared h) h'
          first = subst (λ (z : ℕ × ℕ). Brings f s book z.0 z.1 w w' (cleared h) h') (λ i. (on_left.0 i, on_left.1 i)) left

          pub right_below : ShownBelow f s book w' h' (level_of s (right_of s q)) (place_on s (right_of s q))
          right_below = subst (λ (z : ℕ × ℕ). ShownBelow f s book w' h' z.0 z.1) (λ i. (sym on_right.0 i, sym on_right.1 i))
              (other_half t.level t.place (2 * t.place) (2 * t.place + 1) w w' (cleared h) h' (halves_apart s t.level t.place) first (cleared_half (2 * t.place + 1) w h not_right (right_in s t.level t.place) here))

          module _ (u k : List ℕ) (right : Brings f s book (level_of s (right_of s q)) (place_on s (right_of s q)) w' u h' k) (slots : slot q < length h) where
            second : Brings f s book t.level (2 * t.place + 1) w' u h' k
            second = subst (λ (z : ℕ × ℕ). Brings f s book z.0 z.1 w' u h' k) (λ i. (on_right.0 i, on_right.1 i)) right

            blank : get_or k (slot q) 0 ≡ 0
            blank = second.others q inner not_right ∙ first.others q inner not_left ∙ get_or-set_same h (slot q) 0 0 slots

            both_keep : KeepsRest s (suc t.level) t.place w u
            both_keep = record {
              long = second.keeps.long ∙ first.keeps.long;
              others = λ r inside out. kept_on s w w' u r (first.keeps.others r inside (λ z. out (left_in s t.level t.place r z))) (second.keeps.others r inside (λ z. out (right_in s t.level t.place r z)));
              between = λ i past under. second.keeps.between i past under ∙ first.keeps.between i past under;
            }

            both_noted : length k ≡ length h
            both_noted = second.noted ∙ first.noted ∙ length-set h (slot q) 0

            not_node : (r : ℕ) → (InChunk s (suc t.level) t.place r → ⊥) → r ≢ q
            not_node r out e = out (subst (InChunk s (suc t.level) t.place) (sym e) (node_in s (suc t.level) t.place q t.here))

            both_others : (r : ℕ) → IsInner s r → (InChunk s (suc t.level) t.place r → ⊥) → get_or k (slot r) 0 ≡ get_or h (slot r) 0
            both_others r inner' out =
                second.others r inner' (λ z. out (right_in s t.level t.place r z)) ∙ first.others r inner' (λ z. out (left_in s t.level t.place r z)) ∙ get_or-set_other h (slot q) (slot r) 0 0 (other_slot r inner' (not_node r out))

            left_there : ShownBelow f s book u k t.level (2 * t.place)
            left_there = other_half t.level t.place (2 * t.place + 1) (2 * t.place) w' u h' k (λ r a b. halves_apart s t.level t.place r b a) second first.below

            -- the halves were brought up, and the node was not
            pub brings_halves : Brings f s book (level_of s q) (place_on s q) w u h k
            brings_halves =
                let brought : Brings f s book (suc t.level) t.place w u h k = record {
                  keeps = both_keep;
                  noted = both_noted;
                  others = both_others;
                  below = λ r n inner' c shown. ⊎_elim
                      (λ (same : r ≡ q). let none : get_or k (slot r) 0 ≡ 0 = ap (λ (z : ℕ). get_or k (slot z) 0) same ∙ blank in absurd (omega (arith, none, shown)))
                      (λ halves. ⊎_elim (λ z. left_there r n inner' z shown) (λ z. second.below r n inner' z shown) halves) (chunk_parts s t.level t.place q r t.here c);
                } in subst (λ (z : ℕ × ℕ). Brings f s book z.0 z.1 w u h k) (λ i. (sym on.0 i, sym on.1 i)) brought

            -- the node was too
            module _ (five v : List ℕ) (n : LaysNode s q five u v) (wide : length w ≡ word_count s) where
              before : length u ≡ word_count s
              before = both_keep.long ∙ wide

              longer : length v ≡ length u
              longer = node_long f (opening_with s []) room q inner five u v n before

              keep : (r : ℕ) → r < place_count s → r ≢ q → IsKept s u v r
              keep = node_keeps f (opening_with s []) room q inner five u v n before

              -- what lies in a half stays
              half_laid : (c r m : ℕ) → (InChunk s t.level c q → ⊥) → r < place_count s → InChunk s t.level c r → IsLaidAs f s book r m u → IsLaidAs f s book r m v
              half_laid c r m out inside at laid =
                  laid_kept r m u v longer (λ x inside' z. keep x inside' (λ e. out (subst (InChunk s t.level c) e (chunk_in s t.level c (level_of s r) (place_on s r) r x (on_level s r inside) at z)))) laid

              pub brings_node : (word : ℕ) → IsLaidAs f s book q word v → Brings f s book (level_of s q) (place_on s q) w v h (set k (slot q) (word + 1))
              brings_node word names =
                  let brought : Brings f s book (suc t.level) t.place w v h (set k (slot q) (word + 1)) = record {
                    keeps = record {
                      long = longer ∙ both_keep.long;
                      others = λ r inside out. kept_on s w u v r (both_keep.others r inside out) (keep r inside (not_node r out));
                      between = λ i past under. node_between f (opening_with s []) room q inner five u v n before i past under ∙ both_keep.between i past under;
                    };
                    noted = length-set k (slot q) (word + 1) ∙ both_noted;
                    others = λ r inner' out. get_or-set_other k (slot q) (slot r) (word + 1) 0 (other_slot r inner' (not_node r out)) ∙ both_others r inner' out;
                    below = λ r m inner' c shown. ⊎_elim
                        (λ (same : r ≡ q). let there : get_or (set k (slot q) (word + 1)) (slot r) 0 ≡ word + 1 = ap (λ (z : ℕ). get_or (set k (slot q) (word + 1)) (slot z) 0) same ∙ get_or-set_same k (slot q) (word + 1) 0 (let long = both_noted in omega arith) in
                        let is : word ≡ m = omega (arith, there, shown) in subst (λ (z : ℕ × ℕ). IsLaidAs f s book z.0 z.1 v) (λ i. (sym same i, is i)) names)
                        (λ halves. ⊎_elim
                        (λ z. let ne : r ≢ q = λ e. not_left (subst (InChunk s t.level (2 * t.place)) e z) in
                        half_laid (2 * t.place) r m not_left inner'.inside z (left_there r m inner' z (sym (get_or-set_other k (slot q) (slot r) (word + 1) 0 (other_slot r inner' ne)) ∙ shown)))
                        (λ z. let ne : r ≢ q = λ e. not_right (subst (InChunk s t.level (2 * t.place + 1)) e z) in
                        half_laid (2 * t.place + 1) r m not_right inner'.inside z (second.below r m inner' z (sym (get_or-set_other k (slot q) (slot r) (word + 1) 0 (other_slot r inner' ne)) ∙ shown))) halves) (chunk_parts s t.level t.place q r t.here c);
                  } in subst (λ (z : ℕ × ℕ). Brings f s book z.0 z.1 w v h (set k (slot q) (word + 1))) (λ i. (sym on.0 i, sym on.1 i)) brought

              -- and it is laid out as the entry over those as which its halves are
              pub node_as : IsBook f s book → NamesOnce s book → HasFewSerials s book → (i x y word : ℕ) (e : Entry) → At book q i e → e.word ≡ word → (l g : Entry) → At book (left_of s q) e.left l → At book (right_of s q) e.right g → l.word ≡ x → g.word ≡ y
                  → IsLaidAs f s book (left_of s q) x w' → IsLaidAs f s book (right_of s q) y u → ((cut : Cut) → IsPartOfCut s book cut (suc t.level) t.place q i → five ≡ opening_words f (opening_with s (pairs_of_cut cut)) q)
                  → IsLaidAs f s book q word v
              node_as b once few i x y word e at named l g left_at right_at lx gy as_left as_right opens =
                  let left_inside = level_inside s (left_of s q) t.level (2 * t.place) t.left in let right_inside = level_inside s (right_of s q) t.level (2 * t.place + 1) t.right in
                  let in_left : InChunk s t.level (2 * t.place) (left_of s q) = node_in s t.level (2 * t.place) (left_of s q) t.left in
                  let in_right : InChunk s t.level (2 * t.place + 1) (right_of s q) = node_in s t.level (2 * t.place + 1) (right_of s q) t.right in
                  let left_u = laid_kept (left_of s q) x w' u second.keeps.long (λ r inside z. second.keeps.others r inside (λ z'. halves_apart s t.level t.place r (chunk_in s t.level (2 * t.place) (level_of s (left_of s q)) (place_on s (left_of s q)) (left_of s q) r (on_level s (left_of s q) left_inside) in_left z) z')) as_left in
                  let left_v = half_laid (2 * t.place) (left_of s q) x not_left left_inside in_left left_u in
                  let right_v = half_laid (2 * t.place + 1) (right_of s q) y not_right right_inside in_right as_right in
                  let one_left : left_v.names.index ≡ e.left = same_word f s book b once few (left_of s q) left_v.names.index e.left left_v.names.entry l left_inside left_v.names.at left_at (left_v.names.named ∙ sym lx) in
                  let one_right : right_v.names.index ≡ e.right = same_word f s book b once few (right_of s q) right_v.names.index e.right right_v.names.entry g right_inside right_v.names.at right_at (right_v.names.named ∙ sym gy) in
                  let is = entry_is book q i e at in record {
                    names = record { index = i; entry = e; at = at; named = named };
                    laid = λ cut part r c.
                        let part' : IsPartOfCut s book cut (suc t.level) t.place q i = subst (λ (z : ℕ × ℕ). IsPartOfCut s book cut z.0 z.1 q i) (λ j. (on.0 j, on.1 j)) part in
                        let c' : InChunk s (suc t.level) t.place r = subst (λ (z : ℕ × ℕ). InChunk s z.0 z.1 r) (λ j. (on.0 j, on.1 j)) c in
                        let left_part' : IsPartOfCut s book cut (level_of s (left_of s q)) (place_on s (left_of s q)) (left_of s q) left_v.names.index =
                        subst (λ (z : ℕ × ℕ × ℕ). IsPartOfCut s book cut z.0 z.1 (left_of s q) z.2) (λ j. (sym on_left.0 j, sym on_left.1 j, (ap (λ (z : Entry). z.left) is ∙ sym one_left) j)) (left_part f s book b cut t.level t.place q i part') in
                        let right_part' : IsPartOfCut s book cut (level_of s (right_of s q)) (place_on s (right_of s q)) (right_of s q) right_v.names.index =
                        subst (λ (z : ℕ × ℕ × ℕ). IsPartOfCut s book cut z.0 z.1 (right_of s q) z.2) (λ j. (sym on_right.0 j, sym on_right.1 j, (ap (λ (z : Entry). z.right) is ∙ sym one_right) j)) (right_part f s book b cut t.level t.place q i part') in ⊎_elim
                        (λ (same : r ≡ q). subst (IsReady f (opening_with s (pairs_of_cut cut)) v) (sym same) (node_ready f (opening_with s (pairs_of_cut cut)) room q inner five u v n before (opens cut part')))
                        (λ halves. ⊎_elim
                        (λ z. left_v.laid cut left_part' r (subst (λ (z : ℕ × ℕ). InChunk s z.0 z.1 r) (λ j. (sym on_left.0 j, sym on_left.1 j)) z))
                        (λ z. right_v.laid cut right_part' r (subst (λ (z : ℕ × ℕ). InChunk s z.0 z.1 r) (λ j. (sym on_right.0 j, sym on_right.1 j)) z)) halves) (chunk_parts s t.level t.place q r t.here c');
                  }

    -- ---- a leaf

    abbrev one_if : Bool → ℕ → ℕ → List (ℕ × ℕ)
    one_if b key weight = if b then (key, weight) ∷ [] else []

    -- its opening word over the set of a cut
    pub leaf_opens : IsBook f s book → (key i : ℕ) (e : Entry) (cut : Cut) → key < 2 ^ s.bits → At book key i e → IsPartOfCut s book cut 0 key key i → renewed_word e.word ≡ opening_number (opening_with s (pairs_of_cut cut)) key
    leaf_opens b key i e cut low at part =
        let o : Opening = opening_with s (pairs_of_cut cut) in let members : List (ℕ × ℕ) = pairs_of_cut cut in let serial = b.serials key i e low at in let named = serial.named in let fits = serial.fits in
        let pairs : one_if (eqb (i % 2) 1) key e.weight ≡ one_if (is_member (keys_of members) key) key (weight_in members key) =
        sym serial.there_if_odd ∙ ap (λ (z : Entry). z.pairs) (sym (entry_is book key i e at)) ∙ part_pairs f s book b cut 0 key key i part ∙ sym (pairs_are o key 0 key (leaf_level s key low))
        ∙ pairs_of_leaf o (rises_from (keys_of members) (members_rise cut)) key low in
        let over : e.word / 2 ^ 32 % 2 ≡ i % 2 = omega arith in let under : e.word % 2 ^ 32 ≡ e.weight = omega arith in
        let is : renewed_word e.word ≡ (if eqb (i % 2) 1 then 2 ^ 32 + e.weight else 0) = λ j. if eqb (over j) 1 then 2 ^ 32 + under j else 0 in
        is ∙ leaf_cases (eqb (i % 2) 1) (is_member (keys_of members) key) key e.weight (weight_in members key) (weight-none members key) pairs ∙ sym (number_of_leaf o key low)
      where
        leaf_cases : (x y : Bool) (key v w : ℕ) → (y ≡ false → w ≡ 0) → one_if x key v ≡ one_if y key w → (if x then 2 ^ 32 + v else 0) ≡ word_of_leaf (if y then 1 else 0) w
        leaf_cases true true key v w none same = let e : v ≡ w = ap (λ (z : List (ℕ × ℕ)). (get_or z 0 (0, 0)).1) same in omega arith
        leaf_cases true false key v w none same = let e : 1 ≡ 0 = ap length same in absurd (omega (arith, e))
        leaf_cases false true key v w none same = let e : 1 ≡ 0 = sym (ap length same) in absurd (omega (arith, e))
        leaf_cases false false key v w none same = let e = none refl in omega arith

    pub leaf_as : IsBook f s book → (key i word : ℕ) (e : Entry) (w : List ℕ) → key < 2 ^ s.bits → At book key i e → e.word ≡ word → length w ≡ word_count s → IsLaidAs f s book key word (set w key (renewed_word word))
    leaf_as b key i word e w low at named wide = let t = twice s.bits in let on = level_is s key 0 key (leaf_level s key low) in record {
      names = record { index = i; entry = e; at = at; named = named };
      laid = λ cut part r c.
          let part' : IsPartOfCut s book cut 0 key key i = subst (λ (z : ℕ × ℕ). IsPartOfCut s book cut z.0 z.1 key i) (λ j. (on.0 j, on.1 j)) part in
          let same = leaf_only key r low (subst (λ (z : ℕ × ℕ). InChunk s z.0 z.1 r) (λ j. (on.0 j, on.1 j)) c) in
          subst (IsReady f (opening_with s (pairs_of_cut cut)) (set w key (renewed_word word))) (sym same) record {
            inside = omega arith;
            long = length-set w key (renewed_word word) ∙ wide;
            word = get_or-set_same w key (renewed_word word) 0 (omega arith) ∙ ap renewed_word (sym named) ∙ leaf_opens b key i e cut low at part';
            node = λ past. absurd (omega arith);
          };
    }

    -- ---- a later book

    later_part : IsBook f s book → (later : Book) (cut : Cut) (level place q i : ℕ) (e : Entry) → ArePrefixes book later → At book q i e → IsPartOfCut s later cut level place q i → IsPartOfCut s book cut level place q i
    later_part b later cut level place q i e grows at p = let has = at_below _ i e at in record {
      word = p.word;
      there = has;
      before = p.before;
      after = p.after;
      parts = p.parts ∙ ap (λ (z : Cut). p.before ++ (z ++ p.after)) (cut_later f s book b later level place q i grows p.word has);
      from = p.from;
    }

    pub laid_later : IsBook f s book → (later : Book) (q word : ℕ) (w : List ℕ) → ArePrefixes book later → IsLaidAs f s book q word w → IsLaidAs f s later q word w
    laid_later b later q word w grows laid = let names = laid.names in record {
      names = record { index = names.index; entry = names.entry; at = entry_stays grows q names.index names.entry names.at; named = names.named };
      laid = λ cut part r c. laid.laid cut (later_part b later cut (level_of s q) (place_on s q) q names.index names.entry grows names.at part) r c;
    }

-- ---- the words of a node's own record

module _ {A B : Type 0} (parts_a : Parts A) (parts_b : Parts B) (s : Shape) (room : 2 ^ s.bits ≤ s.members) (book : Book) (b : IsBook (face parts_a parts_b) s book) where
  -- the word with which a child opens
  child_opens : (q i : ℕ) (e : Entry) (cut : Cut) (level place : ℕ) → At book q i e → IsPartOfCut s book cut level place q i → next_word s q e.word ≡ opening_number (opening_with s (pairs_of_cut cut)) q
  child_opens q i e cut level place at part = let inside = level_inside s q level place part.word in ⊎_elim
      (λ (low : q < 2 ^ s.bits). let on = one_level s q level 0 place q part.word (leaf_level s q low) in
      ap (λ (z : Bool). if z then renewed_word e.word else own_number s q) (lt-ltb q (2 ^ s.bits) low)
      ∙ leaf_opens s room (face parts_a parts_b) book b q i e cut low at (subst (λ (z : ℕ × ℕ). IsPartOfCut s book cut z.0 z.1 q i) (λ j. (on.0 j, on.1 j)) part))
      (λ (past : 2 ^ s.bits ≤ q). ap (λ (z : Bool). if z then renewed_word e.word else own_number s q) (le-ltb q (2 ^ s.bits) past) ∙ sym (room_number (opening_with s (pairs_of_cut cut)) room q record { past_leaves = past; inside = inside }))
      (cases_lt q (2 ^ s.bits))

  pub five_opens : (q i : ℕ) (inner : IsInner s q) (e : Entry) (five : List ℕ) → At book q i e → ((field : ℕ) → field < record_words → get_or five field 0 ≡ get_or e.words field 0)
      → (cut : Cut) (level place : ℕ) → IsPartOfCut s book cut (suc level) place q i → next_record s q five ≡ opening_words (face parts_a parts_b) (opening_with s (pairs_of_cut cut)) q
  five_opens q i inner e five at says cut level place part =
      let f = face parts_a parts_b in let o : Opening = opening_with s (pairs_of_cut cut) in let over = b.over q i e inner at in let l = over.left_child in let g = over.right_child in let is = entry_is book q i e at in
      let read : (field : ℕ) → field < record_words → get_or five field 0 ≡ get_or (f l.word g.word e.pairs) field 0 = λ field low. says field low ∙ ap (λ (z : List ℕ). get_or z field 0) over.words_say in
      let pairs : e.pairs ≡ opening_pairs o q = ap (λ (z : Entry). z.pairs) (sym is) ∙ part_pairs f s book b cut (suc level) place q i part ∙ sym (pairs_are o q (suc level) place part.word) in
      let left : next_word s (left_of s q) (get_or five 0 0) ≡ opening_number o (left_of s q) = ap (next_word s (left_of s q)) (read 0 (omega arith) ∙ left_is parts_a parts_b l.word g.word e.pairs)
      ∙ child_opens (left_of s q) e.left l cut level (2 * place) over.left_at (subst (λ (z : Entry). IsPartOfCut s book cut level (2 * place) (left_of s q) z.left) is (left_part f s book b cut level place q i part)) in
      let right : next_word s (right_of s q) (get_or five 1 0) ≡ opening_number o (right_of s q) = ap (next_word s (right_of s q)) (read 1 (omega arith) ∙ right_is parts_a parts_b l.word g.word e.pairs)
      ∙ child_opens (right_of s q) e.right g cut level (2 * place + 1) over.right_at (subst (λ (z : Entry). IsPartOfCut s book cut level (2 * place + 1) (right_of s q) z.right) is (right_part f s book b cut level place q i part)) in
      face_is parts_a parts_b (next_word s (left_of s q) (get_or five 0 0)) (next_word s (right_of s q) (get_or five 1 0)) (get_or five 2 0) (get_or five 3 0) (get_or five 4 0) e.pairs
      (read 2 (omega arith) ∙ count_in parts_a parts_b l.word g.word e.pairs) (read 3 (omega arith) ∙ a_in parts_a parts_b l.word g.word e.pairs) (read 4 (omega arith) ∙ b_in parts_a parts_b l.word g.word e.pairs)
      ∙ (λ j. f (left j) (right j) (pairs j))

  -- what the words that were loaded of a node's record name
  module _ (q i : ℕ) (inner : IsInner s q) (e : Entry) (five : List ℕ) (at : At book q i e) (says : (field : ℕ) → field < record_words → get_or five field 0 ≡ get_or e.words field 0) where
    over : StandsOver (face parts_a parts_b) s book q e
    over = b.over q i e inner at

    left_word : over.left_child.word ≡ get_or five 0 0
    left_word = sym (says 0 (omega arith) ∙ ap (λ (z : List ℕ). get_or z 0 0) over.words_say ∙ left_is parts_a parts_b over.left_child.word over.right_child.word e.pairs)

    right_word : over.right_child.word ≡ get_or five 1 0
    right_word = sym (says 1 (omega arith) ∙ ap (λ (z : List ℕ). get_or z 1 0) over.words_say ∙ right_is parts_a parts_b over.left_child.word over.right_child.word e.pairs)

    pub left_named : NamesEntry book (left_of s q) (get_or five 0 0)
    left_named = record { index = e.left; entry = over.left_child; at = over.left_at; named = left_word }

    pub right_named : NamesEntry book (right_of s q) (get_or five 1 0)
    right_named = record { index = e.right; entry = over.right_child; at = over.right_at; named = right_word }

    pub node_laid : NamesOnce s book → HasFewSerials s book → (word : ℕ) → e.word ≡ word → (w h w' h' u k v : List ℕ) (below : ShownBelow (face parts_a parts_b) s book w h (level_of s q) (place_on s q))
        → (left : Brings (face parts_a parts_b) s book (level_of s (left_of s q)) (place_on s (left_of s q)) w w' (set h (q - 2 ^ s.bits) 0) h')
        → Brings (face parts_a parts_b) s book (level_of s (right_of s q)) (place_on s (right_of s q)) w' u h' k → q - 2 ^ s.bits < length h → LaysNode s q (next_record s q five) u v → length w ≡ word_count s
        → IsLaidAs (face parts_a parts_b) s book (left_of s q) (get_or five 0 0) w' → IsLaidAs (face parts_a parts_b) s book (right_of s q) (get_or five 1 0) u → IsLaidAs (face parts_a parts_b) s book q word v
    node_laid once few word named w h w' h' u k v below left right slots lays wide as_left as_right =
        node_as s room (face parts_a parts_b) book q inner w h below w' h' left u k right slots (next_record s q five) v lays wide b once few i (get_or five 0 0) (get_or five 1 0) word e at named over.left_child over.right_child over.left_at over.right_at left_word right_word as_left as_right
        (λ cut part. let t = above s q inner in five_opens q i inner e five at says cut t.level t.place part)
