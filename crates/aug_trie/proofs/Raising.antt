-- Ways that join on the way to the root, and what going up one of them raises of the others.
use Rattle.std.proofs.Common.{◌≡◌, ◌≢◌, ◌⊎◌, ℕ, suc, ◌+◌, ◌-◌, ◌*◌, ◌^◌, ◌<◌, ◌≤◌, List, [], All, length, get_or, suc-mul, sym, refl, ap, ◌∙◌, subst, inl, inr, ⊎_elim, arith}
use Rattle.std.proofs.lemmas.Bool.{cases_eq, cases_lt}
use Rattle.std.proofs.lemmas.Nat.{mul-le}
use Rattle.std.proofs.lemmas.List.Elements.{All-get_or}
use Rattle.aug_core.specs.Places.{Shape}
use Rattle.aug_core.specs.Book.{Book, history_of, ArePrefixes, IsBook}
use Rattle.aug_core.specs.inside.Refreshes.{NewestCovers}
use Rattle.aug_core.specs.inside.Shows.{above, Lifts, NewestShows}
use Rattle.aug_core.specs.Effects.{KnowsBook}
use Rattle.aug_core.specs.declared.view.SeatView.{SeatView}
use Rattle.aug_core.proofs.Books.{there_is, no_shorter}
use Rattle.aug_core.proofs.Showing.{shows_later, shows_rises}
use Rattle.aug_trie.specs.inside.Batching.{IsRaised, Raises, RaisedAll}
use Rattle.aug_trie.specs.Pass.{most_rise_steps}
use Rattle.aug_trie.specs.inside.Goes.{Goes, Took, HasRoom}
use Rattle.aug_trie.specs.inside.Stages.{HasRisen, MayRise}
use Rattle.aug_trie.proofs.Going.{goes_self, goes_more, goes_on, took_none, took_on, room_left}
use Rattle.aug_trie.proofs.Levels.{lifts_none, lifts_level}
use Rattle.aug_trie.proofs.Parting.{AreOneAbove, all_rises, apart_few, first_rises, more_rises, one_above}
use Rattle.aug_trie.specs.UpdateBatches.{apart}

-- a way that was raised up to where it joins the next one
pub raised_next : (s : Shape) (seen book : Book) (key here next level : ℕ) → AreOneAbove level s here next → IsRaised s seen book key here level → IsRaised s seen book key next 0
raised_next s seen book key here next level one h = λ l up which. h l up (⊎_elim (λ (none : l ≤ 0). inl (omega arith)) (λ apart. ⊎_elim (λ (past : level < l). inr (λ same. apart (same ∙ one l past up))) (λ le. inl le) (cases_lt level l)) which)

module _ (f : ℕ → ℕ → List (ℕ × ℕ) → List ℕ) where
  -- what the newest entry showed the newest one shows later
  pub newest_later : (s : Shape) (earlier book : Book) (key level n : ℕ) → key < 2 ^ s.bits → level ≤ s.bits → IsBook f s book → ArePrefixes earlier book → NewestShows s earlier key level n → NewestShows s book key level n
  newest_later s earlier book key level n low up b later h = let q : ℕ = above s key level in let longer = no_shorter book earlier later q in let last = h.newest.last in
      let i : ℕ = length (history_of book q) - 1 in let there = there_is (history_of book q) i (omega arith) in record {
        index = i;
        entry = there.0;
        newest = record { at = there.1; last = omega arith };
        shows = shows_rises f s book b key low level h.index i n there.0 up (shows_later s book earlier key level h.index n later h.shows) (omega arith) there.1;
      }

  pub lifts_later : (s : Shape) (seen earlier book : Book) (key level : ℕ) → key < 2 ^ s.bits → level ≤ s.bits → IsBook f s book → ArePrefixes earlier book → Lifts s seen earlier key level → Lifts s seen book key level
  lifts_later s seen earlier book key level low up b later h = record { lifted = λ n x. newest_later s earlier book key level n low up b later (h.lifted n x) }

  pub raises_none : (v : SeatView) (next : ℕ) → Raises next v 0 v
  raises_none v next = λ seen key low h. h

  -- once the node above is covered, one level more is raised
  pub raises_on : {used : ℕ} (v u w : SeatView) (next level node : ℕ) → suc level ≤ v.shape.bits → u.shape ≡ v.shape → node ≡ above v.shape next (suc level) → Goes f used [] u w → NewestCovers u.shape u.seen w.seen node → Raises next v level u → Raises next v (level + 1) w
  raises_on v u w next level node up shaped is goes covered r = λ seen key low h. one_more seen key low (r seen key low h)
    where
      s : Shape
      s = v.shape

      book : IsBook f s w.seen
      book = subst (λ (z : Shape). IsBook f z w.seen) (goes.shaped ∙ shaped) goes.knows_table.book

      covers : NewestCovers s u.seen w.seen (above s next (suc level))
      covers = subst (NewestCovers s u.seen w.seen) is (subst (λ (z : Shape). NewestCovers z u.seen w.seen node) shaped covered)

      one_more : (seen : Book) (key : ℕ) → key < 2 ^ s.bits → IsRaised s seen u.seen key next level → IsRaised s seen w.seen key next (level + 1)
      one_more seen key low before = λ l high which. ⊎_elim (λ (past : level < l). ⊎_elim (λ (le : l ≤ level + 1). let here : suc level ≡ l = omega arith in subst (Lifts s seen w.seen key) here at_next) (λ apart. stays l high (inr apart)) which) (λ le. stays l high (inl le)) (cases_lt level l)
        where
          stays : (l : ℕ) → l ≤ s.bits → (l ≤ level) ⊎ (above s key l ≢ above s next l) → Lifts s seen w.seen key l
          stays l high which = lifts_later s seen u.seen w.seen key l low high book goes.later (before l high which)

          at_next : Lifts s seen w.seen key (suc level)
          at_next = ⊎_elim
              (λ (same : above s key (suc level) ≡ above s next (suc level)). lifts_level f s seen u w key level low up book goes.later (subst (NewestCovers s u.seen w.seen) (sym same) covers) (before level (omega arith) (inl (omega arith))))
              (λ apart. stays (suc level) up (inr apart)) (cases_eq (above s key (suc level)) (above s next (suc level)))

  -- a leaf's own way is raised at the leaf
  pub raised_own : (s : Shape) (seen book : Book) (key : ℕ) → key < 2 ^ s.bits → IsBook f s book → ArePrefixes seen book → IsRaised s seen book key key 0
  raised_own s seen book key low b later = λ l up which. ⊎_elim (λ (none : l ≤ 0). let here : 0 ≡ l = omega arith in subst (Lifts s seen book key) here (lifts_later s seen seen book key 0 low (omega arith) b later (lifts_none s seen key))) (λ apart. absurd (apart refl)) which

-- ---- the ways of some keys, one after another

-- the ways of the first keys were gone up, each as far as it is not that of the next key
pub record RaisedSome (f : ℕ → ℕ → List (ℕ × ℕ) → List ℕ) (keys : List ℕ) (number : ℕ) (v : SeatView) (i : ℕ) (u : SeatView) : Type 0 where
  pub goes : Goes f (number + i * v.shape.bits) [] v u
  pub steps : ℕ
  pub few_steps : steps ≤ i * most_rise_steps v.shape.bits
  pub few_rises : steps ≤ first_rises v.shape.bits keys i
  pub took : Took v u steps
  pub raised : (j : ℕ) → j < i → IsRaised v.shape v.seen u.seen (get_or keys j 0) (get_or keys i 0) 0

module _ (f : ℕ → ℕ → List (ℕ × ℕ) → List ℕ) (keys : List ℕ) (number : ℕ) (v : SeatView) where
  pub raised_start : KnowsBook f v → RaisedSome f keys number v 0 v
  raised_start kn = record {
    goes = goes_more f 0 (number + 0 * v.shape.bits) [] v v (omega arith) (goes_self f v kn);
    steps = 0;
    few_steps = omega arith;
    few_rises = omega arith;
    took = took_none v v refl;
    raised = λ j none. absurd (omega (arith, none));
  }

  module _ (low : All (λ (k : ℕ). k < 2 ^ v.shape.bits) keys) (i : ℕ) (u : SeatView) (within : i < length keys) (r : RaisedSome f keys number v i u) where
    abbrev key : ℕ
    key = get_or keys i 0

    abbrev from : ℕ
    from = number + i * v.shape.bits

    pub key_low : (j : ℕ) → j < length keys → get_or keys j 0 < 2 ^ v.shape.bits
    key_low j there = All-get_or (λ (k : ℕ). k < 2 ^ v.shape.bits) keys j 0 there low

    next_from : from + v.shape.bits ≡ number + (i + 1) * v.shape.bits
    next_from = let one = suc-mul i v.shape.bits in let e : suc i * v.shape.bits ≡ (i + 1) * v.shape.bits = ap (λ (z : ℕ). z * v.shape.bits) (let e : suc i ≡ i + 1 = omega arith in e) in omega (arith, one, e)

    pub room_next : number + (i + 1) * v.shape.bits ≤ number + length keys * v.shape.bits
    room_next = let le = mul-le (i + 1) v.shape.bits (length keys) v.shape.bits (omega (arith, within)) (omega arith) in omega (arith, le)

    pub may_go : HasRoom v number (length keys * v.shape.bits) → MayRise f u.shape.bits from key u
    may_go room = let shaped = r.goes.shaped in subst (λ (z : ℕ). MayRise f z from key u) (ap (λ (z : Shape). z.bits) (sym shaped)) record {
      low = subst (λ (z : Shape). key < 2 ^ z.bits) (sym shaped) (key_low i within);
      bits_are = ap (λ (z : Shape). z.bits) (sym shaped);
      knows_table = r.goes.knows_table;
      room = room_left f v u number (i * v.shape.bits) (length keys * v.shape.bits) v.shape.bits [] (let e = next_from in let le = room_next in omega (arith, e, le)) r.goes room;
    }

    -- after the way of the next key up to a level
    module _ (levels : ℕ) (w : SeatView) (few : levels ≤ v.shape.bits) (risen : HasRisen f u.shape.bits from key u levels w) (raises : Raises key u levels w) where
      same : u.shape ≡ v.shape
      same = r.goes.shaped

      goes_next : Goes f (number + (i + 1) * v.shape.bits) [] v w
      goes_next = let e = next_from in goes_on f from (from + levels) (number + (i + 1) * v.shape.bits) [] v u w (omega (arith, e)) (omega (arith, e, few)) r.goes risen.goes

      book : IsBook f v.shape w.seen
      book = subst (λ (z : Shape). IsBook f z w.seen) goes_next.shaped goes_next.knows_table.book

      steps_next : r.steps + risen.took.steps ≤ (i + 1) * most_rise_steps v.shape.bits
      steps_next = let had = r.few_steps in let more = risen.took.most_steps in let one = suc-mul i (most_rise_steps v.shape.bits) in
          let e : suc i * most_rise_steps v.shape.bits ≡ (i + 1) * most_rise_steps v.shape.bits = ap (λ (z : ℕ). z * most_rise_steps v.shape.bits) (let e : suc i ≡ i + 1 = omega arith in e) in omega (arith, had, more, one, e, few)

      -- all ways up to that of this key are raised to the level
      raised_here : (j : ℕ) → j < i + 1 → IsRaised v.shape v.seen w.seen (get_or keys j 0) key levels
      raised_here j below = let there : j < length keys = omega (arith, below, within) in
          let before : IsRaised v.shape v.seen u.seen (get_or keys j 0) key 0 = ⊎_elim (λ (less : j < i). r.raised j less)
          (λ (ge : i ≤ j). let e : i ≡ j = omega (arith, below, ge) in subst (λ (z : ℕ). IsRaised v.shape v.seen u.seen (get_or keys z 0) key 0) e (raised_own f v.shape v.seen u.seen key (key_low i within) (subst (λ (z : Shape). IsBook f z u.seen) same r.goes.knows_table.book) r.goes.later)) (cases_lt j i) in
          subst (λ (z : Shape). IsRaised z v.seen w.seen (get_or keys j 0) key levels) same
          (raises v.seen (get_or keys j 0) (subst (λ (z : Shape). get_or keys j 0 < 2 ^ z.bits) (sym same) (key_low j there)) (subst (λ (z : Shape). IsRaised z v.seen u.seen (get_or keys j 0) key 0) (sym same) before))

      pub raised_more : i + 1 < length keys → levels ≡ apart v.shape.bits key (get_or keys (i + 1) 0) → RaisedSome f keys number v (i + 1) w
      raised_more inside is = record {
        goes = goes_next;
        steps = r.steps + risen.took.steps;
        few_steps = steps_next;
        few_rises = let had = r.few_rises in let more = risen.took.most_steps in let next = more_rises v.shape.bits keys i in let same = ap most_rise_steps is in omega (arith, had, more, next, same);
        took = took_on v u w r.steps risen.took.steps (r.steps + risen.took.steps) refl r.took risen.took.took;
        raised = λ j below. raised_next v.shape v.seen w.seen (get_or keys j 0) key (get_or keys (i + 1) 0) levels
            (subst (λ (z : ℕ). AreOneAbove z v.shape key (get_or keys (i + 1) 0)) (sym is) (one_above v.shape key (get_or keys (i + 1) 0) (key_low i within) (key_low (i + 1) inside))) (raised_here j below);
      }

      pub raised_last : i + 1 ≡ length keys → levels ≡ v.shape.bits → RaisedAll f keys number v w
      raised_last all to_root = record {
        goes = subst (λ (z : ℕ). Goes f (number + z * v.shape.bits) [] v w) all goes_next;
        steps = r.steps + risen.took.steps;
        few_steps = subst (λ (z : ℕ). r.steps + risen.took.steps ≤ z * most_rise_steps v.shape.bits) all steps_next;
        few_rises = let had = r.few_rises in let more = risen.took.most_steps in let are = all_rises v.shape.bits keys i all in let same = ap most_rise_steps to_root in omega (arith, had, more, are, same);
        took = took_on v u w r.steps risen.took.steps (r.steps + risen.took.steps) refl r.took risen.took.took;
        lifts = λ j there. raised_here j (omega (arith, there, all)) v.shape.bits (omega arith) (inl (omega (arith, to_root)));
      }

-- what going up the way of the next key wants, and what comes of it
pub record GoesUp (f : ℕ → ℕ → List (ℕ × ℕ) → List ℕ) (keys : List ℕ) (number : ℕ) (v : SeatView) (bits i from key : ℕ) (u : SeatView) : Type 0 where
  pub rises : MayRise f u.shape.bits from key u
  pub low : (levels : ℕ) → levels ≤ bits → (levels ≤ u.shape.bits) × (from + levels < 2 ^ 60)
  pub more : (levels next : ℕ) (w : SeatView) → levels ≡ apart bits key (get_or keys (i + 1) 0) → next ≡ from + bits → i + 1 < length keys → HasRisen f u.shape.bits from key u levels w → Raises key u levels w
      → (next ≡ number + (i + 1) * v.shape.bits) × RaisedSome f keys number v (i + 1) w
  pub last : (w : SeatView) → i + 1 ≡ length keys → HasRisen f u.shape.bits from key u bits w → Raises key u bits w → RaisedAll f keys number v w

pub goes_up : {f : ℕ → ℕ → List (ℕ × ℕ) → List ℕ} {keys : List ℕ} {number : ℕ} {v : SeatView} {bits i from : ℕ} {u : SeatView} → bits ≡ v.shape.bits → All (λ (k : ℕ). k < 2 ^ v.shape.bits) keys → HasRoom v number (length keys * bits) → number + length keys * bits < 2 ^ 60
    → i < length keys → from ≡ number + i * v.shape.bits → RaisedSome f keys number v i u → GoesUp f keys number v bits i from (get_or keys i 0) u
goes_up {f} {keys} {number} {v} {bits} {i} {from} {u} same low room small within is r =
    subst (λ (z : ℕ × ℕ). GoesUp f keys number v z.0 i z.1 (get_or keys i 0) u) (λ j. (sym same j, sym is j)) record {
      rises = may_go f keys number v low i u within r (subst (λ (z : ℕ). HasRoom v number (length keys * z)) same room);
      low = λ levels few. let shaped = ap (λ (z : Shape). z.bits) r.goes.shaped in let next = next_from f keys number v low i u within r in let le = room_next f keys number v low i u within r in
          let all = ap (λ (z : ℕ). number + length keys * z) same in (omega (arith, shaped, few), omega (arith, few, next, le, all, small));
      more = λ levels next w is here inside risen raises. (here ∙ next_from f keys number v low i u within r, raised_more f keys number v low i u within r levels w (let few = apart_few v.shape.bits (get_or keys i 0) (get_or keys (i + 1) 0) in omega (arith, is, few)) risen raises inside is);
      last = λ w all risen raises. raised_last f keys number v low i u within r v.shape.bits w (omega arith) risen raises all refl;
    }

-- no key has a way
pub raised_nothing : (f : ℕ → ℕ → List (ℕ × ℕ) → List ℕ) (number : ℕ) (v : SeatView) (keys : List ℕ) → length keys ≡ 0 → KnowsBook f v → RaisedAll f keys number v v
raised_nothing f number v keys none kn = record {
  goes = goes_more f 0 (number + length keys * v.shape.bits) [] v v (omega arith) (goes_self f v kn);
  steps = 0;
  few_steps = omega arith;
  few_rises = omega arith;
  took = took_none v v refl;
  lifts = λ i there. absurd (omega (arith, there, none));
}
