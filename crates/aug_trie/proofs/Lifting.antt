-- From a leaf to the root over a stock, level by level.
use Rattle.std.proofs.Common.{◌≡◌, inl, inr, ℕ, suc, ◌+◌, ◌*◌, ◌^◌, ◌<◌, ◌≤◌, Bool, true, false, if◌then◌else◌, List, [], ◌∷◌, ◌++◌, length, lt-ltb, le-ltb, suc-mul, sym, refl, ap, ◌∙◌, subst, ⊎_elim, arith}
use Rattle.std.proofs.lemmas.Bool.{cases_Bool, cases_lt}
use Rattle.aug_core.specs.Places.{Shape, record_count}
use Rattle.aug_core.specs.Addresses.{IsInner, left_of}
use Rattle.aug_core.specs.Book.{IsBook}
use Rattle.aug_core.specs.Effects.{HoldsOnly, KnowsBook, with_changes}
use Rattle.aug_core.specs.inside.Refreshes.{NewestCovers, Refreshed}
use Rattle.aug_core.specs.inside.Shows.{above, Lifts}
use Rattle.aug_core.specs.declared.view.Change.{Change}
use Rattle.aug_core.specs.declared.view.Held.{Held}
use Rattle.aug_core.specs.declared.view.Replaced.{Replaced}
use Rattle.aug_core.specs.declared.view.Reserved.{Reserved}
use Rattle.aug_core.specs.declared.view.SeatView.{SeatView}
use Rattle.aug_core.proofs.Refreshing.{covers_second}
use Rattle.aug_core.proofs.Showing.{above_inner}
use Rattle.aug_words.specs.Reservations.{MayRetire}
use Rattle.aug_words.specs.Stocks.{StockFacts, ReservesAt, Stocks}
use Rattle.aug_trie.specs.inside.Batching.{GainsOnly}
use Rattle.aug_trie.specs.inside.Goes.{TookBetween, part_steps, part_words}
use Rattle.aug_trie.specs.inside.Lasting.{all_records, most_try_steps, ReplacesAt, ShowsBelow, TriedBy, CoveredBy, LiftedTo}
use Rattle.aug_trie.proofs.Going.{goes_self, goes_more, goes_on, took_none, between_on}
use Rattle.aug_trie.proofs.Levels.{lifts_none, lifts_level}
use Rattle.aug_trie.proofs.Raising.{raises_none, raises_on}
use Rattle.aug_trie.proofs.Retiring.{shows_none, shows_on, shows_all}

-- a list of no length is empty
empty : (xs : List Replaced) → length xs ≡ 0 → xs ≡ []
empty [] is = refl
empty (x ∷ xs) is = absurd (omega arith)

-- a lane that has only gained changes has its stock still
pub stocks_gained : {v w : SeatView} {k : StockFacts} {gained : List Change} → w.shape ≡ v.shape → GainsOnly gained v w → Stocks v k → Stocks w k
stocks_gained {v} {w} {k} {gained} shaped only s = record {
  lane = with_changes gained s.lane;
  only = only.held s.lane s.only;
  used = subst (λ (z : Shape). 0 < z.reservations) (sym shaped) s.used;
  numbers = subst (λ (z : Shape). record_count z ≤ 2 ^ 24) (sym shaped) s.numbers;
  era = subst (λ (z : List Reserved). ReservesAt z s.lane.lane k.era) (sym only.reserved) s.era;
  free = λ i low. let may = s.free i low in record {
    lane = with_changes gained may.lane;
    only = only.held may.lane may.only;
    own = may.own;
    listed = may.listed;
    numbered = may.numbered;
    exists = subst (λ (z : Shape). may.own.number < record_count z) (sym shaped) may.exists;
    long = may.long;
    scanned = may.scanned ∙ ap (λ (z : Shape). z.reservations) (sym shaped);
  };
  replaced = λ i past low. let x = s.replaced i past low in record { entry = x.entry; listed = x.listed; named = x.named; exists = subst (λ (z : Shape). x.entry.number < record_count z) (sym shaped) x.exists };
  waits = λ i past low. let x = s.waits i past low in record {
    own = x.own;
    listed = x.listed;
    named = x.named;
    died = x.died;
    exists = subst (λ (z : Shape). x.own.number < record_count z) (sym shaped) x.exists;
    long = x.long;
    scanned = subst (λ (z : Shape). x.own.life.scanned ≤ z.reservations) (sym shaped) x.scanned;
  };
  counted = s.counted;
  once = s.once;
}

-- a child's part takes at most three loads
few_loads : (s : Shape) (p : ℕ) → part_steps s p ≤ part_words
few_loads s p = ⊎_elim
    (λ (low : p < 2 ^ s.bits). let e : part_steps s p ≡ 0 = ap (λ (z : Bool). if z then 0 else 3) (lt-ltb p (2 ^ s.bits) low) in omega (arith, e))
    (λ (high : 2 ^ s.bits ≤ p). let e : part_steps s p ≡ 3 = ap (λ (z : Bool). if z then 0 else 3) (le-ltb p (2 ^ s.bits) high) in omega (arith, e)) (cases_lt p (2 ^ s.bits))

module _ (f : ℕ → ℕ → List (ℕ × ℕ) → List ℕ) where
  -- the first try published its record
  pub covered_once : {v w : SeatView} {q : ℕ} → TriedBy f v q true w → CoveredBy f v q w
  covered_once {v} {w} {q} t = let most = t.took.most_steps in record {
    goes = t.goes;
    took = record { steps = t.took.steps; least_steps = omega arith; most_steps = omega arith; took = t.took.took };
    covers = t.refreshed.covers refl;
    replaces = t.hit refl;
  }

  -- it failed, and whatever the second came to, the node covers what had been seen
  pub covered_twice : {v u w : SeatView} {q : ℕ} {done : Bool} → IsInner v.shape q → TriedBy f v q false u → TriedBy f u q done w → CoveredBy f v q w
  covered_twice {v} {u} {w} {q} {done} inner t z = let shaped = t.goes.shaped in let n : ℕ = most_try_steps (part_steps v.shape (left_of v.shape q)) in
      let whole = goes_on f all_records all_records all_records [] v u w (omega arith) (omega arith) t.goes z.goes in record {
        goes = whole;
        took = between_on v u w 0 n 0 n 0 (2 * n) (omega arith) (omega arith) t.took (subst (λ (s : Shape). TookBetween u w 0 (most_try_steps (part_steps s (left_of s q)))) shaped z.took);
        covers = covers_second f v.shape v.seen u.seen w.seen q done inner (subst (λ (s : Shape). IsBook f s w.seen) whole.shaped whole.knows_table.book) t.goes.later whole.fresh (t.refreshed.longer refl)
            (subst (λ (s : Shape). Refreshed s u.seen q done w.seen) shaped z.refreshed);
        replaces = λ h only. second h (t.miss refl h only);
      }
    where
      second : (h : Held) → (h1 : Held) × HoldsOnly u h1 × (h1.replaced ≡ h.replaced) → (h' : Held) × HoldsOnly w h' × ReplacesAt h q w h'
      second h x = elim (cases_Bool done) [
        | inl won ↦ (let y = z.hit won x.0 x.1 in (y.0, y.1, ⊎_elim (λ same. inl (same ∙ x.2)) (λ more. inr (more.0, more.1 ∙ ap (λ (l : List Replaced). l ++ more.0 ∷ []) x.2, more.2, more.3)) y.2))
        | inr lost ↦ (let y = z.miss lost x.0 x.1 in (y.0, y.1, inl (y.2 ∙ x.2)))
      ]

  -- where nothing was replaced yet
  pub shows_stocked : {v : SeatView} {k : StockFacts} (key : ℕ) → KnowsBook f v → Stocks v k → k.replaced ≡ 0 → ShowsBelow v key 0
  shows_stocked {v} {k} key kn s none = shows_none f v s.lane key kn s.only (empty s.lane.replaced (s.counted ∙ none))

  module _ {v : SeatView} {key : ℕ} (low : key < 2 ^ v.shape.bits) where
    pub lifted_none : KnowsBook f v → ShowsBelow v key 0 → LiftedTo f key v 0 v
    lifted_none kn below = record {
      goes = goes_more f 0 all_records [] v v (omega arith) (goes_self f v kn);
      took = record { steps = 0; least_steps = omega arith; most_steps = omega arith; took = took_none v v refl };
      lifts = lifts_none v.shape v.seen key;
      raises = raises_none f v key;
      shows = below;
    }

    pub inner_lifted : {u : SeatView} {level node : ℕ} → suc level ≤ v.shape.bits → LiftedTo f key v level u → node ≡ above v.shape key (suc level) → IsInner u.shape node
    inner_lifted {u} {level} {node} up l is = subst (λ (z : Shape × ℕ). IsInner z.0 z.1) (λ i. (sym l.goes.shaped i, sym is i)) (above_inner v.shape key level low up)

    -- the next level
    pub lifted_on : {u w : SeatView} {level node : ℕ} → suc level ≤ v.shape.bits → LiftedTo f key v level u → node ≡ above v.shape key (suc level) → CoveredBy f u node w → LiftedTo f key v (level + 1) w
    lifted_on {u} {w} {level} {node} up l is c = let s : Shape = v.shape in let shaped = l.goes.shaped in let whole = goes_on f all_records all_records all_records [] v u w (omega arith) (omega arith) l.goes c.goes in
        let next : suc level ≡ level + 1 = omega arith in let loads = few_loads u.shape (left_of u.shape node) in let inner : IsInner u.shape node = inner_lifted up l is in
        let covers = subst (λ (z : Shape × ℕ). NewestCovers z.0 u.seen w.seen z.1) (λ i. (shaped i, is i)) c.covers in record {
          goes = whole;
          took = between_on v u w 0 (level * (2 * most_try_steps part_words)) 0 _ 0 ((level + 1) * (2 * most_try_steps part_words)) (omega arith) (let one = suc-mul level (2 * most_try_steps part_words) in omega arith) l.took c.took;
          lifts = subst (Lifts s v.seen w.seen key) next (lifts_level f s v.seen u w key level low up (subst (λ (z : Shape). IsBook f z w.seen) whole.shaped whole.knows_table.book) c.goes.later covers l.lifts);
          raises = raises_on f v u w key level node up shaped is c.goes c.covers l.raises;
          shows = subst (ShowsBelow w key) next (shows_on u w key level node (subst (λ (z : Shape). key < 2 ^ z.bits) (sym shaped) low) (subst (λ (z : Shape). suc level ≤ z.bits) (sym shaped) up)
              (is ∙ ap (λ (z : Shape). above z key (suc level)) (sym shaped)) inner c.goes.later c.covers l.shows c.goes.shaped c.replaces);
        }

    -- at the root
    pub may_retire : {w : SeatView} {level : ℕ} → v.shape.bits ≤ level → LiftedTo f key v level w → MayRetire w
    may_retire {w} {level} top l = shows_all w key level (subst (λ (z : Shape). z.bits ≤ level) (sym l.goes.shaped) top) l.shows
