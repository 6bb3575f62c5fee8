-- A run of updates over a stock: at their leaves one after another, and then up the ways to the root.
use Rattle.std.proofs.Common.{◌≡◌, ℕ, zero, suc, ◌+◌, ◌-◌, ◌*◌, ◌^◌, ◌<◌, ◌≤◌, List, [], ◌∷◌, ◌++◌, All, length, get_or, drop, slice_set, length-append, length-set, append_assoc, suc-mul, sym, refl, ap, ◌∙◌, subst, inl, ⊎_elim, arith}
use Rattle.std.proofs.lemmas.Bool.{cases_eq, cases_lt}
use Rattle.std.proofs.lemmas.Grind.{drop_more_same, flat_map-append}
use Rattle.std.proofs.lemmas.List.{append-nil, get_or_append_left, get_or-append-add, get_or_push, get_or-set_same, get_or-set_other, drop-set-lt}
use Rattle.std.proofs.lemmas.List.Elements.{All-get_or}
use Rattle.std.proofs.Math.Nat.{add-mul, mul-add}
use Rattle.std.proofs.lemmas.Nat.{mul-le}
use Rattle.aug_core.specs.Places.{Shape}
use Rattle.aug_core.specs.Book.{ArePrefixes, IsBook}
use Rattle.aug_core.specs.Effects.{MayChange, with_changes, KnowsBook}
use Rattle.aug_core.specs.inside.Shows.{Lifts}
use Rattle.aug_core.specs.declared.step.StepTaken.{StepTaken}
use Rattle.aug_core.specs.declared.view.Change.{Change}
use Rattle.aug_core.specs.declared.view.SeatView.{SeatView}
use Rattle.aug_core.proofs.PrefixLemmas.{book_refl, book_trans}
use Rattle.aug_model.specs.declared.outcome.Outcome.{Outcome}
use Rattle.aug_model.specs.declared.outcome.Outcome.TheVariants.{Refused}
use Rattle.aug_words.specs.Reservations.{MayRetire}
use Rattle.aug_words.specs.Stocks.{StockFacts, scan_steps}
use Rattle.aug_trie.specs.LastingBatches.{all_made}
use Rattle.aug_trie.specs.UpdateBatches.{apart}
use Rattle.aug_trie.specs.declared.updates.request.Request.{Request}
use Rattle.aug_trie.specs.declared.updates.request.Request.TheVariants.{Insert}
use Rattle.aug_trie.specs.inside.Batching.{GainsOnly, LeftLeaf, IsRaised}
use Rattle.aug_trie.specs.inside.Goes.{Goes, part_words}
use Rattle.aug_trie.specs.inside.Lasting.{all_records, most_try_steps, IsScanned, LiftedTo, ShowsBelow, WorksBy}
use Rattle.aug_trie.specs.inside.LastingRuns.{EndsScanned, LeavesRun, LiftsRun, MadeBetween, MadeFrom, MakesRun, PutsRun, way_steps, run_steps, each_steps}
use Rattle.aug_trie.proofs.Going.{goes_more}
use Rattle.aug_trie.proofs.Levels.{lifts_none}
use Rattle.aug_trie.proofs.Lifting.{may_retire}
use Rattle.aug_trie.proofs.Parting.{AreOneAbove, one_above}
use Rattle.aug_trie.proofs.Raising.{lifts_later, raised_next, raised_own}
use Rattle.aug_trie.proofs.Retiring.{shows_next}
use Rattle.aug_trie.proofs.Stocked.{works_none, works_on}

-- ---- lists

-- the changes of some updates and of others
made_more : (made more : List (List Change)) → all_made (made ++ more) ≡ all_made made ++ all_made more
made_more made more = flat_map-append (λ (own : List Change). own) made more

made_one : (made : List (List Change)) (own : List Change) → all_made (made ++ own ∷ []) ≡ all_made made ++ own
made_one made own = made_more made (own ∷ []) ∙ ap (λ (z : List Change). all_made made ++ z) (append-nil own)

-- what is the same from a place on is the same from a later one on
drop_later : (xs ys : List Outcome) (from n : ℕ) → drop from xs ≡ drop from ys → drop (from + n) xs ≡ drop (from + n) ys
drop_later xs ys from zero same = let e : from ≡ from + 0 = omega arith in subst (λ (z : ℕ). drop z xs ≡ drop z ys) e same
drop_later xs ys from (suc n) same = let e : from + n + 1 ≡ from + suc n = omega arith in subst (λ (z : ℕ). drop z xs ≡ drop z ys) e (drop_more_same xs ys (from + n) (drop_later xs ys from n same))

pub puts_none : (from : ℕ) (old : List Outcome) → PutsRun from from old old
puts_none from old = record { long = refl; before = λ i low. refl; rest = refl }

-- one more place, and then another run
pub puts_one : {from to : ℕ} {old new : List Outcome} (done : Outcome) → from ≤ to → PutsRun from to old new → PutsRun from (to + 1) old (slice_set new to done)
puts_one {from} {to} {old} {new} done le p = record {
  long = length-set new to done ∙ p.long;
  before = λ i low. get_or-set_other new to i done Refused (λ is. absurd (omega arith)) ∙ p.before i low;
  rest = drop-set-lt (to + 1) new to done (omega arith) ∙ drop_more_same new old to p.rest;
}

pub puts_on : {from mid to : ℕ} {old between new : List Outcome} → from ≤ mid → mid ≤ to → PutsRun from mid old between → PutsRun mid to between new → PutsRun from to old new
puts_on {from} {mid} {to} {old} {between} {new} le more p q = let n : ℕ = to - mid in let e : mid + n ≡ to = omega arith in record {
  long = q.long ∙ p.long;
  before = λ i low. q.before i (omega arith) ∙ p.before i low;
  rest = q.rest ∙ subst (λ (z : ℕ). drop z between ≡ drop z old) e (drop_later between old mid n p.rest);
}

-- ---- what the lane has gained

gains_none : (v : SeatView) → GainsOnly [] v v
gains_none v = record { held = λ h one. one ∙ ap (λ (z : List Change). record h { changes = z } ∷ []) (sym (append-nil h.changes)); reserved = refl }

gains_on : {u v w : SeatView} {gained more : List Change} → GainsOnly gained u v → GainsOnly more v w → GainsOnly (gained ++ more) u w
gains_on {u} {v} {w} {gained} {more} x y = record {
  held = λ h one. y.held (with_changes gained h) (x.held h one) ∙ ap (λ (z : List Change). record h { changes = z } ∷ []) (append_assoc h.changes gained more);
  reserved = y.reserved ∙ x.reserved;
}

module _ (f : ℕ → ℕ → List (ℕ × ℕ) → List ℕ) where
  -- ---- an update that was made, between earlier and later views

  pub made_wider : {key : ℕ} {request : Request} {done : Outcome} {own : List Change} {level : ℕ} {u v w z : SeatView} → key < 2 ^ v.shape.bits → level ≤ v.shape.bits → ArePrefixes u.seen v.seen → v.shape ≡ u.shape → ArePrefixes w.seen z.seen → IsBook f v.shape z.seen
      → MadeBetween f key request done own level v w → MadeBetween f key request done own level u z
  made_wider {key} {request} {done} {own} {level} {u} {v} {w} {z} low up earlier shaped later book m = record {
    before = m.before;
    after = m.after;
    from = book_trans earlier m.from;
    from_shape = m.from_shape ∙ shaped;
    left = m.left;
    to = book_trans m.to later;
    lifts = subst (λ (s : Shape). Lifts s m.after.seen z.seen key level) shaped (lifts_later f v.shape m.after.seen w.seen z.seen key level low up book later m.lifts);
    made = m.made;
  }

  -- its way was gone up
  made_shown : {key : ℕ} {request : Request} {done : Outcome} {own : List Change} {v w z : SeatView} → ArePrefixes w.seen z.seen → Lifts v.shape w.seen z.seen key v.shape.bits → MadeBetween f key request done own 0 v w → MadeBetween f key request done own v.shape.bits v z
  made_shown {key} {request} {done} {own} {v} {w} {z} later up m = record {
    before = m.before;
    after = m.after;
    from = m.from;
    from_shape = m.from_shape;
    left = m.left;
    to = book_trans m.to later;
    lifts = record { lifted = λ n x. up.lifted n (m.lifts.lifted n x) };
    made = m.made;
  }

  book_in : {v w : SeatView} {used : ℕ} {gained : List Change} → Goes f used gained v w → IsBook f v.shape w.seen
  book_in {v} {w} g = subst (λ (s : Shape). IsBook f s w.seen) g.shaped g.knows_table.book

  -- ---- at the leaves

  pub leaves_none : (keys : List ℕ) (requests : List Request) (outcomes : List Outcome) (from : ℕ) (v : SeatView) → KnowsBook f v → LeavesRun f keys requests outcomes from from v v
  leaves_none keys requests outcomes from v kn = record { made = []; all = omega arith; each = λ i none. absurd (omega (arith, none)); works = works_none f 0 v kn; rest = gains_none v }

  module _ {keys : List ℕ} {requests : List Request} {outcomes : List Outcome} {from place : ℕ} {v w : SeatView} (low : All (λ (k : ℕ). k < 2 ^ v.shape.bits) keys) (within : place < length keys) (some : length keys ≤ length outcomes) (r : LeavesRun f keys requests outcomes from place v w) where
    key_low : (i : ℕ) → i ≤ place → get_or keys i 0 < 2 ^ v.shape.bits
    key_low i le = All-get_or (λ (k : ℕ). k < 2 ^ v.shape.bits) keys i 0 (omega (arith, le, within)) low

    -- what the next update wants at its leaf
    pub next_low : get_or keys place 0 < 2 ^ w.shape.bits
    next_low = subst (λ (s : Shape). get_or keys place 0 < 2 ^ s.bits) (sym r.works.goes.shaped) (key_low place (omega arith))

    pub next_may : 0 < v.shape.reservations → MayChange v → MayChange w
    next_may used may = record { lane = with_changes (all_made r.made) may.lane; only = r.rest.held may.lane may.only; room = λ off. let e = ap (λ (s : Shape). s.reservations) r.works.goes.shaped in absurd (omega arith) }

    -- and then it was there
    pub leaves_more : {request : Request} {done : Outcome} {x : SeatView} → request ≡ get_or requests place Insert → LeftLeaf f w (get_or keys place 0) request done x → LeavesRun f keys requests (slice_set outcomes place done) from (place + 1) v x
    leaves_more {request} {done} {x} asked l = record {
      made = made ++ own ∷ [];
      all = (let e = length-append made (own ∷ []) in let all = r.all in omega (arith, e, all));
      each = each;
      works = subst (λ (z : ℕ). WorksBy f z (all_made (made ++ own ∷ [])) v x) (let e = length-append made (own ∷ []) in let t : 2 * n + 2 ≡ 2 * length (made ++ own ∷ []) = omega (arith, e) in t)
          (works_on f (2 * n) 2 (2 * n + 2) (omega arith) (sym (made_one made own)) r.works leaf);
      rest = subst (λ (z : List Change). GainsOnly z v x) (sym (made_one made own)) (gains_on r.rest l.rest);
    }
      where
        made : List (List Change)
        made = r.made

        n : ℕ
        n = length made

        own : List Change
        own = l.gained

        leaf : WorksBy f 2 own w x
        leaf = record { goes = goes_more f 0 all_records own w x (omega arith) l.goes; more = _; steps = l.steps; few = (let one = l.few_steps in omega (arith, one)) }

        shaped : w.shape ≡ v.shape
        shaped = r.works.goes.shaped

        here : MadeBetween f (get_or keys place 0) (get_or requests place Insert) done own 0 v x
        here = subst (λ (z : Request). MadeBetween f (get_or keys place 0) z done own 0 v x) asked
            record { before = w; after = x; from = r.works.goes.later; from_shape = shaped; left = l; to = book_refl x.seen; lifts = lifts_none v.shape x.seen (get_or keys place 0); made = refl }

        last : from + n ≡ place
        last = r.all

        each : MadeFrom f keys requests (slice_set outcomes place done) from (made ++ own ∷ []) 0 v x
        each i below = let long = length-append made (own ∷ []) in ⊎_elim
            (λ (same : i ≡ n). let at : place ≡ from + i = omega (arith, same, last) in
            subst (λ (z : ℕ × ℕ). MadeBetween f (get_or keys z.0 0) (get_or requests z.0 Insert) (get_or (slice_set outcomes place done) z.0 Refused) (get_or (made ++ own ∷ []) z.1 []) 0 v x) (λ j. (at j, sym same j))
            (subst (λ (z : Outcome × List Change). MadeBetween f (get_or keys place 0) (get_or requests place Insert) z.0 z.1 0 v x) (λ j. (sym (get_or-set_same outcomes place done Refused (omega (arith, some, within))) j, sym (get_or_push made own [] n refl) j)) here))
            (λ other. let less : i < n = omega (arith, below, other, long) in
            subst (λ (z : Outcome × List Change). MadeBetween f (get_or keys (from + i) 0) (get_or requests (from + i) Insert) z.0 z.1 0 v x)
            (λ j. (sym (get_or-set_other outcomes place (from + i) done Refused (λ is. absurd (omega (arith, is, less, last)))) j, sym (get_or_append_left made (own ∷ []) [] i less) j))
            (made_wider (key_low (from + i) (omega (arith, less, last))) (omega arith) (book_refl v.seen) refl l.goes.later (subst (λ (s : Shape). IsBook f s x.seen) (l.goes.shaped ∙ shaped) l.goes.knows_table.book) (r.each i less))) (cases_eq i n)

  -- ---- up the ways

  -- the ways of the first keys of a run were gone up, each as far as it is not that of the next key
  pub record RaisesRun (keys : List ℕ) (from i : ℕ) (v u : SeatView) : Type 0 where
    pub begun : from ≤ i
    pub works : WorksBy f ((i - from) * way_steps v.shape) [] v u
    pub raised : (j : ℕ) → from ≤ j → j < i → IsRaised v.shape v.seen u.seen (get_or keys j 0) (get_or keys i 0) 0
    pub below : ShowsBelow u (get_or keys i 0) 0

  pub raises_none_yet : (keys : List ℕ) (from : ℕ) (v : SeatView) → KnowsBook f v → ShowsBelow v (get_or keys from 0) 0 → RaisesRun keys from from v v
  raises_none_yet keys from v kn below = record { begun = omega arith; works = works_none f ((from - from) * way_steps v.shape) v kn; raised = λ j past low. absurd (omega (arith, past, low)); below = below }

  module _ {keys : List ℕ} {from i levels : ℕ} {v u w : SeatView} (low : All (λ (k : ℕ). k < 2 ^ v.shape.bits) keys) (within : i < length keys) (few : levels ≤ v.shape.bits) (r : RaisesRun keys from i v u) (l : LiftedTo f (get_or keys i 0) u levels w) where
    abbrev key : ℕ
    key = get_or keys i 0

    same : u.shape ≡ v.shape
    same = r.works.goes.shaped

    low_at : (j : ℕ) → j < length keys → get_or keys j 0 < 2 ^ v.shape.bits
    low_at j there = All-get_or (λ (k : ℕ). k < 2 ^ v.shape.bits) keys j 0 there low

    works_next : WorksBy f ((i + 1 - from) * way_steps v.shape) [] v w
    works_next = let begun = r.begun in let one = suc-mul (i - from) (way_steps v.shape) in let e : suc (i - from) ≡ i + 1 - from = omega (arith, begun) in let t = ap (λ (z : ℕ). z * way_steps v.shape) e in
        let all = l.took.most_steps in let count = l.took.took.count in let le = mul-le levels (2 * most_try_steps part_words) v.shape.bits (2 * most_try_steps part_words) few (omega arith) in
        works_on f ((i - from) * way_steps v.shape) (way_steps v.shape) ((i + 1 - from) * way_steps v.shape) (omega (arith, one, t)) refl r.works (record { goes = l.goes; more = l.took.took.more; steps = l.took.took.steps; few = omega (arith, all, count, le) })

    -- all ways up to that of this key are raised to the level
    raised_here : (j : ℕ) → from ≤ j → j < i + 1 → IsRaised v.shape v.seen w.seen (get_or keys j 0) key levels
    raised_here j past below = let there : j < length keys = omega (arith, below, within) in
        let before : IsRaised v.shape v.seen u.seen (get_or keys j 0) key 0 = ⊎_elim (λ (less : j < i). r.raised j past less)
        (λ (ge : i ≤ j). let e : i ≡ j = omega (arith, below, ge) in subst (λ (z : ℕ). IsRaised v.shape v.seen u.seen (get_or keys z 0) key 0) e (raised_own f v.shape v.seen u.seen key (low_at i within) (book_in r.works.goes) r.works.goes.later)) (cases_lt j i) in
        subst (λ (z : Shape). IsRaised z v.seen w.seen (get_or keys j 0) key levels) same
        (l.raises v.seen (get_or keys j 0) (subst (λ (z : Shape). get_or keys j 0 < 2 ^ z.bits) (sym same) (low_at j there)) (subst (λ (z : Shape). IsRaised z v.seen u.seen (get_or keys j 0) key 0) (sym same) before))

    pub raises_more : i + 1 < length keys → levels ≡ apart v.shape.bits key (get_or keys (i + 1) 0) → RaisesRun keys from (i + 1) v w
    raises_more inside is = let next : ℕ = get_or keys (i + 1) 0 in let one : AreOneAbove levels v.shape key next = subst (λ (z : ℕ). AreOneAbove z v.shape key next) (sym is) (one_above v.shape key next (low_at i within) (low_at (i + 1) inside)) in record {
      begun = (let begun = r.begun in omega (arith, begun));
      works = works_next;
      raised = λ j past below. raised_next v.shape v.seen w.seen (get_or keys j 0) key next levels one (raised_here j past below);
      below = shows_next w key next levels (subst (λ (s : Shape). AreOneAbove levels s key next) (sym works_next.goes.shaped) one) l.shows;
    }

    pub lifts_run : levels ≡ v.shape.bits → LiftsRun f keys from (i + 1) v w
    lifts_run top = record { works = works_next; lifts = λ j past below. raised_here j past below v.shape.bits (omega arith) (inl (omega (arith, top))) }

    pub retires_run : levels ≡ v.shape.bits → MayRetire w
    retires_run top = may_retire f (subst (λ (z : Shape). key < 2 ^ z.bits) (sym same) (low_at i within)) (let e = ap (λ (z : Shape). z.bits) same in omega (arith, e, top)) l

  -- the records of a run suffice for the next way
  pub room_next : {from i to bits had free : ℕ} → from ≤ i → i < to → (to - from) * bits ≤ had → had ≤ free + (i - from) * bits → bits ≤ free
  room_next {from} {i} {to} {bits} {had} {free} begun inside room left = let one = suc-mul (i - from) bits in let le = mul-le (suc (i - from)) bits (to - from) bits (omega (arith, begun, inside)) (omega arith) in omega (arith, one, le, room, left)

  pub room_after : {from i bits levels had free : ℕ} (after : ℕ) → from ≤ i → levels ≤ bits → had ≤ free + (i - from) * bits → free ≤ after + levels → had ≤ after + (i + 1 - from) * bits
  room_after {from} {i} {bits} {levels} {had} {free} after begun few left used = let one = suc-mul (i - from) bits in let e : suc (i - from) ≡ i + 1 - from = omega (arith, begun) in let t = ap (λ (z : ℕ). z * bits) e in omega (arith, few, left, used, one, t)

  -- ---- runs

  -- a run, with what was reserved before it and what was retired and let go of after it
  pub makes_run : {keys : List ℕ} {requests : List Request} {outcomes : List Outcome} {from to : ℕ} {v v1 v2 v3 v4 v5 : SeatView} → All (λ (k : ℕ). k < 2 ^ v.shape.bits) keys → to ≤ length keys
      → WorksBy f 3 [] v v1 → LeavesRun f keys requests outcomes from to v1 v2 → LiftsRun f keys from to v2 v3 → WorksBy f 1 [] v3 v4 → WorksBy f 1 [] v4 v5 → MakesRun f keys requests outcomes from to (run_steps (to - from) v.shape) v v5
  makes_run {keys} {requests} {outcomes} {from} {to} {v} {v1} {v2} {v3} {v4} {v5} low within first left up retired last = record {
    made = made;
    all = left.all;
    each = λ i below. let all = left.all in let key_low = All-get_or (λ (k : ℕ). k < 2 ^ v.shape.bits) keys (from + i) 0 (omega (arith, below, all, within)) low in
        let sh1 : v1.shape ≡ v.shape = first.goes.shaped in let sh2 : v2.shape ≡ v1.shape = left.works.goes.shaped in
        subst (λ (z : ℕ). MadeBetween f (get_or keys (from + i) 0) (get_or requests (from + i) Insert) (get_or outcomes (from + i) Refused) (get_or made i []) z v v5) (ap (λ (z : Shape). z.bits) sh1)
        (made_wider {w = v3} (subst (λ (z : Shape). get_or keys (from + i) 0 < 2 ^ z.bits) (sym sh1) key_low) (omega arith) first.goes.later sh1 after.goes.later (subst (λ (z : Shape). IsBook f z v5.seen) (after.goes.shaped ∙ up.works.goes.shaped ∙ sh2) after.goes.knows_table.book)
        (made_shown up.works.goes.later (subst (λ (z : Shape). Lifts z v2.seen v3.seen (get_or keys (from + i) 0) z.bits) sh2 (up.lifts (from + i) (omega arith) (omega (arith, below, all)))) (left.each i below)));
    works = let all = left.all in let n = to - from in let is : length made ≡ n = omega (arith, all) in let sh : v2.shape ≡ v.shape = left.works.goes.shaped ∙ first.goes.shaped in
        let way = ap (λ (z : Shape). n * way_steps z) sh in let e = mul-add n (way_steps v.shape) 2 in let ways = n * way_steps v2.shape in
        works_on f (3 + 2 * length made + ways) 2 (run_steps n v.shape) (omega (arith, is, way, e)) (append-nil (all_made made))
        (works_on f (3 + 2 * length made) ways (3 + 2 * length made + ways) (omega arith) (append-nil (all_made made)) (works_on f 3 (2 * length made) (3 + 2 * length made) (omega arith) refl first left.works) up.works) after;
  }
    where
      made : List (List Change)
      made = left.made

      after : WorksBy f 2 [] v3 v5
      after = works_on f 1 1 2 (omega arith) refl retired last

  pub makes_none : (keys : List ℕ) (requests : List Request) (outcomes : List Outcome) (v : SeatView) → KnowsBook f v → MakesRun f keys requests outcomes 0 0 (0 * each_steps v.shape) v v
  makes_none keys requests outcomes v kn = record { made = []; all = refl; each = λ i none. absurd (omega (arith, none)); works = works_none f (0 * each_steps v.shape) v kn }

  -- those from the first key on, by their own indices
  pub first_made : {keys : List ℕ} {requests : List Request} {outcomes : List Outcome} {n most : ℕ} {v u : SeatView} (m : MakesRun f keys requests outcomes 0 n most v u) (i : ℕ) → i < length m.made
      → MadeBetween f (get_or keys i 0) (get_or requests i Insert) (get_or outcomes i Refused) (get_or m.made i []) v.shape.bits v u
  first_made {keys} {requests} {outcomes} {n} {most} {v} {u} m i below = let none : 0 + i ≡ i = omega arith in subst (λ (z : ℕ). MadeBetween f (get_or keys z 0) (get_or requests z Insert) (get_or outcomes z Refused) (get_or m.made i []) v.shape.bits v u) none (m.each i below)

  -- one run more, after the reservations were loaded if that was needed
  module _ {keys : List ℕ} {requests : List Request} {outcomes between : List Outcome} {mid to : ℕ} {v u u1 w : SeatView} (low : All (λ (k : ℕ). k < 2 ^ v.shape.bits) keys) (begins : mid < to) (within : to ≤ length keys)
      (m : MakesRun f keys requests between 0 mid (mid * each_steps v.shape) v u) (room : WorksBy f (u.shape.reservations + 2) [] u u1) (run : MakesRun f keys requests outcomes mid to (run_steps (to - mid) u1.shape) u1 w) (puts : PutsRun mid to between outcomes) where
    at_run : u1.shape ≡ v.shape
    at_run = room.goes.shaped ∙ m.works.goes.shaped

    abbrev both : List (List Change)
    both = m.made ++ run.made

    wide : WorksBy f (run_steps (to - mid) u1.shape) (all_made run.made) u1 w
    wide = run.works

    low_in : (i : ℕ) → i < to → get_or keys i 0 < 2 ^ v.shape.bits
    low_in i below = All-get_or (λ (k : ℕ). k < 2 ^ v.shape.bits) keys i 0 (omega (arith, below, within)) low

    earlier_one : (i : ℕ) → i < mid → MadeBetween f (get_or keys i 0) (get_or requests i Insert) (get_or outcomes i Refused) (get_or both i []) v.shape.bits v w
    earlier_one i below = let all = m.all in let less : i < length m.made = omega (arith, below, all) in
        subst (λ (z : Outcome × List Change). MadeBetween f (get_or keys i 0) (get_or requests i Insert) z.0 z.1 v.shape.bits v w) (λ j. (sym (puts.before i below) j, sym (get_or_append_left m.made run.made [] i less) j))
        (made_wider (low_in i (omega (arith, below, begins))) (omega arith) (book_refl v.seen) refl (book_trans room.goes.later wide.goes.later) (subst (λ (z : Shape). IsBook f z w.seen) (wide.goes.shaped ∙ at_run) wide.goes.knows_table.book) (first_made m i less))

    later_one : (i : ℕ) → i < length run.made → MadeBetween f (get_or keys (mid + i) 0) (get_or requests (mid + i) Insert) (get_or outcomes (mid + i) Refused) (get_or both (mid + i) []) v.shape.bits v w
    later_one i below = let all = run.all in let long = m.all in let e : length m.made + i ≡ mid + i = omega (arith, long) in
        subst (λ (z : List Change × ℕ). MadeBetween f (get_or keys (mid + i) 0) (get_or requests (mid + i) Insert) (get_or outcomes (mid + i) Refused) z.0 z.1 v w) (λ j. ((sym (get_or-append-add m.made run.made i []) ∙ ap (λ (z : ℕ). get_or both z []) e) j, ap (λ (z : Shape). z.bits) at_run j))
        (made_wider (subst (λ (z : Shape). get_or keys (mid + i) 0 < 2 ^ z.bits) (sym at_run) (low_in (mid + i) (omega (arith, below, all)))) (omega arith) (book_trans m.works.goes.later room.goes.later) at_run (book_refl w.seen)
        (subst (λ (z : Shape). IsBook f z w.seen) wide.goes.shaped wide.goes.knows_table.book) (run.each i below))

    pub makes_more : MakesRun f keys requests outcomes 0 to (to * each_steps v.shape) v w
    makes_more = record {
      made = both;
      all = (let e = length-append m.made run.made in let a = m.all in let b = run.all in omega (arith, e, a, b));
      each = λ i below. let none : i ≡ 0 + i = omega arith in subst (λ (z : ℕ). MadeBetween f (get_or keys z 0) (get_or requests z Insert) (get_or outcomes z Refused) (get_or both i []) v.shape.bits v w) none (⊎_elim (λ (less : i < mid). earlier_one i less)
          (λ (past : mid ≤ i). let e : mid + (i - mid) ≡ i = omega (arith, past) in let long = length-append m.made run.made in let had = m.all in
          subst (λ (z : ℕ). MadeBetween f (get_or keys z 0) (get_or requests z Insert) (get_or outcomes z Refused) (get_or both z []) v.shape.bits v w) e (later_one (i - mid) (omega (arith, below, past, long, had)))) (cases_lt i mid));
      works = let n = to - mid in let e : mid + n ≡ to = omega (arith, begins) in let s = v.shape in let a = way_steps s in
          let run_is = ap (λ (z : Shape). n * (way_steps z + 2)) at_run in let room_is = ap (λ (z : Shape). z.reservations) m.works.goes.shaped in
          let x = mul-add n (a + 2) (s.reservations + 7) in let some = mul-le 1 (s.reservations + 7) n (s.reservations + 7) (omega (arith, begins)) (omega arith) in
          let y : n * each_steps s ≡ n * (a + 2 + (s.reservations + 7)) = ap (λ (z : ℕ). n * z) (let t : each_steps s ≡ a + 2 + (s.reservations + 7) = omega arith in t) in
          let z = add-mul mid n (each_steps s) in let t = ap (λ (k : ℕ). k * each_steps s) e in
          works_on f (mid * each_steps s + (u.shape.reservations + 2)) (run_steps n u1.shape) (to * each_steps s) (omega (arith, run_is, room_is, x, some, y, z, t)) (sym (made_more m.made run.made))
          (works_on f (mid * each_steps s) (u.shape.reservations + 2) (mid * each_steps s + (u.shape.reservations + 2)) (omega arith) (append-nil (all_made m.made)) m.works room) wide;
    }

  -- no room was found for one more
  pub makes_less : {keys : List ℕ} {requests : List Request} {outcomes : List Outcome} {n : ℕ} {v u w : SeatView} → All (λ (k : ℕ). k < 2 ^ v.shape.bits) keys → n < length keys → MakesRun f keys requests outcomes 0 n (n * each_steps v.shape) v u → WorksBy f (u.shape.reservations + 2) [] u w
      → MakesRun f keys requests outcomes 0 n (length keys * each_steps v.shape) v w
  makes_less {keys} {requests} {outcomes} {n} {v} {u} {w} low less m room = record {
    made = m.made;
    all = m.all;
    each = λ i below. let all = m.all in let none : i ≡ 0 + i = omega arith in subst (λ (z : ℕ). MadeBetween f (get_or keys z 0) (get_or requests z Insert) (get_or outcomes z Refused) (get_or m.made i []) v.shape.bits v w) none
        (made_wider (All-get_or (λ (k : ℕ). k < 2 ^ v.shape.bits) keys i 0 (omega (arith, below, all, less)) low) (omega arith) (book_refl v.seen) refl room.goes.later (subst (λ (z : Shape). IsBook f z w.seen) (room.goes.shaped ∙ m.works.goes.shaped) room.goes.knows_table.book) (first_made m i below));
    works = let e = each_steps v.shape in let same = ap (λ (z : Shape). z.reservations) m.works.goes.shaped in let one = suc-mul n e in let le = mul-le (suc n) e (length keys) e (omega (arith, less)) (omega arith) in
        works_on f (n * e) (u.shape.reservations + 2) (length keys * e) (omega (arith, same, one, le)) (append-nil (all_made m.made)) m.works room;
  }

  pub ends_scanned : {most : ℕ} {gained : List Change} {v u w : SeatView} {k after : StockFacts} → WorksBy f most gained v u → IsScanned f u k w after → EndsScanned v w after
  ends_scanned {most} {gained} {v} {u} {w} {k} {after} had z = let shaped : u.shape ≡ v.shape = had.goes.shaped in record {
    before = had.more ++ z.before;
    eras = z.eras;
    scans = z.scans ∙ (λ i. had.steps i ++ z.before ++ scan_steps (shaped i) z.eras (shaped i).reservations) ∙ regroup v.steps had.more z.before (scan_steps v.shape z.eras v.shape.reservations);
    held = λ i past low. let x = z.held i past low in (x.0, subst (λ (y : Shape). x.0 < y.reservations) shaped x.1, x.2);
  }
    where
      regroup : (a b c d : List StepTaken) → ((a ++ b) ++ c) ++ d ≡ (a ++ (b ++ c)) ++ d
      regroup a b c d = ap (λ (z : List StepTaken). z ++ d) (append_assoc a b c)
