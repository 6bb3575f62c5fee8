-- One view changes, and who holds which lane stays.
use Rattle.std.proofs.Common.{◌≡◌, ℕ, ◌<◌, ◌≤◌, ◌≢◌, ◌⊎◌, List, set, sym, refl, ◌∙◌, subst, ⊎_elim, arith, Some}
use Rattle.std.proofs.lemmas.Bool.{cases_eq}
use mathlib.Core.Option.{some}
use lib.ListN.{get_elem?}
use Rattle.atomic_table.proofs.Lists.{at_set, set_here, set_else}
use Rattle.aug_core.specs.Counts.{StandsAt, WasMade, AreCounted}
use Rattle.aug_core.specs.Book.{Book}
use Rattle.aug_core.specs.Opening.{Opening}
use Rattle.aug_core.specs.Rule.{AreApart}
use Rattle.aug_core.specs.declared.view.Change.{Change}
use Rattle.aug_core.specs.declared.view.Held.{Held}
use Rattle.aug_core.specs.declared.view.SeatView.{SeatView}
use Rattle.aug_core.proofs.Books.{at_below}

-- a view w that holds the lanes of v
pub record Likens (v w : SeatView) : Type 0 where
  pub lanes : (a : ℕ) (h : Held) → get_elem? w.held a ≡ some h → (g : Held) × (get_elem? v.held a ≡ some g) × (g.lane ≡ h.lane)
  pub spare : v.spare ≡ w.spare

-- and their changes
pub record Repeats (v w : SeatView) : Type 0 where
  pub back : (a : ℕ) (h : Held) → get_elem? w.held a ≡ some h → (g : Held) × (get_elem? v.held a ≡ some g) × (g.lane ≡ h.lane) × (g.changes ≡ h.changes)
  pub forth : (a : ℕ) (g : Held) → get_elem? v.held a ≡ some g → (h : Held) × (get_elem? w.held a ≡ some h) × (g.lane ≡ h.lane) × (g.changes ≡ h.changes)
  pub spare : v.spare ≡ w.spare

pub likens_self : (v : SeatView) → Likens v v
likens_self v = record { lanes = λ a h p. (h, p, refl); spare = refl }

pub repeats_like : (v w : SeatView) → Repeats v w → Likens v w
repeats_like v w r = record { lanes = λ a h p. let t = r.back a h p in (t.0, t.1, t.2); spare = r.spare }

-- what stood at a place, before a view was replaced
pub was_there : (views : List SeatView) (id : ℕ) (v w : SeatView) → get_elem? views id ≡ some v → Likens v w → (i : ℕ) (x : SeatView) → get_elem? (set views id w) i ≡ some x
    → (y : SeatView) × (get_elem? views i ≡ some y) × Likens y x
was_there views id v w at like i x p = ⊎_elim
    (λ t. (v, subst (λ (z : ℕ). get_elem? views z ≡ some v) (sym t.0) at, subst (Likens v) t.1 like))
    (λ t. (x, t.1, likens_self x)) (at_set views id i w x p)

module _ (views : List SeatView) (id : ℕ) (v w : SeatView) (at : get_elem? views id ≡ some v) where
  -- where a view stands after it was replaced, and where it stood
  pub now_there : get_elem? (set views id w) id ≡ some w
  now_there = set_here views id w (at_below views id v at)

  pub stays_there : (i : ℕ) (x : SeatView) → i ≢ id → get_elem? views i ≡ some x → get_elem? (set views id w) i ≡ some x
  stays_there i x ne p = set_else views id i w ne ∙ p

  -- the changes stand where they stood
  module _ (same : Repeats v w) where
    stood : (i a k : ℕ) (c : Change) → StandsAt (set views id w) i a k c → StandsAt views i a k c
    stood i a k c t = ⊎_elim
        (λ q. let old = same.back a t.lane (subst (λ (z : SeatView). get_elem? z.held a ≡ some t.lane) (sym q.1) t.held) in record {
          view = v;
          lane = old.0;
          sits = subst (λ (z : ℕ). get_elem? views z ≡ some v) (sym q.0) at;
          held = old.1;
          listed = subst (λ (z : List Change). get_elem? z k ≡ some c) (sym old.3) t.listed;
        })
        (λ q. record { view = t.view; lane = t.lane; sits = q.1; held = t.held; listed = t.listed }) (at_set views id i w t.view t.sits)

    stands_on : (i a k : ℕ) (c : Change) → StandsAt views i a k c → StandsAt (set views id w) i a k c
    stands_on i a k c t = ⊎_elim
        (λ (is : i ≡ id). let this : t.view ≡ v = (let e : some t.view ≡ some v = sym t.sits ∙ subst (λ (z : ℕ). get_elem? views z ≡ some v) (sym is) at in cc e) in
        let new = same.forth a t.lane (subst (λ (z : SeatView). get_elem? z.held a ≡ some t.lane) this t.held) in record {
          view = w;
          lane = new.0;
          sits = subst (λ (z : ℕ). get_elem? (set views id w) z ≡ some w) (sym is) now_there;
          held = new.1;
          listed = subst (λ (z : List Change). get_elem? z k ≡ some c) new.3 t.listed;
        })
        (λ ne. record { view = t.view; lane = t.lane; sits = stays_there i t.view ne t.sits; held = t.held; listed = t.listed }) (cases_eq i id)

    pub counted_on : (o : Opening) (book book' : Book) → ((c : Change) → WasMade o book' c → WasMade o book c) → ((c : Change) → WasMade o book c → WasMade o book' c) → AreCounted o book views → AreCounted o book' (set views id w)
    counted_on o book book' back forth r = record {
      all = λ c made. let t = r.all c (back c made) in record { seat = t.seat; index = t.index; place = t.place; at = stands_on t.seat t.index t.place c t.at };
      once = λ i j a b k l c p q. r.once i j a b k l c (stood i a k c p) (stood j b l c q);
      none_else = λ i a k c p. forth c (r.none_else i a k c (stood i a k c p));
    }

-- a lane was held by one of the old views, at a seat and a place that it may come from
pub record WasHeld (old : List SeatView) (From : ℕ → ℕ → Type 0) (h : Held) : Type 0 where
  pub seat : ℕ
  pub index : ℕ
  pub view : SeatView
  pub lane : Held
  pub sits : get_elem? old seat ≡ some view
  pub held : get_elem? view.held index ≡ some lane
  pub same : lane.lane ≡ h.lane
  pub from : From seat index

-- each lane that is held now was held before, or is a new one, and who hands lanes out did so before
pub record ComesFrom (old new : List SeatView) (From : ℕ → ℕ → ℕ → ℕ → Type 0) (New : ℕ → ℕ → Held → Type 0) : Type 0 where
  pub came : (i a : ℕ) (x : SeatView) (h : Held) → get_elem? new i ≡ some x → get_elem? x.held a ≡ some h → WasHeld old (From i a) h ⊎ New i a h
  pub once : (i a j b k c : ℕ) → From i a k c → From j b k c → (i ≡ j) × (a ≡ b)
  pub led : (i m : ℕ) (x : SeatView) → get_elem? new i ≡ some x → x.spare ≡ Some m → (y : SeatView) × (n : ℕ) × (get_elem? old i ≡ some y) × (y.spare ≡ Some n) × (n ≤ m)
  pub new_once : (i j a b : ℕ) (h g : Held) → New i a h → New j b g → (i ≡ j) × (a ≡ b)
  pub new_apart : (i j a b : ℕ) (y : SeatView) (h g : Held) → New i a h → get_elem? old j ≡ some y → get_elem? y.held b ≡ some g → h.lane ≢ g.lane
  pub new_below : (i j a m : ℕ) (x : SeatView) (h : Held) → New i a h → get_elem? new j ≡ some x → x.spare ≡ Some m → h.lane < m

-- then the lanes are apart still
pub apart_on : (old new : List SeatView) (From : ℕ → ℕ → ℕ → ℕ → Type 0) (New : ℕ → ℕ → Held → Type 0) → AreApart old → ComesFrom old new From New → AreApart new
apart_on old new From New r c = record {
  one_holder = λ i j a b v w h g pv pw ph pg same. ⊎_elim
      (λ x. ⊎_elim
      (λ y. let one = r.one_holder x.seat y.seat x.index y.index x.view y.view x.lane y.lane x.sits y.sits x.held y.held (x.same ∙ same ∙ sym y.same) in
      c.once i a j b y.seat y.index (subst (λ (z : ℕ × ℕ). From i a z.0 z.1) (λ k. (one.0 k, one.1 k)) x.from) y.from)
      (λ y. absurd (c.new_apart j x.seat b x.index x.view g x.lane y x.sits x.held (sym (x.same ∙ same)))) (c.came j b w g pw pg))
      (λ x. ⊎_elim
      (λ y. absurd (c.new_apart i y.seat a y.index y.view h y.lane x y.sits y.held (same ∙ sym y.same)))
      (λ y. c.new_once i j a b h g x y) (c.came j b w g pw pg)) (c.came i a v h pv ph);
  one_lead = λ i j n m v w pv pw ev ew. let x = c.led i n v pv ev in let y = c.led j m w pw ew in r.one_lead i j x.1 y.1 x.0 y.0 x.2 y.2 x.3 y.3;
  handed_out = λ i j a n v w h pv pw ev ph. ⊎_elim
      (λ y. let x = c.led i n v pv ev in let le = x.4 in let below = r.handed_out i y.seat y.index x.1 x.0 y.view y.lane x.2 y.sits x.3 y.held in let is = y.same in omega arith)
      (λ y. c.new_below j i a n v h y pv ev) (c.came j a w h pw ph);
}
