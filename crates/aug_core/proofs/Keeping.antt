-- What a step leaves of the records: those that are in use stand, those that a reservation holds are not written, and those that were replaced stand.
use Rattle.std.proofs.Common.{◌≡◌, ◌≢◌, ◌⊎◌, inl, inr, ℕ, ◌+◌, ◌<◌, ◌≤◌, List, [], get_or, refl, sym, ap, ◌∙◌, subst, ⊎_elim, arith}
use mathlib.Core.Option.{some, some-ne-none}
use lib.ListN.{get_elem?}
use Rattle.aug_core.specs.Places.{Shape, opening_count, era_place, reservation_place}
use Rattle.aug_core.specs.Addresses.{IsInner, left_of, right_of}
use Rattle.aug_core.specs.Book.{Book, At, ArePrefixes}
use Rattle.aug_core.specs.Records.{Lists, HasWords, Fate, at_opening, standing, owned_by, StandsAs, IsThere, floor_of, Waits, Protects, HoldsOnce, lane_of, IsItsLane, IsReplaced, KeepsView, KeepsRecords}
use Rattle.aug_core.specs.declared.view.Entry.{Entry}
use Rattle.aug_core.specs.declared.view.Held.{Held}
use Rattle.aug_core.specs.declared.view.Life.{Life}
use Rattle.aug_core.specs.declared.view.Replaced.{Replaced}
use Rattle.aug_core.specs.declared.view.Reserved.{Reserved}
use Rattle.aug_core.specs.declared.view.SeatView.{SeatView}
use Rattle.aug_core.proofs.Books.{no_shorter}
use Rattle.aug_core.proofs.PrefixLemmas.{entry_stays}

-- a record stands at one index of a node, and who owns it
pub one_standing : (s : Shape) (f : Fate) (q i j : ℕ) → StandsAs s f q i → StandsAs s f q j → i ≡ j
one_standing s f q i j a b = ⊎_elim
    (λ (x : f ≡ standing q i). ⊎_elim (λ (y : f ≡ standing q j). let is : standing q i ≡ standing q j = sym x ∙ y in cc is) (λ y. let clash : standing q i ≡ at_opening = sym x ∙ y.1 in cc) b)
    (λ x. ⊎_elim (λ (y : f ≡ standing q j). let clash : at_opening ≡ standing q j = sym x.1 ∙ y in cc) (λ y. x.2 ∙ sym y.2) b) a

-- and at one place, where records are used again
pub one_place : (s : Shape) (f : Fate) (q p i j : ℕ) → 0 < s.reservations → StandsAs s f q i → StandsAs s f p j → (q ≡ p) × (i ≡ j)
one_place s f q p i j used a b = ⊎_elim
    (λ (x : f ≡ standing q i). ⊎_elim (λ (y : f ≡ standing p j). let is : standing q i ≡ standing p j = sym x ∙ y in (cc is, cc is)) (λ y. let off = y.0 in absurd (omega arith)) b)
    (λ x. let off = x.0 in absurd (omega arith)) a

pub stands_unowned : (s : Shape) (f : Fate) (q i lane : ℕ) (life : Life) → StandsAs s f q i → f ≢ owned_by lane life
stands_unowned s f q i lane life stands is = ⊎_elim (λ (t : f ≡ standing q i). let clash : standing q i ≡ owned_by lane life = sym t ∙ is in cc) (λ t. let clash : at_opening ≡ owned_by lane life = sym t.1 ∙ is in cc) stands

-- what a reservation holds is not of a record that stands elsewhere
pub stands_once : (s : Shape) (fate : ℕ → Fate) (x : Reserved) (q i j : ℕ) (e f : Entry) → StandsAs s (fate e.number) q i ⊎ Waits fate x e.number → StandsAs s (fate f.number) q j → e.number ≡ f.number → i ≡ j
stands_once s fate x q i j e f held stands same = ⊎_elim (λ a. one_standing s (fate f.number) q i j (subst (λ (z : ℕ). StandsAs s (fate z) q i) same a) stands)
    (λ (w : Waits fate x e.number). absurd (stands_unowned s (fate f.number) q j w.lane w.life stands (ap fate (sym same) ∙ w.fate_is))) held

-- an empty list has nothing
pub lists_none : {A : Type 0} (l : List A) (x : A) → l ≡ [] → Lists l x → ⊥
lists_none l x empty has = some-ne-none x (sym (subst (λ z. get_elem? z has.0 ≡ some x) empty has.1))

-- a view that reserved the same, holds the same lanes, and replaced the same from them
pub record ReservesAs (v w : SeatView) : Type 0 where
  pub reserved : w.reserved ≡ v.reserved
  pub reached : w.reached ≡ v.reached
  pub back : (a : ℕ) (h : Held) → get_elem? w.held a ≡ some h → (g : Held) × (get_elem? v.held a ≡ some g) × (g.lane ≡ h.lane) × (g.replaced ≡ h.replaced)
  pub forth : (a : ℕ) (g : Held) → get_elem? v.held a ≡ some g → (h : Held) × (get_elem? w.held a ≡ some h) × (g.lane ≡ h.lane)

-- a view with the same lanes
pub reserves_same : (v w : SeatView) → w.reserved ≡ v.reserved → w.reached ≡ v.reached → w.held ≡ v.held → ReservesAs v w
reserves_same v w reserved reached same = record {
  reserved = reserved;
  reached = reached;
  back = λ a h p. (h, subst (λ (z : List Held). get_elem? z a ≡ some h) same p, refl, refl);
  forth = λ a g p. (g, subst (λ (z : List Held). get_elem? z a ≡ some g) (sym same) p, refl);
}

pub holds_lane_on : (v w : SeatView) (lane : ℕ) → ((a : ℕ) (g : Held) → get_elem? v.held a ≡ some g → (h : Held) × (get_elem? w.held a ≡ some h) × (g.lane ≡ h.lane)) → IsItsLane v lane → IsItsLane w lane
holds_lane_on v w lane forth own = let t = forth own.index own.held own.at in record { index = own.index; held = t.0; at = t.1; is = sym t.2 ∙ own.is }

module _ (s : Shape) (words : List ℕ) (fate : ℕ → Fate) (gone : ℕ → ℕ) (book : Book) where
  -- what such a view can count on
  pub keeps_as : (v w : SeatView) → ReservesAs v w → KeepsView s words fate gone book v → KeepsView s words fate gone book w
  keeps_as v w as_was k = record {
    reserved = λ x e. let t = k.reserved x (subst (λ (z : List Reserved). Lists z x) as_was.reserved e) in (holds_lane_on v w (lane_of s x.slot) as_was.forth t.0, t.1);
    once = λ x y e d. k.once x y (subst (λ (z : List Reserved). Lists z x) as_was.reserved e) (subst (λ (z : List Reserved). Lists z y) as_was.reserved d);
    reached = let is = as_was.reached in let le = k.reached in omega arith;
    replaced = λ a h c p l. let t = as_was.back a h p in subst (λ (z : ℕ). IsReplaced s words fate book z c) t.2 (k.replaced a t.0 c t.1 (subst (λ (z : List Replaced). Lists z c) (sym t.3) l));
  }

  -- a view without a reservation whose lanes replaced nothing can count on nothing
  pub keeps_none : (v : SeatView) → v.reserved ≡ [] → v.reached ≤ get_or words (era_place s) 0 → ((a : ℕ) (h : Held) (c : Replaced) → get_elem? v.held a ≡ some h → Lists h.replaced c → ⊥) → KeepsView s words fate gone book v
  keeps_none v off le nothing = record {
    reserved = λ x e. absurd (lists_none v.reserved x off e);
    once = λ x y e d. absurd (lists_none v.reserved x off e);
    reached = le;
    replaced = λ a h c p l. absurd (nothing a h c p l);
  }

  module _ (after : List ℕ) (fate' : ℕ → Fate) (book' : Book) where
    -- a step leaves what is read: what stands, and what waits for a reservation, and no earlier era
    pub record LeavesRecords : Type 0 where
      pub era : get_or words (era_place s) 0 ≤ get_or after (era_place s) 0
      pub grows : ArePrefixes book book'
      pub there : (q i : ℕ) (e : Entry) → IsInner s q → At book q i e → IsThere s words fate q i e → IsThere s after fate' q i e
      pub waits : (x : Reserved) (q i : ℕ) (e : Entry) → IsInner s q → At book q i e → x.slot < s.reservations → 0 < x.era → get_or words (reservation_place s x.slot) 0 ≡ x.era → Waits fate x e.number → HasWords s words e.number e.words → Waits fate' x e.number × HasWords s after e.number e.words
      -- a new entry is there, over entries in use
      pub came : (q i : ℕ) (e : Entry) → IsInner s q → At book' q i e → (At book q i e) ⊎ (IsThere s after fate' q i e × (gone (left_of s q) ≤ e.left) × (gone (right_of s q) ≤ e.right))
      pub opened : s.reservations ≡ 0 → (number : ℕ) → number < opening_count s → fate number ≡ at_opening → fate' number ≡ at_opening

    -- the reservations stay as well
    abbrev pub SameSlots : Type 0
    SameSlots = (slot : ℕ) → slot < s.reservations → get_or after (reservation_place s slot) 0 ≡ get_or words (reservation_place s slot) 0

    module _ (l : LeavesRecords) where
      held_on : (x : Reserved) → Protects s words fate gone book x → (q i : ℕ) (e : Entry) → IsInner s q → At book' q i e → e.birth ≤ x.era → floor_of x q ≤ i → HasWords s after e.number e.words × (StandsAs s (fate' e.number) q i ⊎ Waits fate' x e.number)
      held_on x p q i e inner at young le = ⊎_elim
          (λ old. let t = p.holds q i e inner old young le in ⊎_elim
          (λ stands. let on = l.there q i e inner old record { stands = stands; words_are = t.0 } in (on.words_are, inl on.stands))
          (λ waits. let on = l.waits x q i e inner old p.exists p.some_era p.word waits t.0 in (on.1, inr on.0)) t.1)
          (λ new. (new.0.words_are, inl new.0.stands)) (l.came q i e inner at)

      pub protects_on : (x : Reserved) → get_or after (reservation_place s x.slot) 0 ≡ get_or words (reservation_place s x.slot) 0 → Protects s words fate gone book x → Protects s after fate' gone book' x
      protects_on x same p = record {
        exists = p.exists;
        some_era = p.some_era;
        word = same ∙ p.word;
        not_late = let more = l.era in let le = p.not_late in omega arith;
        in_use = p.in_use;
        closed = record { below = λ q i e inner at le. ⊎_elim (λ old. p.closed.below q i e inner old le) (λ new. let a = p.in_use (left_of s q) in let b = p.in_use (right_of s q) in let n0 = new.1 in let n1 = new.2 in (omega arith, omega arith)) (l.came q i e inner at) };
        holds = held_on x p;
      }

      -- what two reservations hold is still of different records: a new entry's record stands
      once_on : (x y : Reserved) → Protects s words fate gone book x → Protects s words fate gone book y → HoldsOnce s book x y → HoldsOnce s book' x y
      once_on x y p r once q i j e f inner at at' young young' le le' same = ⊎_elim
          (λ old. ⊎_elim (λ old'. once q i j e f inner old old' young young' le le' same) (λ new'. stands_once s fate' x q i j e f (held_on x p q i e inner at young le).1 new'.0.stands same) (l.came q j f inner at'))
          (λ new. sym (stands_once s fate' y q j i f e (held_on y r q j f inner at' young' le').1 new.0.stands (sym same))) (l.came q i e inner at)

      pub replaced_on : (lane : ℕ) (c : Replaced) → IsReplaced s words fate book lane c → IsReplaced s after fate' book' lane c
      replaced_on lane c r = record {
        inner = r.inner;
        entry = r.entry;
        next = r.next;
        at = entry_stays l.grows c.place c.index r.entry r.at;
        followed = entry_stays l.grows c.place (c.index + 1) r.next r.followed;
        made_by = r.made_by;
        numbered = r.numbered;
        born = r.born;
        said = r.said;
        there = l.there c.place c.index r.entry r.inner r.at r.there;
      }

      pub view_but : (v : SeatView) → ((x : Reserved) → Lists v.reserved x → x.slot < s.reservations → get_or after (reservation_place s x.slot) 0 ≡ get_or words (reservation_place s x.slot) 0) → KeepsView s words fate gone book v → KeepsView s after fate' gone book' v
      view_but v same k = record {
        reserved = λ x e. let t = k.reserved x e in (t.0, protects_on x (same x e t.1.exists) t.1);
        once = λ x y e d. once_on x y (k.reserved x e).1 (k.reserved y d).1 (k.once x y e d);
        reached = let more = l.era in let le = k.reached in omega arith;
        replaced = λ a h c p t. replaced_on h.lane c (k.replaced a h c p t);
      }

      pub view_on : SameSlots → (v : SeatView) → KeepsView s words fate gone book v → KeepsView s after fate' gone book' v
      view_on slots v = view_but v (λ x e low. slots x.slot low)

      pub records_on : KeepsRecords s words fate gone book → KeepsRecords s after fate' gone book'
      records_on k = record {
        none_gone = k.none_gone;
        opened = λ off number low. l.opened off number low (k.opened off number low);
        closed = record { below = λ q i e inner at le. ⊎_elim (λ old. k.closed.below q i e inner old le) (λ new. (new.1, new.2)) (l.came q i e inner at) };
        newest = λ q inside. let low = k.newest q inside in let le = no_shorter book' book l.grows q in omega arith;
        there = λ q i e inner at le. ⊎_elim (λ old. l.there q i e inner old (k.there q i e inner old le)) (λ new. new.0) (l.came q i e inner at);
      }
