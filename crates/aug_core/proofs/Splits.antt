-- A view hands its next lane out to a new view.
use Rattle.std.proofs.Common.{true, false, ◌≡◌, ℕ, ◌+◌, ◌<◌, ◌⊎◌, inl, inr, List, [], ◌∷◌, ◌++◌, length, get_or, set, option_map, sym, refl, ap, ◌∙◌, subst, ⊎_elim, arith, Some, None}
use Rattle.std.specs.Prelude.{unwrap_or}
use mathlib.Core.Option.{some, some-ne-none}
use lib.ListN.{get_elem?}
use Rattle.atomic_table.specs.Table.{Splits}
use Rattle.atomic_table.proofs.Lists.{at_set}
use Rattle.aug_core.specs.Places.{Shape}
use Rattle.aug_core.specs.Lanes.{new_lane}
use Rattle.aug_core.specs.Opening.{Opening}
use Rattle.aug_core.specs.Rule.{HoldsLane, Knows, Kept, no_beginning}
use Rattle.aug_core.specs.Effects.{handing_out, handed_out}
use Rattle.aug_core.specs.declared.view.Held.{Held}
use Rattle.aug_core.specs.declared.view.SeatView.{SeatView}
use Rattle.aug_core.proofs.Keeping.{reserves_same, keeps_as, keeps_none}
use Rattle.aug_core.proofs.Moves.{St}
use Rattle.aug_core.proofs.Books.{snoc_at}
use Rattle.aug_core.proofs.Views.{now_there, stays_there, apart_on}
use Rattle.aug_core.specs.Counts.{StandsAt}
use Rattle.aug_core.specs.declared.view.Change.{Change}
use Rattle.std.proofs.lemmas.Bool.{cases_eq}
use Rattle.atomic_table.proofs.Lists.{at_longer}
use Rattle.aug_core.proofs.Stores.{alone}
use Rattle.aug_core.proofs.PrefixLemmas.{book_none}

module _ (face : ℕ → ℕ → List (ℕ × ℕ) → List ℕ) (o : Opening) (s : St) (r : Kept face o s) (id : ℕ) (v : SeatView) (at : get_elem? s.views id ≡ some v) (live : v.live ≡ true) (n : ℕ) (spare : v.spare ≡ Some n) (room : n < o.shape.workers) where
  abbrev fresh : Held
  fresh = new_lane o.shape v.words n

  abbrev newer : SeatView
  newer = record { live = v.live; era = v.era; past = v.past; shape = v.shape; base = v.base; members = v.members; seen = v.seen; also = []; told = None; held = fresh ∷ []; spare = None; reads = false; lent = []; words = []; whole = []; reserved = []; reached = v.reached; began = no_beginning; steps = [] }

  abbrev views : List SeatView
  views = set s.views id (handing_out v) ++ newer ∷ []

  abbrev last : ℕ
  last = length (set s.views id (handing_out v))

  -- a view holds what it held, or it is the new one
  came : (i : ℕ) (x : SeatView) → get_elem? views i ≡ some x → ((y : SeatView) × (get_elem? s.views i ≡ some y) × (x.held ≡ y.held)) ⊎ ((i ≡ last) × (newer ≡ x))
  came i x p = ⊎_elim
      (λ q. inl (⊎_elim {C = (y : SeatView) × (get_elem? s.views i ≡ some y) × (x.held ≡ y.held)}
      (λ t. (v, subst (λ (z : ℕ). get_elem? s.views z ≡ some v) (sym t.0) at, sym (ap (λ (z : SeatView). z.held) t.1)))
      (λ t. (x, t.1, refl)) (at_set s.views id i (handing_out v) x q)))
      (λ t. inr t) (snoc_at (set s.views id (handing_out v)) newer x i p)

  -- who hands lanes out does so after this one
  leads : (i m : ℕ) (x : SeatView) → get_elem? views i ≡ some x → x.spare ≡ Some m → (i ≡ id) × (m ≡ n + 1)
  leads i m x p e = ⊎_elim
      (λ q. ⊎_elim
      (λ t. (t.0, let same : Some (n + 1) ≡ Some m = ap (option_map (λ k. k + 1)) (sym spare) ∙ ap (λ (z : SeatView). z.spare) t.1 ∙ e in let is : n + 1 ≡ m = cc same in sym is))
      (λ t. absurd (t.0 (r.apart.one_lead i id m n x v t.1 at e spare))) (at_set s.views id i (handing_out v) x q))
      (λ t. let clash : None ≡ Some m = ap (λ (z : SeatView). z.spare) t.1 ∙ e in cc) (snoc_at (set s.views id (handing_out v)) newer x i p)

  holds_new : HoldsLane o.shape s.words r.fate fresh
  holds_new = (r.each_view id v at).spares n n spare (omega arith) room

  old_below : (i a : ℕ) (x : SeatView) (h : Held) → get_elem? s.views i ≡ some x → get_elem? x.held a ≡ some h → h.lane < n
  old_below i a x h p q = r.apart.handed_out id i a n v x h at p spare q

  in_held : (x y : SeatView) (a : ℕ) (h : Held) → x.held ≡ y.held → get_elem? x.held a ≡ some h → get_elem? y.held a ≡ some h
  in_held x y a h same p = subst (λ (z : List Held). get_elem? z a ≡ some h) same p

  in_new : (x : SeatView) (a : ℕ) (h : Held) → newer ≡ x → get_elem? x.held a ≡ some h → (a ≡ 0) × (fresh ≡ h)
  in_new x a h same p = alone fresh h a (subst (λ (z : SeatView). get_elem? z.held a ≡ some h) (sym same) p)

  -- the changes stand where they stood
  stood : (i a k : ℕ) (c : Change) → StandsAt views i a k c → StandsAt s.views i a k c
  stood i a k c t = ⊎_elim
      (λ old. record { view = old.0; lane = t.lane; sits = old.1; held = in_held t.view old.0 a t.lane old.2 t.held; listed = t.listed })
      (λ new. let none : get_elem? fresh.changes k ≡ some c = subst (λ (z : Held). get_elem? z.changes k ≡ some c) (sym (in_new t.view a t.lane new.1 t.held).1) t.listed in absurd (some-ne-none c (sym none))) (came i t.view t.sits)

  stands_on : (i a k : ℕ) (c : Change) → StandsAt s.views i a k c → StandsAt views i a k c
  stands_on i a k c t = ⊎_elim
      (λ (is : i ≡ id). let e : some t.view ≡ some v = sym t.sits ∙ subst (λ (z : ℕ). get_elem? s.views z ≡ some v) (sym is) at in let this : t.view ≡ v = cc e in record {
        view = handing_out v;
        lane = t.lane;
        sits = subst (λ (z : ℕ). get_elem? views z ≡ some (handing_out v)) (sym is) (at_longer (set s.views id (handing_out v)) (newer ∷ []) id (handing_out v) (now_there s.views id v (handing_out v) at));
        held = subst (λ (z : SeatView). get_elem? z.held a ≡ some t.lane) this t.held;
        listed = t.listed;
      })
      (λ other. record { view = t.view; lane = t.lane; sits = at_longer (set s.views id (handing_out v)) (newer ∷ []) i t.view (stays_there s.views id v (handing_out v) at i t.view other t.sits); held = t.held; listed = t.listed }) (cases_eq i id)

  pub hands_out : Kept face o record { words = s.words; homes = s.homes; views = views }
  hands_out = let kn = r.each_view id v at in record {
    book = r.book;
    tree = r.tree;
    fate = r.fate;
    gone = r.gone;
    records = r.records;
    states = r.states;
    each_view = λ j u p. ⊎_elim
        (λ q. ⊎_elim
        (λ t. subst (Knows o s.words r.fate r.gone r.book) t.1 record {
          shaped = kn.shaped;
          same_members = kn.same_members;
          saw = kn.saw;
          also_saw = kn.also_saw;
          fresh = kn.fresh;
          holds = kn.holds;
          spares = λ m lane e le low. let same : Some (n + 1) ≡ Some m = ap (option_map (λ k. k + 1)) (sym spare) ∙ e in let is : n + 1 ≡ m = cc same in kn.spares n lane spare (omega arith) low;
          records = keeps_as o.shape s.words r.fate r.gone r.book v (handing_out v) (reserves_same v (handing_out v) refl refl refl) kn.records;
        })
        (λ t. r.each_view j u t.1) (at_set s.views id j (handing_out v) u q))
        (λ t. subst (Knows o s.words r.fate r.gone r.book) t.1 record {
          shaped = kn.shaped;
          same_members = kn.same_members;
          saw = kn.saw;
          also_saw = book_none r.book;
          fresh = kn.fresh;
          holds = λ a h q. subst (HoldsLane o.shape s.words r.fate) (alone fresh h a q).1 holds_new;
          spares = λ m lane e le low. let clash : None ≡ Some m = e in cc;
          records = keeps_none o.shape s.words r.fate r.gone r.book newer refl kn.records.reached (λ a h c p l. some-ne-none c (sym (subst (λ (z : Held). get_elem? z.replaced l.0 ≡ some c) (sym (alone fresh h a p).1) l.1)));
        }) (snoc_at (set s.views id (handing_out v)) newer u j p);
    apart = apart_on s.views views (λ i a j b. (i ≡ j) × (a ≡ b)) (λ i a h. (i ≡ last) × (a ≡ 0) × (n ≡ h.lane)) r.apart record {
      came = λ i a x h p q. ⊎_elim
          (λ t. inl record { seat = i; index = a; view = t.0; lane = h; sits = t.1; held = in_held x t.0 a h t.2 q; same = refl; from = (refl, refl) })
          (λ t. let new = in_new x a h t.1 q in inr (t.0, new.0, ap (λ (z : Held). z.lane) new.1)) (came i x p);
      once = λ i a j b k c p q. (p.0 ∙ sym q.0, p.1 ∙ sym q.1);
      led = λ i m x p e. let t = leads i m x p e in let is = t.1 in (v, n, subst (λ (z : ℕ). get_elem? s.views z ≡ some v) (sym t.0) at, spare, omega arith);
      new_once = λ i j a b h g p q. (p.0 ∙ sym q.0, p.1 ∙ sym q.1);
      new_apart = λ i j a b y h g new p q same. let below = old_below j b y g p q in let is = new.2 in absurd (omega arith);
      new_below = λ i j a m x h new p e. let is = (leads j m x p e).1 in let own = new.2 in omega arith;
    };
    changes = record {
      counted = record {
        all = λ c m. let t = r.changes.counted.all c m in record { seat = t.seat; index = t.index; place = t.place; at = stands_on t.seat t.index t.place c t.at };
        once = λ i j a b k l c p q. r.changes.counted.once i j a b k l c (stood i a k c p) (stood j b l c q);
        none_else = λ i a k c p. r.changes.counted.none_else i a k c (stood i a k c p);
      };
      tally = r.changes.tally;
      tallied = λ off. let t = r.changes.tallied off in record {
        long = t.long;
        each = λ i a x h p ph. ⊎_elim (λ old. t.each i a old.0 h old.1 (in_held x old.0 a h old.2 ph))
            (λ new. subst (λ (z : Held). length z.changes ≡ get_or r.changes.tally z.lane 0) (in_new x a h new.1 ph).1 (sym (t.free n room holds_new.state))) (came i x p);
        few = t.few;
        free = t.free;
        enough = t.enough;
      };
    };
  }

module _ (face : ℕ → ℕ → List (ℕ × ℕ) → List ℕ) (o : Opening) where
  pub splits_seat : (id n : ℕ) (v : SeatView) → v.live ≡ true → v.spare ≡ Some n → n < v.shape.workers → Splits (Kept face o) id v (handing_out v) (handed_out v)
  splits_seat id n v live spare room s r at =
      let shaped : v.shape ≡ o.shape = (r.each_view id v at).shaped live in
      subst (λ (z : Held). Kept face o record { words = s.words; homes = s.homes; views = set s.views id (handing_out v) ++ record { live = v.live; era = v.era; past = v.past; shape = v.shape; base = v.base; members = v.members; seen = v.seen; also = []; told = None; held = z ∷ []; spare = None; reads = false; lent = []; words = []; whole = []; reserved = []; reached = v.reached; began = no_beginning; steps = [] } ∷ [] })
      (λ i. new_lane (sym shaped i) v.words (unwrap_or (sym spare i) 0))
      (hands_out face o s r id v at live n spare (subst (λ (z : Shape). n < z.workers) shaped room))
