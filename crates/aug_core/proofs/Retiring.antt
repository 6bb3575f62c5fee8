-- What a seat replaced becomes its own, once the root shows later entries: its records are no longer in use, and stand no longer. Who may still read one of
-- them reserved an era of its life.
use Rattle.std.proofs.Common.{true, ◌≡◌, ◌≢◌, ◌⊎◌, inl, inr, ℕ, zero, suc, ◌+◌, ◌-◌, ◌<◌, ◌≤◌, Bool, if◌then◌else◌, eq-eqb, ne_eqb, List, [], ◌∷◌, ◌++◌, length, map, get_or, set, refl, sym, ap, ◌∙◌, subst, ⊎_elim, arith}
use Rattle.std.specs.Prelude.{◌==◌}
use Rattle.std.proofs.lemmas.Bool.{cases_eq}
use Rattle.std.proofs.lemmas.List.{set-get_or}
use Rattle.std.proofs.lemmas.List.FromFn.{length-map-range_with_len, get_or-map-range_with_len}
use mathlib.Core.Option.{none, some, some-injective, some-ne-none}
use lib.ListN.{get_elem?}
use Rattle.atomic_table.specs.Table.{step, keeps, Allows}
use Rattle.aug_core.specs.Places.{Shape, record_start, record_count, record_words, era_place}
use Rattle.aug_core.specs.Addresses.{place_count, IsInner, left_of, right_of}
use Rattle.aug_core.specs.Book.{history_of, At}
use Rattle.aug_core.specs.Opening.{Opening}
use Rattle.aug_core.specs.Records.{Lists, Fate, standing, owned_by, StandsAs, IsThere, Waits, Protects, lane_of, IsReplaced, KeepsView, KeepsRecords, OwnsRecord}
use Rattle.aug_core.specs.Rule.{HoldsLane, Kept}
use Rattle.aug_core.specs.Kinds.{load_era}
use Rattle.aug_core.specs.Effects.{Sat, HoldsOnly, on_first}
use Rattle.aug_core.specs.Reclaiming.{retired_in, retiring_in, retiring, retired, ShowsLater}
use Rattle.aug_core.specs.inside.EraSteps.{WithEra}
use Rattle.aug_core.specs.declared.step.StepTaken.{StepTaken}
use Rattle.aug_core.specs.declared.view.Entry.{Entry}
use Rattle.aug_core.specs.declared.view.Held.{Held}
use Rattle.aug_core.specs.declared.view.Life.{Life}
use Rattle.aug_core.specs.declared.view.Owned.{Owned}
use Rattle.aug_core.specs.declared.view.Replaced.{Replaced}
use Rattle.aug_core.specs.declared.view.Reserved.{Reserved}
use Rattle.aug_core.specs.declared.view.SeatView.{SeatView}
use Rattle.aug_core.proofs.Owning.{listed_map}
use Rattle.aug_core.proofs.Joins.{append_at}
use Rattle.aug_core.proofs.Books.{no_shorter, one_entry}
use Rattle.aug_core.proofs.Keeping.{holds_lane_on}
use Rattle.aug_core.proofs.Moves.{St, MayMove, moves_on, knows_keeping}
use Rattle.aug_core.proofs.Stores.{alone, one_lane}
use Rattle.aug_core.proofs.ReaderCounts.{still_works}
use Rattle.aug_core.proofs.PrefixLemmas.{book_refl, entry_stays}

abbrev life_of : ℕ → Replaced → Life
life_of era c = (retired_in era c).life

-- what becomes of records where a lane comes to own those that were replaced from it
abbrev retire_fate : ℕ → ℕ → List Replaced → (ℕ → Fate) → ℕ → Fate
retire_fate lane era [] fate n = fate n
retire_fate lane era (c ∷ cs) fate n = if n == c.number then owned_by lane (life_of era c) else retire_fate lane era cs fate n

-- a record is one of these, or what it was
record IsRetired (lane era : ℕ) (cs : List Replaced) (fate : ℕ → Fate) (n : ℕ) : Type 0 where
  which : Replaced
  listed : Lists cs which
  numbered : which.number ≡ n
  fate_is : retire_fate lane era cs fate n ≡ owned_by lane (life_of era which)

record IsAsBefore (lane era : ℕ) (cs : List Replaced) (fate : ℕ → Fate) (n : ℕ) : Type 0 where
  fate_is : retire_fate lane era cs fate n ≡ fate n
  others : (c : Replaced) → Lists cs c → c.number ≢ n

look : (lane era : ℕ) (cs : List Replaced) (fate : ℕ → Fate) (n : ℕ) → IsRetired lane era cs fate n ⊎ IsAsBefore lane era cs fate n
look lane era [] fate n = inr record { fate_is = refl; others = λ c l. absurd (some-ne-none c (sym l.1)) }
look lane era (c ∷ cs) fate n = ⊎_elim
    (λ (is : n ≡ c.number). inl record { which = c; listed = (0, refl); numbered = sym is; fate_is = ap (λ (b : Bool). if b then owned_by lane (life_of era c) else retire_fate lane era cs fate n) (eq-eqb n c.number is) })
    (λ ne. let e : retire_fate lane era (c ∷ cs) fate n ≡ retire_fate lane era cs fate n = ap (λ (b : Bool). if b then owned_by lane (life_of era c) else retire_fate lane era cs fate n) (ne_eqb n c.number ne) in ⊎_elim
    (λ (t : IsRetired lane era cs fate n). inl record { which = t.which; listed = (suc t.listed.0, t.listed.1); numbered = t.numbered; fate_is = e ∙ t.fate_is })
    (λ (t : IsAsBefore lane era cs fate n). inr record { fate_is = e ∙ t.fate_is; others = λ d l. other n ne t d l.0 l.1 }) (look lane era cs fate n)) (cases_eq n c.number)
  where
    other : (n : ℕ) → n ≢ c.number → IsAsBefore lane era cs fate n → (d : Replaced) (i : ℕ) → get_elem? (c ∷ cs) i ≡ some d → d.number ≢ n
    other n ne t d zero l = λ same. ne (sym same ∙ ap (λ (z : Replaced). z.number) (sym (some-injective c d l)))
    other n ne t d (suc i) l = t.others d (i, l)

module _ (face : ℕ → ℕ → List (ℕ × ℕ) → List ℕ) (o : Opening) where
  module _ (s : St) (r : Kept face o s) (id : ℕ) (v : SeatView) (at : get_elem? s.views id ≡ some v) (h : Held) (only : HoldsOnly v h) (used : 0 < o.shape.reservations) (shaped : v.shape ≡ o.shape) (later : ShowsLater v h) (steps : List StepTaken) where
    abbrev found : ℕ
    found = get_or s.words (era_place o.shape) 0

    abbrev fate' : ℕ → Fate
    fate' = retire_fate h.lane found h.replaced r.fate

    -- nothing is in use any more that is before what the root shows
    abbrev gone' : ℕ → ℕ
    gone' q = r.gone q + (later.from q - r.gone q)

    abbrev lane' : Held
    lane' = retiring_in found h

    held : get_elem? v.held 0 ≡ some h
    held = subst (λ (z : List Held). get_elem? z 0 ≡ some h) (sym only) refl

    shown : (q : ℕ) → q < place_count o.shape → later.from q < length (history_of r.book q)
    shown q inside = let le = no_shorter r.book v.seen (r.each_view id v at).saw q in let low = later.reached q (subst (λ (z : Shape). q < place_count z) (sym shaped) inside) in omega arith

    -- where records are used again, a record stands as one entry of one node
    stands_here : (f : Fate) (q i : ℕ) → StandsAs o.shape f q i → f ≡ standing q i
    stands_here f q i stands = ⊎_elim (λ e. e) (λ t. let off = t.0 in absurd (omega arith)) stands

    owned_not : (f : Fate) (q i lane : ℕ) (life : Life) → f ≡ standing q i → f ≢ owned_by lane life
    owned_not f q i lane life e is = let clash : standing q i ≡ owned_by lane life = sym e ∙ is in cc

    mine : (c : Replaced) → Lists h.replaced c → IsReplaced o.shape s.words r.fate r.book h.lane c
    mine c l = (r.each_view id v at).records.replaced 0 h c held l

    -- the record of what was replaced stands there
    stands_replaced : (lane : ℕ) (c : Replaced) → IsReplaced o.shape s.words r.fate r.book lane c → r.fate c.number ≡ standing c.place c.index
    stands_replaced lane c m = ap r.fate (sym m.numbered) ∙ stands_here (r.fate m.entry.number) c.place c.index m.there.stands

    -- what has its number and stands is that entry
    record IsEntry (q i : ℕ) (c : Replaced) : Type 0 where
      place : q ≡ c.place
      index : i ≡ c.index

    same_entry : (q i number : ℕ) (c : Replaced) → Lists h.replaced c → c.number ≡ number → r.fate number ≡ standing q i → IsEntry q i c
    same_entry q i number c l numbered stands = let both : standing q i ≡ standing c.place c.index = sym stands ∙ ap r.fate (sym numbered) ∙ stands_replaced h.lane c (mine c l) in
        let place : q ≡ c.place = cc both in let index : i ≡ c.index = cc both in record { place = place; index = index }

    born_as : (q i : ℕ) (e : Entry) (c : Replaced) → Lists h.replaced c → At r.book q i e → IsEntry q i c → e.birth ≡ c.birth
    born_as q i e c l p is = let m = mine c l in
        ap (λ (z : Entry). z.birth) (one_entry r.book c.place c.index e m.entry (subst (λ (z : ℕ × ℕ). At r.book z.0 z.1 e) (λ k. (is.place k, is.index k)) p) m.at) ∙ m.born

    -- it is not one of those that are in use still
    past : (q i : ℕ) (c : Replaced) → Lists h.replaced c → IsEntry q i c → gone' q ≤ i → ⊥
    past q i c l is le = let before = later.past c l in let index = is.index in let same : later.from q ≡ later.from c.place = ap later.from is.place in absurd (omega arith)

    there_on : (q i : ℕ) (e : Entry) → IsThere o.shape s.words r.fate q i e → ((c : Replaced) → Lists h.replaced c → c.number ≡ e.number → ⊥) → IsThere o.shape s.words fate' q i e
    there_on q i e t not = ⊎_elim (λ (x : IsRetired h.lane found h.replaced r.fate e.number). absurd (not x.which x.listed x.numbered))
        (λ (x : IsAsBefore h.lane found h.replaced r.fate e.number). record { stands = subst (λ (z : Fate). StandsAs o.shape z q i) (sym x.fate_is) t.stands; words_are = t.words_are }) (look h.lane found h.replaced r.fate e.number)

    records' : KeepsRecords o.shape s.words fate' gone' r.book
    records' = record {
      none_gone = λ off q. absurd (omega arith);
      opened = λ off number low. absurd (omega arith);
      closed = record {
        below = λ q i e inner p le. let b = r.records.closed.below q i e inner p (omega arith) in let t = later.over q (subst (λ (z : Shape). IsInner z q) (sym shaped) inner) in
            let up = r.tree.is_book.rises q (later.from q) i t.0 e inner (entry_stays (r.each_view id v at).saw q (later.from q) t.0 t.1) p (omega arith) in
            let l : later.from (left_of o.shape q) ≤ t.0.left = subst (λ (z : Shape). later.from (left_of z q) ≤ t.0.left) shaped t.2 in
            let m : later.from (right_of o.shape q) ≤ t.0.right = subst (λ (z : Shape). later.from (right_of z q) ≤ t.0.right) shaped t.3 in
            let b0 = b.0 in let b1 = b.1 in let up0 = up.0 in let up1 = up.1 in (omega arith, omega arith);
      };
      newest = λ q inside. let a = r.records.newest q inside in let b = shown q inside in omega arith;
      there = λ q i e inner p le. let t = r.records.there q i e inner p (omega arith) in
          there_on q i e t (λ c l numbered. past q i c l (same_entry q i e.number c l numbered (stands_here (r.fate e.number) q i t.stands)) le);
    }

    -- what a reservation holds it holds still: a record that was replaced lived in its era
    protects_on : (x : Reserved) → Protects o.shape s.words r.fate r.gone r.book x → Protects o.shape s.words fate' gone' r.book x
    protects_on x p = record {
      exists = p.exists;
      some_era = p.some_era;
      word = p.word;
      not_late = p.not_late;
      in_use = λ q. let low = p.in_use q in omega arith;
      closed = p.closed;
      holds = λ q i e inner at' young low. let t = p.holds q i e inner at' young low in (
        t.0,
        ⊎_elim
            (λ stands. ⊎_elim
            (λ (y : IsRetired h.lane found h.replaced r.fate e.number). let born = born_as q i e y.which y.listed at' (same_entry q i e.number y.which y.listed y.numbered (stands_here (r.fate e.number) q i stands)) in
            inr record { lane = h.lane; life = life_of found y.which; fate_is = y.fate_is; born = omega arith; died = p.not_late; unscanned = omega arith })
            (λ (y : IsAsBefore h.lane found h.replaced r.fate e.number). inl (subst (λ (z : Fate). StandsAs o.shape z q i) (sym y.fate_is) stands)) (look h.lane found h.replaced r.fate e.number))
            (λ (w : Waits r.fate x e.number). inr (⊎_elim
            (λ (y : IsRetired h.lane found h.replaced r.fate e.number). absurd (owned_not (r.fate e.number) y.which.place y.which.index w.lane w.life (ap r.fate (sym y.numbered) ∙ stands_replaced h.lane y.which (mine y.which y.listed)) w.fate_is))
            (λ (y : IsAsBefore h.lane found h.replaced r.fate e.number). record { lane = w.lane; life = w.life; fate_is = y.fate_is ∙ w.fate_is; born = w.born; died = w.died; unscanned = w.unscanned }) (look h.lane found h.replaced r.fate e.number))) t.1,
      );
    }

    -- an entry was replaced from one lane
    others_view : (j : ℕ) (u : SeatView) → j ≢ id → get_elem? s.views j ≡ some u → KeepsView o.shape s.words r.fate r.gone r.book u → KeepsView o.shape s.words fate' gone' r.book u
    others_view j u ne p k = record {
      reserved = λ x e. let t = k.reserved x e in (t.0, protects_on x t.1);
      once = k.once;
      reached = k.reached;
      replaced = λ a g d q l. let m = k.replaced a g d q l in record {
        inner = m.inner;
        entry = m.entry;
        next = m.next;
        at = m.at;
        followed = m.followed;
        made_by = m.made_by;
        numbered = m.numbered;
        born = m.born;
        said = m.said;
        there = there_on d.place d.index m.entry m.there (λ c lc numbered. let is = same_entry d.place d.index m.entry.number c lc numbered (stands_here (r.fate m.entry.number) d.place d.index m.there.stands) in
            let own = mine c lc in let next : m.next ≡ own.next = one_entry r.book c.place (c.index + 1) m.next own.next (subst (λ (z : ℕ × ℕ). At r.book z.0 (z.1 + 1) m.next) (λ i. (is.place i, is.index i)) m.followed) own.followed in
            ne (r.apart.one_holder j id a 0 u v g h p at q held (sym m.made_by ∙ ap (λ (z : Entry). z.maker) next ∙ own.made_by)).0);
      };
    }

    owns_on : (lane : ℕ) (x : Owned) → OwnsRecord o.shape s.words r.fate lane x → OwnsRecord o.shape s.words fate' lane x
    owns_on lane x owns = record {
      exists = owns.exists;
      long = owns.long;
      exact = owns.exact;
      fate_is = ⊎_elim
          (λ (y : IsRetired h.lane found h.replaced r.fate x.number). absurd (owned_not (r.fate x.number) y.which.place y.which.index lane x.life (ap r.fate (sym y.numbered) ∙ stands_replaced h.lane y.which (mine y.which y.listed)) owns.fate_is))
          (λ (y : IsAsBefore h.lane found h.replaced r.fate x.number). y.fate_is ∙ owns.fate_is) (look h.lane found h.replaced r.fate x.number);
    }

    -- the lane owns what was replaced
    owns_new : (c : Replaced) → Lists h.replaced c → OwnsRecord o.shape s.words fate' h.lane (retired_in found c)
    owns_new c l = let m = mine c l in record {
      exists = subst (λ (z : ℕ). z < record_count o.shape) m.numbered (r.tree.is_book.below c.place c.index m.entry m.inner m.at);
      long = length-map-range_with_len (λ k. get_or c.words k 0) 0 record_words;
      exact = λ k small. ap (λ (z : ℕ). get_or s.words (record_start o.shape z + k) 0) (sym m.numbered) ∙ m.there.words_are k small ∙ ap (λ (z : List ℕ). get_or z k 0) m.said
          ∙ sym (get_or-map-range_with_len (λ j. get_or c.words j 0) 0 record_words k k 0 small (omega arith));
      fate_is = ⊎_elim
          (λ (y : IsRetired h.lane found h.replaced r.fate c.number). let is = same_entry c.place c.index c.number y.which y.listed y.numbered (stands_replaced h.lane c m) in
          let born : y.which.birth ≡ c.birth = sym (born_as c.place c.index m.entry y.which y.listed m.at is) ∙ m.born in y.fate_is ∙ ap (λ (z : ℕ). owned_by h.lane record { birth = z; death = found; scanned = 0 }) born)
          (λ (y : IsAsBefore h.lane found h.replaced r.fate c.number). absurd (y.others c l refl)) (look h.lane found h.replaced r.fate c.number);
    }

    moved : MayMove face o s r id v s.words r.book fate' gone'
    moved = record {
      tree = r.tree;
      records = records';
      grows = book_refl r.book;
      lanes = λ lane low. inl refl;
      others = λ lane x not. owns_on lane x;
      fresh = λ seen saw f. f;
      kept = others_view;
    }

    own_lane_now : HoldsLane o.shape s.words r.fate h
    own_lane_now = (r.each_view id v at).holds 0 h held

    holds_it : HoldsLane o.shape s.words fate' lane'
    holds_it = record {
      exists = own_lane_now.exists;
      state = own_lane_now.state;
      owns = λ y t. ⊎_elim
          (λ old. owns_on h.lane y (own_lane_now.owns y (t.0, old)))
          (λ new. let was = listed_map (retired_in found) h.replaced y (new.0, new.2) in subst (OwnsRecord o.shape s.words fate' h.lane) was.2 (owns_new was.0 was.1)) (append_at h.owned (map (retired_in found) h.replaced) y t.0 t.1);
    }

    abbrev after : SeatView
    after = record v { held = lane' ∷ []; reserved = v.reserved; reached = found; steps = steps }

    view' : KeepsView o.shape s.words fate' gone' r.book after
    view' = let k = (r.each_view id v at).records in record {
      reserved = λ x e. let t = k.reserved x e in (
        holds_lane_on v after (lane_of o.shape x.slot)
            (λ a g p. let u = alone h g a (subst (λ (z : List Held). get_elem? z a ≡ some g) only p) in (lane', subst (λ (z : ℕ). get_elem? (lane' ∷ []) z ≡ some lane') (sym u.0) refl, ap (λ (z : Held). z.lane) (sym u.1))) t.0,
        protects_on x t.1,
      );
      once = k.once;
      reached = omega arith;
      replaced = λ a g c p l. absurd (some-ne-none c (sym (subst (λ (z : Held). get_elem? z.replaced l.0 ≡ some c) (sym (alone lane' g a p).1) l.1)));
    }

    pub retires_here : (i : ℕ) → Kept face o record { words = set s.words i (get_or s.words i 0); homes = s.homes; views = set s.views id after }
    retires_here i = subst (λ (z : List ℕ). Kept face o record { words = z; homes = s.homes; views = set s.views id after }) (sym (set-get_or s.words i 0))
        (moves_on face o s r id v s.words r.book fate' gone' moved at after (let same = one_lane v h lane' v.seen steps only refl refl in record { back = same.back; forth = same.forth; spare = refl })
        (knows_keeping face o s r id v s.words r.book fate' gone' moved at (lane' ∷ []) v.reserved found steps (λ a g p. subst (HoldsLane o.shape s.words fate') (alone lane' g a p).1 holds_it) view') (λ key low. refl))

  pub retires : (n id place : ℕ) (me : Sat) (h : Held) → me.0.live ≡ true → me.1 ≡ [] → HoldsOnly me.0 h → 0 < me.0.shape.reservations → ShowsLater me.0 h → place ≡ era_place me.0.shape
      → Allows (Kept face o) n id me place (λ x. x) (WithEra me (retired (step n place 0 0 none) me))
  retires n id place me h live empty only used later is s r _ at _ =
      let v : SeatView = me.0 in let kn = r.each_view id v at in let shaped = kn.shaped live in let is' : place ≡ era_place o.shape = is ∙ ap (λ (z : Shape). era_place z) shaped in
      let value : ℕ = get_or s.words place 0 in let same : get_or s.words (era_place o.shape) 0 ≡ value = ap (λ (z : ℕ). get_or s.words z 0) (sym is') in let known = kn.records.reached in
      let taken : StepTaken = load_era place value in let steps : List StepTaken = v.steps ++ taken ∷ [] in
      let held : on_first (retiring_in value) v.held ≡ retiring_in value h ∷ [] = ap (on_first (retiring_in value)) only in (
        retiring v value taken,
        keeps,
        tt,
        subst (λ (z : List Held). Kept face o record { words = set s.words place value; homes = s.homes; views = set s.views id record v { held = z; reached = value; steps = steps } }) (sym held)
            (subst (λ (z : ℕ). Kept face o record { words = set s.words place value; homes = s.homes; views = set s.views id record v { held = retiring_in z h ∷ []; reached = z; steps = steps } }) same
            (retires_here s r id v at h only (subst (λ (z : Shape). 0 < z.reservations) shaped used) shaped later steps place)),
        (
          (empty, refl, omega arith),
          record { live = refl; era = refl; past = refl; shape = refl; members = refl; told = refl; base = refl; whole = refl; led = λ m e. (m, e) },
          record { reads = refl; lent = refl; leads = λ m e. (m, e); works = still_works (retiring_in value) v (retiring v value taken) refl refl },
        ),
      )
