-- Loads keep the rule. One of a word of a record tells what the book or the seat's own lanes say of it, and one of a leaf or a node shows the whole book.
use Rattle.std.proofs.Common.{true, ◌≡◌, ◌⊎◌, inl, inr, ⊎_elim, ℕ, ◌+◌, ◌<◌, List, [], ◌∷◌, ◌++◌, ◌^◌, get_or, arith, sym, refl, ap, ◌∙◌, subst}
use mathlib.Core.Option.{none, some}
use lib.ListN.{get_elem?}
use Rattle.atomic_table.specs.Table.{step, keeps, Allows}
use Rattle.aug_core.specs.Places.{Shape, record_start, record_words}
use Rattle.aug_core.specs.Addresses.{IsInner}
use Rattle.aug_core.specs.Book.{ArePrefixes, IsFresh, IsNewest, NamesOnce, SerialsFit, IsBook}
use Rattle.aug_core.specs.Opening.{Opening}
use Rattle.aug_core.specs.Rule.{Knows, Kept}
use Rattle.aug_core.specs.Records.{HasWords, StandsAs, IsClosed, floor_of, Waits}
use Rattle.aug_core.specs.Kinds.{load_leaf, load_node, load_record_word}
use Rattle.aug_core.specs.Effects.{Sat, stepping, Guards, Says, SaysOwn, read_record, seeing, beginning, Sees, LeafLoaded, LoadsNode, loaded_leaf, began_at_leaf, loaded_node}
use Rattle.aug_core.specs.inside.EraSteps.{WithEra}
use Rattle.aug_core.specs.declared.view.Entry.{Entry}
use Rattle.aug_core.specs.declared.view.Reserved.{Reserved}
use Rattle.aug_core.specs.declared.view.SeatView.{SeatView}
use Rattle.aug_core.proofs.Keeping.{reserves_same, keeps_as}
use Rattle.aug_core.proofs.Moves.{St, knows_keeping, rests, stands, watches}
use Rattle.aug_core.proofs.Fits.{fits_book, named_once, sees_after}
use Rattle.aug_core.proofs.Sizes.{twice}
use Rattle.aug_core.proofs.PrefixLemmas.{entry_stays}

module _ (face : ℕ → ℕ → List (ℕ × ℕ) → List ℕ) (o : Opening) where
  module _ (s : St) (r : Kept face o s) (v : SeatView) (kn : Knows o s.words r.fate r.gone r.book v) (shaped : v.shape ≡ o.shape) where
    -- the table has the words of what the view guards, which stands, or is held by the view's reservation
    pub guarded : (q i : ℕ) (e : Entry) → Guards v q i e → HasWords o.shape s.words e.number e.words × (StandsAs o.shape (r.fate e.number) q i ⊎ ((x : Reserved) × (x.slot < o.shape.reservations) × Waits r.fate x e.number))
    guarded q i e g = let inner = subst (λ (z : Shape). IsInner z q) shaped g.inner in let at' = entry_stays kn.saw q i e g.at in ⊎_elim
        (λ off. let zero = r.records.none_gone (ap (λ (z : Shape). z.reservations) (sym shaped) ∙ off) q in let t = r.records.there q i e inner at' (omega arith) in (t.words_are, inl t.stands))
        (λ c. let p = (kn.records.reserved c.0 c.1).1 in let t = p.holds q i e inner at' c.2 c.3 in (t.0, ⊎_elim (λ x. inl x) (λ w. inr (c.0, p.exists, w)) t.1)) g.covers

  module _ (s : St) (r : Kept face o s) (v : SeatView) (kn : Knows o s.words r.fate r.gone r.book v) (shaped : v.shape ≡ o.shape) (place : ℕ) where
    -- the table has the words of what the view guards
    of_entry : (number field : ℕ) → field < record_words → place ≡ record_start v.shape number + field → Says v number field (get_or s.words place 0)
    of_entry number field small is q i e guards numbered = ap (λ (z : ℕ). get_or s.words z 0) (is ∙ (λ j. record_start (shaped j) (sym numbered j) + field))
        ∙ (guarded s r v kn shaped q i e guards).0 field small

    -- and of what it owns
    of_own : (number field : ℕ) → field < record_words → place ≡ record_start v.shape number + field → SaysOwn v number field (get_or s.words place 0)
    of_own number field small is x owns = ap (λ (z : ℕ). get_or s.words z 0) (is ∙ (λ j. record_start (shaped j) (sym owns.numbered j) + field)) ∙ ((kn.holds owns.index owns.lane owns.at).owns x owns.listed).exact field small

  pub loads_record_word : (n id place : ℕ) (me : Sat) → me.0.live ≡ true → me.1 ≡ [] → Allows (Kept face o) n id me place (λ x. x) (WithEra me (read_record (step n place 0 0 none) me))
  loads_record_word n id place me live empty s r _ at _ =
      let v : SeatView = me.0 in let kn = r.each_view id v at in let found : ℕ = get_or s.words place 0 in let shaped : v.shape ≡ o.shape = kn.shaped live in
      let w : SeatView = stepping v (load_record_word place found) in (
        w,
        keeps,
        tt,
        stands face o s r id v at w record { back = λ a h p. (h, p, refl, refl); forth = λ a h p. (h, p, refl, refl); spare = refl } (knows_keeping face o s r id v s.words r.book r.fate r.gone (rests face o s r id v at) at v.held v.reserved v.reached (v.steps ++ load_record_word place found ∷ []) kn.holds
            (keeps_as o.shape s.words r.fate r.gone r.book v w (reserves_same v w refl refl refl) kn.records)) place,
        (
          (
            empty,
            record { stepped = refl; known = of_entry s r v kn shaped place; own = of_own s r v kn shaped place },
          ),
          record { live = refl; era = refl; past = refl; shape = refl; members = refl; told = refl; base = refl; whole = refl; led = λ m e. (m, e) },
          record { reads = refl; lent = refl; leads = λ m e. (m, e); works = λ work. work },
        ),
      )

  module _ (s : St) (r : Kept face o s) (id : ℕ) (v : SeatView) (at : get_elem? s.views id ≡ some v) (live : v.live ≡ true) where
    -- what a view is told that is shown the book as it is
    pub sees_it : (w : SeatView) → w.seen ≡ r.book → Sees face v w
    sees_it w is = let kn = r.each_view id v at in sees_after face v w o.shape (kn.shaped live)
        (subst (ArePrefixes v.seen) (sym is) kn.saw) (subst (ArePrefixes v.also) (sym is) kn.also_saw)
        (subst (λ z. IsFresh o.shape z v.seen) (sym is) kn.fresh) (subst (λ z. IsBook face o.shape z) (sym is) r.tree.is_book) (λ off. subst (λ z. NamesOnce o.shape z × SerialsFit o.shape z) (sym is) (named_once o.shape s.words r.fate r.gone r.book r.records off, fits_book o s.words r.book s.views r.changes.tally (r.changes.tallied off)))

    -- a leaf's word is that of its newest entry
    leaf_told : (place : ℕ) (w : SeatView) → w.seen ≡ r.book → place < 2 ^ v.shape.bits → LeafLoaded face v w w place (get_or s.words place 0)
    leaf_told place w is low = let low' : place < 2 ^ o.shape.bits = subst (λ (z : Shape). place < 2 ^ z.bits) ((r.each_view id v at).shaped live) low in let t2 = twice o.shape.bits in let t = r.tree.newest place (omega arith) in record {
      stepped = refl;
      sees = sees_it w is;
      index = t.index;
      entry = t.entry;
      newest = subst (λ z. IsNewest z place t.index t.entry) (sym is) t.newest;
      found = t.word;
      shown = t.shown;
    }

  pub loads_leaf : (n id place : ℕ) (me : Sat) → me.0.live ≡ true → me.1 ≡ [] → Allows (Kept face o) n id me place (λ x. x) (WithEra me (loaded_leaf face (step n place 0 0 none) me))
  loads_leaf n id place me live empty s r _ at _ =
      let v : SeatView = me.0 in let found : ℕ = get_or s.words place 0 in let w : SeatView = seeing v r.book (load_leaf place found) in (
        w,
        keeps,
        tt,
        watches face o s r id v at v.began (load_leaf place found) place,
        (
          (
            empty,
            leaf_told s r id v at live place w refl,
          ),
          record { live = refl; era = refl; past = refl; shape = refl; members = refl; told = refl; base = refl; whole = refl; led = λ m e. (m, e) },
          record { reads = refl; lent = refl; leads = λ m e. (m, e); works = λ work. work },
        ),
      )

  -- the same, where an update begins with it
  pub begins_at_leaf : (n id place : ℕ) (me : Sat) → me.0.live ≡ true → me.1 ≡ [] → Allows (Kept face o) n id me place (λ x. x) (WithEra me (began_at_leaf face (step n place 0 0 none) me))
  begins_at_leaf n id place me live empty s r _ at _ =
      let v : SeatView = me.0 in let found : ℕ = get_or s.words place 0 in let w : SeatView = beginning v r.book (load_leaf place found) in (
        w,
        keeps,
        tt,
        watches face o s r id v at w.began (load_leaf place found) place,
        (
          (
            empty,
            leaf_told s r id v at live place w refl,
          ),
          record { live = refl; era = refl; past = refl; shape = refl; members = refl; told = refl; base = refl; whole = refl; led = λ m e. (m, e) },
          record { reads = refl; lent = refl; leads = λ m e. (m, e); works = λ work. work },
        ),
      )

  -- and so is a node's
  pub shows_node : (s : St) (r : Kept face o s) (id : ℕ) (v : SeatView) (at : get_elem? s.views id ≡ some v) (live : v.live ≡ true) (place : ℕ) → IsInner v.shape place
      → LoadsNode face v place (get_or s.words place 0) (seeing v r.book (load_node place (get_or s.words place 0)))
  shows_node s r id v at live place inner = let inner' = subst (λ (z : Shape). IsInner z place) ((r.each_view id v at).shaped live) inner in let t = r.tree.newest place inner'.inside in record {
    stepped = refl;
    sees = sees_it s r id v at live (seeing v r.book (load_node place (get_or s.words place 0))) refl;
    index = t.index;
    entry = t.entry;
    newest = t.newest;
    found = t.word;
    shown = t.shown;
    held = λ x e. let p = ((r.each_view id v at).records.reserved x e).1 in let low = p.in_use place in let top = r.records.newest place inner'.inside in let long = t.newest.last in
        (omega arith, subst (λ (z : Shape). IsClosed z r.book (floor_of x)) (sym ((r.each_view id v at).shaped live)) p.closed);
  }

  pub loads_node : (n id place : ℕ) (me : Sat) → me.0.live ≡ true → me.1 ≡ [] → Allows (Kept face o) n id me place (λ x. x) (WithEra me (loaded_node face (step n place 0 0 none) me))
  loads_node n id place me live empty s r _ at _ =
      let v : SeatView = me.0 in let found : ℕ = get_or s.words place 0 in (
        seeing v r.book (load_node place found),
        keeps,
        tt,
        watches face o s r id v at v.began (load_node place found) place,
        (
          (empty, shows_node s r id v at live place),
          record { live = refl; era = refl; past = refl; shape = refl; members = refl; told = refl; base = refl; whole = refl; led = λ m e. (m, e) },
          record { reads = refl; lent = refl; leads = λ m e. (m, e); works = λ work. work },
        ),
      )
