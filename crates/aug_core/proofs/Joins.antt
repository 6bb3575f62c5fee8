-- A view takes in the lanes of another.
use Rattle.std.proofs.Common.{true, false, ◌≡◌, ℕ, zero, suc, ◌+◌, ◌≢◌, ◌⊎◌, inl, inr, List, [], ◌∷◌, ◌++◌, length, set, sym, ap, ◌∙◌, subst, ⊎_elim, arith, Option, Some, None}
use mathlib.Core.Option.{some, some-ne-none}
use lib.ListN.{get_elem?}
use Rattle.atomic_table.specs.Table.{Joins}
use Rattle.atomic_table.proofs.Lists.{at_set}
use Rattle.aug_core.specs.Book.{Book, ArePrefixes}
use Rattle.aug_core.specs.Opening.{Opening}
use Rattle.aug_core.specs.Rule.{Knows, Kept}
use Rattle.aug_core.specs.Records.{Fate}
use Rattle.aug_core.specs.Effects.{spent}
use Rattle.aug_core.specs.declared.view.Entry.{Entry}
use Rattle.aug_core.specs.declared.view.Held.{Held}
use Rattle.aug_core.specs.declared.view.Learnt.{Learnt}
use Rattle.aug_core.specs.declared.view.SeatView.{SeatView}
use Rattle.aug_core.proofs.Views.{apart_on}
use Rattle.aug_core.proofs.Keeping.{keeps_none}
use Rattle.aug_core.proofs.Moves.{St}
use Rattle.aug_core.specs.Counts.{StandsAt, Stands}
use Rattle.aug_core.specs.declared.view.Change.{Change}
use Rattle.std.proofs.lemmas.Bool.{cases_eq}
use Rattle.std.proofs.Common.{refl, append-nil}
use Rattle.aug_core.proofs.Books.{at_below}
use Rattle.atomic_table.proofs.Lists.{at_longer, set_here, set_else}
use Rattle.aug_core.proofs.PrefixLemmas.{book_none}

module _ {A : Type 0} where
  -- an element of two lists, one after the other
  pub append_at : (l m : List A) (a : A) (j : ℕ) → get_elem? (l ++ m) j ≡ some a → (get_elem? l j ≡ some a) ⊎ ((k : ℕ) × (j ≡ length l + k) × (get_elem? m k ≡ some a))
  append_at [] m a j e = inr (j, omega arith, e)
  append_at (x ∷ xs) m a zero e = inl e
  append_at (x ∷ xs) m a (suc j) e = ⊎_elim (λ t. inl t) (λ t. inr (t.0, let is = t.1 in omega arith, t.2)) (append_at xs m a j e)

  at_right : (l m : List A) (a : A) (j : ℕ) → get_elem? m j ≡ some a → get_elem? (l ++ m) (length l + j) ≡ some a
  at_right [] m a j e = let is : j ≡ 0 + j = omega arith in subst (λ (z : ℕ). get_elem? m z ≡ some a) is e
  at_right (x ∷ xs) m a j e = let is : suc (length xs + j) ≡ length (x ∷ xs) + j = omega arith in subst (λ (z : ℕ). get_elem? (x ∷ (xs ++ m)) z ≡ some a) is (at_right xs m a j e)

-- the view of a seat that was joined knows nothing
pub spent_knows : (o : Opening) (words : List ℕ) (fate : ℕ → Fate) (gone : ℕ → ℕ) (book : List (List Entry)) → Knows o words fate gone book spent
spent_knows o words fate gone book = record {
  shaped = λ l. let clash : false ≡ true = l in cc;
  same_members = λ l. let clash : false ≡ true = l in cc;
  saw = book_none book;
  also_saw = book_none book;
  fresh = record { covers = λ q i e inner past p. record { left = omega arith; right = omega arith } };
  holds = λ a h p. absurd (some-ne-none h (sym p));
  spares = λ n lane e le low. let clash : None ≡ Some n = e in cc;
  records = keeps_none o.shape words fate gone book spent refl (omega arith) (λ a h c p l. some-ne-none h (sym p));
}

module _ (face : ℕ → ℕ → List (ℕ × ℕ) → List ℕ) (o : Opening) (s : St) (r : Kept face o s) (id : ℕ) (v : SeatView) (at : get_elem? s.views id ≡ some v) (other : ℕ) (w : SeatView) (ne : other ≢ id) (at' : get_elem? s.views other ≡ some w) (also : Book) (known : ArePrefixes also r.book) (told : Option Learnt) (lent : List ℕ) where
  abbrev lead : SeatView
  lead = record v { also = also; told = told; held = v.held ++ w.held; lent = lent }

  abbrev views : List SeatView
  views = set (set s.views id lead) other spent

  -- a view is the joined one, the joining one, or as it was
  came : (i : ℕ) (x : SeatView) → get_elem? views i ≡ some x → (spent ≡ x) ⊎ (((i ≡ id) × (lead ≡ x)) ⊎ ((i ≢ other) × (get_elem? s.views i ≡ some x)))
  came i x p = ⊎_elim (λ t. inl t.1) (λ t. inr (⊎_elim (λ q. inl q) (λ q. inr (t.0, q.1)) (at_set s.views id i lead x t.1))) (at_set (set s.views id lead) other i spent x p)

  -- where a lane stood before: as it was, or in the joined view
  abbrev Stood : ℕ → ℕ → Held → Type 0
  Stood i a h = ((y : SeatView) × (i ≢ other) × (get_elem? s.views i ≡ some y) × (get_elem? y.held a ≡ some h)) ⊎ ((b : ℕ) × (i ≡ id) × (a ≡ length v.held + b) × (get_elem? w.held b ≡ some h))

  stood : (i a : ℕ) (x : SeatView) (h : Held) → get_elem? views i ≡ some x → get_elem? x.held a ≡ some h → Stood i a h
  stood i a x h p q = ⊎_elim
      (λ t. let out : get_elem? spent.held a ≡ some h = subst (λ (z : SeatView). get_elem? z.held a ≡ some h) (sym t) q in absurd (some-ne-none h (sym out)))
      (λ t. ⊎_elim
      (λ t'. ⊎_elim
      (λ old. inl (v, (λ same. ne (sym same ∙ t'.0)), subst (λ (z : ℕ). get_elem? s.views z ≡ some v) (sym t'.0) at, old))
      (λ new. inr (new.0, t'.0, new.1, new.2)) (append_at v.held w.held h a (subst (λ (z : SeatView). get_elem? z.held a ≡ some h) (sym t'.1) q)))
      (λ t'. inl (x, t'.0, t'.1, q)) t) (came i x p)

  -- who hands lanes out did so
  leads : (i m : ℕ) (x : SeatView) → get_elem? views i ≡ some x → x.spare ≡ Some m → (y : SeatView) × (get_elem? s.views i ≡ some y) × (y.spare ≡ Some m)
  leads i m x p e = ⊎_elim
      (λ t. let clash : None ≡ Some m = ap (λ (z : SeatView). z.spare) t ∙ e in cc)
      (λ t. ⊎_elim (λ t'. (v, subst (λ (z : ℕ). get_elem? s.views z ≡ some v) (sym t'.0) at, ap (λ (z : SeatView). z.spare) t'.1 ∙ e)) (λ t'. (x, t'.1, e)) t) (came i x p)

  -- where a lane may come from: the same place, or the joined view's
  abbrev From : ℕ → ℕ → ℕ → ℕ → Type 0
  From i a k c = ((i ≡ k) × (a ≡ c) × (k ≢ other)) ⊎ ((k ≡ other) × (i ≡ id) × (a ≡ length v.held + c))

  -- the joined view's changes stand behind the joining one's
  abbrev Before : ℕ → ℕ → ℕ → Change → Type 0
  Before i a k c = ((i ≢ other) × StandsAt s.views i a k c) ⊎ ((b : ℕ) × (i ≡ id) × (a ≡ length v.held + b) × StandsAt s.views other b k c)

  before : (i a k : ℕ) (c : Change) → StandsAt views i a k c → Before i a k c
  before i a k c t = ⊎_elim
      (λ old. inl (old.1, record { view = old.0; lane = t.lane; sits = old.2; held = old.3; listed = t.listed }))
      (λ new. inr (new.0, new.1, new.2, record { view = w; lane = t.lane; sits = at'; held = new.3; listed = t.listed })) (stood i a t.view t.lane t.sits t.held)

  lead_there : get_elem? views id ≡ some lead
  lead_there = set_else (set s.views id lead) other id spent (λ same. ne (sym same)) ∙ set_here s.views id lead (at_below s.views id v at)

  still : (i a k : ℕ) (c : Change) → StandsAt s.views i a k c → Stands views c
  still i a k c t = ⊎_elim
      (λ (is : i ≡ other). let e : some t.view ≡ some w = sym t.sits ∙ subst (λ (z : ℕ). get_elem? s.views z ≡ some w) (sym is) at' in let this : t.view ≡ w = cc e in record {
        seat = id;
        index = length v.held + a;
        place = k;
        at = record { view = lead; lane = t.lane; sits = lead_there; held = at_right v.held w.held t.lane a (subst (λ (z : SeatView). get_elem? z.held a ≡ some t.lane) this t.held); listed = t.listed };
      })
      (λ away. ⊎_elim
      (λ (is : i ≡ id). let e : some t.view ≡ some v = sym t.sits ∙ subst (λ (z : ℕ). get_elem? s.views z ≡ some v) (sym is) at in let this : t.view ≡ v = cc e in record {
        seat = id;
        index = a;
        place = k;
        at = record { view = lead; lane = t.lane; sits = lead_there; held = at_longer v.held w.held a t.lane (subst (λ (z : SeatView). get_elem? z.held a ≡ some t.lane) this t.held); listed = t.listed };
      })
      (λ out. record {
        seat = i;
        index = a;
        place = k;
        at = record { view = t.view; lane = t.lane; sits = set_else (set s.views id lead) other i spent away ∙ set_else s.views id i lead out ∙ t.sits; held = t.held; listed = t.listed };
      }) (cases_eq i id)) (cases_eq i other)

  pub takes_back : Kept face o record { words = s.words; homes = s.homes; views = views }
  takes_back = let kn = r.each_view id v at in let kw = r.each_view other w at' in record {
    book = r.book;
    tree = r.tree;
    fate = r.fate;
    gone = r.gone;
    records = r.records;
    states = r.states;
    each_view = λ j u p. ⊎_elim
        (λ t. subst (Knows o s.words r.fate r.gone r.book) t (spent_knows o s.words r.fate r.gone r.book))
        (λ t. ⊎_elim
        (λ t'. subst (Knows o s.words r.fate r.gone r.book) t'.1 record {
          shaped = kn.shaped;
          same_members = kn.same_members;
          saw = kn.saw;
          also_saw = known;
          fresh = kn.fresh;
          holds = λ a h q. ⊎_elim (λ old. kn.holds a h old) (λ new. kw.holds new.0 h new.2) (append_at v.held w.held h a q);
          spares = kn.spares;
          records = record {
            reserved = λ x e. let t = kn.records.reserved x e in let own = t.0 in (record { index = own.index; held = own.held; at = at_longer v.held w.held own.index own.held own.at; is = own.is }, t.1);
            once = kn.records.once;
            reached = kn.records.reached;
            replaced = λ a h c q l. ⊎_elim (λ old. kn.records.replaced a h c old l) (λ new. kw.records.replaced new.0 h c new.2 l) (append_at v.held w.held h a q);
          };
        }) (λ t'. r.each_view j u t'.1) t) (came j u p);
    apart = apart_on s.views views From (λ i a h. ⊥) r.apart record {
      came = λ i a x h p q. ⊎_elim
          (λ t. inl record { seat = i; index = a; view = t.0; lane = h; sits = t.2; held = t.3; same = refl; from = inl (refl, refl, t.1) })
          (λ t. inl record { seat = other; index = t.0; view = w; lane = h; sits = at'; held = t.3; same = refl; from = inr (refl, t.1, t.2) }) (stood i a x h p q);
      once = λ i a j b k c p q. ⊎_elim
          (λ x. ⊎_elim (λ y. (x.0 ∙ sym y.0, x.1 ∙ sym y.1)) (λ y. absurd (x.2 y.0)) q)
          (λ x. ⊎_elim (λ y. absurd (y.2 x.0)) (λ y. (x.1 ∙ sym y.1, x.2 ∙ sym y.2)) q) p;
      led = λ i m x p e. let t = leads i m x p e in (t.0, m, t.1, t.2, omega arith);
      new_once = λ i j a b h g none. absurd none;
      new_apart = λ i j a b y h g none. absurd none;
      new_below = λ i j a m x h none. absurd none;
    };
    changes = record {
      counted = record {
        all = λ c m. let t = r.changes.counted.all c m in still t.seat t.index t.place c t.at;
        once = λ i j a b k l c p q. ⊎_elim
            (λ x. ⊎_elim
            (λ y. r.changes.counted.once i j a b k l c x.1 y.1)
            (λ y. absurd (x.0 (r.changes.counted.once i other a y.0 k l c x.1 y.3).0)) (before j b l c q))
            (λ x. ⊎_elim
            (λ y. absurd (y.0 (sym (r.changes.counted.once other j x.0 b k l c x.3 y.1).0)))
            (λ y. let one = r.changes.counted.once other other x.0 y.0 k l c x.3 y.3 in (x.1 ∙ sym y.1, x.2 ∙ ap (λ (z : ℕ). length v.held + z) one.1 ∙ sym y.2, one.2)) (before j b l c q)) (before i a k c p);
        none_else = λ i a k c p. ⊎_elim (λ x. r.changes.counted.none_else i a k c x.1) (λ x. r.changes.counted.none_else other x.0 k c x.3) (before i a k c p);
      };
      tally = r.changes.tally;
      tallied = λ off. let t = r.changes.tallied off in record {
        long = t.long;
        each = λ i a x h p ph. ⊎_elim (λ y. t.each i a y.0 h y.2 y.3) (λ y. t.each other y.0 w h at' y.3) (stood i a x h p ph);
        few = t.few;
        free = t.free;
        enough = t.enough;
      };
    };
  }

module _ (face : ℕ → ℕ → List (ℕ × ℕ) → List ℕ) (o : Opening) where
  pub joins_seat : (id other : ℕ) (v w : SeatView) (told : Option Learnt) (lent : List ℕ) → Joins (Kept face o) id v other w record v { also = w.seen; told = told; held = v.held ++ w.held; lent = lent } spent
  joins_seat id other v w told lent s r at ne at' = let lead : SeatView = record v { also = w.seen; told = told; held = v.held ++ w.held; lent = lent } in
      let there = ⊎_elim (λ t. absurd (ne t.0)) (λ t. t.1) (at_set s.views id other lead w at') in takes_back face o s r id v at other w ne there w.seen (r.each_view other w there).saw told lent

  -- a view that holds no lane may go, where another one answers for other readers
  pub frees_seat : (id other : ℕ) (v w : SeatView) (lent : List ℕ) → w.held ≡ [] → Joins (Kept face o) id v other w record v { lent = lent } spent
  frees_seat id other v w lent none s r at ne at' = let lead : SeatView = record v { lent = lent } in let same : v.held ++ w.held ≡ v.held = ap (λ (z : List Held). v.held ++ z) none ∙ append-nil v.held in
      let there = ⊎_elim (λ t. absurd (ne t.0)) (λ t. t.1) (at_set s.views id other lead w at') in
      subst (λ (z : List Held). Kept face o record { words = s.words; homes = s.homes; views = set (set s.views id record v { held = z; lent = lent }) other spent }) same (takes_back face o s r id v at other w ne there v.also (r.each_view id v at).also_saw v.told lent)
