-- A view makes a note of what it has seen, which is a new view that holds no lane; and a view takes a note in.
use Rattle.std.proofs.Common.{true, false, ◌≡◌, ℕ, ◌≤◌, ◌⊎◌, inl, inr, Bool, if◌then◌else◌, eqb, List, [], ◌∷◌, ◌++◌, map, set, refl, sym, ap, ◌∙◌, subst, ⊎_elim, arith, Option, Some, None}
use Rattle.std.proofs.lemmas.List.{append-nil, map-set, map-append}
use mathlib.Core.Option.{some, some-ne-none}
use lib.ListN.{get_elem?}
use Rattle.atomic_table.specs.Table.{Splits, Joins}
use Rattle.atomic_table.proofs.Lists.{at_set, at_map, at_snoc, at_longer, set_again}
use Rattle.aug_core.specs.Places.{Shape, word_count}
use Rattle.aug_core.specs.Eras.{IsAtWork, seen_in, table_in, table_part, opening_with, Remembers, Ruled}
use Rattle.aug_core.specs.Opening.{Opening}
use Rattle.aug_core.specs.Counts.{StandsAt}
use Rattle.aug_core.specs.Rule.{Knows, Kept}
use Rattle.aug_core.specs.Effects.{noted, spent}
use Rattle.aug_core.specs.Pasts.{IsEarlier, IsLearnt, learnt_of}
use Rattle.aug_core.specs.Learning.{learning}
use Rattle.aug_core.specs.declared.view.Change.{Change}
use Rattle.aug_core.specs.declared.view.Held.{Held}
use Rattle.aug_core.specs.declared.view.Learnt.{Learnt}
use Rattle.aug_core.specs.declared.view.PastEra.{PastEra}
use Rattle.aug_core.specs.declared.view.SeatView.{SeatView}
use Rattle.aug_core.proofs.Books.{snoc_at}
use Rattle.aug_core.proofs.Eras.{seen_spent, spent_rests, lent_none, rests_none, stands_now, views_now, present_on, placed_on, beside_on, lends_on, reading_on, none_later_on}
use Rattle.aug_core.proofs.Joins.{joins_seat}
use Rattle.aug_core.specs.Readers.{times_in, AreLent}
use Rattle.aug_core.proofs.Keeping.{keeps_none}
use Rattle.aug_core.proofs.Moves.{St}
use Rattle.aug_core.proofs.ReaderCounts.{lent_more, lent_joined}
use Rattle.aug_core.proofs.PrefixLemmas.{book_none}

module _ (face : ℕ → ℕ → List (ℕ × ℕ) → List ℕ) (o : Opening) (s : St) (r : Kept face o s) (id : ℕ) (v : SeatView) (at : get_elem? s.views id ≡ some v) (reads : Bool) where
  abbrev note : SeatView
  note = record (noted v) { reads = reads }

  abbrev views : List SeatView
  views = s.views ++ note ∷ []

  -- a view is one that was there, or the note
  came : (i : ℕ) (x : SeatView) → get_elem? views i ≡ some x → (get_elem? s.views i ≡ some x) ⊎ (note ≡ x)
  came i x p = ⊎_elim (λ old. inl old) (λ new. inr new.1) (snoc_at s.views note x i p)

  -- a lane is held by one that was there
  holder : (i a : ℕ) (x : SeatView) (h : Held) → get_elem? views i ≡ some x → get_elem? x.held a ≡ some h → get_elem? s.views i ≡ some x
  holder i a x h p q = ⊎_elim (λ old. old)
      (λ new. let none : get_elem? note.held a ≡ some h = subst (λ (z : SeatView). get_elem? z.held a ≡ some h) (sym new) q in absurd (some-ne-none h (sym none))) (came i x p)

  -- and lanes are handed out by one that was there
  lead : (i n : ℕ) (x : SeatView) → get_elem? views i ≡ some x → x.spare ≡ Some n → get_elem? s.views i ≡ some x
  lead i n x p e = ⊎_elim (λ old. old) (λ new. let clash : None ≡ Some n = ap (λ (z : SeatView). z.spare) new ∙ e in cc) (came i x p)

  -- the changes stand where they stood
  stood : (i a k : ℕ) (c : Change) → StandsAt views i a k c → StandsAt s.views i a k c
  stood i a k c t = record { view = t.view; lane = t.lane; sits = holder i a t.view t.lane t.sits t.held; held = t.held; listed = t.listed }

  stands_on : (i a k : ℕ) (c : Change) → StandsAt s.views i a k c → StandsAt views i a k c
  stands_on i a k c t = record { view = t.view; lane = t.lane; sits = at_longer s.views (note ∷ []) i t.view t.sits; held = t.held; listed = t.listed }

  -- the note knows what was known
  note_knows : Knows o s.words r.fate r.gone r.book note
  note_knows = let kn = r.each_view id v at in record {
    shaped = kn.shaped;
    same_members = kn.same_members;
    saw = kn.saw;
    also_saw = book_none r.book;
    fresh = kn.fresh;
    holds = λ a h p. absurd (some-ne-none h (sym p));
    spares = λ n lane e le low. let clash : None ≡ Some n = e in cc;
    records = keeps_none o.shape s.words r.fate r.gone r.book note refl kn.records.reached (λ a h c p l. some-ne-none h (sym p));
  }

  pub makes_note : Kept face o record { words = s.words; homes = s.homes; views = views }
  makes_note = record {
    book = r.book;
    tree = r.tree;
    fate = r.fate;
    gone = r.gone;
    records = r.records;
    states = r.states;
    each_view = λ j u p. ⊎_elim (λ old. r.each_view j u old) (λ new. subst (Knows o s.words r.fate r.gone r.book) new note_knows) (came j u p);
    apart = record {
      one_holder = λ i j a b x y h g px py hx hy same. r.apart.one_holder i j a b x y h g (holder i a x h px hx) (holder j b y g py hy) hx hy same;
      one_lead = λ i j n m x y px py ex ey. r.apart.one_lead i j n m x y (lead i n x px ex) (lead j m y py ey) ex ey;
      handed_out = λ i j a n x y h px py ex hy. r.apart.handed_out i j a n x y h (lead i n x px ex) (holder j a y h py hy) ex hy;
    };
    changes = record {
      counted = record {
        all = λ c m. let t = r.changes.counted.all c m in record { seat = t.seat; index = t.index; place = t.place; at = stands_on t.seat t.index t.place c t.at };
        once = λ i j a b k l c p q. r.changes.counted.once i j a b k l c (stood i a k c p) (stood j b l c q);
        none_else = λ i a k c p. r.changes.counted.none_else i a k c (stood i a k c p);
      };
      tally = r.changes.tally;
      tallied = λ off. let t = r.changes.tallied off in record {
        long = t.long;
        each = λ i a x h p ph. t.each i a x h (holder i a x h p ph) ph;
        few = t.few;
        free = t.free;
        enough = t.enough;
      };
    };
  }

module _ (face : ℕ → ℕ → List (ℕ × ℕ) → List ℕ) (o : Opening) where
  -- any view may make a note
  pub notes_seat : (id : ℕ) (v : SeatView) → Splits (Kept face o) id v v (noted v)
  notes_seat id v s r at = subst (λ (z : List SeatView). Kept face o record { words = s.words; homes = s.homes; views = z ++ noted v ∷ [] }) (sym (set_again s.views id v at)) (makes_note face o s r id v at false)

  -- and any view may take one in, which holds no lane
  pub learns_seat : (id other : ℕ) (v w : SeatView) (told : Option Learnt) → w.held ≡ [] → Joins (Kept face o) id v other w (record v { also = w.seen; told = told }) spent
  learns_seat id other v w told none = let same : v.held ++ w.held ≡ v.held = ap (λ (z : List Held). v.held ++ z) none ∙ append-nil v.held in
      subst (λ (z : List Held). Joins (Kept face o) id v other w (record v { also = w.seen; told = told; held = z }) spent) same (joins_seat face o id other v w told v.lent)

-- who holds no lane and hands none out is not at work
pub at_rest : (v : SeatView) → v.held ≡ [] → v.spare ≡ None → IsAtWork v → ⊥
at_rest v none follows work = ⊎_elim
    (λ t. let out : get_elem? [] t.0 ≡ some t.1 = subst (λ (z : List Held). get_elem? z t.0 ≡ some t.1) none t.2 in some-ne-none t.1 (sym out))
    (λ t. let clash : None ≡ Some t.0 = sym follows ∙ t.1 in cc) work

-- a note takes no steps
noted_rests : (v : SeatView) → IsAtWork (noted v) → ⊥
noted_rests v work = ⊎_elim (λ t. some-ne-none t.1 (sym t.2)) (λ t. let clash : None ≡ Some t.0 = t.1 in cc) work

-- and knows of its table what its maker knows
pub noted_remembers : (shape : Shape) (era : ℕ) (past : List PastEra) (v : SeatView) → Remembers shape era past v → Remembers shape era past (noted v)
noted_remembers shape era past v r = record { shaped = r.shaped; present = r.present; learnt = λ _. tt; earlier = r.earlier }

-- who holds no lane holds none in any era
pub none_held : (b : Bool) (u : SeatView) → u.held ≡ [] → (if b then u else spent).held ≡ []
none_held true u none = none
none_held false u none = refl

-- a note counts in an era as one of what its maker counts as
noted_counts : (b : Bool) (v : SeatView) → noted (if b then v else spent) ≡ (if b then noted v else spent)
noted_counts true v = refl
noted_counts false v = refl

module _ (face : ℕ → ℕ → List (ℕ × ℕ) → List ℕ) (shape : Shape) where
  -- the same under the rule of all eras
  pub notes_in_its_era : (id : ℕ) (v : SeatView) → Splits (Ruled face shape) id v v (noted v)
  notes_in_its_era id v s rule at = let again : set s.views id v ≡ s.views = set_again s.views id v at in
      let old : (j : ℕ) (x : SeatView) → get_elem? (set s.views id v) j ≡ some x → get_elem? s.views j ≡ some x = λ j x p. subst (λ (z : List SeatView). get_elem? z j ≡ some x) again p in
      let w : Ruled face shape s = rule in
      let seen : SeatView → SeatView = seen_in w.era in
      let kept = notes_seat face (opening_with shape w.members) id (seen v) (table_in w.era w.base (word_count shape) s) w.kept (at_map seen s.views id v at) in
      let same : set (map seen s.views) id (seen v) ++ noted (seen v) ∷ [] ≡ map seen (set s.views id v ++ noted v ∷ []) =
      ap (λ (z : List SeatView). z ++ noted (seen v) ∷ []) (sym (map-set seen s.views id v))
      ∙ ap (λ (z : SeatView). map seen (set s.views id v) ++ z ∷ []) (noted_counts (eqb v.era w.era) v)
      ∙ sym (map-append seen (set s.views id v) (noted v ∷ [])) in
      record {
        era = w.era;
        members = w.members;
        base = w.base;
        kept = subst (λ (z : List SeatView). Kept face (opening_with shape w.members) record { words = table_part w.base (word_count shape) s.words; homes = s.homes; views = z }) same kept;
        past = w.past;
        counted = w.counted;
        remembers = λ j x p live. ⊎_elim (λ q. w.remembers j x (old j x q) live)
            (λ q. subst (Remembers shape w.era w.past) q (noted_remembers shape w.era w.past v (w.remembers id v at (ap (λ (z : SeatView). z.live) q ∙ live)))) (at_snoc (set s.views id v) (noted v) x j p);
        present = λ j x p work. ⊎_elim (λ q. w.present j x (old j x q) work) (λ q. absurd (noted_rests v (subst IsAtWork (sym q) work))) (at_snoc (set s.views id v) (noted v) x j p);
        placed = λ j x p work. ⊎_elim (λ q. w.placed j x (old j x q) work) (λ q. absurd (noted_rests v (subst IsAtWork (sym q) work))) (at_snoc (set s.views id v) (noted v) x j p);
        beside = λ j m x p leads. ⊎_elim (λ q. w.beside j m x (old j x q) leads) (λ q. let clash : None ≡ Some m = ap (λ (z : SeatView). z.spare) q ∙ leads in cc) (at_snoc (set s.views id v) (noted v) x j p);
        none_later = λ j x p. ⊎_elim (λ q. w.none_later j x (old j x q)) (λ q. subst (λ (z : SeatView). z.era ≤ w.era) q (w.none_later id v at)) (at_snoc (set s.views id v) (noted v) x j p);
        lent = subst (λ (z : List SeatView). AreLent (z ++ noted v ∷ [])) (sym again) (lent_more s.views w.lent (noted v) refl);
        lends = λ j x p. ⊎_elim (λ q. w.lends j x (old j x q)) (λ q. lent_none x (ap (λ (z : SeatView). z.lent) (sym q)) w.base) (at_snoc (set s.views id v) (noted v) x j p);
        reads = λ j x p does. ⊎_elim (λ q. w.reads j x (old j x q) does) (λ q. let clash : false ≡ true = ap (λ (z : SeatView). z.reads) q ∙ does in cc) (at_snoc (set s.views id v) (noted v) x j p);
      }

  -- what a note tells is so
  module _ (s : St) (w : Ruled face shape s) (id other : ℕ) (v u : SeatView) (at : get_elem? s.views id ≡ some v) (there : get_elem? s.views other ≡ some u) (live : v.live ≡ true) (live' : u.live ≡ true) (present : v.era ≡ w.era) where
    same_members : u.era ≡ v.era → u.members ≡ v.members
    same_members e = (w.kept.each_view other u (stands_now face shape s other u there w (e ∙ present))).same_members live'
        ∙ sym ((w.kept.each_view id v (stands_now face shape s id v at w present)).same_members live)

    is_learnt : IsLearnt v.shape v.era v.past v.members (learnt_of u)
    is_learnt = let r = w.remembers id v at live in let t = w.remembers other u there live' in let same : w.past ≡ v.past = sym (r.present present) in record {
      one_shape = t.shaped ∙ sym r.shaped;
      not_later = let e = w.none_later other u there in let p = present in omega arith;
      agrees = λ e. (t.present (e ∙ present) ∙ same, same_members e);
      earlier = λ less. subst (IsEarlier u.past u.members u.seen) same (t.earlier (let p = present in omega arith));
    }

    pub learning_remembers : Remembers shape w.era w.past (learning v u)
    learning_remembers = let r = w.remembers id v at live in record {
      shaped = r.shaped;
      present = r.present;
      learnt = λ _. is_learnt;
      earlier = λ less. let p = present in absurd (omega arith);
    }

  -- who is at work takes a note in
  pub learns_in_its_era : (id other : ℕ) (v u : SeatView) → IsAtWork v → v.live ≡ true → u.live ≡ true → u.held ≡ [] → u.spare ≡ None → Joins (Ruled face shape) id v other u (learning v u) spent
  learns_in_its_era id other v u work live live' none follows s rule at ne at' = let w : Ruled face shape s = rule in
      let present : v.era ≡ w.era = w.present id v at work in
      let seen : SeatView → SeatView = seen_in w.era in
      let next : SeatView = learning v u in
      let there : get_elem? s.views other ≡ some u = ⊎_elim (λ t. absurd (ne t.0)) (λ t. t.1) (at_set s.views id other next u at') in
      let views' : List SeatView = set s.views id next in
      let now = views_now face shape s id v at w present next refl in
      let there' : get_elem? (set (map seen s.views) id next) other ≡ some (seen u) = subst (λ (z : List SeatView). get_elem? z other ≡ some (seen u)) (sym now) (at_map seen views' other u at') in
      let joins = subst (λ (z : ℕ). Joins (Kept face (opening_with shape w.members)) id v other (seen u) record v { also = (seen_in z u).seen; told = next.told } spent) (sym present)
      (learns_seat face (opening_with shape w.members) id other v (seen u) next.told (none_held (eqb u.era w.era) u none)) in
      let kept = joins (table_in w.era w.base (word_count shape) s) w.kept (stands_now face shape s id v at w present) ne there' in
      let same : set (set (map seen s.views) id next) other spent ≡ map seen (set views' other spent) =
      ap (λ (z : List SeatView). set z other spent) now ∙ ap (set (map seen views') other) (sym (seen_spent w.era)) ∙ sym (map-set seen views' other spent) in
      record {
        era = w.era;
        members = w.members;
        base = w.base;
        kept = subst (λ (z : List SeatView). Kept face (opening_with shape w.members) record { words = table_part w.base (word_count shape) s.words; homes = s.homes; views = z }) same kept;
        past = w.past;
        counted = w.counted;
        remembers = λ j x p go. ⊎_elim
            (λ t. let clash : false ≡ true = ap (λ (z : SeatView). z.live) t.1 ∙ go in cc)
            (λ t. ⊎_elim (λ q. subst (Remembers shape w.era w.past) q.1 (learning_remembers s w id other v u at there live live' present)) (λ q. w.remembers j x q.1 go) (at_set s.views id j next x t.1))
            (at_set views' other j spent x p);
        present = λ j x p go. ⊎_elim (λ t. absurd (spent_rests (subst IsAtWork (sym t.1) go))) (λ t. present_on face shape s id v at w present next refl j x t.1 go) (at_set views' other j spent x p);
        placed = λ j x p go. ⊎_elim (λ t. absurd (spent_rests (subst IsAtWork (sym t.1) go))) (λ t. placed_on face shape s id v at w present next refl refl j x t.1 go work) (at_set views' other j spent x p);
        beside = λ j m x p leads. ⊎_elim (λ t. let clash : None ≡ Some m = ap (λ (z : SeatView). z.spare) t.1 ∙ leads in cc)
            (λ t. beside_on face shape s id v at w present next refl refl (λ k e. (k, e)) j m x t.1 leads) (at_set views' other j spent x p);
        none_later = λ j x p. ⊎_elim (λ t. subst (λ (z : SeatView). z.era ≤ w.era) t.1 (omega arith)) (λ t. none_later_on face shape s id v at w present next refl j x t.1) (at_set views' other j spent x p);
        lent = lent_joined s.views w.lent id other v u next at ne there (λ b. let none_lent : times_in b u.lent ≡ 0 = rests_none face shape s other u there w (at_rest u none follows) b in omega arith);
        lends = λ j x p. ⊎_elim (λ t. lent_none x (ap (λ (z : SeatView). z.lent) (sym t.1)) w.base) (λ t. lends_on face shape s id v at w present next refl refl (λ m e. (m, e)) (λ go. go) j x t.1) (at_set views' other j spent x p);
        reads = λ j x p does. ⊎_elim (λ t. let clash : false ≡ true = ap (λ (z : SeatView). z.reads) t.1 ∙ does in cc)
            (λ t. reading_on face shape s id v at w present next refl s.words (w.placed id v at work) (λ _ _ r. r) j x t.1 does) (at_set views' other j spent x p);
      }
