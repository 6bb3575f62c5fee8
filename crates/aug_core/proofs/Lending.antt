-- Who is at work lends a reader and takes one back, and a reader loads words of the records that it has seen.
use Rattle.std.proofs.Common.{true, false, ◌≡◌, ◌≢◌, inl, ℕ, suc, ◌+◌, ◌-◌, ◌≤◌, Bool, if◌then◌else◌, eqb, List, [], ◌∷◌, ◌++◌, map, get_or, set, refl, sym, ap, ◌∙◌, subst, ⊎_elim, arith, Some, None}
use Rattle.std.proofs.lemmas.Bool.{cases_eq}
use Rattle.std.proofs.lemmas.List.{set-get_or, map-set, map-append}
use mathlib.Core.Option.{none, some, some-injective, some-ne-none}
use lib.ListN.{get_elem?}
use Rattle.atomic_table.specs.Table.{step, keeps, Allows, Splits, Joins}
use Rattle.atomic_table.proofs.Lists.{at_set, at_map, at_snoc, set_again}
use Rattle.aug_core.specs.Places.{Shape, record_start, word_count}
use Rattle.aug_core.specs.Addresses.{IsInner}
use Rattle.aug_core.specs.Book.{Book}
use Rattle.aug_core.specs.Opening.{Opening}
use Rattle.aug_core.specs.Rule.{Knows, Kept}
use Rattle.aug_core.specs.Records.{Fate}
use Rattle.aug_core.specs.Kinds.{load_record_word}
use Rattle.aug_core.specs.Effects.{Sat, in_part, stepping, ReadsRecord, read_record, spent}
use Rattle.aug_core.specs.Readers.{times_in, reads_at, FindsRecords, ReadsOn, lending, reader_of, taking_reader}
use Rattle.aug_core.specs.Eras.{IsAtWork, LendsIn, seen_in, table_in, table_part, IsBeside, opening_with, Remembers, Ruled}
use Rattle.aug_core.specs.inside.EraSteps.{Remains}
use Rattle.aug_core.specs.declared.view.Held.{Held}
use Rattle.aug_core.specs.declared.view.PastEra.{PastEra}
use Rattle.aug_core.specs.declared.view.SeatView.{SeatView}
use Rattle.aug_core.proofs.Keeping.{reserves_same, keeps_as}
use Rattle.aug_core.proofs.Moves.{St, rests, moves_on, stands}
use Rattle.aug_core.proofs.Views.{now_there}
use Rattle.aug_core.proofs.Joins.{frees_seat}
use Rattle.aug_core.proofs.ReaderCounts.{times_without, lists_without, lent_one, lent_same, lent_joined}
use Rattle.aug_core.proofs.Eras.{seen_now, seen_past, seen_spent, spent_rests, lent_none, rests_none, stands_now, finds_now, views_now, present_on, placed_on, beside_on, reading_on, remembers_all, none_later_on}
use Rattle.aug_core.proofs.Notes.{at_rest, makes_note, noted_remembers, none_held}

module _ (face : ℕ → ℕ → List (ℕ × ℕ) → List ℕ) (o : Opening) where
  -- for whom a view answers is no matter of an era's own rule
  lends_as : (s : St) (r : Kept face o s) (id : ℕ) (v : SeatView) → get_elem? s.views id ≡ some v → (lent : List ℕ) → Kept face o record { words = s.words; homes = s.homes; views = set s.views id record v { lent = lent } }
  lends_as s r id v at lent = let kn = r.each_view id v at in
      moves_on face o s r id v s.words r.book r.fate r.gone (rests face o s r id v at) at record v { lent = lent } record { back = λ a h p. (h, p, refl, refl); forth = λ a h p. (h, p, refl, refl); spare = refl }
      record { shaped = kn.shaped; same_members = kn.same_members; saw = kn.saw; also_saw = kn.also_saw; fresh = kn.fresh; holds = kn.holds; spares = kn.spares; records = keeps_as o.shape s.words r.fate r.gone r.book v record v { lent = lent } (reserves_same v record v { lent = lent } refl refl refl) kn.records } (λ key low. refl)

  lends_seat : (id : ℕ) (v : SeatView) → Splits (Kept face o) id v (lending v) (reader_of v)
  lends_seat id v s r at =
      makes_note face o record { words = s.words; homes = s.homes; views = set s.views id (lending v) } (lends_as s r id v at (v.base ∷ v.lent)) id (lending v) (now_there s.views id v (lending v) at) true

-- a view that answers for others knows of its table what it knew
lends_remains : (v : SeatView) (lent : List ℕ) → Remains v record v { lent = lent }
lends_remains v lent = record { live = refl; era = refl; past = refl; shape = refl; members = refl; told = refl; base = refl; whole = refl; led = λ m e. (m, e) }

-- a reader counts as one where it reads
counts_one : (b : ℕ) (u : SeatView) → u.reads ≡ true → reads_at b u ≡ (if eqb u.base b then 1 else 0)
counts_one b u does = ap (λ (z : Bool). if z then (if eqb u.base b then 1 else 0) else 0) does

module _ (face : ℕ → ℕ → List (ℕ × ℕ) → List ℕ) (shape : Shape) where
  -- who lends one more answers for it
  lends_more : (s : St) (w : Ruled face shape s) (id : ℕ) (v : SeatView) → get_elem? s.views id ≡ some v → IsAtWork v → LendsIn w.base (lending v)
  lends_more s w id v at work b has = ⊎_elim
      (λ (first : has.0 ≡ 0). let this : some v.base ≡ some b = subst (λ (z : ℕ). get_elem? (v.base ∷ v.lent) z ≡ some b) first has.1 in (work, inl (sym (some-injective v.base b this) ∙ w.placed id v at work)))
      (λ ne. let e : has.0 ≡ suc (has.0 - 1) = omega (arith, ne) in w.lends id v at b (has.0 - 1, subst (λ (z : ℕ). get_elem? (v.base ∷ v.lent) z ≡ some b) e has.1)) (cases_eq has.0 0)

  -- who is at work lends a reader
  pub lends_in_its_era : (id : ℕ) (v : SeatView) → IsAtWork v → Splits (Ruled face shape) id v (lending v) (reader_of v)
  lends_in_its_era id v work s rule at = let w : Ruled face shape s = rule in
      let present : v.era ≡ w.era = w.present id v at work in
      let seen : SeatView → SeatView = seen_in w.era in let left : SeatView = lending v in let reader : SeatView = reader_of v in
      let stays : Remains v left = lends_remains v (v.base ∷ v.lent) in
      let kept = lends_seat face (opening_with shape w.members) id v (table_in w.era w.base (word_count shape) s) w.kept (stands_now face shape s id v at w present) in
      let same : set (map seen s.views) id left ++ reader ∷ [] ≡ map seen (set s.views id left ++ reader ∷ []) =
      ap (λ (z : List SeatView). z ++ reader ∷ []) (views_now face shape s id v at w present left refl)
      ∙ ap (λ (z : SeatView). map seen (set s.views id left) ++ z ∷ []) (sym (seen_now w.era reader present))
      ∙ sym (map-append seen (set s.views id left) (reader ∷ [])) in
      record {
        era = w.era;
        members = w.members;
        base = w.base;
        kept = subst (λ (z : List SeatView). Kept face (opening_with shape w.members) record { words = table_part w.base (word_count shape) s.words; homes = s.homes; views = z }) same kept;
        past = w.past;
        counted = w.counted;
        remembers = λ j x p live. ⊎_elim (λ q. remembers_all face shape s id v at w present left refl stays j x q live)
            (λ q. let r = noted_remembers shape w.era w.past v (w.remembers id v at (ap (λ (z : SeatView). z.live) q ∙ live)) in
            subst (Remembers shape w.era w.past) q record { shaped = r.shaped; present = r.present; learnt = r.learnt; earlier = r.earlier }) (at_snoc (set s.views id left) reader x j p);
        present = λ j x p go. ⊎_elim (λ q. present_on face shape s id v at w present left refl j x q go) (λ q. subst (λ (z : SeatView). z.era ≡ w.era) q present) (at_snoc (set s.views id left) reader x j p);
        placed = λ j x p go. ⊎_elim (λ q. placed_on face shape s id v at w present left refl refl j x q go work) (λ q. absurd (at_rest reader refl refl (subst IsAtWork (sym q) go))) (at_snoc (set s.views id left) reader x j p);
        beside = λ j m x p leads. ⊎_elim (λ q. beside_on face shape s id v at w present left refl refl (λ k e. (k, e)) j m x q leads) (λ q. let clash : None ≡ Some m = ap (λ (z : SeatView). z.spare) q ∙ leads in cc)
            (at_snoc (set s.views id left) reader x j p);
        none_later = λ j x p. ⊎_elim (λ q. none_later_on face shape s id v at w present left refl j x q) (λ q. subst (λ (z : SeatView). z.era ≤ w.era) q (w.none_later id v at)) (at_snoc (set s.views id left) reader x j p);
        lent = lent_one s.views w.lent id v at;
        lends = λ j x p. ⊎_elim
            (λ q. ⊎_elim (λ t. subst (LendsIn w.base) t.1 (lends_more s w id v at work)) (λ t. w.lends j x t.1) (at_set s.views id j left x q))
            (λ q. lent_none x (ap (λ (z : SeatView). z.lent) (sym q)) w.base) (at_snoc (set s.views id left) reader x j p);
        reads = λ j x p does. ⊎_elim (λ q. reading_on face shape s id v at w present left refl s.words (w.placed id v at work) (λ _ _ r. r) j x q does)
            (λ q. subst (ReadsOn shape w.era w.base s.words) q record { now = λ _. w.placed id v at work; before = λ less. absurd (omega arith) }) (at_snoc (set s.views id left) reader x j p);
      }

  -- and takes one back, be it of this era or of an earlier one
  pub takes_reader : (id other : ℕ) (v u : SeatView) → IsAtWork v → u.reads ≡ true → u.held ≡ [] → u.spare ≡ None → Joins (Ruled face shape) id v other u (taking_reader v u) spent
  takes_reader id other v u work does no_lane follows s rule at ne at' = let w : Ruled face shape s = rule in
      let present : v.era ≡ w.era = w.present id v at work in
      let seen : SeatView → SeatView = seen_in w.era in let lent : List ℕ = (taking_reader v u).lent in
      let next : SeatView = taking_reader v u in
      let there : get_elem? s.views other ≡ some u = ⊎_elim (λ t. absurd (ne t.0)) (λ t. t.1) (at_set s.views id other next u at') in
      let views' : List SeatView = set s.views id next in
      let now = views_now face shape s id v at w present next refl in
      let there' : get_elem? (set (map seen s.views) id next) other ≡ some (seen u) = subst (λ (z : List SeatView). get_elem? z other ≡ some (seen u)) (sym now) (at_map seen views' other u at') in
      let kept = frees_seat face (opening_with shape w.members) id other v (seen u) lent (none_held (eqb u.era w.era) u no_lane) (table_in w.era w.base (word_count shape) s) w.kept (stands_now face shape s id v at w present) ne there' in
      let same : set (set (map seen s.views) id next) other spent ≡ map seen (set views' other spent) =
      ap (λ (z : List SeatView). set z other spent) now ∙ ap (set (map seen views') other) (sym (seen_spent w.era)) ∙ sym (map-set seen views' other spent) in
      record {
        era = w.era;
        members = w.members;
        base = w.base;
        kept = subst (λ (z : List SeatView). Kept face (opening_with shape w.members) record { words = table_part w.base (word_count shape) s.words; homes = s.homes; views = z }) same kept;
        past = w.past;
        counted = w.counted;
        remembers = λ j x p go. ⊎_elim (λ t. let clash : false ≡ true = ap (λ (z : SeatView). z.live) t.1 ∙ go in cc)
            (λ t. remembers_all face shape s id v at w present next refl (lends_remains v lent) j x t.1 go) (at_set views' other j spent x p);
        present = λ j x p go. ⊎_elim (λ t. absurd (spent_rests (subst IsAtWork (sym t.1) go))) (λ t. present_on face shape s id v at w present next refl j x t.1 go) (at_set views' other j spent x p);
        placed = λ j x p go. ⊎_elim (λ t. absurd (spent_rests (subst IsAtWork (sym t.1) go))) (λ t. placed_on face shape s id v at w present next refl refl j x t.1 go work) (at_set views' other j spent x p);
        beside = λ j m x p leads. ⊎_elim (λ t. let clash : None ≡ Some m = ap (λ (z : SeatView). z.spare) t.1 ∙ leads in cc)
            (λ t. beside_on face shape s id v at w present next refl refl (λ k e. (k, e)) j m x t.1 leads) (at_set views' other j spent x p);
        none_later = λ j x p. ⊎_elim (λ t. subst (λ (z : SeatView). z.era ≤ w.era) t.1 (omega arith)) (λ t. none_later_on face shape s id v at w present next refl j x t.1) (at_set views' other j spent x p);
        lent = lent_joined s.views w.lent id other v u next at ne there (λ b. let none_lent : times_in b u.lent ≡ 0 = rests_none face shape s other u there w (at_rest u no_lane follows) b in
            let fewer = times_without b u.base v.lent in let one = counts_one b u does in omega arith);
        lends = λ j x p. ⊎_elim (λ t. lent_none x (ap (λ (z : SeatView). z.lent) (sym t.1)) w.base)
            (λ t. ⊎_elim (λ q. subst (LendsIn w.base) q.1 (λ b has. w.lends id v at b (lists_without b u.base v.lent has))) (λ q. w.lends j x q.1) (at_set s.views id j next x t.1))
            (at_set views' other j spent x p);
        reads = λ j x p go. ⊎_elim (λ t. let clash : false ≡ true = ap (λ (z : SeatView). z.reads) t.1 ∙ go in cc)
            (λ t. reading_on face shape s id v at w present next refl s.words (w.placed id v at work) (λ _ _ r. r) j x t.1 go) (at_set views' other j spent x p);
      }

  -- ---- a reader loads

  -- a view with more steps knows the same
  stepped_knows : (o : Opening) (words : List ℕ) (fate : ℕ → Fate) (gone : ℕ → ℕ) (book : Book) (v : SeatView) (place found : ℕ) → Knows o words fate gone book v → Knows o words fate gone book (stepping v (load_record_word place found))
  stepped_knows o words fate gone book v place found k = let w : SeatView = stepping v (load_record_word place found) in record { shaped = k.shaped; same_members = k.same_members; saw = k.saw; also_saw = k.also_saw; fresh = k.fresh; holds = k.holds; spares = k.spares; records = keeps_as o.shape words fate gone book v w (reserves_same v w refl refl refl) k.records }

  stepped_remembers : (era : ℕ) (past : List PastEra) (v : SeatView) (place found : ℕ) → Remembers shape era past v → Remembers shape era past (stepping v (load_record_word place found))
  stepped_remembers era past v place found r = record { shaped = r.shaped; present = r.present; learnt = r.learnt; earlier = r.earlier }

  -- what it loads is what the record's entry says
  says_found : (words : List ℕ) (v : SeatView) (place i : ℕ) → v.shape ≡ shape → v.held ≡ [] → FindsRecords shape words v → i ≡ v.base + place → ReadsRecord v place (get_or words i 0) (stepping v (load_record_word place (get_or words i 0)))
  says_found words v place i shaped no_lane finds is = record {
    stepped = refl;
    known = λ number field small at q k e guards numbered.
        let there : i ≡ v.base + (record_start shape e.number + field) = is ∙ ap (λ (z : ℕ). v.base + z) (at ∙ (λ j. record_start (shaped j) (sym numbered j) + field)) in
        ap (λ (z : ℕ). get_or words z 0) there ∙ (finds q k field e (subst (λ (z : Shape). IsInner z q) shaped guards.inner) guards.at small).1;
    own = λ number field small at x owns. absurd (some-ne-none owns.lane (sym (subst (λ (z : List Held). get_elem? z owns.index ≡ some owns.lane) no_lane owns.at)));
  }

  module _ (s : St) (id : ℕ) (v : SeatView) (at : get_elem? s.views id ≡ some v) (place found : ℕ) where
    abbrev u : SeatView
    u = stepping v (load_record_word place found)

    abbrev after : List SeatView
    after = set s.views id u

    -- where it is of another era, the era's own rule sees nothing of it
    kept_on : (w : Ruled face shape s) → Kept face (opening_with shape w.members) (table_in w.era w.base (word_count shape) record { words = s.words; homes = s.homes; views = after })
    kept_on w = let o : Opening = opening_with shape w.members in let t : St = table_in w.era w.base (word_count shape) s in ⊎_elim
        (λ (present : v.era ≡ w.era). let here = stands_now face shape s id v at w present in
        let kept = stands face o t w.kept id v here u (record { back = λ a h p. (h, p, refl, refl); forth = λ a h p. (h, p, refl, refl); spare = refl }) (stepped_knows o t.words w.kept.fate w.kept.gone w.kept.book v place found (w.kept.each_view id v here)) 0 in
        subst (λ (z : List ℕ × List SeatView). Kept face o record { words = z.0; homes = s.homes; views = z.1 }) (λ j. (set-get_or t.words 0 0 j, views_now face shape s id v at w present u refl j)) kept)
        (λ (ne : v.era ≢ w.era). let seen : SeatView → SeatView = seen_in w.era in
        let here : get_elem? (map seen s.views) id ≡ some spent = at_map seen s.views id v at ∙ ap (λ (z : SeatView). some z) (seen_past w.era v ne) in
        let same : map seen after ≡ map seen s.views = map-set seen s.views id u ∙ ap (set (map seen s.views) id) (seen_past w.era u ne) ∙ set_again (map seen s.views) id spent here in
        subst (λ (z : List SeatView). Kept face o record { words = t.words; homes = s.homes; views = z }) (sym same) w.kept) (cases_eq v.era w.era)

    steps_on : (w : Ruled face shape s) → Ruled face shape record { words = s.words; homes = s.homes; views = after }
    steps_on w = record {
      era = w.era;
      members = w.members;
      base = w.base;
      kept = kept_on w;
      past = w.past;
      counted = w.counted;
      remembers = λ j x p live. ⊎_elim (λ t. subst (Remembers shape w.era w.past) t.1 (stepped_remembers w.era w.past v place found (w.remembers id v at (ap (λ (z : SeatView). z.live) t.1 ∙ live)))) (λ t. w.remembers j x t.1 live) (at_set s.views id j u x p);
      present = λ j x p go. ⊎_elim (λ t. subst (λ (z : SeatView). z.era ≡ w.era) t.1 (w.present id v at (subst IsAtWork (sym t.1) go))) (λ t. w.present j x t.1 go) (at_set s.views id j u x p);
      placed = λ j x p go. ⊎_elim (λ t. subst (λ (z : SeatView). z.base ≡ w.base) t.1 (w.placed id v at (subst IsAtWork (sym t.1) go))) (λ t. w.placed j x t.1 go) (at_set s.views id j u x p);
      beside = λ j m x p leads. ⊎_elim (λ t. subst (λ (z : SeatView). IsBeside w.base (word_count shape) z.whole s.words) t.1 (w.beside id m v at (ap (λ (z : SeatView). z.spare) t.1 ∙ leads))) (λ t. w.beside j m x t.1 leads) (at_set s.views id j u x p);
      none_later = λ j x p. ⊎_elim (λ t. subst (λ (z : SeatView). z.era ≤ w.era) t.1 (w.none_later id v at)) (λ t. w.none_later j x t.1) (at_set s.views id j u x p);
      lent = lent_same s.views w.lent id v u at refl refl refl;
      lends = λ j x p. ⊎_elim (λ t. subst (LendsIn w.base) t.1 (w.lends id v at)) (λ t. w.lends j x t.1) (at_set s.views id j u x p);
      reads = λ j x p go. ⊎_elim
          (λ t. let r = w.reads id v at (ap (λ (z : SeatView). z.reads) t.1 ∙ go) in subst (ReadsOn shape w.era w.base s.words) t.1 record { now = r.now; before = r.before }) (λ t. w.reads j x t.1 go) (at_set s.views id j u x p);
    }

  -- a reader loads a word of a record that it has seen, in whatever era the table is
  pub reads_record_word : (n id place i : ℕ) (me : Sat) → me.0.shape.reservations ≡ 0 → me.0.reads ≡ true → me.0.live ≡ true → me.0.held ≡ [] → me.1 ≡ [] → i ≡ me.0.base + place → Allows (Ruled face shape) n id me i (λ x. x) (in_part read_record (step n i 0 0 none) me)
  reads_record_word n id place i me off does live no_lane empty is s rule _ at _ =
      let v : SeatView = me.0 in let found : ℕ = get_or s.words i 0 in let next : SeatView = stepping v (load_record_word place found) in
      let now : (v.shape ≡ shape) × FindsRecords shape s.words v × Ruled face shape record { words = s.words; homes = s.homes; views = set s.views id next } = let w : Ruled face shape s = rule in
      let r = w.reads id v at does in let le = w.none_later id v at in (
        (w.remembers id v at live).shaped,
        ⊎_elim (λ (e : v.era ≡ w.era). finds_now face shape s id v at w e (ap (λ (z : Shape). z.reservations) (sym (w.remembers id v at live).shaped) ∙ off) (r.now e)) (λ ne. (r.before (omega (arith, ne))).1) (cases_eq v.era w.era),
        steps_on s id v at place found w,
      ) in (
        next,
        keeps,
        tt,
        subst (λ (z : List ℕ). Ruled face shape record { words = z; homes = s.homes; views = set s.views id next }) (sym (set-get_or s.words i 0)) now.2,
        λ p e. let same : place ≡ p = omega (arith, is, e) in (empty, subst (λ (z : ℕ). ReadsRecord v z found next) same (says_found s.words v place i now.0 no_lane now.1 is)),
      )
