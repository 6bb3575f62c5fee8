-- The rule of a table over all its eras: what a step of one era keeps under that era's rule it keeps under this one.
use Rattle.std.proofs.Common.{true, false, ◌≡◌, ◌≢◌, ◌⊎◌, inl, inr, ℕ, suc, ◌+◌, ◌-◌, ◌<◌, ◌≤◌, Bool, if◌then◌else◌, eqb, eq-eqb, ne_eqb, List, [], ◌∷◌, ◌++◌, map, take, drop, length, get_or, set, length-set, get_or-set_other, refl, sym, ap, ◌∙◌, subst, ⊎_elim, arith, Some, None}
use Rattle.std.specs.Prelude.{Option, IfSome, option_map}
use Rattle.std.proofs.lemmas.Bool.{cases_eq}
use Rattle.std.proofs.lemmas.Grind.{same_number_lists}
use Rattle.std.proofs.lemmas.List.{map-set, map-append, length-drop, length-take-le, get_or-take, get_or-drop, drop-set-add, drop-set-lt, take-set-le}
use Rattle.std.proofs.Math.Seq.{take-set-lt}
use mathlib.Core.Option.{some, some-ne-none}
use lib.ListN.{get_elem?}
use Rattle.atomic_table.specs.Table.{homes_after, carried_after, Allows, Splits, Joins}
use Rattle.atomic_table.proofs.Lists.{at_set, at_map, at_snoc, at_longer}
use Rattle.aug_core.specs.Places.{Shape, record_start, word_count}
use Rattle.aug_core.specs.Opening.{Opening}
use Rattle.aug_core.specs.Rule.{Kept}
use Rattle.aug_core.specs.Records.{Lists}
use Rattle.aug_core.specs.Effects.{Sat, spent, handing_out, handed_out, taking_back}
use Rattle.aug_core.specs.Readers.{times_in, FindsRecords, ReadsOn}
use Rattle.aug_core.specs.Pasts.{IsLearnt}
use Rattle.aug_core.specs.Eras.{IsAtWork, LendsIn, seen_in, table_in, table_part, IsBeside, opening_with, Remembers, Ruled}
use Rattle.aug_core.specs.inside.EraSteps.{Remains, WithEra}
use Rattle.aug_core.specs.declared.view.Held.{Held}
use Rattle.aug_core.specs.declared.view.Learnt.{Learnt}
use Rattle.aug_core.specs.declared.view.PastEra.{PastEra}
use Rattle.aug_core.specs.declared.view.SeatView.{SeatView}
use Rattle.aug_core.specs.Book.{At}
use Rattle.aug_core.proofs.PrefixLemmas.{entry_stays}
use Rattle.aug_core.proofs.Moves.{St}
use Rattle.aug_core.proofs.Splits.{splits_seat}
use Rattle.aug_core.proofs.Joins.{append_at, joins_seat}
use Rattle.aug_core.proofs.ReaderCounts.{total_both, times_some, lent_same, lent_more, lent_joined}

-- a word of a part of a table
pub part_get : (base size i : ℕ) (words : List ℕ) → i < size → get_or (table_part base size words) i 0 ≡ get_or words (base + i) 0
part_get base size i words small = get_or-take size (drop base words) i 0 small ∙ get_or-drop base words i 0

pub part_set : (base size i x : ℕ) (words : List ℕ) → i < size → table_part base size (set words (base + i) x) ≡ set (table_part base size words) i x
part_set base size i x words small = ap (take size) (drop-set-add base words i x) ∙ take-set-lt size (drop base words) i x small

-- a part has all of its words where the table reaches so far
pub part_long : (base size : ℕ) (words : List ℕ) → base + size ≤ length words → length (table_part base size words) ≡ size
part_long base size words inside = let long = length-drop base words in length-take-le size (drop base words) (omega arith)

-- and one beside it
pub part_apart : (base size i x : ℕ) (words : List ℕ) → (i < base) ⊎ (base + size ≤ i) → table_part base size (set words i x) ≡ table_part base size words
part_apart base size i x words apart = ⊎_elim
    (λ low. ap (take size) (drop-set-lt base words i x low))
    (λ high. let e : base + (i - base) ≡ i = omega arith in subst (λ (z : ℕ). table_part base size (set words z x) ≡ table_part base size words) e
    (ap (take size) (drop-set-add base words (i - base) x) ∙ take-set-le size (drop base words) (i - base) x (omega arith))) apart

-- a part is known that lies aside of the one beside which all is known
pub beside_same : (base size other count : ℕ) (old new : List ℕ) → (other + count ≤ base) ⊎ (base + size ≤ other) → other + count ≤ length old → IsBeside base size old new → table_part other count new ≡ table_part other count old
beside_same base size other count old new apart inside same =
    let long = same.long in let l = part_long other count new (omega arith) in let k = part_long other count old inside in
    same_number_lists (table_part other count new) (table_part other count old) (l ∙ sym k) (λ i low. part_get other count i new (omega arith)
    ∙ sym (same.same (other + i) (⊎_elim (λ below. inl (omega (arith, below, low, l))) (λ above. inr (omega (arith, above))) apart)) ∙ sym (part_get other count i old (omega arith)))

-- what is known beside a part stays where a word of the part changes
pub beside_set : (base size i x : ℕ) (known words : List ℕ) → i < size → IsBeside base size known words → IsBeside base size known (set words (base + i) x)
beside_set base size i x known words small b = record {
  long = b.long ∙ sym (length-set words (base + i) x);
  same = λ k apart. b.same k apart ∙ sym (get_or-set_other words (base + i) k x 0 (⊎_elim (λ low e. omega (arith, low)) (λ high e. omega (arith, high)) apart));
}

either_one : {A : Type 0} (b : Bool) (x : A) → (if b then x else x) ≡ x
either_one true x = refl
either_one false x = refl

-- a view of an era counts as it is in that era, and as one that was joined in any other
pub seen_now : (era : ℕ) (v : SeatView) → v.era ≡ era → seen_in era v ≡ v
seen_now era v is = ap (λ (b : Bool). if b then v else spent) (eq-eqb v.era era is)

pub seen_past : (era : ℕ) (v : SeatView) → v.era ≢ era → seen_in era v ≡ spent
seen_past era v ne = ap (λ (b : Bool). if b then v else spent) (ne_eqb v.era era ne)

pub seen_spent : (era : ℕ) → seen_in era spent ≡ spent
seen_spent era = either_one (eqb 0 era) spent

-- a word changes that lies in no part where the view reads
pub finds_set : (s : Shape) (words : List ℕ) (v : SeatView) (i x : ℕ) → (i < v.base) ⊎ (v.base + word_count s ≤ i) → FindsRecords s words v → FindsRecords s (set words i x) v
finds_set s words v i x apart finds q j k e inner at small = let t = finds q j k e inner at small in let inside = t.0 in
    (t.0, get_or-set_other words i (v.base + (record_start s e.number + k)) x 0 (⊎_elim (λ low same. omega (arith, low, same)) (λ high same. omega (arith, high, same)) apart) ∙ t.1)

-- as where the word is one of a part aside
pub reads_on : (s : Shape) (era base i x : ℕ) (words : List ℕ) (v : SeatView) → i < word_count s → ReadsOn s era base words v → ReadsOn s era base (set words (base + i) x) v
reads_on s era base i x words v small r = record {
  now = r.now;
  before = λ less. let t = r.before less in (t.0, finds_set s words v (base + i) x (⊎_elim (λ low. inr (let le : v.base + word_count s ≤ base + i = omega (arith, low, small) in le)) (λ high. inl (let lt : base + i < v.base = omega (arith, high, small) in lt)) t.0) t.1);
}

-- who takes steps
pub holds_lane : (v : SeatView) (h : Held) → v.held ≡ h ∷ [] → IsAtWork v
holds_lane v h only = inl (0, h, subst (λ (z : List Held). get_elem? z 0 ≡ some h) (sym only) refl)

pub hands_out : (v : SeatView) (n : ℕ) → v.spare ≡ Some n → IsAtWork v
hands_out v n spare = inr (n, spare)

-- who answers for nobody
pub lent_none : (v : SeatView) → v.lent ≡ [] → (base : ℕ) → LendsIn base v
lent_none v none base b has = let out : get_elem? [] has.0 ≡ some b = subst (λ (z : List ℕ). get_elem? z has.0 ≡ some b) none has.1 in absurd (some-ne-none b (sym out))

-- a view that was joined takes none
pub spent_rests : IsAtWork spent → ⊥
spent_rests work = ⊎_elim (λ t. some-ne-none t.1 (sym t.2)) (λ t. let clash : None ≡ Some t.0 = t.1 in cc) work

-- what a view of the present era remembers it remembers after a step
remembers_on : (shape : Shape) (era : ℕ) (past : List PastEra) (v u : SeatView) → v.era ≡ era → Remains v u → Remembers shape era past v → Remembers shape era past u
remembers_on shape era past v u present stays r = record {
  shaped = stays.shape ∙ r.shaped;
  present = λ _. stays.past ∙ r.present present;
  learnt = λ _. subst (λ (z : Option Learnt × Shape × ℕ × List PastEra × List (ℕ × ℕ)). IfSome z.0 (IsLearnt z.1 z.2 z.3 z.4))
      (λ i. (sym stays.told i, sym stays.shape i, sym stays.era i, sym stays.past i, sym stays.members i)) (r.learnt present);
  earlier = λ less. let e = stays.era in absurd (omega arith);
}

module _ (face : ℕ → ℕ → List (ℕ × ℕ) → List ℕ) (shape : Shape) (s : St) (id : ℕ) (v : SeatView) (at : get_elem? s.views id ≡ some v) where
  module _ (w : Ruled face shape s) where
    -- who is not at work answers for nobody
    pub rests_none : (IsAtWork v → ⊥) → (b : ℕ) → times_in b v.lent ≡ 0
    rests_none rests b = ⊎_elim (λ (none : times_in b v.lent ≡ 0). none) (λ ne. absurd (rests (w.lends id v at b (times_some b v.lent (omega (arith, ne)))).0)) (cases_eq (times_in b v.lent) 0)

  module _ (w : Ruled face shape s) (present : v.era ≡ w.era) where
    -- its view stands as it is in its era
    pub stands_now : get_elem? (map (seen_in w.era) s.views) id ≡ some v
    stands_now = at_map (seen_in w.era) s.views id v at ∙ ap (λ (z : SeatView). some z) (seen_now w.era v present)

    -- in the part at work are the records that it has seen
    pub finds_now : shape.reservations ≡ 0 → v.base ≡ w.base → FindsRecords shape s.words v
    finds_now off here q i k e inner seen small =
        let at' : At w.kept.book q i e = entry_stays (w.kept.each_view id v stands_now).saw q i e seen in
        let few = w.kept.tree.is_book.below q i e inner at' in let inside : record_start shape e.number + k < word_count shape = omega arith in
        (inside, ap (λ (z : ℕ). get_or s.words (z + (record_start shape e.number + k)) 0) here ∙ sym (part_get w.base (word_count shape) (record_start shape e.number + k) s.words inside) ∙ (w.kept.records.there q i e inner at' (let zero = w.kept.records.none_gone off q in omega arith)).words_are k small)

    -- after a step which leaves its era the views of the era are those that were, with its new one
    module _ (u : SeatView) (era : u.era ≡ v.era) where
      pub views_now : set (map (seen_in w.era) s.views) id u ≡ map (seen_in w.era) (set s.views id u)
      views_now = ap (set (map (seen_in w.era) s.views) id) (sym (seen_now w.era u (era ∙ present))) ∙ sym (map-set (seen_in w.era) s.views id u)

      pub present_on : (j : ℕ) (x : SeatView) → get_elem? (set s.views id u) j ≡ some x → IsAtWork x → x.era ≡ w.era
      present_on j x p work = ⊎_elim (λ t. subst (λ (z : SeatView). z.era ≡ w.era) t.1 (era ∙ present)) (λ t. w.present j x t.1 work) (at_set s.views id j u x p)

      pub placed_on : u.base ≡ v.base → (j : ℕ) (x : SeatView) → get_elem? (set s.views id u) j ≡ some x → IsAtWork x → IsAtWork v → x.base ≡ w.base
      placed_on same j x p work was = ⊎_elim (λ t. subst (λ (z : SeatView). z.base ≡ w.base) t.1 (same ∙ w.placed id v at was)) (λ t. w.placed j x t.1 work) (at_set s.views id j u x p)

      pub beside_on : u.whole ≡ v.whole → ((n : ℕ) → u.spare ≡ Some n → (m : ℕ) × (v.spare ≡ Some m)) → (j n : ℕ) (x : SeatView) → get_elem? (set s.views id u) j ≡ some x → x.spare ≡ Some n
          → IsBeside w.base (word_count shape) x.whole s.words
      beside_on same led j n x p leads = ⊎_elim
          (λ t. let was = led n (ap (λ (z : SeatView). z.spare) t.1 ∙ leads) in
          subst (λ (z : List ℕ). IsBeside w.base (word_count shape) z s.words) (sym same ∙ ap (λ (z : SeatView). z.whole) t.1) (w.beside id was.0 v at was.1))
          (λ t. w.beside j n x t.1 leads) (at_set s.views id j u x p)

      pub none_later_on : (j : ℕ) (x : SeatView) → get_elem? (set s.views id u) j ≡ some x → x.era ≤ w.era
      none_later_on j x p = ⊎_elim (λ t. subst (λ (z : SeatView). z.era ≤ w.era) t.1 (let e = era ∙ present in omega arith)) (λ t. w.none_later j x t.1) (at_set s.views id j u x p)

      pub remembers_all : Remains v u → (j : ℕ) (x : SeatView) → get_elem? (set s.views id u) j ≡ some x → x.live ≡ true → Remembers shape w.era w.past x
      remembers_all stays j x p live = ⊎_elim
          (λ t. let was : v.live ≡ true = sym stays.live ∙ ap (λ (z : SeatView). z.live) t.1 ∙ live in
          subst (Remembers shape w.era w.past) t.1 (remembers_on shape w.era w.past v u present stays (w.remembers id v at was)))
          (λ t. w.remembers j x t.1 live) (at_set s.views id j u x p)

      -- for those who were lent it answers as before, or for none
      pub lends_on : u.lent ≡ v.lent → ((n : ℕ) → v.spare ≡ Some n → (m : ℕ) × (u.spare ≡ Some m)) → (IsAtWork v → IsAtWork u) → (j : ℕ) (x : SeatView) → get_elem? (set s.views id u) j ≡ some x → LendsIn w.base x
      lends_on lent leads works j x p b has = ⊎_elim
          (λ t. let was = w.lends id v at b (subst (λ (z : List ℕ). Lists z b) (sym (ap (λ (z : SeatView). z.lent) t.1) ∙ lent) has) in
          subst (λ (z : SeatView). IsAtWork z × ((b ≡ w.base) ⊎ ((n : ℕ) × (z.spare ≡ Some n)))) t.1 (works was.0, ⊎_elim (λ here. inl here) (λ led. inr (leads led.0 led.1)) was.1))
          (λ t. w.lends j x t.1 b has) (at_set s.views id j u x p)

      -- the one who steps reads in the part at work, and the others as before
      pub reading_on : (words : List ℕ) → u.base ≡ w.base → ((j : ℕ) (x : SeatView) → ReadsOn shape w.era w.base s.words x → ReadsOn shape w.era w.base words x) → (j : ℕ) (x : SeatView) → get_elem? (set s.views id u) j ≡ some x → x.reads ≡ true → ReadsOn shape w.era w.base words x
      reading_on words here others j x p does = ⊎_elim
          (λ t. subst (ReadsOn shape w.era w.base words) t.1 record { now = λ _. here; before = λ less. let e = era ∙ present in absurd (omega arith) })
          (λ t. others j x (w.reads j x t.1 does)) (at_set s.views id j u x p)

module _ (face : ℕ → ℕ → List (ℕ × ℕ) → List ℕ) (shape : Shape) where
  -- a step of one who is at work, in the part of the table that is at work
  at_place : (n id place : ℕ) (me : Sat) (f : ℕ → ℕ) (told : ℕ → ℕ → Sat → Type 0) → IsAtWork me.0 → me.0.live ≡ true → place < word_count me.0.shape → ((o : Opening) → Allows (Kept face o) n id me place f (WithEra me (told place)))
      → Allows (Ruled face shape) n id me (me.0.base + place) f (told place)
  at_place n id i me f told work live small allow s rule long at fits = let w : Ruled face shape s = rule in
      let present : me.0.era ≡ w.era = w.present id me.0 at work in
      let size : ℕ = word_count shape in let part : List ℕ = table_part w.base size s.words in let found : ℕ = get_or s.words (me.0.base + i) 0 in
      let here : w.base ≡ me.0.base = sym (w.placed id me.0 at work) in let inside : i < size = subst (λ (z : Shape). i < word_count z) (w.remembers id me.0 at live).shaped small in
      let loads : get_or part i 0 ≡ found = part_get w.base size i s.words inside ∙ ap (λ (z : ℕ). get_or s.words (z + i) 0) here in
      let t = allow (opening_with shape w.members) (table_in w.era w.base size s) w.kept long (stands_now face shape s id me.0 at w present) (subst (λ (z : ℕ). z < 18446744073709551616) (sym loads) fits) in
      let x : SeatView = t.0 in let stays = t.4.1 in let lends = t.4.2 in
      let stored : set part i (f (get_or part i 0)) ≡ table_part w.base size (set s.words (me.0.base + i) (f found)) =
      ap (λ (z : ℕ). set part i (f z)) loads ∙ sym (part_set w.base size i (f found) s.words inside) ∙ ap (λ (z : ℕ). table_part w.base size (set s.words (z + i) (f found))) here in (
        x,
        t.1,
        t.2,
        record {
          era = w.era;
          members = w.members;
          base = w.base;
          kept = subst (λ (z : List ℕ × List SeatView). Kept face (opening_with shape w.members) record { words = z.0; homes = homes_after s.homes me.1 t.1; views = z.1 }) (λ j. (stored j, views_now face shape s id me.0 at w present x stays.era j)) t.3;
          past = w.past;
          counted = w.counted;
          remembers = remembers_all face shape s id me.0 at w present x stays.era stays;
          present = present_on face shape s id me.0 at w present x stays.era;
          placed = λ j y p go. placed_on face shape s id me.0 at w present x stays.era stays.base j y p go work;
          beside = λ j m y p leads. subst (λ (z : ℕ). IsBeside w.base size y.whole (set s.words (z + i) (f found))) here
              (beside_set w.base size i (f found) y.whole s.words inside (beside_on face shape s id me.0 at w present x stays.era stays.whole stays.led j m y p leads));
          none_later = none_later_on face shape s id me.0 at w present x stays.era;
          lent = lent_same s.views w.lent id me.0 x at lends.reads stays.base lends.lent;
          lends = lends_on face shape s id me.0 at w present x stays.era lends.lent lends.leads lends.works;
          reads = reading_on face shape s id me.0 at w present x stays.era (set s.words (me.0.base + i) (f found)) (stays.base ∙ sym here)
              (λ j y r. subst (λ (z : ℕ). ReadsOn shape w.era w.base (set s.words (z + i) (f found)) y) here (reads_on shape w.era w.base i (f found) s.words y inside r));
        },
        subst (λ (z : ℕ). told i z (x, carried_after me.1 t.1)) loads t.4.0,
      )

  -- and the word that it goes to is one of that part
  pub in_its_era : (n id place i : ℕ) (me : Sat) (f : ℕ → ℕ) (told : ℕ → ℕ → Sat → Type 0) → IsAtWork me.0 → me.0.live ≡ true → place < word_count me.0.shape → i ≡ me.0.base + place → ((o : Opening) → Allows (Kept face o) n id me place f (WithEra me (told place)))
      → Allows (Ruled face shape) n id me i f (λ r m. (p : ℕ) → i ≡ me.0.base + p → told p r m)
  in_its_era n id place i me f told work live inside is allow s rule long at fits =
      let t = subst (λ (z : ℕ). Allows (Ruled face shape) n id me z f (told place)) (sym is) (at_place n id place me f told work live inside allow) s rule long at fits in
      (t.0, t.1, t.2, t.3, λ p e. let same : place ≡ p = omega (arith, is, e) in subst (λ (z : ℕ). told z (get_or s.words i 0) (t.0, carried_after me.1 t.1)) same t.4)

  -- where a note was taken in, it hears that what the note told is so
  pub hears_in_its_era : (n id place i : ℕ) (me : Sat) (f : ℕ → ℕ) (told : ℕ → ℕ → Sat → Type 0) → IsAtWork me.0 → me.0.live ≡ true → place < word_count me.0.shape → i ≡ me.0.base + place → ((o : Opening) → Allows (Kept face o) n id me place f (WithEra me (told place)))
      → Allows (Ruled face shape) n id me i f (λ r m. (p : ℕ) → i ≡ me.0.base + p → told p r m × IfSome me.0.told (IsLearnt me.0.shape me.0.era me.0.past me.0.members))
  hears_in_its_era n id place i me f told work live inside is allow s rule long at fits =
      let t = in_its_era n id place i me f told work live inside is allow s rule long at fits in
      let learnt : IfSome me.0.told (IsLearnt me.0.shape me.0.era me.0.past me.0.members) = let w : Ruled face shape s = rule in
      (w.remembers id me.0 at live).learnt (w.present id me.0 at work) in
      (t.0, t.1, t.2, t.3, λ p e. (t.4 p e, learnt))

  -- a view that hands a lane out, or takes lanes in, knows of its table what it knew
  handing_stays : (n : ℕ) (v : SeatView) → v.spare ≡ Some n → Remains v (handing_out v)
  handing_stays n v spare = record { live = refl; era = refl; past = refl; shape = refl; members = refl; told = refl; base = refl; whole = refl; led = λ m e. (n, spare) }

  taking_stays : (v u : SeatView) → Remains v (taking_back v u)
  taking_stays v u = record { live = refl; era = refl; past = refl; shape = refl; members = refl; told = refl; base = refl; whole = refl; led = λ m e. (m, e) }

  -- a view that was handed a lane knows of its table what the other knew
  handed_remembers : (era : ℕ) (past : List PastEra) (v : SeatView) → Remembers shape era past v → Remembers shape era past (handed_out v)
  handed_remembers era past v r = record { shaped = r.shaped; present = r.present; learnt = λ _. tt; earlier = r.earlier }

  -- a view hands its next lane out to a new view
  pub splits_in_its_era : (id n : ℕ) (v : SeatView) → v.live ≡ true → v.spare ≡ Some n → n < v.shape.workers → Splits (Ruled face shape) id v (handing_out v) (handed_out v)
  splits_in_its_era id n v live spare room s rule at = let w : Ruled face shape s = rule in
      let present : v.era ≡ w.era = w.present id v at (hands_out v n spare) in
      let kept = splits_seat face (opening_with shape w.members) id n v live spare room (table_in w.era w.base (word_count shape) s) w.kept (stands_now face shape s id v at w present) in
      let same : set (map (seen_in w.era) s.views) id (handing_out v) ++ handed_out v ∷ [] ≡ map (seen_in w.era) (set s.views id (handing_out v) ++ handed_out v ∷ []) =
      ap (λ (z : List SeatView). z ++ handed_out v ∷ []) (views_now face shape s id v at w present (handing_out v) refl)
      ∙ ap (λ (z : SeatView). map (seen_in w.era) (set s.views id (handing_out v)) ++ z ∷ []) (sym (seen_now w.era (handed_out v) present))
      ∙ sym (map-append (seen_in w.era) (set s.views id (handing_out v)) (handed_out v ∷ [])) in
      record {
        era = w.era;
        members = w.members;
        base = w.base;
        kept = subst (λ (z : List SeatView). Kept face (opening_with shape w.members) record { words = table_part w.base (word_count shape) s.words; homes = s.homes; views = z }) same kept;
        past = w.past;
        counted = w.counted;
        remembers = λ j x p live'. ⊎_elim (λ q. remembers_all face shape s id v at w present (handing_out v) refl (handing_stays n v spare) j x q live')
            (λ q. subst (Remembers shape w.era w.past) q (handed_remembers w.era w.past v (w.remembers id v at live))) (at_snoc (set s.views id (handing_out v)) (handed_out v) x j p);
        present = λ j x p work. ⊎_elim (λ q. present_on face shape s id v at w present (handing_out v) refl j x q work) (λ q. subst (λ (z : SeatView). z.era ≡ w.era) q present) (at_snoc (set s.views id (handing_out v)) (handed_out v) x j p);
        placed = λ j x p work. ⊎_elim (λ q. placed_on face shape s id v at w present (handing_out v) refl refl j x q work (hands_out v n spare)) (λ q. subst (λ (z : SeatView). z.base ≡ w.base) q (w.placed id v at (hands_out v n spare)))
            (at_snoc (set s.views id (handing_out v)) (handed_out v) x j p);
        beside = λ j m x p leads. ⊎_elim (λ q. beside_on face shape s id v at w present (handing_out v) refl refl (λ _ _. (n, spare)) j m x q leads) (λ q. let clash : None ≡ Some m = ap (λ (z : SeatView). z.spare) q ∙ leads in cc)
            (at_snoc (set s.views id (handing_out v)) (handed_out v) x j p);
        none_later = λ j x p. ⊎_elim (λ q. none_later_on face shape s id v at w present (handing_out v) refl j x q) (λ q. subst (λ (z : SeatView). z.era ≤ w.era) q (let e = present in omega arith)) (at_snoc (set s.views id (handing_out v)) (handed_out v) x j p);
        lent = lent_more (set s.views id (handing_out v)) (lent_same s.views w.lent id v (handing_out v) at refl refl refl) (handed_out v) refl;
        lends = λ j x p. ⊎_elim (λ q. lends_on face shape s id v at w present (handing_out v) refl refl (λ _ _. (n + 1, ap (option_map (λ m. m + 1)) spare)) (λ _. hands_out (handing_out v) (n + 1) (ap (option_map (λ m. m + 1)) spare)) j x q)
            (λ q. lent_none x (ap (λ (z : SeatView). z.lent) (sym q)) w.base) (at_snoc (set s.views id (handing_out v)) (handed_out v) x j p);
        reads = λ j x p does. ⊎_elim (λ q. reading_on face shape s id v at w present (handing_out v) refl s.words (w.placed id v at (hands_out v n spare)) (λ _ _ r. r) j x q does)
            (λ q. let clash : false ≡ true = ap (λ (z : SeatView). z.reads) q ∙ does in cc) (at_snoc (set s.views id (handing_out v)) (handed_out v) x j p);
      }

  -- one number in the place of each is the list itself if it holds no other
  one_number : (c : ℕ) (xs : List ℕ) → ((b : ℕ) → Lists xs b → b ≡ c) → map (λ _. c) xs ≡ xs
  one_number c [] all = refl
  one_number c (x ∷ xs) all = λ i. sym (all x (0, refl)) i ∷ one_number c xs (λ b has. all b (suc has.0, has.1)) i

  -- who takes in another's lanes stays at work
  joining_works : (v u : SeatView) → IsAtWork v → IsAtWork (taking_back v u)
  joining_works v u work = ⊎_elim (λ t. inl (t.0, t.1, at_longer v.held u.held t.0 t.1 t.2)) (λ t. inr t) work

  -- a view takes in the lanes of another
  pub joins_in_their_era : (id other : ℕ) (v u : SeatView) → IsAtWork v → IsAtWork u → u.spare ≡ None → Joins (Ruled face shape) id v other u (taking_back v u) spent
  joins_in_their_era id other v u work work' follows s rule at ne at' = let w : Ruled face shape s = rule in
      let present : v.era ≡ w.era = w.present id v at work in
      let there : get_elem? s.views other ≡ some u = ⊎_elim (λ t. absurd (ne t.0)) (λ t. t.1) (at_set s.views id other (taking_back v u) u at') in
      let present' : u.era ≡ w.era = w.present other u there work' in
      let views' : List SeatView = set s.views id (taking_back v u) in
      let now = views_now face shape s id v at w present (taking_back v u) refl in
      let there' : get_elem? (set (map (seen_in w.era) s.views) id (taking_back v u)) other ≡ some u =
      subst (λ (z : List SeatView). get_elem? z other ≡ some u) (sym now) (at_map (seen_in w.era) views' other u at' ∙ ap (λ (z : SeatView). some z) (seen_now w.era u present')) in
      let answered : map (λ _. v.base) u.lent ≡ u.lent = one_number v.base u.lent (λ b has. ⊎_elim (λ here. here ∙ sym (w.placed id v at work)) (λ led. let clash : None ≡ Some led.0 = sym follows ∙ led.1 in cc) (w.lends other u there b has).1) in
      let kept = joins_seat face (opening_with shape w.members) id other v u v.told (v.lent ++ map (λ _. v.base) u.lent) (table_in w.era w.base (word_count shape) s) w.kept (stands_now face shape s id v at w present) ne there' in
      let same : set (set (map (seen_in w.era) s.views) id (taking_back v u)) other spent ≡ map (seen_in w.era) (set views' other spent) =
      ap (λ (z : List SeatView). set z other spent) now ∙ ap (set (map (seen_in w.era) views') other) (sym (seen_spent w.era)) ∙ sym (map-set (seen_in w.era) views' other spent) in
      record {
        era = w.era;
        members = w.members;
        base = w.base;
        kept = subst (λ (z : List SeatView). Kept face (opening_with shape w.members) record { words = table_part w.base (word_count shape) s.words; homes = s.homes; views = z }) same kept;
        past = w.past;
        counted = w.counted;
        remembers = λ j x p live. ⊎_elim (λ t. let clash : false ≡ true = ap (λ (z : SeatView). z.live) t.1 ∙ live in cc)
            (λ t. remembers_all face shape s id v at w present (taking_back v u) refl (taking_stays v u) j x t.1 live) (at_set views' other j spent x p);
        present = λ j x p go. ⊎_elim (λ t. absurd (spent_rests (subst IsAtWork (sym t.1) go))) (λ t. present_on face shape s id v at w present (taking_back v u) refl j x t.1 go) (at_set views' other j spent x p);
        placed = λ j x p go. ⊎_elim (λ t. absurd (spent_rests (subst IsAtWork (sym t.1) go))) (λ t. placed_on face shape s id v at w present (taking_back v u) refl refl j x t.1 go work) (at_set views' other j spent x p);
        beside = λ j m x p leads. ⊎_elim (λ t. let clash : None ≡ Some m = ap (λ (z : SeatView). z.spare) t.1 ∙ leads in cc)
            (λ t. beside_on face shape s id v at w present (taking_back v u) refl refl (λ k e. (k, e)) j m x t.1 leads) (at_set views' other j spent x p);
        none_later = λ j x p. ⊎_elim (λ t. subst (λ (z : SeatView). z.era ≤ w.era) t.1 (omega arith)) (λ t. none_later_on face shape s id v at w present (taking_back v u) refl j x t.1) (at_set views' other j spent x p);
        lent = lent_joined s.views w.lent id other v u (taking_back v u) at ne there (λ b. let both = total_both (λ (y : ℕ). if eqb y b then 1 else 0) v.lent (map (λ _. v.base) u.lent) in let same_times : times_in b (map (λ _. v.base) u.lent) ≡ times_in b u.lent = ap (times_in b) answered in omega arith);
        lends = λ j x p. ⊎_elim (λ t. lent_none x (ap (λ (z : SeatView). z.lent) (sym t.1)) w.base)
            (λ t. ⊎_elim (λ q. subst (LendsIn w.base) q.1 (λ b has. let went : (IsAtWork v → IsAtWork (taking_back v u)) = joining_works v u in ⊎_elim
            (λ old. let was = w.lends id v at b (has.0, old) in (went was.0, was.1))
            (λ new. let was = w.lends other u there b (new.0, subst (λ (z : List ℕ). get_elem? z new.0 ≡ some b) answered new.2) in (went work, inl (⊎_elim (λ here. here) (λ led. let clash : None ≡ Some led.0 = sym follows ∙ led.1 in cc) was.1))) (append_at v.lent (map (λ _. v.base) u.lent) b has.0 has.1)))
            (λ q. w.lends j x q.1) (at_set s.views id j (taking_back v u) x t.1))
            (at_set views' other j spent x p);
        reads = λ j x p does. ⊎_elim (λ t. let clash : false ≡ true = ap (λ (z : SeatView). z.reads) t.1 ∙ does in cc)
            (λ t. reading_on face shape s id v at w present (taking_back v u) refl s.words (w.placed id v at work) (λ _ _ r. r) j x t.1 does) (at_set views' other j spent x p);
      }
