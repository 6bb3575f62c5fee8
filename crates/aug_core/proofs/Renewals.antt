-- A table is renewed: its lead stores and loads words beside the part at work, and opens another part over what it laid out there.
use Rattle.std.proofs.Common.{true, false, ◌≡◌, ◌≢◌, ◌⊎◌, inl, inr, ℕ, zero, suc, ◌+◌, ◌^◌, ◌<◌, ◌≤◌, Bool, if◌then◌else◌, ltb, lt-ltb, List, [], ◌∷◌, ◌++◌, length, map, get_or, set, get_or-set_same, get_or-set_other, refl, sym, ap, ◌∙◌, subst, ⊎_elim, arith, Some, length-set, length-append, append_assoc, replicate}
use Rattle.std.proofs.lemmas.Bool.{cases_eq, cases_lt}
use Rattle.std.proofs.lemmas.List.{set-get_or, get_or_past, get_or-replicate, length-replicate}
use mathlib.Core.Option.{none, some}
use lib.ListN.{get_elem?}
use Rattle.atomic_table.specs.Table.{step, keeps, opening, Allows}
use Rattle.atomic_table.proofs.Lists.{set_again, at_set}
use Rattle.aug_model.specs.Keys.{IsKeySet, is_member, keys_of, pairs_of}
use Rattle.aug_model.specs.Queries.{range_of, weight_in}
use Rattle.aug_model.proofs.Pairs.{agrees-own, pairs-again, weight_fits, weight-none}
use Rattle.aug_model.proofs.Ranges.{Rises, rises_from, all_below_from, range_cut, range_none, range_whole, range_clipped, range_of_key, is_member-counted}
use Rattle.aug_core.specs.Places.{Shape, opening_count, record_start, word_count}
use Rattle.aug_core.specs.Book.{Book, word_of_leaf}
use Rattle.aug_core.specs.Addresses.{IsInner, root_place}
use Rattle.aug_core.specs.Opening.{Opening}
use Rattle.aug_core.specs.Rule.{Knows, Kept, newcomer}
use Rattle.aug_core.specs.Records.{Lists, Fate}
use Rattle.aug_core.specs.Kinds.{load_node}
use Rattle.aug_core.specs.Effects.{Sat, in_part, opening_of, seeing}
use Rattle.aug_core.specs.Pasts.{IsEarlier}
use Rattle.aug_core.specs.Readers.{IsAside, FindsRecords, ReadsOn}
use Rattle.aug_core.specs.inside.ClearParts.{IsClear, IsClearPart}
use Rattle.aug_core.specs.Eras.{IsAtWork, seen_in, table_in, table_part, IsBeside, opening_with, Remembers, Ruled}
use Rattle.aug_core.specs.Renewals.{HoldsAll, Reopens, renewing, rewriting, rewrote, reread, EndWith, surveyed, IsOpened, reopening, reopened}
use Rattle.aug_core.specs.inside.EraSteps.{WithEra}
use Rattle.aug_core.specs.declared.view.Held.{Held}
use Rattle.aug_core.specs.declared.view.PastEra.{PastEra}
use Rattle.aug_core.specs.declared.view.SeatView.{SeatView}
use Rattle.aug_core.proofs.Sizes.{twice}
use Rattle.aug_core.proofs.Below.{number_of_leaf}
use Rattle.aug_core.proofs.Books.{at_below}
use Rattle.aug_core.proofs.Counting.{hits_all, map_at}
use Rattle.aug_core.proofs.Missing.{HeldIn, missing}
use Rattle.aug_core.proofs.Keeping.{reserves_same, keeps_as}
use Rattle.aug_core.proofs.Moves.{St, stands, watches}
use Rattle.aug_core.proofs.Loads.{shows_node}
use Rattle.aug_core.proofs.Stores.{alone}
use Rattle.aug_core.proofs.Views.{now_there}
use Rattle.aug_core.proofs.Openings.{IsAlone, opens}
use Rattle.aug_core.proofs.ReaderCounts.{who_answers, lent_set, lent_same}
use Rattle.aug_core.proofs.PlaceLemmas.{keys-within}
use Rattle.aug_core.specs.Layout.{IsLayout}
use Rattle.aug_core.proofs.Eras.{part_apart, beside_same, finds_set, finds_now, lent_none, lends_on, views_now, present_on, placed_on, none_later_on, seen_now, seen_past, hands_out, stands_now, in_its_era}

-- ---- words open a table over one set alone

-- keys below a bound are the same where the same ones are members
same_range : (xs ys : List ℕ) → Rises xs → Rises ys → ((k : ℕ) → is_member xs k ≡ is_member ys k) → (n : ℕ) → range_of xs 0 n ≡ range_of ys 0 n
same_range xs ys up up' same zero = range_none xs 0 0 (omega arith) ∙ sym (range_none ys 0 0 (omega arith))
same_range xs ys up up' same (suc n) = let e : n + 1 ≡ suc n = omega arith in
    subst (λ (z : ℕ). range_of xs 0 z ≡ range_of ys 0 z) e
    (range_cut xs 0 n (n + 1) up (omega arith) (omega arith)
    ∙ (λ i. same_range xs ys up up' same n i ++ (range_of_key xs n up ∙ ap (λ (b : Bool). if b then n ∷ [] else []) (same n) ∙ sym (range_of_key ys n up')) i)
    ∙ sym (range_cut ys 0 n (n + 1) up' (omega arith) (omega arith)))

-- no key past the bound is a member
past_none : (bits : ℕ) (keys : List ℕ) → IsKeySet bits keys → (k : ℕ) → 2 ^ bits ≤ k → is_member keys k ≡ false
past_none bits keys is k past =
    let none : range_of keys k (k + 1) ≡ [] = range_clipped keys k (k + 1) (2 ^ bits) (all_below_from (2 ^ bits) keys is.below) (omega arith) ∙ range_none keys k (2 ^ bits) past in
    is_member-counted keys k (rises_from keys is.rising) ∙ ap (λ (z : List ℕ). ltb 0 (length z)) none

-- a leaf's word tells whether its key is a member, and what it weighs
word_tells : (b c : Bool) (w x : ℕ) → w < 2 ^ 32 → x < 2 ^ 32 → word_of_leaf (if b then 1 else 0) w ≡ word_of_leaf (if c then 1 else 0) x → (b ≡ c) × (w ≡ x)
word_tells true true w x fits fits' e = (refl, omega arith)
word_tells false false w x fits fits' e = (refl, omega arith)
word_tells true false w x fits fits' e = absurd (omega arith)
word_tells false true w x fits fits' e = absurd (omega arith)

module _ (face : ℕ → ℕ → List (ℕ × ℕ) → List ℕ) (shape : Shape) (words : List ℕ) (ms ns : List (ℕ × ℕ)) (a : IsOpened face (opening_with shape ms) words) (b : IsOpened face (opening_with shape ns) words) where
  leaf_same : (k : ℕ) → k < 2 ^ shape.bits → (is_member (keys_of ms) k ≡ is_member (keys_of ns) k) × (weight_in ms k ≡ weight_in ns k)
  leaf_same k low = let t = twice shape.bits in
      word_tells (is_member (keys_of ms) k) (is_member (keys_of ns) k) (weight_in ms k) (weight_in ns k) (weight_fits ms k a.members_fit) (weight_fits ns k b.members_fit)
      (sym (number_of_leaf (opening_with shape ms) k low) ∙ sym (a.named k (omega arith)) ∙ b.named k (omega arith) ∙ number_of_leaf (opening_with shape ns) k low)

  member_same : (k : ℕ) → is_member (keys_of ms) k ≡ is_member (keys_of ns) k
  member_same k = ⊎_elim (λ low. (leaf_same k low).0) (λ past. past_none shape.bits (keys_of ms) a.key_set k past ∙ sym (past_none shape.bits (keys_of ns) b.key_set k past)) (cases_lt k (2 ^ shape.bits))

  weight_same : (k : ℕ) → weight_in ms k ≡ weight_in ns k
  weight_same k = ⊎_elim (λ low. (leaf_same k low).1)
      (λ past. weight-none ms k (past_none shape.bits (keys_of ms) a.key_set k past) ∙ sym (weight-none ns k (past_none shape.bits (keys_of ns) b.key_set k past))) (cases_lt k (2 ^ shape.bits))

  keys_same : keys_of ms ≡ keys_of ns
  keys_same = let up = rises_from (keys_of ms) a.key_set.rising in let up' = rises_from (keys_of ns) b.key_set.rising in
      sym (range_whole (keys_of ms) (2 ^ shape.bits) (all_below_from (2 ^ shape.bits) (keys_of ms) a.key_set.below))
      ∙ same_range (keys_of ms) (keys_of ns) up up' member_same (2 ^ shape.bits)
      ∙ range_whole (keys_of ns) (2 ^ shape.bits) (all_below_from (2 ^ shape.bits) (keys_of ns) b.key_set.below)

  pub one_set : ms ≡ ns
  one_set = let up = rises_from (keys_of ms) a.key_set.rising in let up' = rises_from (keys_of ns) b.key_set.rising in
      sym (pairs-again (weight_in ms) ms (agrees-own ms up))
      ∙ (λ i. pairs_of (λ k. weight_same k i) (keys_same i))
      ∙ pairs-again (weight_in ns) ns (agrees-own ns up')

module _ (face : ℕ → ℕ → List (ℕ × ℕ) → List ℕ) (shape : Shape) where
  -- ---- a survey

  -- a load under the rule of an opening, with which the table then meets that rule
  surveys_under : (o : Opening) (n id i : ℕ) (me : Sat) → me.0.live ≡ true → me.1 ≡ [] → Allows (Kept face o) n id me i (λ z. z) (WithEra me (surveyed face (step n i 0 0 none) me))
  surveys_under o n id i me live empty s r _ at _ =
      let v : SeatView = me.0 in let found : ℕ = get_or s.words i 0 in let w : SeatView = seeing v r.book (load_node i found) in let kn = r.each_view id v at in
      let kept = watches face o s r id v at v.began (load_node i found) i in (
        w,
        keeps,
        tt,
        kept,
        (
          (
            empty,
            λ inner. record {
              loaded = shows_node face o s r id v at live i inner;
              words = s.words;
              wide = r.tree.wide ∙ ap word_count (sym (kn.shaped live));
              ends = subst (λ (z : Opening). EndWith face z w s.words) (λ k. record { shape = sym (kn.shaped live) k; members = sym (kn.same_members live) k }) record {
                state = record { words = set s.words i found; homes = s.homes; views = set s.views id w };
                kept = kept;
                words_are = set-get_or s.words i 0;
                seat = id;
                view_is = now_there s.views id v w at;
              };
            },
          ),
          record { live = refl; era = refl; past = refl; shape = refl; members = refl; told = refl; base = refl; whole = refl; led = λ m e. (m, e) },
          record { reads = refl; lent = refl; leads = λ m e. (m, e); works = λ work. work },
        ),
      )

  -- who is at work may survey its table
  pub surveys : (n id place i : ℕ) (me : Sat) → IsAtWork me.0 → me.0.live ≡ true → me.1 ≡ [] → place < word_count me.0.shape → i ≡ me.0.base + place
      → Allows (Ruled face shape) n id me i (λ z. z) (in_part (surveyed face) (step n i 0 0 none) me)
  surveys n id place i me work live empty inside at = in_its_era face shape n id place i me (λ z. z) (λ w. surveyed face (step n w 0 0 none) me) work live inside at (λ o. surveys_under o n id place me live empty)

  -- ---- a renewal

  module _ (s : St) (w : Ruled face shape s) (id : ℕ) (v : SeatView) (at : get_elem? s.views id ≡ some v) (live : v.live ≡ true) (present : v.era ≡ w.era) where
    abbrev now : Opening
    now = opening_with shape w.members

    here : get_elem? (map (seen_in w.era) s.views) id ≡ some v
    here = stands_now face shape s id v at w present

    shape_is : v.shape ≡ shape
    shape_is = (w.kept.each_view id v here).shaped live

    -- the words of the part that is at work
    abbrev part : List ℕ
    part = table_part w.base (word_count shape) s.words

    -- they meet the rule of the opening that the view knows
    pub met_rule : IsAtWork v → EndWith face (opening_of v) v (table_part v.base (word_count v.shape) s.words)
    met_rule work = let kn = w.kept.each_view id v here in
        subst (λ (z : ℕ × Shape). EndWith face (opening_of v) v (table_part z.0 (word_count z.1) s.words)) (λ i. (sym (w.placed id v at work) i, sym shape_is i)) record {
          state = table_in w.era w.base (word_count shape) s;
          kept = subst (λ (z : Opening). Kept face z (table_in w.era w.base (word_count shape) s)) (λ i. record { shape = sym (kn.shaped live) i; members = sym (kn.same_members live) i }) w.kept;
          words_are = refl;
          seat = id;
          view_is = here;
        }

    -- where a view holds all lanes that it handed out, no other one is at work
    module _ (all : HoldsAll v) where
      holds_each : (lane : ℕ) → lane < all.next → HeldIn v.held lane
      holds_each lane low =
          let m = missing v.held (λ i j h g p q same. (w.kept.apart.one_holder id id i j v v h g here here p q same).1) all.next in
          let lower = hits_all (λ (z : Held). ltb z.lane all.next) v.held (λ k h p. lt-ltb h.lane all.next (w.kept.apart.handed_out id id k all.next v v h here here all.hands_out p)) in ⊎_elim
          (λ t. t)
          (λ t. let below = at_below m.list t.0 lane t.1 in let counted = m.counted in let long = all.all in absurd (omega arith)) (m.complete lane low)

      no_other : (j : ℕ) (u : SeatView) → j ≢ id → get_elem? s.views j ≡ some u → IsAtWork u → ⊥
      no_other j u ne p work =
          let there = stands_now face shape s j u p w (w.present j u p work) in ⊎_elim
          (λ (t : (i : ℕ) × (h : Held) × (get_elem? u.held i ≡ some h)). let mine = holds_each t.1.lane (w.kept.apart.handed_out id j t.0 all.next v u t.1 here there all.hands_out t.2) in
          ne (w.kept.apart.one_holder j id t.0 mine.0 u v t.1 mine.1 there here t.2 mine.2 (sym mine.3)).0)
          (λ (t : (m : ℕ) × (u.spare ≡ Some m)). ne (w.kept.apart.one_lead j id t.0 all.next u v there here t.1 all.hands_out)) work

      -- the view after a load of the word i, which shows it the whole book
      abbrev last : ℕ → SeatView
      last i = seeing v w.kept.book (load_node i (get_or part i 0))

      -- the era that is over then
      abbrev over : PastEra
      over = record { members = v.members; book = w.kept.book }

      -- the table meets the rule with it
      pub met_after : (i : ℕ) → EndWith face (opening_of v) (last i) part
      met_after i = let kn = w.kept.each_view id v here in let views : List SeatView = set (map (seen_in w.era) s.views) id (last i) in
          subst (λ (z : Opening). EndWith face z (last i) part) (λ k. record { shape = sym (kn.shaped live) k; members = sym (kn.same_members live) k }) record {
            state = record { words = set part i (get_or part i 0); homes = s.homes; views = views };
            kept = watches face now (table_in w.era w.base (word_count shape) s) w.kept id v here v.began (load_node i (get_or part i 0)) i;
            words_are = set-get_or part i 0;
            seat = id;
            view_is = now_there (map (seen_in w.era) s.views) id v (last i) here;
          }

      same_past : w.past ≡ v.past
      same_past = sym ((w.remembers id v at live).present present)

      -- what another one knows of the eras that are over
      ended : (j : ℕ) (u : SeatView) → get_elem? s.views j ≡ some u → u.live ≡ true → IsEarlier u.past u.members u.seen (v.past ++ over ∷ [])
      ended j u p live' = let r = w.remembers j u p live' in let le = w.none_later j u p in ⊎_elim
          (λ (e : u.era ≡ w.era). let kn = w.kept.each_view j u (stands_now face shape s j u p w e) in record {
            book = w.kept.book;
            later = [];
            goes_on = let past : v.past ≡ u.past = sym same_past ∙ sym (r.present e) in
                let members : v.members ≡ u.members = (w.kept.each_view id v here).same_members live ∙ sym (kn.same_members live') in
                λ k. past k ++ record { members = members k; book = w.kept.book } ∷ [];
            saw = kn.saw;
          })
          (λ (ne : u.era ≢ w.era). let t = r.earlier (omega (arith, ne)) in record {
            book = t.book;
            later = t.later ++ over ∷ [];
            goes_on = ap (λ (z : List PastEra). z ++ over ∷ []) (sym same_past ∙ t.goes_on) ∙ append_assoc u.past (record { members = u.members; book = t.book } ∷ t.later) (over ∷ []);
            saw = t.saw;
          }) (cases_eq u.era w.era)

      -- who reads finds its records, be it of this era or of an earlier one
      finds_still : shape.reservations ≡ 0 → (j : ℕ) (u : SeatView) → get_elem? s.views j ≡ some u → u.reads ≡ true → FindsRecords shape s.words u
      finds_still off j u p does = let r = w.reads j u p does in let le = w.none_later j u p in ⊎_elim
          (λ (e : u.era ≡ w.era). finds_now face shape s j u p w e off (r.now e))
          (λ ne. (r.before (omega (arith, ne))).1) (cases_eq u.era w.era)

      -- for each reader it answers itself
      answers : (j : ℕ) (u : SeatView) → j ≢ id → get_elem? s.views j ≡ some u → u.reads ≡ true → Lists v.lent u.base
      answers j u ne p does = let t = who_answers s.views w.lent j u p does in ⊎_elim
          (λ (is : t.0 ≡ id). let e : some t.1 ≡ some v = sym t.2 ∙ subst (λ (z : ℕ). get_elem? s.views z ≡ some v) (sym is) at in let same : t.1 ≡ v = cc e in subst (λ (z : SeatView). Lists z.lent u.base) same t.3)
          (λ other. absurd (no_other t.0 t.1 other t.2 (w.lends t.0 t.1 t.2 u.base t.3).0)) (cases_eq t.0 id)

      -- it opens another part, whose words are those of an opening over these members
      module _ (i base : ℕ) (members : List (ℕ × ℕ)) (clear : IsClearPart (word_count v.shape) v.lent base) (opened : IsOpened face (opening_with v.shape members) (table_part base (word_count v.shape) s.words)) where
        abbrev idle : SeatView
        idle = renewing (last i) s.words

        abbrev first : SeatView
        first = reopening face members base idle

        abbrev era : ℕ
        era = v.era + 1

        abbrev views : List SeatView
        views = map (seen_in era) (set s.views id first)

        -- the others are of an earlier era
        before : (j : ℕ) (u : SeatView) → get_elem? s.views j ≡ some u → u.era < era
        before j u p = let le = w.none_later j u p in let e = present in omega arith

        is_alone : IsAlone face (opening_with v.shape members) views id first
        is_alone = record {
          each = λ j x p. let t = map_at (seen_in era) (set s.views id first) j x p in ⊎_elim
              (λ q. inl (q.0, sym (seen_now era first refl) ∙ ap (seen_in era) q.1 ∙ t.2))
              (λ q. let past = before j t.0 q.1 in inr (sym (seen_past era t.0 (λ e. absurd (omega arith))) ∙ t.2)) (at_set s.views id j first t.0 t.1);
        }

        pub opens_again : shape.reservations ≡ 0 → (k : ℕ) → Ruled face shape record { words = set s.words k (get_or s.words k 0); homes = s.homes; views = set s.views id first }
        opens_again off k = let same : s.words ≡ set s.words k (get_or s.words k 0) = sym (set-get_or s.words k 0) in record {
          era = era;
          members = members;
          base = base;
          kept = subst (λ (z : Shape × List ℕ). Kept face (opening_with z.0 members) record { words = table_part base (word_count z.0) z.1; homes = s.homes; views = views }) (λ n. (shape_is n, same n))
              (opens face (opening_with v.shape members) views idle.past id era base v.lent (table_part base (word_count v.shape) s.words) s.words is_alone (table_part base (word_count v.shape) s.words) s.homes opened (λ j high. refl));
          past = idle.past;
          counted = let long = length-append v.past (over ∷ []) in let was = ap (λ (z : List PastEra). length z) same_past in let counted = w.counted in let e = present in omega arith;
          remembers = λ j x p live'. ⊎_elim
              (λ t. subst (Remembers shape era idle.past) t.1 record { shaped = shape_is; present = λ _. refl; learnt = λ _. tt; earlier = λ less. absurd (omega arith) })
              (λ t. let less = before j x t.1 in record {
                shaped = (w.remembers j x t.1 live').shaped;
                present = λ now. absurd (omega arith);
                learnt = λ now. absurd (omega arith);
                earlier = λ _. ended j x t.1 live';
              }) (at_set s.views id j first x p);
          present = λ j x p work. ⊎_elim (λ t. ap (λ (z : SeatView). z.era) (sym t.1)) (λ t. absurd (no_other j x t.0 t.1 work)) (at_set s.views id j first x p);
          placed = λ j x p work. ⊎_elim (λ t. ap (λ (z : SeatView). z.base) (sym t.1)) (λ t. absurd (no_other j x t.0 t.1 work)) (at_set s.views id j first x p);
          beside = λ j n x p leads. ⊎_elim
              (λ t. let are = ap (λ (z : SeatView). z.whole) (sym t.1) ∙ same in record { long = ap length are; same = λ m _. ap (λ (z : List ℕ). get_or z m 0) are })
              (λ t. absurd (no_other j x t.0 t.1 (hands_out x n leads))) (at_set s.views id j first x p);
          none_later = λ j x p. ⊎_elim (λ t. let e = ap (λ (z : SeatView). z.era) t.1 in omega arith) (λ t. let e = before j x t.1 in omega arith) (at_set s.views id j first x p);
          lent = lent_set s.views w.lent id v first at (λ b. omega arith);
          lends = λ j x p b has. ⊎_elim (λ t. subst (λ (z : SeatView). IsAtWork z × ((b ≡ base) ⊎ ((n : ℕ) × (z.spare ≡ Some n)))) t.1 (hands_out first 0 refl, inr (0, refl)))
              (λ t. absurd (no_other j x t.0 t.1 (w.lends j x t.1 b has).0)) (at_set s.views id j first x p);
          reads = λ j x p does. ⊎_elim (λ t. let clash : false ≡ true = ap (λ (z : SeatView). z.reads) t.1 ∙ does in cc)
              (λ t. let less = before j x t.1 in record {
                now = λ e. absurd (omega arith);
                before = λ _. (subst (λ (z : Shape). IsAside (word_count z) base x.base) shape_is (clear x.base (answers j x t.0 t.1 does)), subst (λ (z : List ℕ). FindsRecords shape z x) same (finds_still off j x t.1 does));
              }) (at_set s.views id j first x p);
        }

  root_inner : (s : Shape) → 1 ≤ s.bits → s.bits ≤ 16 → IsInner s (root_place s)
  root_inner s some_bits few = let b = (keys-within s.bits some_bits few).0 in let t = twice s.bits in record { past_leaves = omega arith; inside = omega arith }

  -- a lead that holds all lanes which it handed out, and has laid another part out, opens it by a load of its first word
  pub reopens : (n id base : ℕ) (me : Sat) (members : List (ℕ × ℕ)) → me.0.live ≡ true → me.1 ≡ [] → IsLayout me.0.shape → me.0.shape.reservations ≡ 0 → HoldsAll me.0 → IsAside (word_count me.0.shape) me.0.base base → base + word_count me.0.shape ≤ length me.0.whole → IsClearPart (word_count me.0.shape) me.0.lent base
      → IsOpened face (opening_with me.0.shape members) (table_part base (word_count me.0.shape) me.0.whole) → Allows (Ruled face shape) n id me base (λ z. z) (reopened face (step n base 0 0 none) me)
  reopens n id base me members live empty laid_out off all aside inside clear opened s rule _ at _ =
      let v : SeatView = me.0 in let work = hands_out v all.next all.hands_out in let w : Ruled face shape s = rule in let present = w.present id v at work in let size : ℕ = word_count v.shape in
      let here : w.base ≡ v.base = sym (w.placed id v at work) in let shaped : shape ≡ v.shape = sym (shape_is s w id v at live present) in
      let beside : IsBeside v.base size v.whole s.words = subst (λ (z : ℕ × Shape). IsBeside z.0 (word_count z.1) v.whole s.words) (λ k. (here k, shaped k)) (w.beside id all.next v at all.hands_out) in
      let same : table_part base size s.words ≡ table_part base size v.whole = beside_same v.base size base size v.whole s.words aside inside beside in
      let opened' : IsOpened face (opening_with v.shape members) (table_part base size s.words) = subst (IsOpened face (opening_with v.shape members)) (sym same) opened in
      let top : ℕ = root_place v.shape in let part : List ℕ = table_part w.base (word_count shape) s.words in (
        first s w id v at live present all top base members clear opened',
        keeps,
        tt,
        opens_again s w id v at live present all top base members clear opened' (ap (λ (z : Shape). z.reservations) shaped ∙ off) base,
        (
          empty,
          λ others opened''. subst (λ (z : List (ℕ × ℕ)). Reopens face z base v (first s w id v at live present all top base members clear opened')) (one_set face v.shape (table_part base size v.whole) members others opened opened'') record {
            root = get_or part top 0;
            last = last s w id v at live present all top;
            loaded = shows_node face (now s w id v at live present) (table_in w.era w.base (word_count shape) s) w.kept id v (stands_now face shape s id v at w present) live top (root_inner v.shape laid_out.bits.0 laid_out.bits.1);
            whole = s.words;
            beside = beside;
            ends = subst (λ (z : ℕ × Shape). EndWith face (opening_of v) (last s w id v at live present all top) (table_part z.0 (word_count z.1) s.words)) (λ k. (here k, shaped k)) (met_after s w id v at live present all top);
            stepped = refl;
          },
        ),
      )

  -- ---- the lead lays out what is beside the part at work

  -- the lead loads any word beside the part
  pub looks_beside : (n id next i : ℕ) (me : Sat) → me.0.spare ≡ Some next → me.1 ≡ [] → me.0.live ≡ true → (i < me.0.base) ⊎ (me.0.base + word_count me.0.shape ≤ i) → Allows (Ruled face shape) n id me i (λ z. z) (reread (step n i 0 0 none) me)
  looks_beside n id next i me leads empty live apart s rule _ at _ = let v : SeatView = me.0 in let work = hands_out v next leads in
      let found : get_or s.words i 0 ≡ get_or v.whole i 0 = let w : Ruled face shape s = rule in
      sym ((w.beside id next v at leads).same i (subst (λ (z : ℕ × Shape). (i < z.0) ⊎ (z.0 + word_count z.1 ≤ i)) (λ k. (w.placed id v at work k, (w.remembers id v at live).shaped k)) apart)) in (
        v,
        keeps,
        tt,
        subst (λ (z : List ℕ × List SeatView). Ruled face shape record { words = z.0; homes = s.homes; views = z.1 }) (λ j. (sym (set-get_or s.words i 0) j, sym (set_again s.views id v at) j)) rule,
        (empty, refl, found),
      )

  -- a view that knows more of that knows the same of the part
  more_known : (o : Opening) (words whole : List ℕ) (fate : ℕ → Fate) (gone : ℕ → ℕ) (book : Book) (v : SeatView) → Knows o words fate gone book v → Knows o words fate gone book record v { whole = whole }
  more_known o words whole fate gone book v k = let w : SeatView = record v { whole = whole } in record { shaped = k.shaped; same_members = k.same_members; saw = k.saw; also_saw = k.also_saw; fresh = k.fresh; holds = k.holds; spares = k.spares; records = keeps_as o.shape words fate gone book v w (reserves_same v w refl refl refl) k.records }

  -- what is known beside a part follows a store there
  beside_both : (base size i x : ℕ) (known words : List ℕ) → IsBeside base size known words → IsBeside base size (set known i x) (set words i x)
  beside_both base size i x known words b = record {
    long = length-set known i x ∙ b.long ∙ sym (length-set words i x);
    same = λ k apart. ⊎_elim
        (λ (is : k ≡ i). ⊎_elim
        (λ low. let low' : i < length words = (let e = b.long in omega arith) in subst (λ (z : ℕ). get_or (set known i x) z 0 ≡ get_or (set words i x) z 0) (sym is) (get_or-set_same known i x 0 low ∙ sym (get_or-set_same words i x 0 low')))
        (λ high. get_or_past (set known i x) k 0 (let e = length-set known i x in omega arith) ∙ sym (get_or_past (set words i x) k 0 (let e = length-set words i x in let f = b.long in omega arith))) (cases_lt i (length known)))
        (λ ne. get_or-set_other known i k x 0 ne ∙ b.same k apart ∙ sym (get_or-set_other words i k x 0 ne)) (cases_eq k i);
  }

  -- no reader reads a word beside the part that lies in no part for which the lead answers
  clear_of_reader : (s : St) (id : ℕ) (v : SeatView) (at : get_elem? s.views id ≡ some v) (w : Ruled face shape s) (present : v.era ≡ w.era) {next i : ℕ} → v.spare ≡ Some next → IsAtWork v → IsClear (word_count shape) v.lent i
      → (i < w.base) ⊎ (w.base + word_count shape ≤ i) → (j : ℕ) (y : SeatView) → get_elem? s.views j ≡ some y → y.reads ≡ true → (i < y.base) ⊎ (y.base + word_count shape ≤ i)
  clear_of_reader s id v at w present {next} {i} leads work free apart j y p does = let t = who_answers s.views w.lent j y p does in let l = w.lends t.0 t.1 t.2 y.base t.3 in ⊎_elim
      (λ (here : y.base ≡ w.base). subst (λ (z : ℕ). (i < z) ⊎ (z + word_count shape ≤ i)) (sym here) apart)
      (λ (led : (n : ℕ) × (t.1.spare ≡ Some n)).
      let one : t.0 ≡ id = w.kept.apart.one_lead t.0 id led.0 next t.1 v (stands_now face shape s t.0 t.1 t.2 w (w.present t.0 t.1 t.2 l.0)) (stands_now face shape s id v at w present) led.1 leads in
      let e : some t.1 ≡ some v = sym t.2 ∙ subst (λ (z : ℕ). get_elem? s.views z ≡ some v) (sym one) at in let same : t.1 ≡ v = cc e in
      free y.base (subst (λ (z : SeatView). Lists z.lent y.base) same t.3)) l.1

  -- the lead stores any word beside the part
  pub lays : (n id next i x : ℕ) (me : Sat) → me.0.spare ≡ Some next → me.1 ≡ [] → me.0.live ≡ true → (i < me.0.base) ⊎ (me.0.base + word_count me.0.shape ≤ i) → IsClear (word_count me.0.shape) me.0.lent i → Allows (Ruled face shape) n id me i (λ _. x) (λ _ m. rewrote (step n i x 0 none) me x m)
  lays n id next i x me leads empty live apart free s rule _ at _ = let v : SeatView = me.0 in let work = hands_out v next leads in let u : SeatView = rewriting v i x in let w : Ruled face shape s = rule in
      let present = w.present id v at work in let size : ℕ = word_count shape in let o : Opening = opening_with shape w.members in
      let clear : (i < w.base) ⊎ (w.base + size ≤ i) = subst (λ (z : ℕ × Shape). (i < z.0) ⊎ (z.0 + word_count z.1 ≤ i)) (λ k. (w.placed id v at work k, (w.remembers id v at live).shaped k)) apart in
      let t : St = table_in w.era w.base size s in let here = stands_now face shape s id v at w present in
      let kept = stands face o t w.kept id v here u (record { back = λ a h p. (h, p, refl, refl); forth = λ a h p. (h, p, refl, refl); spare = refl }) (more_known o t.words (set v.whole i x) w.kept.fate w.kept.gone w.kept.book v (w.kept.each_view id v here)) 0 in
      let part : set t.words 0 (get_or t.words 0 0) ≡ table_part w.base size (set s.words i x) = set-get_or t.words 0 0 ∙ sym (part_apart w.base size i x s.words clear) in (
        u,
        keeps,
        tt,
        record {
          era = w.era;
          members = w.members;
          base = w.base;
          kept = subst (λ (z : List ℕ × List SeatView). Kept face o record { words = z.0; homes = s.homes; views = z.1 }) (λ j. (part j, views_now face shape s id v at w present u refl j)) kept;
          past = w.past;
          counted = w.counted;
          remembers = λ j y p live'. ⊎_elim
              (λ t. let r = w.remembers id v at live in subst (Remembers shape w.era w.past) t.1 record { shaped = r.shaped; present = r.present; learnt = r.learnt; earlier = r.earlier })
              (λ t. w.remembers j y t.1 live') (at_set s.views id j u y p);
          present = present_on face shape s id v at w present u refl;
          placed = λ j y p go. placed_on face shape s id v at w present u refl refl j y p go work;
          beside = λ j m y p is. ⊎_elim
              (λ q. subst (λ (z : SeatView). IsBeside w.base size z.whole (set s.words i x)) q.1 (beside_both w.base size i x v.whole s.words (w.beside id next v at leads)))
              (λ q. absurd (q.0 (w.kept.apart.one_lead j id m next y v (stands_now face shape s j y q.1 w (w.present j y q.1 (hands_out y m is))) here is leads))) (at_set s.views id j u y p);
          none_later = none_later_on face shape s id v at w present u refl;
          lent = lent_same s.views w.lent id v u at refl refl refl;
          lends = lends_on face shape s id v at w present u refl refl (λ m e. (m, e)) (λ go. go);
          reads = λ j y p does. ⊎_elim
              (λ q. subst (ReadsOn shape w.era w.base (set s.words i x)) q.1 record { now = λ _. w.placed id v at work; before = λ less. let e = present in absurd (omega arith) })
              (λ q. let r = w.reads j y q.1 does in record { now = r.now; before = λ less. let b = r.before less in (b.0, finds_set shape s.words y i x (clear_of_reader s id v at w present leads work (subst (λ (z : Shape). IsClear (word_count z) v.lent i) (w.remembers id v at live).shaped free) clear j y q.1 does) b.1) })
              (at_set s.views id j u y p);
        },
        (empty, refl),
      )

-- ---- a table that is made

-- a word of a table that is blank
blank_word : (n k : ℕ) → get_or {A = ℕ} (replicate n 0) k 0 ≡ 0
blank_word n k = ⊎_elim (λ low. get_or-replicate n k 0 0 low) (λ past. get_or_past (replicate n 0) k 0 (subst (λ (z : ℕ). z ≤ k) (sym (length-replicate n 0)) past)) (cases_lt k n)

pub first_opening : (face : ℕ → ℕ → List (ℕ × ℕ) → List ℕ) (o : Opening) (n : ℕ) (words : List ℕ) → length words ≡ n → IsOpened face o (table_part 0 (word_count o.shape) words)
    → ((i : ℕ) → record_start o.shape (opening_count o.shape) ≤ i → get_or (table_part 0 (word_count o.shape) words) i 0 ≡ 0)
    → ((i : ℕ) → word_count o.shape ≤ i → get_or words i 0 ≡ 0) → Ruled face o.shape (opening words [] (newcomer face record { opening = o; words = n }))
first_opening face o n words long opened blank beside = let first : SeatView = newcomer face record { opening = o; words = n } in record {
  era = 0;
  members = o.members;
  past = [];
  counted = refl;
  remembers = λ j x p live. subst (Remembers o.shape 0 []) (alone first x j p).1 record { shaped = refl; present = λ _. refl; learnt = λ _. tt; earlier = λ less. absurd (omega arith) };
  base = 0;
  kept = opens face o (first ∷ []) [] 0 0 0 [] [] (replicate n 0) record { each = λ j x p. inl (alone first x j p) } (table_part 0 (word_count o.shape) words) [] opened blank;
  present = λ j x p work. ap (λ (z : SeatView). z.era) (sym (alone first x j p).1);
  placed = λ j x p work. ap (λ (z : SeatView). z.base) (sym (alone first x j p).1);
  beside = λ j m x p leads. subst (λ (z : SeatView). IsBeside 0 (word_count o.shape) z.whole words) (alone first x j p).1 record {
    long = length-replicate n 0 ∙ sym long;
    same = λ k apart. ⊎_elim (λ low. absurd (omega (arith, low))) (λ high. blank_word n k ∙ sym (beside k (let le : word_count o.shape ≤ k = omega (arith, high) in le))) apart;
  };
  none_later = λ j x p. let e = ap (λ (z : SeatView). z.era) (alone first x j p).1 in omega arith;
  lent = λ b. omega arith;
  lends = λ j x p. lent_none x (ap (λ (z : SeatView). z.lent) (sym (alone first x j p).1)) 0;
  reads = λ j x p does. let clash : false ≡ true = ap (λ (z : SeatView). z.reads) (alone first x j p).1 ∙ does in cc;
}
