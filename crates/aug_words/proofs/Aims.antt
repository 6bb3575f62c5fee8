-- A lead that looks for a part in which nobody reads.
use Rattle.std.proofs.Common.{◌≡◌, ◌≢◌, ◌⊎◌, inl, inr, ℕ, zero, suc, ◌+◌, ◌-◌, ◌*◌, ◌/◌, ◌^◌, ◌<◌, ◌≤◌, List, [], ◌∷◌, get_or, length, min, refl, sym, ap, ◌∙◌, subst, ⊎_elim, arith}
use Rattle.std.proofs.Math.Nat.{min-le_right, mul-div_cancel}
use Rattle.std.proofs.lemmas.Bool.{cases_eq}
use mathlib.Core.Option.{some-injective}
use Rattle.atomic_table.specs.Seated.{TableId}
use Rattle.aug_core.specs.Places.{word_count}
use Rattle.aug_core.specs.Effects.{Sat, stepping}
use Rattle.aug_core.specs.Readers.{IsAside, lending, taking_reader, times_in, without}
use Rattle.aug_core.specs.Records.{Lists}
use Rattle.aug_core.specs.inside.ClearParts.{IsClearPart}
use Rattle.aug_core.specs.declared.step.StepTaken.{StepTaken}
use Rattle.aug_core.specs.declared.view.SeatView.{SeatView}
use Rattle.aug_core.proofs.Fits.{book_as}
use Rattle.aug_core.proofs.ReaderCounts.{lists_without}
use Rattle.aug_words.specs.Leads.{IsNotTaken, MayOpen}
use Rattle.aug_words.specs.declared.parts.Parts.{Parts}
use Rattle.aug_words.specs.inside.Laying.{IsDraft, words_in}
use Rattle.aug_words.specs.inside.SeatState.{IsCount, IsLead, IsPassSeat, IsReaderSeat, HasPassSeat, LendsHere}
use Rattle.aug_words.proofs.Counts.{count_less, count_more, counted_none, counted_some, free_counted, free_part, length_less, not_aside, part_inside, part_of, parts_aside, parts_turned, some_size, times_all, times_has}
use Rattle.aug_words.proofs.Passes.{placed_on, sits_on}
use Rattle.aug_words.proofs.Reopens.{none_below}

module _ (face : ℕ → ℕ → List (ℕ × ℕ) → List ℕ) (a : TableId) (b next root other : ℕ) (shown : List ℕ) (p : Parts) (me : Sat) (lead : IsLead face a b next root other shown p me) where
  abbrev v : SeatView
  v = me.0

  abbrev size : ℕ
  size = word_count v.shape

  some_words : 0 < size
  some_words = some_size v.shape lead.1.knows.laid_out.workers.0

  module _ (p' : Parts) (other' : ℕ) (shown' : List ℕ) (own : p'.own ≡ p.own) (out : p'.out.items ≡ p.out.items) (where_next : (p'.next < length p.out.items) × (p'.next ≢ p.own))
      (same : p'.next ≡ p.next → (other' ≡ other) × (shown' ≡ shown))
      (turned : p'.next ≢ p.next → (other' ≡ p'.next * size) × (length shown' ≡ length shown) × ((slot : ℕ) → get_or shown' slot 0 ≡ 0)) where
    there : 2 ^ v.shape.bits ≤ v.shape.members → other' ≡ p'.next * size
    there room = ⊎_elim (λ (is : p'.next ≡ p.next). (same is).0 ∙ (lead.4.next room).2 ∙ ap (λ z. z * size) (sym is)) (λ ne. (turned ne).0) (cases_eq p'.next p.next)

    -- it is a lead that lays that part out
    pub lead_aimed : IsLead face a b next root other' shown' p' me
    lead_aimed = (
      lead.0,
      lead.1,
      lead.2,
      (λ room. ⊎_elim
          (λ (is : p'.next ≡ p.next). subst (λ (z : ℕ × List ℕ). IsDraft face a z.0 z.1 v) (λ i. (sym (same is).0 i, sym (same is).1 i)) (lead.3 room))
          (λ ne. let t = turned ne in record {
            inside = subst (λ (z : ℕ). z + size ≤ a.words) (sym t.0) (part_inside a p b other v.shape v.lent some_words lead.4 p'.next where_next.0);
            apart = subst (λ (z : ℕ × ℕ). IsAside size z.0 z.1) (λ i. (sym (sym lead.0.base_is ∙ lead.4.at_work) i, sym t.0 i)) (parts_aside size p.own p'.next (λ is. where_next.1 (sym is)));
            noted = t.1 ∙ (lead.3 room).noted;
            below = none_below face v (words_in other' v.shape v) shown' t.2;
          }) (cases_eq p'.next p.next)),
      parts_turned a p b other v.shape v.lent some_words lead.4 p' other' own out (λ room. (where_next.0, where_next.1, there room)),
    )

    module _ (room : 2 ^ v.shape.bits ≤ v.shape.members) (free : get_or p.out.items p'.next 0 ≡ 0) where
      -- nobody reads there
      pub lead_clear : IsClearPart size v.lent other'
      lead_clear = subst (IsClearPart size v.lent) (sym (there room)) (free_part a p b other v.shape v.lent some_words lead.4 p'.next where_next.0 free)

      -- so the next era can begin
      pub may_open_there : MayOpen record { table = a; view = v }
      may_open_there = record {
        part = p'.next;
        inside = part_inside a p b other v.shape v.lent some_words lead.4 p'.next where_next.0;
        aside = subst (λ (z : ℕ). IsAside size z (p'.next * size)) (sym (sym lead.0.base_is ∙ lead.4.at_work)) (parts_aside size p.own p'.next (λ is. where_next.1 (sym is)));
        free = free_part a p b other v.shape v.lent some_words lead.4 p'.next where_next.0 free;
      }

  -- where somebody reads in each other part it cannot
  pub may_not_open : ((part : ℕ) → part < length p.out.items → part ≢ p.own → get_or p.out.items part 0 ≢ 0) → MayOpen record { table = a; view = v } → ⊥
  may_not_open none m = let low = part_of a p b other v.shape v.lent some_words lead.4 m.part m.inside in
      none m.part low (λ is. not_aside size (m.part * size) some_words (subst (λ (z : ℕ). IsAside size z (m.part * size)) (sym lead.0.base_is ∙ lead.4.at_work ∙ ap (λ z. z * size) (sym is)) m.aside))
      (free_counted a p b other v.shape v.lent some_words lead.4 m.part low m.free)

  -- it counts no readers more or less
  pub lead_kept : (p' : Parts) → p'.own ≡ p.own → p'.next ≡ p.next → p'.out.items ≡ p.out.items → IsLead face a b next root other shown p' me
  lead_kept p' own where_next out = (
    lead.0,
    lead.1,
    lead.2,
    lead.3,
    parts_turned a p b other v.shape v.lent some_words lead.4 p' other own out (λ room. let n = lead.4.next room in
        (subst (λ (z : ℕ). z < length p.out.items) (sym where_next) n.0, (λ is. n.1 (sym where_next ∙ is)), n.2 ∙ ap (λ z. z * size) (sym where_next))),
  )

  -- a reader that reads where none of its parts begins is none for which it answers
  pub lead_elsewhere : (base n : ℕ) (r : SeatView) → base ≡ r.base → n ≡ size → (base / n * n ≢ base) ⊎ (length p.out.items ≤ base / n) → IsNotTaken v r
  lead_elsewhere base n r at sized which = inl (λ has. let t = lead.4.starts r.base has in
      let is : base ≡ t.0 * size = at ∙ t.2 in
      let found : base / n ≡ t.0 = (λ i. is i / sized i) ∙ mul-div_cancel t.0 some_words in
      ⊎_elim (λ (off : base / n * n ≢ base). absurd (off ((λ i. found i * sized i) ∙ sym is)))
      (λ past. let low = t.1 in absurd (omega (arith, past, found))) which)

  -- nor does it take one back of a part where none is counted, or too many are
  pub lead_refuses : (part : ℕ) (r : SeatView) → part < length p.out.items → r.base ≡ part * size → (get_or p.out.items part 0 ≡ 0) ⊎ (get_or p.out.items part 0 ≡ 2 ^ 32 - 1) → IsNotTaken v r
  lead_refuses part r low at which = let times : times_in r.base v.lent ≡ times_in (part * size) v.lent = ap (λ (z : ℕ). times_in z v.lent) at in let counted = lead.4.counted part low in ⊎_elim
      (λ (none : get_or p.out.items part 0 ≡ 0). inl (λ has. let zero_times = counted_none (get_or p.out.items part 0) (times_in (part * size) v.lent) none counted in let some_times = times_has r.base v.lent has.0 has.1 in absurd (omega arith)))
      (λ most. inr (⊎_elim (λ is. let goal : 2 ^ 32 - 1 ≤ times_in r.base v.lent = omega arith in goal) (λ is. let many = is.1 in let goal : 2 ^ 32 - 1 ≤ times_in r.base v.lent = omega arith in goal) counted)) which

-- ---- a pass that lends a reader, and takes it back

module _ (face : ℕ → ℕ → List (ℕ × ℕ) → List ℕ) (a a' t : TableId) (b l r lane lent : ℕ) (me me' : Sat) (is_pass : HasPassSeat face a t b l r lane lent me) (one : a' ≡ a) where
  -- a pass that answers for other readers
  answers_for : (n : ℕ) (readers : List ℕ) → me'.0 ≡ record me.0 { lent = readers } → me'.1 ≡ me.1 → LendsHere n me.0.base readers → HasPassSeat face a' t b l r lane n me'
  answers_for n readers is same lends = let seat = is_pass.seat in record {
    sits = sits_on a a' t b l r me.0 me'.0 is_pass.sits one (ap (λ (z : SeatView). z.shape) is) (ap (λ (z : SeatView). z.base) is);
    seat = subst (IsPassSeat face lane n) (λ i. (sym is i, sym same i)) record {
      live = seat.live;
      no_slot = seat.no_slot;
      held = seat.held;
      only = seat.only;
      named = seat.named;
      taken = seat.taken;
      exists = seat.exists;
      follows = seat.follows;
      lends = lends;
      knows = book_as face me.0 refl refl refl seat.knows;
    };
  }

  pub pass_lent : (n : ℕ) → n ≡ min (lent + 1) (2 ^ 32 - 1) → me'.0 ≡ lending me.0 → me'.1 ≡ me.1 → HasPassSeat face a' t b l r lane n me'
  pass_lent n counts is same = let lends = is_pass.seat.lends in let longer : length (me.0.base ∷ me.0.lent) ≡ length me.0.lent + 1 = omega arith in
      answers_for n (me.0.base ∷ me.0.lent) is same record {
        count = subst (λ (z : ℕ × ℕ). IsCount z.0 z.1) (λ i. (sym counts i, sym longer i)) (count_more lent 1 (length me.0.lent) 1 lends.count (inl refl));
        few = subst (λ (z : ℕ). z ≤ 2 ^ 32 - 1) (sym counts) (min-le_right (lent + 1) (2 ^ 32 - 1));
        here = one_more me.0.base me.0.lent lends.here;
      }
    where
      one_more : (base : ℕ) (xs : List ℕ) → ((c : ℕ) → Lists xs c → c ≡ base) → (c : ℕ) → Lists (base ∷ xs) c → c ≡ base
      one_more base xs all c (zero, at) = sym (some-injective base c at)
      one_more base xs all c (suc i, at) = all c (i, at)

  pub pass_took : (w : SeatView) → w.base ≡ me.0.base → 0 < lent → lent < 2 ^ 32 - 1 → me'.0 ≡ taking_reader me.0 w → me'.1 ≡ me.1 → HasPassSeat face a' t b l r lane (lent - 1) me'
  pass_took w at some_out few is same = let lends = is_pass.seat.lends in let all = times_all me.0.base me.0.lent lends.here in let some_times = counted_some lent (length me.0.lent) some_out lends.count in
      answers_for (lent - 1) (without w.base me.0.lent) is same record {
        count = subst (λ (z : ℕ). IsCount (lent - 1) (length (without z me.0.lent))) (sym at) (count_less lent (length me.0.lent) (length (without me.0.base me.0.lent)) some_out few (length_less me.0.base me.0.lent (omega arith)) lends.count);
        few = omega arith;
        here = λ c has. lends.here c (lists_without c w.base me.0.lent has);
      }

  -- it does not take back one of another part, or where none is counted, or too many are
  pub pass_refuses : (w : SeatView) → (w.base ≡ me.0.base → (lent ≡ 0) ⊎ (lent ≡ 2 ^ 32 - 1)) → IsNotTaken me.0 w
  pass_refuses w which = let lends = is_pass.seat.lends in ⊎_elim
      (λ (here : w.base ≡ me.0.base). let all : times_in w.base me.0.lent ≡ length me.0.lent = times_all w.base me.0.lent (λ c has. lends.here c has ∙ sym here) in ⊎_elim
      (λ (none : lent ≡ 0). inl (λ has. let zero_times = counted_none lent (length me.0.lent) none lends.count in let some_times = times_has w.base me.0.lent has.0 has.1 in absurd (omega arith)))
      (λ most. inr (⊎_elim (λ is. let goal : 2 ^ 32 - 1 ≤ times_in w.base me.0.lent = omega arith in goal) (λ is. let many = is.1 in let goal : 2 ^ 32 - 1 ≤ times_in w.base me.0.lent = omega arith in goal) lends.count)) (which here))
      (λ ne. inl (λ has. ne (lends.here w.base has))) (cases_eq w.base me.0.base)

-- ---- a reader

module _ (face : ℕ → ℕ → List (ℕ × ℕ) → List ℕ) (a a' : TableId) (b : ℕ) (me me' : Sat) where
  -- one that loaded a word of a record
  pub reader_looked : IsReaderSeat face a b me → a' ≡ a → (taken : StepTaken) → me'.0 ≡ stepping me.0 taken → me'.1 ≡ [] → IsReaderSeat face a' b me'
  reader_looked seat one taken is empty = subst (λ (z : TableId × Sat). IsReaderSeat face z.0 b z.1) (λ i. (sym one i, (sym is i, sym empty i))) record {
    placed = placed_on a b me.0 (stepping me.0 taken) seat.placed refl refl;
    live = seat.live;
    no_slot = refl;
    reads = seat.reads;
    no_lane = seat.no_lane;
    follows = seat.follows;
    keeps_records = seat.keeps_records;
    knows = book_as face me.0 refl refl refl seat.knows;
  }
