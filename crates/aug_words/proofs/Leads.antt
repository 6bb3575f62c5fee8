-- The seat of a lead, and the table that it sits at.
use Rattle.std.proofs.Common.{◌≡◌, ℕ, ◌+◌, ◌^◌, ◌<◌, ◌≤◌, List, [], ◌++◌, ◌-◌, ◌*◌, length, map, min, set, get_or, All, Option, Some, option_map, sym, refl, ap, ◌∙◌, subst, arith, inl}
use Rattle.std.specs.Prelude.{unwrap_or}
use Rattle.aug_core.specs.Lanes.{lane_records, first_record, new_lane}
use Rattle.aug_core.specs.Addresses.{IsInner, root_place}
use Rattle.aug_core.specs.Places.{word_count}
use Rattle.aug_core.specs.Book.{Book, ArePrefixes, IsNewest, GoesOnFromBoth}
use Rattle.aug_core.specs.Pasts.{IsLearnt, learnt_of}
use Rattle.aug_core.specs.Learning.{learning}
use Rattle.aug_core.specs.Effects.{Sat, stepping, LoadsNode, handing_out, handed_out, taking, taking_back, in_state, own_lane_place, MayStore, MayChange}
use Rattle.aug_core.specs.declared.view.LaneState.TheVariants.{Taken}
use Rattle.aug_core.specs.declared.view.PastEra.{PastEra}
use Rattle.aug_core.specs.declared.step.StepTaken.{StepTaken}
use Rattle.aug_core.specs.declared.view.SeatView.{SeatView}
use Rattle.aug_core.proofs.PlaceLemmas.{keys-within}
use Rattle.aug_core.proofs.Sizes.{twice}
use Rattle.aug_core.proofs.Books.{goes_on_from_both}
use Rattle.aug_core.proofs.Clients.{new_pass_may_store, new_pass_may_change}
use Rattle.aug_core.proofs.Eras.{seen_now}
use Rattle.aug_core.proofs.Fits.{book_shown, book_as}
use Rattle.atomic_table.specs.Seated.{TableId}
use Rattle.aug_core.specs.Places.{Shape}
use Rattle.aug_core.specs.Opening.{Opening, opening_number, opening_entry}
use Rattle.aug_core.specs.declared.view.Entry.{Entry}
use Rattle.aug_core.specs.Layout.{IsLayout}
use Rattle.aug_core.proofs.Openings.{inner_history, opener, opener_knows}
use Rattle.aug_model.specs.Keys.{IsKeySet, keys_of}
use Rattle.aug_monoid.specs.Weighted.{FitsPair}
use mathlib.Core.Option.{some, some-ne-none}
use lib.ListN.{get_elem?}
use Rattle.aug_words.specs.Leads.{HandsLaneOut}
use Rattle.aug_words.specs.Notes.{LearnsNote}
use Rattle.aug_words.specs.declared.parts.Parts.{Parts}
use Rattle.aug_words.specs.inside.SeatState.{ArePartsOf, IsCount, HasPassSeat, IsPassSeat, IsLeadSeat, IsLead, IsStore}
use Rattle.aug_words.proofs.Counts.{parts_lent, parts_on, parts_taken, some_size}
use Rattle.aug_core.specs.Readers.{taking_reader, without}
use Rattle.aug_words.proofs.Lays.{drafts_on}
use Rattle.aug_words.proofs.Passes.{placed_on}
use Rattle.aug_core.proofs.PrefixLemmas.{book_refl}
use Rattle.aug_core.specs.declared.opening.TableKey.{TableKey}
use Rattle.aug_words.specs.Seats.{IsNextLane}

-- a table has a word
pub some_words : (table : TableId) (made : TableKey) (layout : Shape) (lanes records : ℕ) → IsStore table made layout lanes records → 0 < table.words
some_words table made layout lanes records store = let wide = store.wide in let workers = store.laid_out.workers.0 in omega arith

pub pass_has_words : (face : ℕ → ℕ → List (ℕ × ℕ) → List ℕ) (seat_table table : TableId) (base lanes records lane lent : ℕ) (me : Sat) → HasPassSeat face seat_table table base lanes records lane lent me → 0 < table.words
pass_has_words face seat_table table base lanes records lane lent me is_pass = let wide = is_pass.sits.placed.wide in let low = is_pass.seat.exists in omega arith

-- the root is an inner node
pub root_inner : (s : Shape) → 1 ≤ s.bits → s.bits ≤ 16 → IsInner s (root_place s)
root_inner s some_bits few = let b = (keys-within s.bits some_bits few).0 in let t = twice s.bits in record { past_leaves = omega arith; inside = omega arith }

-- the seat that opens a table, which has the number of the root's opening record
pub opening_seat : (face : ℕ → ℕ → List (ℕ × ℕ) → List ℕ) (o : Opening) (past : List PastEra) (era base : ℕ) (lent words whole : List ℕ) (number : ℕ) → IsLayout o.shape → IsKeySet o.shape.bits (keys_of o.members) → All FitsPair o.members → length (keys_of o.members) ≤ o.shape.members
    → number ≡ opening_number o (root_place o.shape) → IsLeadSeat face 0 number (opener face o past era base lent words whole, [])
opening_seat face o past era base lent words whole number laid_out set fit few named = let inner = root_inner o.shape laid_out.bits.0 laid_out.bits.1 in let only = inner_history face o (root_place o.shape) inner in record {
  live = refl;
  no_slot = refl;
  hands_out = refl;
  knows = opener_knows face o past era base lent words whole laid_out set fit few;
  names_root = record {
    index = 0;
    entry = opening_entry face o (root_place o.shape);
    newest = record { at = subst (λ (z : List Entry). get_elem? z 0 ≡ some (opening_entry face o (root_place o.shape))) (sym only) refl; last = ap (λ (z : List Entry). length z) only };
    named = named;
  };
}

module _ (face : ℕ → ℕ → List (ℕ × ℕ) → List ℕ) (a a' : TableId) (b next root other : ℕ) (shown : List ℕ) (parts : Parts) (me me' : Sat) (lead : IsLead face a b next root other shown parts me) (one : a' ≡ a) where
  seat : IsLeadSeat face next root me
  seat = lead.1

  -- a lead that works where it did, and counts its readers so
  works_by : (next' root' : ℕ) (parts' : Parts) → me'.0.shape ≡ me.0.shape → me'.0.base ≡ me.0.base → me'.0.whole ≡ me.0.whole → ArePartsOf a parts' b other me.0.shape me'.0.lent → ArePrefixes me.0.seen me'.0.seen → IsLeadSeat face next' root' me' → IsLead face a' b next' root' other shown parts' me'
  works_by next' root' parts' shape base whole are grows is = subst (λ (z : TableId). IsLead face z b next' root' other shown parts' me') (sym one)
      (placed_on a b me.0 me'.0 lead.0 shape base, is, ap (λ (z : List ℕ). length z) whole ∙ lead.2, drafts_on face a a other shown me.0 me'.0 refl shape base whole seat.knows.book grows lead.3, parts_on a a parts' b other me.0.shape me'.0.shape me'.0.lent me'.0.lent are refl shape refl)

  -- the same ones
  works_there : (next' root' : ℕ) → me'.0.shape ≡ me.0.shape → me'.0.base ≡ me.0.base → me'.0.whole ≡ me.0.whole → me'.0.lent ≡ me.0.lent → ArePrefixes me.0.seen me'.0.seen → IsLeadSeat face next' root' me' → IsLead face a' b next' root' other shown parts me'
  works_there next' root' shape base whole lent grows is = works_by next' root' parts shape base whole (parts_on a a parts b other me.0.shape me.0.shape me.0.lent me'.0.lent lead.4 refl refl lent) grows is

  -- one that has seen no more
  works_still : (next' root' : ℕ) → me'.0.shape ≡ me.0.shape → me'.0.base ≡ me.0.base → me'.0.whole ≡ me.0.whole → me'.0.lent ≡ me.0.lent → me'.0.seen ≡ me.0.seen → IsLeadSeat face next' root' me' → IsLead face a' b next' root' other shown parts me'
  works_still next' root' shape base whole lent seen is = works_there next' root' shape base whole lent (subst (ArePrefixes me.0.seen) (sym seen) (book_refl me.0.seen)) is

  -- a lead that loaded the root's word
  pub lead_loaded : (found : ℕ) → me'.1 ≡ [] → LoadsNode face me.0 (root_place me.0.shape) found me'.0 → IsLead face a' b next found other shown parts me'
  lead_loaded found empty did = let is = did.stepped in works_there next found (ap (λ (z : SeatView). z.shape) is) (ap (λ (z : SeatView). z.base) is) (ap (λ (z : SeatView). z.whole) is) (ap (λ (z : SeatView). z.lent) is) did.sees.later record {
    live = ap (λ (z : SeatView). z.live) is ∙ seat.live;
    no_slot = empty;
    hands_out = ap (λ (z : SeatView). z.spare) is ∙ seat.hands_out;
    knows = book_shown face me.0 me'.0 seat.knows did.sees (ap (λ (z : SeatView). z.shape) is) (ap (λ (z : SeatView). z.members) is);
    names_root = record {
      index = did.index;
      entry = did.entry;
      newest = subst (λ (z : Shape). IsNewest me'.0.seen (root_place z) did.index did.entry) (sym (ap (λ (z : SeatView). z.shape) is)) did.newest;
      named = did.found;
    };
  }

  -- one that loaded a word of a record
  pub lead_looked : (taken : StepTaken) → me'.0 ≡ stepping me.0 taken → me'.1 ≡ [] → IsLead face a' b next root other shown parts me'
  lead_looked taken is empty = works_still next root (ap (λ (z : SeatView). z.shape) is) (ap (λ (z : SeatView). z.base) is) (ap (λ (z : SeatView). z.whole) is) (ap (λ (z : SeatView). z.lent) is) (ap (λ (z : SeatView). z.seen) is) (subst (IsLeadSeat face next root) (λ i. (sym is i, sym empty i)) record {
    live = seat.live;
    no_slot = refl;
    hands_out = seat.hands_out;
    knows = book_as face me.0 refl refl refl seat.knows;
    names_root = let at = seat.names_root in record { index = at.index; entry = at.entry; newest = at.newest; named = at.named };
  })

  -- one that handed a lane out
  pub lead_handed : me'.0 ≡ handing_out me.0 → me'.1 ≡ me.1 → IsLead face a' b (next + 1) root other shown parts me'
  lead_handed is same = works_still (next + 1) root (ap (λ (z : SeatView). z.shape) is) (ap (λ (z : SeatView). z.base) is) (ap (λ (z : SeatView). z.whole) is) (ap (λ (z : SeatView). z.lent) is) (ap (λ (z : SeatView). z.seen) is) (subst (IsLeadSeat face (next + 1) root) (λ i. (sym is i, sym same i)) record {
    live = seat.live;
    no_slot = seat.no_slot;
    hands_out = ap (option_map (λ n. n + 1)) seat.hands_out;
    knows = book_as face me.0 refl refl refl seat.knows;
    names_root = let at = seat.names_root in record { index = at.index; entry = at.entry; newest = at.newest; named = at.named };
  })

  -- one that took a pass in, and counted the readers that this had lent
  pub lead_joined : (w : SeatView) (n : ℕ) (parts' : Parts) → IsCount n (length w.lent) → parts'.own ≡ parts.own → parts'.next ≡ parts.next → parts'.out.items ≡ set parts.out.items parts.own (min (get_or parts.out.items parts.own 0 + n) (2 ^ 32 - 1)) → me'.0 ≡ taking_back me.0 w → me'.1 ≡ me.1 → IsLead face a' b next root other shown parts' me'
  lead_joined w n parts' count own next' out is same = let workers = seat.knows.laid_out.workers.0 in
      let lent : me'.0.lent ≡ me.0.lent ++ map (λ _. b) w.lent = ap (λ (z : SeatView). z.lent) is ∙ ap (λ (z : ℕ). me.0.lent ++ map (λ _. z) w.lent) (sym lead.0.base_is) in
      works_by next root parts' (ap (λ (z : SeatView). z.shape) is) (ap (λ (z : SeatView). z.base) is) (ap (λ (z : SeatView). z.whole) is) (subst (ArePartsOf a parts' b other me.0.shape) (sym lent) (parts_lent a parts b other me.0.shape me.0.lent (some_size me.0.shape workers) lead.4 parts' w.lent n count own next' out))
      (subst (ArePrefixes me.0.seen) (sym (ap (λ (z : SeatView). z.seen) is)) (book_refl me.0.seen)) (subst (IsLeadSeat face next root) (λ i. (sym is i, sym same i)) record {
        live = seat.live;
        no_slot = seat.no_slot;
        hands_out = seat.hands_out;
        knows = book_as face me.0 refl refl refl seat.knows;
        names_root = let at = seat.names_root in record { index = at.index; entry = at.entry; newest = at.newest; named = at.named };
      })

  -- one that took a reader back
  pub lead_took : (w : SeatView) (part : ℕ) (parts' : Parts) → part < length parts.out.items → w.base ≡ part * word_count me.0.shape → 0 < get_or parts.out.items part 0 → get_or parts.out.items part 0 < 2 ^ 32 - 1 → parts'.own ≡ parts.own → parts'.next ≡ parts.next
      → parts'.out.items ≡ set parts.out.items part (get_or parts.out.items part 0 - 1) → me'.0 ≡ taking_reader me.0 w → me'.1 ≡ me.1 → IsLead face a' b next root other shown parts' me'
  lead_took w part parts' inside at some_out few own next' out is same = let workers = seat.knows.laid_out.workers.0 in
      let lent : me'.0.lent ≡ without (part * word_count me.0.shape) me.0.lent = ap (λ (z : SeatView). z.lent) is ∙ ap (λ (z : ℕ). without z me.0.lent) at in
      works_by next root parts' (ap (λ (z : SeatView). z.shape) is) (ap (λ (z : SeatView). z.base) is) (ap (λ (z : SeatView). z.whole) is) (subst (ArePartsOf a parts' b other me.0.shape) (sym lent) (parts_taken a parts b other me.0.shape me.0.lent (some_size me.0.shape workers) lead.4 parts' part inside some_out few own next' out))
      (subst (ArePrefixes me.0.seen) (sym (ap (λ (z : SeatView). z.seen) is)) (book_refl me.0.seen)) (subst (IsLeadSeat face next root) (λ i. (sym is i, sym same i)) record {
        live = seat.live;
        no_slot = seat.no_slot;
        hands_out = seat.hands_out;
        knows = book_as face me.0 refl refl refl seat.knows;
        names_root = let at = seat.names_root in record { index = at.index; entry = at.entry; newest = at.newest; named = at.named };
      })

  -- one that took in a note
  pub lead_learnt : (w : SeatView) → me'.0 ≡ learning me.0 w → me'.1 ≡ me.1 → IsLead face a' b next root other shown parts me'
  lead_learnt w is same = works_still next root (ap (λ (z : SeatView). z.shape) is) (ap (λ (z : SeatView). z.base) is) (ap (λ (z : SeatView). z.whole) is) (ap (λ (z : SeatView). z.lent) is) (ap (λ (z : SeatView). z.seen) is) (subst (IsLeadSeat face next root) (λ i. (sym is i, sym same i)) record {
    live = seat.live;
    no_slot = seat.no_slot;
    hands_out = seat.hands_out;
    knows = book_as face me.0 refl refl refl seat.knows;
    names_root = let at = seat.names_root in record { index = at.index; entry = at.entry; newest = at.newest; named = at.named };
  })

-- a lead that may hand a lane out may do so after it loaded a node
pub may_hand_out : (face : ℕ → ℕ → List (ℕ × ℕ) → List ℕ) (old new : SeatView) (q found lane next : ℕ) → LoadsNode face old q found new → IsNextLane old lane → new.spare ≡ Some next → next < new.shape.workers
may_hand_out face old new q found lane next did room spare =
    let same : Some next ≡ Some lane = sym spare ∙ ap (λ (z : SeatView). z.spare) did.stepped ∙ room.next in let one : next ≡ lane = cc same in
    let shaped = ap (λ (z : SeatView). z.shape) did.stepped in subst (λ (z : Shape). next < z.workers) (sym shaped) (let low = room.exists in omega arith)

-- the seat that was split off a lead's, once it took its lane
pub new_pass : (face : ℕ → ℕ → List (ℕ × ℕ) → List ℕ) (next root place : ℕ) (lead me : Sat) → IsLeadSeat face next root lead → next < lead.0.shape.workers → me.1 ≡ [] → me.0 ≡ taking (handed_out lead.0) place → IsPassSeat face next 0 me
new_pass face next root place lead me seat low empty is =
    let which : unwrap_or lead.0.spare 0 ≡ next = ap (λ (z : Option ℕ). unwrap_or z 0) seat.hands_out in
    subst (IsPassSeat face next 0) (λ i. (sym is i, sym empty i)) record {
      live = seat.live;
      no_slot = refl;
      held = in_state Taken (new_lane lead.0.shape lead.0.words (unwrap_or lead.0.spare 0));
      only = refl;
      named = which;
      taken = refl;
      exists = low;
      follows = refl;
      lends = record { count = inl refl; few = omega arith; here = λ b has. absurd (some-ne-none b (sym has.1)) };
      knows = book_as face lead.0 refl refl refl seat.knows;
    }

-- what is known once a note was taken in and the root was loaded
pub learnt_note : (face : ℕ → ℕ → List (ℕ × ℕ) → List ℕ) (v note w : SeatView) (found : ℕ) → LoadsNode face (learning v note) (root_place v.shape) found w
    → IsLearnt v.shape v.era v.past v.members (learnt_of note) → LearnsNote face v note found w
learnt_note face v note w found did told = record {
  loaded = did;
  told = told;
  of_both = λ e. goes_on_from_both w.seen v.seen note.seen did.sees.later (subst (λ (z : SeatView). ArePrefixes z.seen w.seen) (seen_now v.era note e) did.sees.also_later);
}

-- what the lead knows once it took a pass back and loaded the root
pub took_back : (face : ℕ → ℕ → List (ℕ × ℕ) → List ℕ) (v w u x : SeatView) (q found : ℕ) → LoadsNode face (taking_back v w) q found u → w.seen ≡ x.seen → GoesOnFromBoth v.seen x.seen u.seen
took_back face v w u x q found did same = goes_on_from_both u.seen v.seen x.seen did.sees.later (subst (λ (z : Book). ArePrefixes z u.seen) same did.sees.also_later)

-- a lane that is handed out leaves how the table is laid out, and the next one is the next
module _ (face : ℕ → ℕ → List (ℕ × ℕ) → List ℕ) (lead after pass : SeatView) (h : HandsLaneOut face lead after pass) where
  pub lead_shape : after.shape ≡ lead.shape
  lead_shape = ap (λ (z : SeatView). z.shape) h.lead_is ∙ ap (λ (z : SeatView). z.shape) h.loaded.stepped

  pub pass_shape : pass.shape ≡ lead.shape
  pass_shape = ap (λ (z : SeatView). z.shape) h.pass_is ∙ ap (λ (z : SeatView). z.shape) h.loaded.stepped

  pub next_spare : (lane : ℕ) → lead.spare ≡ Some lane → after.spare ≡ Some (lane + 1)
  next_spare lane spare = ap (λ (z : SeatView). z.spare) h.lead_is ∙ ap (λ (z : SeatView). option_map (λ n. n + 1) z.spare) h.loaded.stepped ∙ ap (option_map (λ n. n + 1)) spare

  -- and the new pass may store the records of its lane, and make a change
  pub pass_may_store : (lane k : ℕ) → IsNextLane lead lane → k < lane_records lead.shape → MayStore pass (first_record lead.shape lane + k)
  pass_may_store lane k next low = let same : lead.shape ≡ h.between.shape = sym (ap (λ (z : SeatView). z.shape) h.loaded.stepped) in
      subst (λ (z : Shape). MayStore pass (first_record z lane + k)) (sym same) (new_pass_may_store h.between pass (own_lane_place (handed_out h.between)) lane k (ap (λ (z : SeatView). z.spare) h.loaded.stepped ∙ next.next)
      (subst (λ (z : Shape). lane < z.workers) same next.exists) (subst (λ (z : Shape). k < lane_records z) same low) h.pass_is)

  pub pass_may_change : 0 < lead.shape.updates → MayChange pass
  pass_may_change room = new_pass_may_change h.between pass (own_lane_place (handed_out h.between)) (subst (λ (z : Shape). 0 < z.updates) (sym (ap (λ (z : SeatView). z.shape) h.loaded.stepped)) room) h.pass_is
