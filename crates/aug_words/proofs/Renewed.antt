-- The lead of a table that was opened again, over plain values.
use Rattle.std.proofs.Common.{◌≡◌, ℕ, ◌+◌, ◌*◌, ◌^◌, ◌≤◌, ◌⊎◌, ⊎_elim, inl, inr, List, [], length, get_or, refl, sym, ap, ◌∙◌, subst}
use Rattle.atomic_table.specs.Seated.{TableId}
use Rattle.aug_core.specs.Addresses.{root_place}
use Rattle.aug_core.specs.Cuts.{pairs_of_cut}
use Rattle.aug_core.specs.Effects.{Sat}
use Rattle.aug_core.specs.Effects.{KnowsBook}
use Rattle.aug_core.specs.Eras.{opening_with}
use Rattle.aug_core.specs.Layout.{IsLayout}
use Rattle.aug_core.specs.Opening.{Opening, opening_number}
use Rattle.aug_core.specs.Places.{Shape, word_count}
use Rattle.aug_core.specs.Renewals.{IsOpened, Reopens, renewing}
use Rattle.aug_core.specs.inside.RootCuts.{root_cut}
use Rattle.aug_core.specs.declared.view.SeatView.{SeatView}
use Rattle.aug_core.proofs.Openings.{opener}
use Rattle.aug_words.specs.declared.parts.Parts.{Parts}
use Rattle.aug_core.specs.inside.OwnNumbers.{own_number}
use Rattle.aug_words.specs.inside.Laying.{IsDraft, words_in}
use Rattle.aug_words.specs.inside.SeatState.{ArePartsOf, IsLead, IsLeadSeat, IsPlaced}
use Rattle.aug_words.proofs.Aimed.{Aimed}
use Rattle.aug_core.proofs.Below.{room_number}
use Rattle.aug_words.proofs.Counts.{parts_on, parts_swapped, some_size}
use Rattle.aug_words.proofs.Leads.{opening_seat, root_inner}
use Rattle.aug_words.proofs.Reopens.{lent_there, none_below, opened_by, opened_here, Renews, shape_there, whole_there, opens_again}
use Rattle.aug_words.specs.Seats.{NamesRoot}
use Rattle.aug_words.specs.Rests.{OpensAgain}

module _ {f : ℕ → ℕ → List (ℕ × ℕ) → List ℕ} {a : TableId} {base next root other : ℕ} {shown : List ℕ} {parts : Parts} {me : Sat} {s : Shape} {out : List ℕ} (aims : Aimed f a base next root other shown parts me s out)
    {v1 v2 v3 : SeatView} (here : Renews f other root me.0 v1 v2 v3 me.0.shape) (me' : Sat) {other' : ℕ} (same : other' ≡ other)
    (reopens : (members : List (ℕ × ℕ)) → IsOpened f (opening_with v3.shape members) (words_in other' v3.shape v3) → Reopens f members other' v3 me'.0) where
  lead : IsLead f a base next root other shown parts me
  lead = aims.lead

  known : KnowsBook f me.0
  known = lead.1.knows

  names : NamesRoot me.0 root
  names = lead.1.names_root

  abbrev members : List (ℕ × ℕ)
  members = pairs_of_cut (root_cut me.0.shape me.0.seen names.index)

  again : Reopens f members other v3 me'.0
  again = subst (λ (z : ℕ). Reopens f members z v3 me'.0) same
      (reopens members (subst (λ (z : ℕ). IsOpened f (opening_with v3.shape members) (words_in z v3.shape v3)) (sym same) (opened_by aims.keeps known names here)))

  abbrev idle : SeatView
  idle = renewing again.last again.whole

  idle_shape : idle.shape ≡ me.0.shape
  idle_shape = shape_there aims.keeps known names here again

  -- its view has the table's shape
  pub renewed_shape : me'.0.shape ≡ s
  renewed_shape = ap (λ (z : SeatView). z.shape) again.stepped ∙ idle_shape ∙ aims.shape

  pub renewed_opens : OpensAgain f me.0 me'.0
  renewed_opens = opens_again aims.keeps known names here again

  module _ {number top : ℕ} (at : top ≡ root_place s) (numbered : number ≡ own_number s top) where
    idle_layout : IsLayout idle.shape
    idle_layout = subst IsLayout (sym idle_shape) lead.1.knows.laid_out

    idle_room : 2 ^ idle.shape.bits ≤ idle.shape.members
    idle_room = subst (λ (z : Shape). 2 ^ z.bits ≤ z.members) (sym idle_shape) aims.room

    abbrev o : Opening
    o = opening_with idle.shape members

    named : number ≡ opening_number o (root_place idle.shape)
    named = let shape = sym (idle_shape ∙ aims.shape) in numbered ∙ (λ i. own_number (shape i) (at i)) ∙ ap (λ (z : Shape). own_number idle.shape (root_place z)) shape
        ∙ sym (room_number o idle_room (root_place idle.shape) (root_inner idle.shape idle_layout.bits.0 idle_layout.bits.1))

    abbrev first : SeatView
    first = opener f o idle.past idle.era other idle.lent (words_in other idle.shape idle) idle.whole

    opened : IsOpened f o (words_in other me.0.shape v3)
    opened = subst (λ (z : Shape). IsOpened f (opening_with z members) (words_in other me.0.shape v3)) (sym idle_shape) (opened_here aims.keeps known names here)

    seat : IsLeadSeat f 0 number (first, [])
    seat = opening_seat f o idle.past idle.era other idle.lent (words_in other idle.shape idle) idle.whole number idle_layout opened.key_set
        opened.members_fit opened.few named

    draft : IsDraft f a other shown me.0
    draft = lead.3 aims.room

    placed : IsPlaced a other first
    placed = record {
      base_is = refl;
      wide = subst (λ (z : Shape). other + word_count z ≤ a.words) (sym idle_shape) draft.inside;
      few = lead.0.few;
      part = parts.next;
      starts = (lead.4.next aims.room).2 ∙ ap (λ (z : Shape). parts.next * word_count z) (sym idle_shape);
    }

    -- the part that was at work is laid out next, and nothing of it is yet
    pub lead_renewed : {a' : TableId} {base' : ℕ} {shown' : List ℕ} {parts' : Parts} → a' ≡ a → me'.1 ≡ [] → base' ≡ base → length shown' ≡ length shown
        → ((slot : ℕ) → get_or shown' slot 0 ≡ 0)
        → parts'.own ≡ parts.next → parts'.next ≡ parts.own → parts'.out.items ≡ parts.out.items → IsLead f a' other' 0 number base' shown' parts' me'
    lead_renewed {a'} {base'} {shown'} {parts'} one empty turned long none own next' out =
        let begins : base' ≡ me.0.base = turned ∙ lead.0.base_is in
        let drafts : IsDraft f a base' shown' first = record {
          inside = subst (λ (z : ℕ × Shape). z.0 + word_count z.1 ≤ a.words) (λ i. (sym begins i, sym idle_shape i)) lead.0.wide;
          apart = subst (λ (z : ℕ × Shape). (z.0 + word_count z.1 ≤ other) ⊎ (other + word_count z.1 ≤ z.0)) (λ i. (sym begins i, sym idle_shape i)) (⊎_elim
              (λ below. inr below) (λ above. inl above) draft.apart);
          noted = long ∙ draft.noted ∙ ap (λ (z : Shape). 2 ^ z.bits) (sym idle_shape);
          below = none_below f first (words_in base' first.shape first) shown' none;
        } in
        let lent : idle.lent ≡ me.0.lent = lent_there aims.keeps known names here again in
        let was : ArePartsOf a parts' other base idle.shape idle.lent = parts_on a a parts' other base me.0.shape idle.shape me.0.lent idle.lent
        (parts_swapped a parts base other me.0.shape me.0.lent (some_size me.0.shape lead.1.knows.laid_out.workers.0) lead.4 parts' aims.room own next' out) refl
        idle_shape lent in
        let swapped = subst (λ (z : ℕ). ArePartsOf a parts' other z idle.shape idle.lent) (sym turned) was in
        let wide : length idle.whole ≡ a.words = whole_there aims.keeps known names here again ∙ lead.2 in
        let all : IsLead f a other 0 number base' shown' parts' (first, []) = (placed, seat, wide, (λ _. drafts), swapped) in
        subst (λ (z : TableId × ℕ × SeatView × List (ℕ × Unit {0})). IsLead f z.0 z.1 0 number base' shown' parts' (z.2, z.3)) (λ i. (
          sym one i,
          sym same i,
          sym again.stepped i,
          sym empty i,
        )) all
