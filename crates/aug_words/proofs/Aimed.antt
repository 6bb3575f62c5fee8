-- A lead that aims at a part, as `Draft::aim` tells it, and lays the next opening out there.
use Rattle.std.proofs.Common.{◌≡◌, ◌≢◌, ◌⊎◌, ℕ, ◌+◌, ◌*◌, ◌^◌, ◌<◌, ◌≤◌, List, get_or, length, sym, ap, ◌∙◌, subst, [], arith, inl, inr, refl, ⊎_elim}
use Rattle.aug_core.proofs.Fits.{book_as}
use Rattle.atomic_table.specs.Seated.{TableId}
use Rattle.aug_core.specs.Addresses.{root_place, level_of, place_on}
use Rattle.aug_core.specs.Effects.{Sat}
use Rattle.aug_core.specs.Places.{Shape, word_count, record_start}
use Rattle.aug_core.specs.inside.ClearParts.{IsClearPart, IsClear}
use Rattle.aug_core.specs.declared.view.SeatView.{SeatView}
use Rattle.aug_words.specs.declared.parts.Parts.{Parts}
use Rattle.aug_words.specs.inside.Laying.{ChangesPart, FreesLanes, IsDraft, IsLaidAs, SharesRecords, StepsBeside, words_in, MayBring, NamesEntry, ShownBelow, Brings}
use Rattle.aug_words.specs.inside.SeatState.{IsLead, IsLeadSeat, IsPlaced}
use Rattle.aug_words.proofs.Aims.{lead_aimed, lead_clear}
use Rattle.aug_words.proofs.Reopens.{Renews}
use Rattle.aug_core.proofs.Levels.{level_is, root_word}

-- it lays that part out, where nobody reads if none is counted there
pub record Aimed (f : ℕ → ℕ → List (ℕ × ℕ) → List ℕ) (a : TableId) (b next root other : ℕ) (shown : List ℕ) (p : Parts) (me : Sat) (s : Shape) (out : List ℕ) : Type 0 where
  pub shape : me.0.shape ≡ s
  pub wide : 2 ^ s.bits ≤ s.members
  pub room : 2 ^ me.0.shape.bits ≤ me.0.shape.members
  pub keeps : me.0.shape.reservations ≡ 0
  pub lead : IsLead f a b next root other shown p me
  pub clear : get_or out p.next 0 ≡ 0 → IsClearPart (word_count me.0.shape) me.0.lent other

pub aimed : (f : ℕ → ℕ → List (ℕ × ℕ) → List ℕ) (a : TableId) (b next root was : ℕ) (noted : List ℕ) (p : Parts) (me : Sat)
    → IsLead f a b next root was noted p me → (s : Shape) → me.0.shape ≡ s → 2 ^ s.bits ≤ s.members → s.reservations ≡ 0 → (n : ℕ) → n ≡ word_count s
    → (p' : Parts) (other : ℕ) (shown : List ℕ) → p'.own ≡ p.own → p'.out.items ≡ p.out.items
    → (p'.next < length p.out.items) × (p'.next ≢ p.own) → (p'.next ≡ p.next → (other ≡ was) × (shown ≡ noted))
    → (p'.next ≢ p.next → (other ≡ p'.next * n) × (length shown ≡ length noted) × ((slot : ℕ) → get_or shown slot 0 ≡ 0))
    → Aimed f a b next root other shown p' me s p.out.items
aimed f a b next root was noted p me given s shape wide off n sized p' other shown own out where_next same turned =
    let room : 2 ^ me.0.shape.bits ≤ me.0.shape.members = subst (λ (z : Shape). 2 ^ z.bits ≤ z.members) (sym shape) wide in
    let there : p'.next ≢ p.next → (other ≡ p'.next * word_count me.0.shape) × (length shown ≡ length noted) × ((slot : ℕ) → get_or shown slot 0 ≡ 0) =
    λ ne. let t = turned ne in (t.0 ∙ ap (λ (z : ℕ). p'.next * z) (sized ∙ ap word_count (sym shape)), t.1, t.2) in record {
      shape = shape;
      wide = wide;
      room = room;
      keeps = ap (λ (z : Shape). z.reservations) shape ∙ off;
      lead = lead_aimed f a b next root was noted p me given p' other shown own out where_next same there;
      clear = λ free. lead_clear f a b next root was noted p me given p' other shown own out where_next same there room free;
    }

-- ---- what a lead may do that aims so

-- a word of a part where nobody reads
clear_place : (size base place : ℕ) (lent : List ℕ) → IsClearPart size lent base → place < size → IsClear size lent (base + place)
clear_place size base place lent clear small b has = ⊎_elim (λ low. inr (omega (arith, low))) (λ high. inl (omega (arith, high, small))) (clear b has)

module _ {f : ℕ → ℕ → List (ℕ × ℕ) → List ℕ} {a : TableId} {b next root other : ℕ} {shown : List ℕ} {p : Parts} {me : Sat} {s : Shape} {out : List ℕ} (aims : Aimed f a b next root other shown p me s out) where
  seated : IsLeadSeat f next root me
  seated = aims.lead.1

  placed : IsPlaced a b me.0
  placed = aims.lead.0

  draft : IsDraft f a other shown me.0
  draft = aims.lead.3 aims.room

  -- it may lay that part out, where nobody reads
  pub aimed_may : (t : TableId) (records : ℕ) → get_or out p.next 0 ≡ 0 → a ≡ t → records ≡ b + record_start s 0 → MayBring f a t records other s me
  aimed_may t records free one begins = subst (λ (z : Shape). MayBring f a t records other z me) aims.shape record {
    may = record {
      seated = one;
      no_slot = seated.no_slot;
      long = aims.lead.2 ∙ ap (λ (z : TableId). z.words) one;
      inside = subst (λ (z : TableId). other + word_count me.0.shape ≤ z.words) one draft.inside;
      few = subst (λ (z : TableId). z.words < 2 ^ 60) one placed.few;
      leads = record { next = next; leads = seated.hands_out; live = seated.live; apart = draft.apart; clear = λ place small. clear_place (word_count me.0.shape) other place me.0.lent (aims.clear free) small };
    };
    shaped = refl;
    wide = subst (λ (z : TableId). me.0.base + word_count me.0.shape ≤ z.words) one placed.wide;
    records_are = begins ∙ (λ i. placed.base_is i + record_start (sym aims.shape i) 0);
    keeps_records = aims.keeps;
    knows = seated.knows;
    room = aims.room;
  }

  module _ {top : ℕ} (at : top ≡ root_place s) where
    level : level_of s top ≡ s.bits
    level = ap (level_of s) at ∙ (level_is s (root_place s) s.bits 0 (root_word s)).0

    place : place_on s top ≡ 0
    place = ap (place_on s) at ∙ (level_is s (root_place s) s.bits 0 (root_word s)).1

    -- from the root's newest record on
    pub aimed_named : NamesEntry me.0.seen top root
    aimed_named = let n = seated.names_root in
        subst (λ (z : ℕ). NamesEntry me.0.seen z root) (sym (at ∙ ap root_place (sym aims.shape))) record { index = n.index; entry = n.entry; at = n.newest.at; named = sym n.named }

    pub aimed_below : ShownBelow f s me.0.seen (words_in other s me.0) shown (level_of s top) (place_on s top)
    aimed_below = subst (λ (z : ℕ × ℕ). ShownBelow f s me.0.seen (words_in other s me.0) shown z.0 z.1) (λ i. (sym level i, sym place i))
        (subst (λ (z : Shape). ShownBelow f z me.0.seen (words_in other z me.0) shown z.bits 0) aims.shape draft.below)

    -- and is a lead that has done so
    pub aimed_brought : (a' : TableId) (noted : List ℕ) (me' : Sat) → a' ≡ a → me'.1 ≡ [] → StepsBeside other s me.0 me'.0
        → Brings f s me.0.seen (level_of s top) (place_on s top) (words_in other s me.0) (words_in other s me'.0) shown noted → IsLead f a' b next root other noted p me'
    aimed_brought a' noted me' one empty steps brings =
        let whole = subst (λ (z : ℕ × ℕ). ShownBelow f s me.0.seen (words_in other s me'.0) noted z.0 z.1) (λ i. (level i, place i)) brings.below in
        let w : SeatView = record me.0 { whole = me'.0.whole; steps = me'.0.steps } in
        let seat : IsLeadSeat f next root (w, []) = record {
          live = seated.live;
          no_slot = refl;
          hands_out = seated.hands_out;
          knows = book_as f me.0 refl refl refl seated.knows;
          names_root = let n = seated.names_root in record { index = n.index; entry = n.entry; newest = n.newest; named = n.named };
        } in
        let still : IsLead f a b next root other noted p (w, []) = (
          record { base_is = placed.base_is; wide = placed.wide; few = placed.few; part = placed.part; starts = placed.starts },
          seat,
          sym steps.beside.long ∙ aims.lead.2,
          (λ _. record {
            inside = draft.inside;
            apart = draft.apart;
            noted = brings.noted ∙ draft.noted;
            below = subst (λ (z : Shape). ShownBelow f z me.0.seen (words_in other z me'.0) noted z.bits 0) (sym aims.shape) whole;
          }),
          aims.lead.4,
        ) in subst (λ (z : TableId × SeatView × List (ℕ × Unit {0})). IsLead f z.0 b next root other noted p (z.1, z.2)) (λ i. (sym one i, sym steps.view_is i, sym empty i)) still

    -- what is stored there renews the table
    pub aimed_renews : {v1 v2 v3 : SeatView} {base : ℕ} → base ≡ other → StepsBeside other s me.0 v1 → IsLaidAs f s me.0.seen top root (words_in other s v1)
        → ChangesPart base s v1 v2 → SharesRecords f s s.bits (words_in base s v1) (words_in base s v2) → ChangesPart base s v2 v3
        → FreesLanes s s.workers (words_in base s v2) (words_in base s v3) → Renews f other root me.0 v1 v2 v3 me.0.shape
    aimed_renews {v1} {v2} {v3} same brought laid shared shares freed frees = subst (Renews f other root me.0 v1 v2 v3) (sym aims.shape) record {
      room = aims.wide;
      brought = brought;
      laid = subst (λ (z : ℕ). IsLaidAs f s me.0.seen z root (words_in other s v1)) at laid;
      shared = subst (λ (z : ℕ). ChangesPart z s v1 v2) same shared;
      shares = subst (λ (z : ℕ). SharesRecords f s s.bits (words_in z s v1) (words_in z s v2)) same shares;
      freed = subst (λ (z : ℕ). ChangesPart z s v2 v3) same freed;
      frees = subst (λ (z : ℕ). FreesLanes s s.workers (words_in z s v2) (words_in z s v3)) same frees;
      apart = subst (λ (z : Shape). (other + word_count z ≤ me.0.base) ⊎ (me.0.base + word_count z ≤ other)) aims.shape draft.apart;
      inside = subst (λ (z : ℕ × Shape). other + word_count z.1 ≤ z.0) (λ i. (sym aims.lead.2 i, aims.shape i)) draft.inside;
    }
