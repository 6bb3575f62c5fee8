-- A table is opened again in the part that was laid out beside the one at work.
use Rattle.std.proofs.Common.{◌≡◌, ℕ, ◌+◌, ◌-◌, ◌^◌, ◌<◌, ◌≤◌, ◌⊎◌, List, length, get_or, refl, sym, ap, ◌∙◌, subst, arith}
use Rattle.aug_core.specs.Addresses.{place_count, root_place, level_of, place_on}
use Rattle.aug_core.specs.Cuts.{Cut, pairs_of_cut}
use Rattle.aug_core.specs.Effects.{opening_of, KnowsBook}
use Rattle.aug_core.specs.Opening.{Opening}
use Rattle.aug_core.specs.Eras.{opening_with, table_part}
use Rattle.aug_core.specs.Places.{Shape, word_count}
use Rattle.aug_core.specs.Renewals.{EndWith, HoldsAll, IsOpened, Reopens, renewing, reopening}
use Rattle.aug_core.specs.inside.ClearParts.{IsClearPart}
use Rattle.aug_core.specs.inside.EntryCuts.{IsPartOfCut}
use Rattle.aug_core.specs.inside.RootCuts.{root_cut}
use Rattle.aug_core.specs.declared.view.SeatView.{SeatView}
use Rattle.aug_core.proofs.Books.{at_below}
use Rattle.aug_core.proofs.CutsUnder.{cut_long}
use Rattle.aug_core.proofs.EntryCuts.{root_part}
use Rattle.aug_core.proofs.Eras.{part_long}
use Rattle.aug_core.proofs.Levels.{level_is, root_word}
use Rattle.aug_words.specs.Rests.{OpensAgain}
use Rattle.aug_words.specs.Seats.{NamesRoot}
use Rattle.aug_words.specs.inside.Laying.{OpensOver, ChangesPart, FreesLanes, InChunk, IsLaidAs, SharesRecords, ShownBelow, StepsBeside, words_in}
use Rattle.aug_words.proofs.CutSets.{cut_light, cut_members, members_fit, root_pairs}
use Rattle.aug_core.proofs.Fits.{few_serials}
use Rattle.aug_core.proofs.Refreshing.{same_word}
use Rattle.aug_words.proofs.Leads.{root_inner}
use Rattle.aug_words.proofs.Lays.{beside_on, beside_stored, laid_opens, whole}

-- nothing is noted of a part
pub none_below : (f : ℕ → ℕ → List (ℕ × ℕ) → List ℕ) (v : SeatView) (words shown : List ℕ) → ((slot : ℕ) → get_or shown slot 0 ≡ 0) → ShownBelow f v.shape v.seen words shown v.shape.bits 0
none_below f v words shown none q number inner at noted = let blank = none (q - 2 ^ v.shape.bits) in absurd (omega (arith, blank, noted))

module _ (f : ℕ → ℕ → List (ℕ × ℕ) → List ℕ) (other root : ℕ) (v v1 v2 v3 : SeatView) where
  -- the next opening was laid out by a lead of this view
  pub record Renews (s : Shape) : Type 0 where
    pub room : 2 ^ s.bits ≤ s.members
    pub brought : StepsBeside other s v v1
    pub laid : IsLaidAs f s v.seen (root_place s) root (words_in other s v1)
    pub shared : ChangesPart other s v1 v2
    pub shares : SharesRecords f s s.bits (words_in other s v1) (words_in other s v2)
    pub freed : ChangesPart other s v2 v3
    pub frees : FreesLanes s s.workers (words_in other s v2) (words_in other s v3)
    pub apart : (other + word_count s ≤ v.base) ⊎ (v.base + word_count s ≤ other)
    pub inside : other + word_count s ≤ length v.whole

module _ {f : ℕ → ℕ → List (ℕ × ℕ) → List ℕ} {other root : ℕ} {v v1 v2 v3 : SeatView} (off : v.shape.reservations ≡ 0) (kn : KnowsBook f v) (n : NamesRoot v root) (r : Renews f other root v v1 v2 v3 v.shape) where
  abbrev s : Shape
  s = v.shape

  abbrev cut : Cut
  cut = root_cut s v.seen n.index

  abbrev members : List (ℕ × ℕ)
  members = pairs_of_cut cut

  steps : StepsBeside other s v v3
  steps = beside_on other s v v2 v3 (beside_on other s v v1 v2 r.brought (beside_stored other s v1 v2 r.shared)) (beside_stored other s v2 v3 r.freed)

  bits : root_place s < place_count s
  bits = (root_inner s kn.laid_out.bits.0 kn.laid_out.bits.1).inside

  -- all of it is as the set of the root's newest entry demands
  pub opened_here : IsOpened f (opening_with s members) (words_in other s v3)
  opened_here =
      let names = r.laid.names in
      let same : names.index ≡ n.index = same_word f s v.seen kn.book (kn.in_round off).0 (few_serials s v.seen kn.laid_out (kn.in_round off).1) (root_place s) names.index n.index names.entry n.entry bits names.at n.newest.at (names.named ∙ n.named) in
      let on = level_is s (root_place s) s.bits 0 (root_word s) in let has = at_below _ n.index n.entry n.newest.at in
      let part : IsPartOfCut s v.seen cut (level_of s (root_place s)) (place_on s (root_place s)) (root_place s) names.index =
      subst (λ (z : ℕ × ℕ × ℕ). IsPartOfCut s v.seen cut z.0 z.1 (root_place s) z.2) (λ i. (sym on.0 i, sym on.1 i, sym same i)) (root_part f s v.seen kn.book n.index has) in
      let long = cut_long s v.seen s.bits (root_place s) n.index in let few = kn.laid_out.bits.1 in let long1 = part_long other (word_count s) v1.whole (let e = r.brought.beside.long in let inside = r.inside in omega arith) in
      laid_opens f (opening_with s members) (words_in other s v1) (words_in other s v2) (words_in other s v3) off r.room (cut_members s.bits cut (omega arith)) (members_fit s.bits cut few (omega arith) (λ key low. cut_light f v n.index key kn low)) long1
      (λ q inside. r.laid.laid cut part q (subst (λ (z : ℕ × ℕ). InChunk s z.0 z.1 q) (λ i. (sym on.0 i, sym on.1 i)) (whole s q inside))) r.shares r.frees

  shaped : v3.shape ≡ s
  shaped = ap (λ (z : SeatView). z.shape) steps.view_is

  pub opened_by : IsOpened f (opening_with v3.shape members) (words_in other v3.shape v3)
  opened_by = subst (λ (z : Shape). IsOpened f (opening_with z members) (words_in other z v3)) (sym shaped) opened_here

  -- so that its lead may open it
  pub opens_over : (clear : IsClearPart (word_count v.shape) v.lent other) → OpensOver f other v3
  opens_over clear = let base = ap (λ (z : SeatView). z.base) steps.view_is in record {
    members = members;
    opened = opened_by;
    aside = subst (λ (z : ℕ × Shape). (other + word_count z.1 ≤ z.0) ⊎ (z.0 + word_count z.1 ≤ other)) (λ i. (sym base i, sym shaped i)) r.apart;
    inside = subst (λ (z : ℕ × Shape). other + word_count z.1 ≤ z.0) (λ i. (steps.beside.long i, sym shaped i)) r.inside;
    clear = subst (λ (z : Shape × List ℕ). IsClearPart (word_count z.0) z.1 other) (λ i. (sym shaped i, sym (ap (λ (z : SeatView). z.lent) steps.view_is) i)) clear;
  }

  pub still_all : HoldsAll v → HoldsAll v3
  still_all all = subst HoldsAll (sym steps.view_is) record { next = all.next; hands_out = all.hands_out; all = all.all }

  -- what its lead is then
  module _ {after : SeatView} (re : Reopens f members other v3 after) where
    abbrev idle : SeatView
    idle = renewing re.last re.whole

    pub shape_there : idle.shape ≡ s
    shape_there = ap (λ (z : SeatView). z.shape) re.loaded.stepped ∙ shaped

    pub lent_there : idle.lent ≡ v.lent
    lent_there = ap (λ (z : SeatView). z.lent) re.loaded.stepped ∙ ap (λ (z : SeatView). z.lent) steps.view_is

    pub whole_there : length idle.whole ≡ length v.whole
    whole_there = sym re.beside.long ∙ sym steps.beside.long

    pub opens_again : OpensAgain f v after
    opens_again = record {
      prepared = v3;
      prepared_is = steps.view_is;
      steps = steps.steps;
      idle = idle;
      rests = record { root = re.root; last = re.last; loaded = re.loaded; idle_is = refl; rule = subst (λ (z : Opening). EndWith f z re.last (table_part v3.base (word_count v3.shape) re.whole)) (ap opening_of (sym re.loaded.stepped)) re.ends };
      index = n.index;
      entry = n.entry;
      newest = n.newest;
      base = other;
      before = idle;
      opened = re.stepped ∙ ap (λ (z : List (ℕ × ℕ)). reopening f z other idle) (sym (root_pairs f s v.seen kn.book n.index n.entry n.newest.at));
      next = (refl, refl, shape_there);
    }
