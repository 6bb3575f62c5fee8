-- How a table that lasts opens, and how its crew hands passes out.
use Rattle.std.proofs.Common.{◌≡◌, ◌≢◌, inl, inr, ℕ, ◌+◌, ◌-◌, ◌*◌, ◌%◌, ◌^◌, ◌<◌, ◌≤◌, List, [], ◌∷◌, All, length, false, Option, Err, sym, refl, ap, ◌∙◌, subst, arith}
use Rattle.std.proofs.lemmas.Option.{none-some}
use Rattle.std.specs.Prelude.{◌↔◌, IsErrOf, IsOk, unwrap_or, None, Some, option_map}
use Rattle.std.proofs.lemmas.Bool.{cases_lt, false≢true}
use Rattle.std.proofs.lemmas.List.Elements.{All-nil}
use Rattle.std.proofs.lemmas.Nat.{one_shl}
use Rattle.aug_monoid.specs.Weighted.{FitsPair}
use Rattle.aug_model.specs.Keys.{SetFacts, IsKeySet, keys_of}
use Rattle.aug_query.specs.Tree.{IsTreeSet}
use Rattle.aug_model.proofs.Boundaries.{IsKeySet-few}
use Rattle.aug_model.proofs.Pairs.{length-keys_of}
use Rattle.atomic_table.specs.Seated.{TableId}
use Rattle.aug_core.specs.Addresses.{root_place}
use Rattle.aug_core.specs.Cuts.{opening_cut}
use Rattle.aug_core.specs.Effects.{LoadsNode, handing_out, handed_out, taking, own_lane, own_lane_place, KnowsBook}
use Rattle.aug_core.specs.Layout.{IsLayout, IsWithin, IsOutside, IsRefused}
use Rattle.aug_core.specs.Opening.{Opening}
use Rattle.aug_core.specs.Places.{Shape, with_reservations, word_count}
use Rattle.aug_core.specs.declared.layout.LayoutError.{LayoutError}
use Rattle.aug_core.specs.declared.layout.LayoutError.TheVariants as layout
use Rattle.aug_core.specs.declared.view.PastEra.{PastEra}
use Rattle.aug_core.specs.declared.view.SeatView.{SeatView}
use Rattle.aug_core.proofs.Fits.{book_as}
use Rattle.aug_core.proofs.Openings.{opener, opener_knows}
use Rattle.aug_core.proofs.PlaceLemmas.{keys-within}
use Rattle.aug_words.specs.Leads.{HandsLaneOut}
use Rattle.aug_words.specs.Reservations.{HasReservations}
use Rattle.aug_words.specs.Seats.{AreTogether, Known, Store}
use Rattle.aug_words.specs.Stocks.{OpensStock, StockFacts, Stocks}
use Rattle.aug_words.proofs.Stocking.{opens_stock}
use Rattle.aug_trie.specs.Crew.{BeginsIn, CrewFacts, HandsOut}
use Rattle.aug_trie.specs.Errors.{begin_cause}
use Rattle.aug_trie.specs.History.{last_cut}
use Rattle.aug_trie.specs.Knowledge.{StandsIn}
use Rattle.aug_trie.specs.LastingTable.{IsTooLarge}
use Rattle.aug_trie.specs.Pass.{PassFacts}
use Rattle.aug_trie.specs.Round.{TableFacts, table_of}
use Rattle.aug_trie.specs.declared.error.BeginError.{BeginError}
use Rattle.aug_trie.specs.declared.error.BeginError.TheVariants.{TooLarge}
use Rattle.aug_trie.specs.inside.CrewState.{crew_facts}
use Rattle.aug_trie.specs.inside.Knows.{knows, KnowsRound}
use Rattle.aug_trie.specs.inside.LastingState.{IsLasting, LastsBy, IsLastingCrew, IsLastingPass}
use Rattle.aug_trie.specs.inside.PassState.{pass_facts}
use Rattle.aug_trie.specs.inside.RoundState.{round_of, facts_of, eras_of, past_rounds}
use Rattle.aug_trie.proofs.Crews.{begins_history}
use Rattle.aug_trie.proofs.Handing.{loaded_table, loaded_knowledge, handed_out_is, pass_table}
use Rattle.aug_trie.proofs.Histories.{is_history, numbers_long}
use Rattle.aug_trie.proofs.Keeping.{weighs_later}
use Rattle.aug_trie.proofs.Refusals.{cause_said, same_cause}

-- ---- the table opens

-- a number that is not outside of bounds is within them
not_outside : {first last n : ℕ} → (IsOutside first last n → ⊥) → IsWithin first last n
not_outside {first} {last} {n} never = (
  elim (cases_lt n first) [ inl low ↦ absurd (never (inl low)) | inr up ↦ up ],
  elim (cases_lt last n) [ inl past ↦ absurd (never (inr past)) | inr within ↦ within ],
)

-- how such a table is laid out says that it lasts
lasts_with : (s : Shape) (bits workers updates : ℕ) → s ≡ with_reservations bits workers updates (2 ^ bits) workers → IsLasting s
lasts_with s bits workers updates is = record { is = is ∙ sym (ap (λ (z : Shape). with_reservations z.bits z.workers z.updates (2 ^ z.bits) z.workers) is) }

-- and these numbers of its shape say it all
pub same_lasting : (s t : Shape) → IsLasting s → IsLasting t → ◌≡◌ {A = ℕ × ℕ × ℕ} (s.bits, s.workers, s.updates) (t.bits, t.workers, t.updates) → s ≡ t
same_lasting s t l l' same = l.is ∙ ap (λ (z : ℕ × ℕ × ℕ). with_reservations z.0 z.1 z.2 (2 ^ z.0) z.1) same ∙ sym l'.is

-- what knows the round of a table that lasts sits at it
pub at_lasting : (store : Store) (k : Known) (table : TableFacts) → IsLasting store.shape → IsLasting k.view.shape → table_of (round_of k.table k.view) ≡ table → facts_of store ≡ table → AreTogether store k
at_lasting store k table l l' one store_is = let same : table_of (round_of k.table k.view) ≡ facts_of store = one ∙ sym store_is in record {
  one_table = ap (λ (z : TableFacts). z.table) same;
  one_shape = same_lasting k.view.shape store.shape l' l (ap (λ (z : TableFacts). (z.bits, z.workers, z.updates)) same);
}

-- laying it out is refused for too many words alone if there are
too_large_cause : {L : Type 0} (cause : LayoutError) (bits workers updates : ℕ) → IsErrOf {T = L} (Err cause) layout.BadBits ↔ IsRefused layout.BadBits bits workers updates (2 ^ bits)
    → IsErrOf {T = L} (Err cause) layout.BadWorkers ↔ IsRefused layout.BadWorkers bits workers updates (2 ^ bits) → IsErrOf {T = L} (Err cause) layout.BadUpdates ↔ IsRefused layout.BadUpdates bits workers updates (2 ^ bits)
    → IsTooLarge bits workers updates → cause ≡ layout.TooLarge
too_large_cause layout.BadBits bits workers updates bad_bits bad_workers bad_updates large = let some = large.0 in let out = bad_bits.0 refl in absurd (omega arith)
too_large_cause layout.BadWorkers bits workers updates bad_bits bad_workers bad_updates large = let low = large.1 in let out = (bad_workers.0 refl).1 in absurd (omega arith)
too_large_cause layout.BadUpdates bits workers updates bad_bits bad_workers bad_updates large = let least = large.2 in let out = (bad_updates.0 refl).2 in absurd (omega arith)
too_large_cause layout.TooLarge bits workers updates bad_bits bad_workers bad_updates large = refl

-- laying it out was refused for this cause
module _ {L : Type 0} (cause : LayoutError) (bits other workers updates : ℕ) (same : bits ≡ other) (within : IsWithin 1 16 other)
    (ok : IsOk {T = L} (Err cause) ↔ IsLayout (with_reservations bits workers updates (2 ^ bits) workers)) (bad_bits : IsErrOf {T = L} (Err cause) layout.BadBits ↔ IsRefused layout.BadBits bits workers updates (2 ^ bits))
    (bad_workers : IsErrOf {T = L} (Err cause) layout.BadWorkers ↔ IsRefused layout.BadWorkers bits workers updates (2 ^ bits)) (bad_updates : IsErrOf {T = L} (Err cause) layout.BadUpdates ↔ IsRefused layout.BadUpdates bits workers updates (2 ^ bits)) where
  some : IsWithin 1 16 bits
  some = subst (IsWithin 1 16) (sym same) within

  is_too_large : cause ≡ layout.TooLarge → IsTooLarge bits workers updates
  is_too_large is = let low : IsWithin 1 64 workers = not_outside (λ out. let e = bad_workers.1 (some, out) in cc) in
      let least : IsWithin 1 65536 updates = not_outside (λ out. let e = bad_updates.1 (some, low, out) in cc) in
      let all : Shape = with_reservations bits workers updates (2 ^ bits) workers in
      (some, low, least, elim (cases_lt (2 ^ 26) (word_count all)) [ inl past ↦ past | inr within ↦ absurd (false≢true (ok.1 record { bits = some; workers = low; updates = least; words = within })) ])

  pub says_too_large : {T E : Type 0} (back : E) (found : BeginError) → found ≡ begin_cause cause → IsErrOf {T = T} {E = E × BeginError} (Err (back, found)) (back, TooLarge) ↔ IsTooLarge other workers updates
  says_too_large back found named = ((λ e. subst (λ (z : ℕ). IsTooLarge z workers updates) same (is_too_large (same_cause (sym named ∙ cause_said e)))), λ large. ap (λ (z : BeginError). Err (back, z)) (named ∙ ap begin_cause (too_large_cause {L = L} cause bits workers updates bad_bits bad_workers bad_updates (subst (λ (z : ℕ). IsTooLarge z workers updates) (sym same) large))))

-- what a table that lasts opens with
pub record OpensLasting (o : Opening) : Type 0 where
  pub lasts : IsLasting o.shape
  pub laid_out : IsLayout o.shape
  pub set : IsKeySet o.shape.bits (keys_of o.members)
  pub fit : All FitsPair o.members
  pub few : length o.members ≤ o.shape.members

-- it has room for the members of a set, by what laying it out came to
pub opens_with : (m : SetFacts) (s : Shape) (list : List (ℕ × ℕ)) (bits workers updates : ℕ) → IsTreeSet m → bits ≡ m.bits → s ≡ with_reservations bits workers updates (2 ^ bits) workers → IsLayout (with_reservations bits workers updates (2 ^ bits) workers) → list ≡ m.pairs
    → OpensLasting (record { shape = s; members = list })
opens_with m s list bits workers updates tree same is laid list_is = let to : m.bits ≡ s.bits = sym same ∙ sym (ap (λ (z : Shape). z.bits) is) in record {
  lasts = lasts_with s bits workers updates is;
  laid_out = subst IsLayout (sym is) laid;
  set = subst (λ (z : ℕ × List (ℕ × ℕ)). IsKeySet z.0 (keys_of z.1)) (λ j. (to j, sym list_is j)) tree.is_key_set;
  fit = subst (All FitsPair) (sym list_is) tree.fit;
  few = let room : s.members ≡ 2 ^ m.bits = ap (λ (z : Shape). z.members) is ∙ ap (λ (z : ℕ). 2 ^ z) same in let long = length-keys_of m.pairs in let all = IsKeySet-few m.bits (keys_of m.pairs) tree.is_key_set in let e : length list ≡ length m.pairs = ap (λ (z : List (ℕ × ℕ)). length z) list_is in omega arith;
}

-- the numbers with which it was laid out
pub laid_with : (s : Shape) (bits other workers updates : ℕ) → s ≡ with_reservations bits workers updates (2 ^ bits) workers → bits ≡ other → s ≡ with_reservations other workers updates (2 ^ other) workers
laid_with s bits other workers updates is same = is ∙ ap (λ (z : ℕ). with_reservations z workers updates (2 ^ z) workers) same

module _ (face : ℕ → ℕ → List (ℕ × ℕ) → List ℕ) where
  -- the lead of a table that was just opened
  module _ (o : Opening) (opens : OpensLasting o) where
    pub lasting_begins : (past : List PastEra) (era base : ℕ) (lent words whole : List ℕ) → IsLastingCrew face (opener face o past era base lent words whole) 0
    lasting_begins past era base lent words whole = let v : SeatView = opener face o past era base lent words whole in
        let kn : KnowsBook face v = opener_knows face o past era base lent words whole opens.laid_out opens.set opens.fit (let long = length-keys_of o.members in let few = opens.few in omega arith) in record {
          lasts = record { is = opens.lasts.is };
          knows_table = kn;
          hands_out = refl;
          few = omega arith;
          knowledge = record { is_history = is_history face v kn; stands = All-nil (StandsIn (last_cut (knows v).history)) };
        }

    -- what contracts see of it
    pub lasting_opens : (store : Store) (lead : Known) (base : ℕ) (lent words whole : List ℕ) → AreTogether store lead → lead.view ≡ opener face o [] 0 base lent words whole
        → BeginsIn o.shape.members o.members o.shape.bits o.shape.workers o.shape.updates (facts_of store) (crew_facts lead false)
    lasting_opens store lead base lent words whole tog is = let first = begins_history face o opens.laid_out opens.set opens.fit opens.few in let v : SeatView = lead.view in
        let opening : knows v ≡ record { history = opening_cut o.shape.bits o.members ∷ []; accepted = [] } = ap knows is ∙ (λ j. record { history = first j; accepted = [] }) in
        let none_out : unwrap_or v.spare 0 ≡ 0 = ap (λ (z : SeatView). unwrap_or z.spare 0) is in
        let none_before : past_rounds v.shape v.past ≡ [] = ap (λ (z : SeatView). past_rounds z.shape z.past) is in
        let none_back : length v.held ≡ 0 = ap (λ (z : SeatView). length z.held) is in
        record {
          round_is = λ j. round_of (tog.one_table j) (is j);
          together = λ j. facts_of (record { table = tog.one_table j; shape = tog.one_shape j });
          crew_is = λ j. record { round = round_of lead.table v; past = none_before j; knows = opening j; steps = v.steps; handed = none_out j; back = none_back j; words = (crew_facts lead false).words; free = false };
        }

  -- a lead that loads the root and hands a lane out
  module _ (old b : SeatView) (r handed place : ℕ) (c : IsLastingCrew face old handed) (l : LoadsNode face old (root_place old.shape) r b) where
    abbrev new : SeatView
    new = handing_out b

    abbrev pass : SeatView
    pass = taking (handed_out b) place

    same_shape : b.shape ≡ old.shape
    same_shape = ap (λ (z : SeatView). z.shape) l.stepped

    same_members : b.members ≡ old.members
    same_members = ap (λ (z : SeatView). z.members) l.stepped

    same_eras : eras_of b ≡ eras_of old
    same_eras = ap eras_of l.stepped

    same_spare : b.spare ≡ old.spare
    same_spare = ap (λ (z : SeatView). z.spare) l.stepped

    same_held : b.held ≡ old.held
    same_held = ap (λ (z : SeatView). z.held) l.stepped

    -- is a crew still
    pub hands_lasting : handed < old.shape.workers → IsLastingCrew face new (handed + 1)
    hands_lasting low = let k = loaded_knowledge face old b r c.knows_table l c.knowledge in record {
      lasts = record { is = (subst IsLasting (sym same_shape) c.lasts).is };
      knows_table = book_as face b refl refl refl (loaded_table face old b r c.knows_table l);
      hands_out = ap (λ (z : SeatView). (handing_out z).spare) l.stepped ∙ ap (λ z. (handing_out record old { spare = z }).spare) c.hands_out;
      few = let e : b.shape.workers ≡ old.shape.workers = ap (λ (z : Shape). z.workers) same_shape in omega arith;
      knowledge = record { is_history = k.is_history; stands = k.stands };
    }

    -- the pass knows what it then knows, and no change
    pub lasting_knowledge : KnowsRound pass
    lasting_knowledge = record { is_history = is_history face pass (pass_table face old b r c.knows_table l place); stands = All-nil (StandsIn (last_cut (knows pass).history)) }

    -- what contracts see of it
    pub hands_lasting_out : (table : TableId) → handed < old.shape.workers → HandsOut (crew_facts (record { table = table; view = old }) false) (crew_facts (record { table = table; view = new }) false) (pass_facts (record { table = table; view = pass }) pass.shape.updates)
    hands_lasting_out table low = let out = c.hands_out in let at : unwrap_or old.spare 0 ≡ handed = ap (λ (z : Option ℕ). unwrap_or z 0) out in let known = lasting_knowledge in record {
      knows = handed_out_is face old b r c.knows_table l place;
      crew_is = let one_more : unwrap_or new.spare 0 ≡ unwrap_or old.spare 0 + 1 = ap (λ (z : Option ℕ). unwrap_or (option_map (λ n. n + 1) z) 0) (same_spare ∙ out) ∙ ap (λ n. n + 1) (sym at) in
          let facts : CrewFacts = crew_facts (record { table = table; view = new }) false in
          λ i. record facts { round = round_of table (record old { era = (same_eras i).0; shape = same_shape i; members = same_members i }); past = past_rounds (same_shape i) (same_eras i).1; handed = one_more i; back = length (same_held i) };
      weights = λ key serial weight. weighs_later old.seen b.seen key serial weight l.sees.later;
      pass_is = let fresh : b.shape.updates - b.shape.updates ≡ 0 = omega arith in
          let facts : PassFacts = pass_facts (record { table = table; view = pass }) pass.shape.updates in
          λ i. record facts { round = round_of table (record old { era = (same_eras i).0; shape = same_shape i; members = same_members i }); past = past_rounds (same_shape i) (same_eras i).1; lane = unwrap_or (same_spare i) 0; spent = fresh i };
      exists = omega arith;
      loads = (r, ap (λ (z : SeatView). z.steps) l.stepped);
      named = numbers_long b.shape b.seen;
      knowledge = record { is_history = known.is_history; stands = known.stands };
    }

  -- a lead of a table that lasts handed a pass out, with its stock
  pub record LastingOut (now : CrewFacts) (lead pass : Known) (k : StockFacts) (leaves bits handed : ℕ) : Type 0 where
    pub crew : IsLastingCrew face lead.view (handed + 1)
    pub is_pass : IsLastingPass face pass.view k leaves bits None
    pub hands_out : HandsOut now (crew_facts lead false) (pass_facts pass pass.view.shape.updates)

  -- so it is after its words' call, if not all lanes of the table were handed out
  pub lasting_out : (store : Store) (old lead pass : Known) (s : Shape) (now : CrewFacts) (table : TableFacts) (handed lane workers bits : ℕ) (k : StockFacts) → crew_facts old false ≡ now → table_of now.round ≡ table → facts_of store ≡ table → LastsBy s store
      → IsLastingCrew face old.view handed → old.view.spare ≡ Some lane → workers ≡ s.workers → lane ≢ workers → HandsLaneOut face old.view lead.view pass.view → lead.table ≡ old.table → pass.table ≡ old.table → bits ≡ s.bits
      → ((p : Known) → AreTogether store p → HasReservations p.view → KnowsBook face p.view → OpensStock p.view → own_lane p.view.held ≡ lane → Stocks p.view k) → k.replaced ≡ 0 → k.era ≡ 0 → LastingOut now lead pass k (1 * 2 ^ bits % 18446744073709551616) bits handed
  lasting_out store old lead pass s now table handed lane workers bits k is one store_is lasts crew spare workers_are other h lead_table pass_table_is bits_are stocks none rests =
      let v : SeatView = old.view in let b : SeatView = h.between in let place : ℕ = own_lane_place (handed_out b) in let leaves : ℕ = 1 * 2 ^ bits % 18446744073709551616 in
      let tog = at_lasting store old table lasts.lasts crew.lasts (ap (λ (z : CrewFacts). table_of z.round) is ∙ one) store_is in
      let shaped : v.shape ≡ s = tog.one_shape ∙ sym lasts.laid_out in let all : v.shape.workers ≡ s.workers = ap (λ (z : Shape). z.workers) shaped in
      let at : handed ≡ lane = ap (λ (z : Option ℕ). unwrap_or z 0) (sym crew.hands_out ∙ spare) in
      let low : handed < v.shape.workers = let few = crew.few in omega arith in let inside : lane < v.shape.workers = omega arith in
      let same : pass.view.shape ≡ v.shape = ap (λ (z : SeatView). z.shape) h.pass_is ∙ ap (λ (z : SeatView). z.shape) h.loaded.stepped in
      let kept : IsLasting pass.view.shape = subst IsLasting (sym same) crew.lasts in
      let kn : KnowsBook face pass.view = subst (KnowsBook face) (sym h.pass_is) (pass_table face v b h.found crew.knows_table h.loaded place) in
      let bits_there : bits ≡ pass.view.shape.bits = bits_are ∙ ap (λ (z : Shape). z.bits) (sym shaped ∙ sym same) in
      let most = kn.laid_out.bits in let full : leaves ≡ 2 ^ pass.view.shape.bits = one_shl bits 64 (let top = most.1 in omega arith) ∙ ap (λ (z : ℕ). 2 ^ z) bits_there in let keys = keys-within pass.view.shape.bits most.0 most.1 in
      let own : own_lane pass.view.held ≡ lane = ap (λ (z : SeatView). own_lane z.held) h.pass_is ∙ ap (λ (z : SeatView). unwrap_or z.spare 0) h.loaded.stepped ∙ ap (λ (z : Option ℕ). unwrap_or z 0) spare in record {
        crew = subst (λ (z : SeatView). IsLastingCrew face z (handed + 1)) (sym h.lead_is) (hands_lasting v b h.found handed place crew h.loaded low);
        is_pass = record {
          lasts = kept;
          leaves_are = record { are = full; few = omega arith };
          bits_are = bits_there;
          knows_table = kn;
          stocks = stocks pass (record { one_table = pass_table_is ∙ tog.one_table; one_shape = same ∙ tog.one_shape }) (let slots : pass.view.shape.reservations ≡ pass.view.shape.workers = ap (λ (z : Shape). z.reservations) kept.is in omega arith) kn
              (opens_stock face v lead.view pass.view lane (record { next = spare; exists = inside }) h) own;
          none = none;
          rests = λ _. rests;
          looks = λ x is. absurd (none-some x is);
          knowledge = subst KnowsRound (sym h.pass_is) (lasting_knowledge v b h.found handed place crew h.loaded);
        };
        hands_out = subst (λ (z : CrewFacts × Known × Known). HandsOut z.0 (crew_facts z.1 false) (pass_facts z.2 z.2.view.shape.updates))
            (λ j. (is j, record { table = sym lead_table j; view = sym h.lead_is j }, record { table = sym pass_table_is j; view = sym h.pass_is j })) (hands_lasting_out v b h.found handed place crew h.loaded old.table low);
      }
