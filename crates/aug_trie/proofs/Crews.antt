-- A crew as its round begins, and as it hands passes out.
use Rattle.std.proofs.Common.{◌≡◌, ◌≢◌, ℕ, Bool, ◌+◌, ◌-◌, ◌*◌, ◌%◌, ◌^◌, ◌<◌, ◌≤◌, List, [], ◌∷◌, All, length, sym, refl, ap, ◌∙◌, subst, arith}
use Rattle.std.specs.Prelude.{unwrap_or, Some, map, Option, option_map}
use Rattle.std.specs.List.{range_with_len}
use Rattle.std.proofs.lemmas.Nat.{one_shl}
use Rattle.aug_monoid.specs.Weighted.{FitsPair}
use Rattle.aug_model.specs.Keys.{IsKeySet, keys_of}
use Rattle.aug_model.proofs.Pairs.{length-keys_of}
use Rattle.aug_core.specs.Places.{Shape, record_count}
use Rattle.aug_core.specs.Counts.{changes_of}
use Rattle.aug_core.specs.declared.view.Held.{Held}
use Rattle.aug_core.proofs.PlaceLemmas.{keys-within}
use Rattle.aug_core.specs.Layout.{IsLayout}
use Rattle.aug_core.specs.Lanes.{first_record, lane_records}
use Rattle.aug_core.specs.Addresses.{root_place}
use Rattle.aug_core.specs.Cuts.{Cut, opening_cut}
use Rattle.aug_core.specs.inside.RootCuts.{root_cut}
use Rattle.aug_core.specs.Opening.{Opening, opening_book}
use Rattle.aug_core.specs.Effects.{HoldsOnly, LoadsNode, finishing, taking_back, handed_out, handing_out, taking, own_lane_place, KnowsBook}
use Rattle.aug_core.specs.declared.view.Entry.{Entry}
use Rattle.aug_core.specs.declared.view.PastEra.{PastEra}
use Rattle.aug_core.specs.declared.view.SeatView.{SeatView}
use Rattle.aug_core.proofs.Openings.{inner_history, opener, opener_knows}
use Rattle.aug_core.proofs.OpeningCuts.{root_inner, opening_first}
use Rattle.atomic_table.specs.Seated.{TableId}
use Rattle.aug_words.specs.Leads.{HandsLaneOut}
use Rattle.aug_words.specs.Seats.{Store, Known}
use Rattle.aug_trie.specs.inside.Counted.{HasCounts}
use Rattle.aug_trie.specs.inside.Goes.{HasLeaves}
use Rattle.aug_trie.specs.inside.Knows.{knows, root_history, KnowsRound}
use Rattle.aug_trie.specs.Pass.{PassFacts}
use Rattle.aug_trie.specs.inside.PassState.{IsPass, pass_facts}
use Rattle.aug_trie.specs.inside.CrewState.{IsCrew, crew_facts, HoldsCrew}
use Rattle.aug_trie.specs.Round.{TableFacts, table_of}
use Rattle.aug_trie.specs.inside.RoundState.{KeepsLayout, round_of, facts_of, eras_of, past_rounds}
use Rattle.aug_trie.specs.Passes.{HandedBack}
use Rattle.aug_trie.specs.Knowledge.{inserts_of, removals_of}
use Rattle.aug_trie.specs.Crew.{CrewFacts, HandsOut, TakesBack}
use Rattle.aug_trie.proofs.Counters.{counted_none, is_insertion, is_removal}
use Rattle.aug_core.proofs.Counting.{hits-append}
use Rattle.aug_trie.proofs.Handing.{crew_begins, handed_out_is, handed_back_is, back_knowledge, one_more, crew_after, pass_table, pass_begins, crew_out}
use Rattle.aug_trie.proofs.Histories.{numbers_long}
use Rattle.aug_trie.proofs.Keeping.{weighs_later}
use Rattle.aug_trie.proofs.RoundLemmas.{of_round}

module _ (face : ℕ → ℕ → List (ℕ × ℕ) → List ℕ) where
  -- the lead of a table that was just opened
  module _ (o : Opening) (laid_out : IsLayout o.shape) (set : IsKeySet o.shape.bits (keys_of o.members)) (fit : All FitsPair o.members) (few : length o.members ≤ o.shape.members) where
    pub begins_crew : o.shape.reservations ≡ 0 → (past : List PastEra) (era base : ℕ) (lent words whole : List ℕ) → HoldsCrew face (opener face o past era base lent words whole) 0 0 0
    begins_crew off past era base lent words whole = record {
      handed = 0;
      is_crew = crew_begins face (opener face o past era base lent words whole) off (opener_knows face o past era base lent words whole laid_out set fit (let long = length-keys_of o.members in omega arith)) refl refl;
      few = omega arith;
      back_is = refl;
      inserts_are = refl;
      removals_are = refl;
    }

    -- knows the opening cut alone
    pub begins_history : root_history o.shape (opening_book face o) ≡ opening_cut o.shape.bits o.members ∷ []
    begins_history = let some = laid_out.bits.0 in
        ap (λ (z : List Entry). map (root_cut o.shape (opening_book face o)) (range_with_len 0 (length z))) (inner_history face o (root_place o.shape) (root_inner face o some))
        ∙ ap (λ (z : Cut). z ∷ []) (opening_first face o some)

  -- a lead that loads the root and hands a lane out
  module _ (old b : SeatView) (r back inserts removals place : ℕ) (c : HoldsCrew face old back inserts removals) (l : LoadsNode face old (root_place old.shape) r b) where
    abbrev new : SeatView
    new = handing_out b

    abbrev pass : SeatView
    pass = taking (handed_out b) place

    same_shape : b.shape ≡ old.shape
    same_shape = ap (λ (z : SeatView). z.shape) l.stepped

    same_members : b.members ≡ old.members
    same_members = ap (λ (z : SeatView). z.members) l.stepped

    same_eras : eras_of b ≡ eras_of old
    same_eras = ap eras_of l.stepped

    same_spare : b.spare ≡ old.spare
    same_spare = ap (λ (z : SeatView). z.spare) l.stepped

    same_held : b.held ≡ old.held
    same_held = ap (λ (z : SeatView). z.held) l.stepped

    -- is a crew still
    pub hands_crew : c.handed < old.shape.workers → HoldsCrew face new back inserts removals
    hands_crew low = record {
      handed = c.handed + 1;
      is_crew = subst (IsCrew face new (c.handed + 1)) (sym (ap (λ (z : List Held). length z) same_held)) (crew_out face old b r c.is_crew.knows_table l c.handed (length old.held) c.is_crew);
      few = let e : b.shape.workers ≡ old.shape.workers = ap (λ (z : Shape). z.workers) same_shape in omega arith;
      back_is = c.back_is ∙ ap (λ (z : List Held). length z % 2 ^ 32) (sym same_held);
      inserts_are = c.inserts_are ∙ ap (λ (z : List Held). inserts_of (changes_of z) % 2 ^ 32) (sym same_held);
      removals_are = c.removals_are ∙ ap (λ (z : List Held). removals_of (changes_of z) % 2 ^ 32) (sym same_held);
    }

    -- the pass has its lane's records, and no change
    pub hands_pass : (s : Shape) (lane leaves next : ℕ) → lane < s.workers → old.shape ≡ s → old.spare ≡ Some lane → leaves ≡ 2 ^ s.bits → next ≡ first_record s lane → next + lane_records s ≤ record_count s → IsPass face pass leaves s.bits next s.updates
    hands_pass s lane leaves next inside shaped spare full first within = let kn = c.is_crew.knows_table.laid_out in let to_s : b.shape ≡ s = same_shape ∙ shaped in
        let laid : IsLayout s = subst IsLayout shaped kn in let words = laid.words in let few = keys-within s.bits laid.bits.0 laid.bits.1 in
        let small : first_record s lane + s.updates * s.bits < 2 ^ 60 = omega arith in
        subst (λ (z : ℕ). IsPass face pass leaves s.bits z s.updates) (sym first) (subst (λ (z : Shape × Option ℕ). IsPass face pass leaves z.0.bits (first_record z.0 (unwrap_or z.1 0)) z.0.updates) (λ i. (to_s i, (same_spare ∙ spare) i))
        (pass_begins face b place leaves (ap (λ (z : Shape). z.reservations) same_shape ∙ c.is_crew.keeps_records) (subst (λ (z : Shape × Option ℕ). unwrap_or z.1 0 < z.0.workers) (λ i. (sym to_s i, sym (same_spare ∙ spare) i)) inside) (pass_table face old b r c.is_crew.knows_table l place) (subst (λ (z : Shape). HasLeaves z leaves) (sym to_s) (record { are = full; few = omega arith }))
        (subst (λ (z : Shape × Option ℕ). first_record z.0 (unwrap_or z.1 0) + z.0.updates * z.0.bits < 2 ^ 60) (λ i. (sym to_s i, sym (same_spare ∙ spare) i)) small)))

    pub hands_counts : HasCounts (changes_of pass.held) 0 0
    hands_counts = counted_none

    -- what contracts see of it
    pub hands_out_is : (table : TableId) (free : Bool) (left : ℕ) → c.handed < old.shape.workers → left ≡ old.shape.updates → KnowsRound pass → HandsOut (crew_facts (record { table = table; view = old }) free) (crew_facts (record { table = table; view = new }) free) (pass_facts (record { table = table; view = pass }) left)
    hands_out_is table free left low full known = let out = c.is_crew.hands_out in let at : unwrap_or old.spare 0 ≡ c.handed = ap (λ (z : Option ℕ). unwrap_or z 0) out in record {
      knows = handed_out_is face old b r c.is_crew.knows_table l place;
      crew_is = let one_more : unwrap_or new.spare 0 ≡ unwrap_or old.spare 0 + 1 = ap (λ (z : Option ℕ). unwrap_or (option_map (λ n. n + 1) z) 0) (same_spare ∙ out) ∙ ap (λ n. n + 1) (sym at) in
          let facts : CrewFacts = crew_facts (record { table = table; view = new }) free in
          λ i. record facts { round = round_of table (record old { era = (same_eras i).0; shape = same_shape i; members = same_members i }); past = past_rounds (same_shape i) (same_eras i).1; handed = one_more i; back = length (same_held i) };
      weights = λ key serial weight. weighs_later old.seen b.seen key serial weight l.sees.later;
      pass_is = let fresh : b.shape.updates - left ≡ 0 = let e : b.shape.updates ≡ old.shape.updates = ap (λ (z : Shape). z.updates) same_shape in omega arith in
          let facts : PassFacts = pass_facts (record { table = table; view = pass }) left in
          λ i. record facts { round = round_of table (record old { era = (same_eras i).0; shape = same_shape i; members = same_members i }); past = past_rounds (same_shape i) (same_eras i).1; lane = unwrap_or (same_spare i) 0; spent = fresh i };
      exists = omega arith;
      loads = (r, ap (λ (z : SeatView). z.steps) l.stepped);
      named = numbers_long b.shape b.seen;
      knowledge = record { is_history = known.is_history; stands = known.stands };
    }

  -- a lead that handed a pass out is a crew still, and the pass has its lane's records, and no change
  pub record PassOut (now : CrewFacts) (lead pass : Known) (free : Bool) (back inserts removals leaves bits next updates : ℕ) : Type 0 where
    pub crew : HoldsCrew face lead.view back inserts removals
    pub is_pass : IsPass face pass.view leaves bits next updates
    pub counts : HasCounts (changes_of pass.view.held) 0 0
    pub hands_out : HandsOut now (crew_facts lead free) (pass_facts pass updates)

  -- so it is after its words' call, if not all lanes of the round's table were handed out
  pub pass_out : (store : Store) (old lead pass : Known) (s : Shape) (now : CrewFacts) (table : TableFacts) (lane workers shift : ℕ) {free : Bool} {back inserts removals bits next updates : ℕ} → crew_facts old free ≡ now → table_of now.round ≡ table → facts_of store ≡ table → KeepsLayout s store
      → HoldsCrew face old.view back inserts removals → old.view.spare ≡ Some lane → workers ≡ s.workers → lane ≢ workers → HandsLaneOut face old.view lead.view pass.view → lead.table ≡ old.table → pass.table ≡ old.table
      → shift ≡ s.bits → bits ≡ s.bits → next ≡ first_record s lane → next + lane_records s ≤ record_count s → updates ≡ s.updates → PassOut now lead pass free back inserts removals (1 * 2 ^ shift % 18446744073709551616) bits next updates
  pass_out store old lead pass s now table lane workers shift {free} {back} {inserts} {removals} {bits} {next} {updates} is one store_is shape holds spare workers_are other h lead_table pass_table shift_is bits_are first within updates_are =
      let v : SeatView = old.view in let place : ℕ = own_lane_place (handed_out h.between) in let leaves : ℕ = 1 * 2 ^ shift % 18446744073709551616 in let shaped : v.shape ≡ s = (of_round store old now table shape.keeps_records holds.is_crew.keeps_records is one store_is).one_shape ∙ sym shape.laid_out in
      let at : holds.handed ≡ lane = ap (λ (z : Option ℕ). unwrap_or z 0) (sym holds.is_crew.hands_out ∙ spare) in
      let low : holds.handed < v.shape.workers = let all : v.shape.workers ≡ s.workers = ap (λ (z : Shape). z.workers) shaped in let few = holds.few in omega arith in
      let most = (subst IsLayout shaped holds.is_crew.knows_table.laid_out).bits.1 in let full : leaves ≡ 2 ^ s.bits = one_shl shift 64 (omega arith) ∙ ap (λ (z : ℕ). 2 ^ z) shift_is in
      let p = hands_pass v h.between h.found back inserts removals place holds h.loaded s lane leaves next (let all : v.shape.workers ≡ s.workers = ap (λ (z : Shape). z.workers) shaped in omega arith) shaped spare full first within in
      let out = hands_out_is v h.between h.found back inserts removals place holds h.loaded old.table free updates low (updates_are ∙ sym (ap (λ (z : Shape). z.updates) shaped)) p.knowledge in record {
        crew = subst (λ (z : SeatView). HoldsCrew face z back inserts removals) (sym h.lead_is) (hands_crew v h.between h.found back inserts removals place holds h.loaded low);
        is_pass = subst (λ (z : SeatView × ℕ × ℕ). IsPass face z.0 leaves z.1 next z.2) (λ j. (sym h.pass_is j, sym bits_are j, sym updates_are j)) p;
        counts = subst (λ (z : SeatView). HasCounts (changes_of z.held) 0 0) (sym h.pass_is) (hands_counts v h.between h.found back inserts removals place holds h.loaded);
        hands_out = subst (λ (z : CrewFacts × Known × Known). HandsOut z.0 (crew_facts z.1 free) (pass_facts z.2 updates))
            (λ j. (is j, record { table = sym lead_table j; view = sym h.lead_is j }, record { table = sym pass_table j; view = sym h.pass_is j })) out;
      }

  -- what contracts see of a lead that took a pass in and loaded the root
  module _ (old p w : SeatView) (place r : ℕ) (lane : Held) (kv : KnowsBook face old) (kp : KnowsBook face p) (one_shape : p.shape ≡ old.shape) (only : HoldsOnly p lane) (l : LoadsNode face (taking_back old (finishing p place)) (root_place old.shape) r w) where
    pub took_back_is : KnowsRound old → KnowsRound p → (table other : TableId) (free : Bool) (left : ℕ) → TakesBack (crew_facts (record { table = table; view = old }) free) (crew_facts (record { table = table; view = w }) free) (pass_facts (record { table = other; view = p }) left)
    took_back_is k known table other free left = let after = back_knowledge face old p w place r lane kv kp one_shape only l k known in let more = one_more face old p w place r lane kv kp one_shape only l in record {
      knows = handed_back_is face old p w place r lane kv kp one_shape only l;
      crew_is = let facts : CrewFacts = crew_facts (record { table = table; view = w }) free in
          λ i. record facts { round = round_of table (l.stepped i); past = past_rounds (l.stepped i).shape (l.stepped i).past; handed = unwrap_or (l.stepped i).spare 0; back = more i };
      weights = λ key serial weight. weighs_later old.seen w.seen key serial weight l.sees.later;
      weights_of_pass = λ key serial weight. weighs_later p.seen w.seen key serial weight l.sees.also_later;
      knowledge = record { is_history = after.is_history; stands = after.stands };
      loads = (r, ap (λ (z : SeatView). z.steps) l.stepped);
    }

  -- such a lead, if it was a crew's
  module _ (old p w : SeatView) (place r back inserts removals more less : ℕ) (c : HoldsCrew face old back inserts removals) (lane : Held) (only : HoldsOnly p lane) (one_shape : p.shape ≡ old.shape) (kp : KnowsBook face p) (known : KnowsRound p)
      (counts : HasCounts (changes_of p.held) more less) (l : LoadsNode face (taking_back old (finishing p place)) (root_place old.shape) r w) where
    back_knows : HandedBack (knows old) (knows p) (knows w)
    back_knows = handed_back_is face old p w place r lane c.is_crew.knows_table kp one_shape only l

    one_back : length w.held ≡ length old.held + 1
    one_back = one_more face old p w place r lane c.is_crew.knows_table kp one_shape only l

    back_inserts : inserts_of (changes_of w.held) ≡ inserts_of (changes_of old.held) + more
    back_inserts = ap inserts_of back_knows.changes_of_both ∙ hits-append is_insertion (changes_of old.held) (changes_of p.held) ∙ (let e = counts.inserts_are in omega arith)

    back_removals : removals_of (changes_of w.held) ≡ removals_of (changes_of old.held) + less
    back_removals = ap removals_of back_knows.changes_of_both ∙ hits-append is_removal (changes_of old.held) (changes_of p.held) ∙ (let e = counts.removals_are in omega arith)

    -- is a crew still
    pub back_crew : (b i d : ℕ) → b ≡ (back + 1) % 2 ^ 32 → i ≡ (inserts + more) % 2 ^ 32 → d ≡ (removals + less) % 2 ^ 32 → HoldsCrew face w b i d
    back_crew b i d is_b is_i is_d = let after = crew_after face old p w place r lane c.is_crew.knows_table kp one_shape only l c.handed (length old.held) c.is_crew known in record {
      handed = c.handed;
      is_crew = subst (IsCrew face w c.handed) (sym one_back) after;
      few = let e : w.shape.workers ≡ old.shape.workers = ap (λ (z : SeatView). z.shape.workers) l.stepped in let f = c.few in omega arith;
      back_is = let e = one_back in let o = c.back_is in omega arith;
      inserts_are = let e = back_inserts in let o = c.inserts_are in omega arith;
      removals_are = let e = back_removals in let o = c.removals_are in omega arith;
    }

    -- what contracts see of it
    pub takes_back_is : (table other : TableId) (free : Bool) (left : ℕ) → TakesBack (crew_facts (record { table = table; view = old }) free) (crew_facts (record { table = table; view = w }) free) (pass_facts (record { table = other; view = p }) left)
    takes_back_is table other free left = took_back_is old p w place r lane c.is_crew.knows_table kp one_shape only l c.is_crew.knowledge known table other free left
