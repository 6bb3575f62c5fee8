-- The crew of a round that goes on in the memory of the round before.
use Rattle.std.proofs.Common.{Bool, false, ◌≡◌, ◌+◌, ◌%◌, ◌^◌, ◌≤◌, ◌∙◌, ℕ, List, [], ◌∷◌, ◌++◌, All, length, append_assoc, refl, ap, sym, subst}
use Rattle.std.proofs.lemmas.List.{map-append}
use Rattle.std.specs.Prelude.{Option, unwrap_or}
use Rattle.aug_monoid.specs.Weighted.{FitsPair}
use Rattle.aug_model.specs.Keys.{IsKeySet, keys_of}
use Rattle.aug_core.specs.Addresses.{root_place}
use Rattle.aug_core.specs.Counts.{changes_of}
use Rattle.aug_core.specs.Cuts.{Cut, opening_cut, pairs_of_cut}
use Rattle.aug_core.specs.Kinds.{load_node}
use Rattle.aug_core.specs.Prefixes.{IsPrefix}
use Rattle.aug_core.specs.Effects.{LoadsNode, opening_of, KnowsBook}
use Rattle.aug_core.specs.declared.view.PastEra.{PastEra}
use Rattle.aug_core.specs.Eras.{opening_with, table_part}
use Rattle.aug_core.specs.Layout.{IsLayout}
use Rattle.aug_core.specs.Opening.{Opening}
use Rattle.aug_core.specs.Places.{Shape, word_count}
use Rattle.aug_core.specs.Renewals.{EndWith, reopening}
use Rattle.aug_core.specs.declared.step.StepTaken.{StepTaken}
use Rattle.aug_core.specs.declared.view.SeatView.{SeatView}
use Rattle.aug_core.proofs.Openings.{opener}
use Rattle.aug_words.specs.Seats.{Store, Known, AreTogether}
use Rattle.aug_trie.specs.Chains.{chapters}
use Rattle.aug_trie.specs.Crew.{CrewFacts, CrewLooks, CrewPrepares, crew_chain, Ends, IsOver}
use Rattle.aug_trie.specs.Ended.{EndedFacts}
use Rattle.aug_trie.specs.History.{IsHistory, last_cut}
use Rattle.aug_trie.specs.Knowledge.{IsKnowledge, inserts_of, removals_of}
use Rattle.aug_trie.specs.Round.{RoundFacts, root_of, table_of}
use Rattle.aug_trie.specs.inside.CrewState.{crew_facts, HoldsCrew}
use Rattle.aug_trie.specs.inside.Knows.{knows, root_history, KnowsRound}
use Rattle.aug_trie.specs.inside.RoundState.{round_of, past_rounds, facts_of}
use Rattle.aug_trie.proofs.Accepting.{knows_on}
use Rattle.aug_trie.proofs.Crews.{begins_crew, begins_history}
use Rattle.aug_trie.proofs.Endings.{none_left, round_ended}
use Rattle.aug_trie.proofs.Handing.{loaded_table, loaded_knowledge}
use Rattle.aug_trie.proofs.Keeping.{weighs_later}
use Rattle.aug_trie.proofs.Risen.{opening-at_most, opens-some, last-at_most_final, same_end}
use Rattle.aug_trie.proofs.Tallying.{none_lost_tallies}
use Rattle.aug_core.proofs.Fits.{book_as}
use Rattle.aug_core.specs.Book.{IsNewest}
use Rattle.aug_core.specs.declared.view.Entry.{Entry}
use Rattle.aug_core.specs.inside.RootCuts.{root_cut}
use Rattle.aug_trie.proofs.Histories.{last_is as last_is_cut}
use Rattle.aug_trie.specs.Pass.{KeepWeights, Weighed}
use Rattle.aug_trie.specs.Tallies.{Tallies, TalliesWithLost}
use Rattle.aug_core.proofs.PrefixLemmas.{prefix_refl, prefix_trans}
use Rattle.aug_core.specs.declared.view.Change.{Change}

module _ (face : ℕ → ℕ → List (ℕ × ℕ) → List ℕ) (store : Store) (lead : Known) (before : SeatView) (base : ℕ) (list : List (ℕ × ℕ)) (together : AreTogether store lead) (opened : lead.view ≡ reopening face list base before)
    (laid_out : IsLayout store.shape) (set : IsKeySet store.shape.bits (keys_of list)) (fit : All FitsPair list) (few : length list ≤ store.shape.members) where
  abbrev o : Opening
  o = opening_with store.shape list

  -- its lead knows what that of a table knows which was just opened
  opener_is : lead.view ≡ opener face o before.past before.era base before.lent (table_part base (word_count store.shape) before.whole) before.whole
  opener_is = let shape : before.shape ≡ store.shape = sym (ap (λ (z : SeatView). z.shape) opened) ∙ together.one_shape in
      opened ∙ ap (λ (z : Shape). opener face (opening_with z list) before.past before.era base before.lent (table_part base (word_count z) before.whole) before.whole) shape

  pub next_crew : store.shape.reservations ≡ 0 → HoldsCrew face lead.view 0 0 0
  next_crew off = subst (λ (z : SeatView). HoldsCrew face z 0 0 0) (sym opener_is) (begins_crew face o laid_out set fit few off before.past before.era base before.lent (table_part base (word_count store.shape) before.whole) before.whole)

  -- the round is of its table, and opens with the list
  pub next_round : (now : RoundFacts) → lead.view.era ≡ now.era + 1 → table_of now ≡ facts_of store → round_of lead.table lead.view ≡ record now { era = now.era + 1; members = list }
  next_round now era is = let list_is : lead.view.members ≡ list = ap (λ (z : SeatView). z.members) opened in (λ j. round_of (together.one_table j) (record lead.view { era = era j; shape = together.one_shape j; members = list_is j }))
      ∙ (λ j. record { table = (sym is j).table; era = now.era + 1; bits = (sym is j).bits; members = list; workers = (sym is j).workers; updates = (sym is j).updates; room = (sym is j).room })

  -- and the crew knows the opening cut alone, and has handed nothing out
  pub next_facts : crew_facts lead false ≡ record { round = round_of lead.table lead.view; past = past_rounds lead.view.shape lead.view.past; knows = record { history = opening_cut store.shape.bits list ∷ []; accepted = [] }; steps = lead.view.steps; handed = 0; back = 0; words = (crew_facts lead false).words; free = false }
  next_facts =
      let first = begins_history face o laid_out set fit few in
      let knew : knows lead.view ≡ record { history = opening_cut o.shape.bits o.members ∷ []; accepted = [] } = ap knows opener_is ∙ (λ j. record { history = first j; accepted = [] }) in
      let none_out : unwrap_or lead.view.spare 0 ≡ 0 = ap (λ (z : SeatView). unwrap_or z.spare 0) opener_is in
      let none_back : length lead.view.held ≡ 0 = ap (λ (z : SeatView). length z.held) opener_is in
      λ j. record { round = round_of lead.table lead.view; past = past_rounds lead.view.shape lead.view.past; knows = knew j; steps = lead.view.steps; handed = none_out j; back = none_back j; words = (crew_facts lead false).words; free = false }

-- ---- a crew that loaded the root

module _ (face : ℕ → ℕ → List (ℕ × ℕ) → List ℕ) (lead : Known) (now : CrewFacts) {free : Bool} (found : ℕ) (last : SeatView) (is : crew_facts lead free ≡ now) (kn : KnowsBook face lead.view) (l : LoadsNode face lead.view (root_place lead.view.shape) found last) where
  abbrev looked : CrewFacts
  looked = crew_facts (record { table = lead.table; view = last }) free

  -- what contracts see of it
  looked_is : looked ≡ record now { knows = knows last; steps = last.steps; words = looked.words }
  looked_is = (λ i. record looked { round = round_of lead.table (l.stepped i); past = past_rounds (l.stepped i).shape (l.stepped i).past; handed = unwrap_or (l.stepped i).spare 0; back = length (l.stepped i).held })
      ∙ ap (λ (z : CrewFacts). record z { knows = knows last; steps = last.steps; words = looked.words }) is

  root_loads : last.steps ≡ now.steps ++ load_node (root_of now.round) found ∷ []
  root_loads = ap (λ (z : SeatView). z.steps) l.stepped ∙ ap (λ (z : CrewFacts). z.steps ++ load_node (root_of z.round) found ∷ []) is

  pub root_looks : KnowsRound lead.view → CrewLooks now looked
  root_looks k = let known = loaded_knowledge face lead.view last found kn l k in record {
    crew_is = looked_is;
    weights = subst (λ (z : CrewFacts). KeepWeights z.words looked.words) is (λ key serial weight. weighs_later lead.view.seen last.seen key serial weight l.sees.later);
    goes_on = subst (λ (z : CrewFacts). IsPrefix z.knows.history (knows last).history) is (knows_on face lead.view last kn (ap (λ (z : SeatView). z.shape) l.stepped) l.sees.later);
    same_changes = ap (λ (z : SeatView). changes_of z.held) l.stepped ∙ ap (λ (z : CrewFacts). z.knows.accepted) is;
    knowledge = record { is_history = known.is_history; stands = known.stands };
    loads = (found, root_loads);
  }

-- ---- the round that ended

module _ (face : ℕ → ℕ → List (ℕ × ℕ) → List ℕ) (lead : Known) (now : CrewFacts) {free : Bool} (back inserts removals found : ℕ) (last : SeatView) (is : crew_facts lead free ≡ now) (holds : HoldsCrew face lead.view back inserts removals) (l : LoadsNode face lead.view (root_place lead.view.shape) found last) where
  abbrev known : Known
  known = record { table = lead.table; view = last }

  -- its lead was a crew's still when it had loaded the root
  pub last_crew : HoldsCrew face last back inserts removals
  last_crew = let c = holds.is_crew in let known' = loaded_knowledge face lead.view last found c.knows_table l c.knowledge in record {
    handed = holds.handed;
    is_crew = record {
      keeps_records = ap (λ (z : SeatView). z.shape.reservations) l.stepped ∙ c.keeps_records;
      knows_table = loaded_table face lead.view last found c.knows_table l;
      hands_out = ap (λ (z : SeatView). z.spare) l.stepped ∙ c.hands_out;
      took_back = refl;
      knowledge = known';
    };
    few = subst (λ (z : SeatView). holds.handed ≤ z.shape.workers) (sym l.stepped) holds.few;
    back_is = subst (λ (z : SeatView). back ≡ length z.held % 2 ^ 32) (sym l.stepped) holds.back_is;
    inserts_are = subst (λ (z : SeatView). inserts ≡ inserts_of (changes_of z.held) % 2 ^ 32) (sym l.stepped) holds.inserts_are;
    removals_are = subst (λ (z : SeatView). removals ≡ removals_of (changes_of z.held) % 2 ^ 32) (sym l.stepped) holds.removals_are;
  }

  -- what contracts see of that crew
  pub last_looks : CrewLooks now (crew_facts known free)
  last_looks = root_looks face lead now found last is holds.is_crew.knows_table l holds.is_crew.knowledge

  -- the rounds that are over then
  pub over_now : (past : List PastEra) (s : Shape) → past ≡ last.past ++ record { members = last.members; book = last.seen } ∷ [] → s ≡ last.shape → past_rounds s past ≡ chapters (crew_chain (crew_facts known free))
  over_now past s is_past is_shape = (λ i. past_rounds (is_shape i) (is_past i)) ∙ map-append (λ (z : PastEra). record { members = z.members; history = root_history last.shape z.book }) last.past (record { members = last.members; book = last.seen } ∷ [])

  -- so where the table then met the rule, and all passes are back, the account of the round is closed
  pub closes_account : (words : List ℕ) → EndWith face (opening_of last) last words → now.back ≡ now.handed → IsOver now (crew_facts known free) inserts removals
  closes_account words ends all_back =
      let crew = last_crew in let spare = crew.is_crew.hands_out in
      let looks = last_looks in let all : length last.held ≡ crew.handed = ap (λ (z : CrewFacts). z.back) looks.crew_is ∙ all_back ∙ sym (ap (λ (z : CrewFacts). z.handed) looks.crew_is) ∙ ap (λ (z : Option ℕ). unwrap_or z 0) spare in
      let ended : EndedFacts = record {
        bits = last.shape.bits;
        members = pairs_of_cut (last_cut (knows last).history);
        inserts = inserts;
        removals = removals;
        missing = 0;
        calls = 0;
        rest = record { shape = last.shape; words = words };
        root = 0;
      } in
      let t = round_ended face known (crew_facts known free) crew.handed refl crew spare ends ended refl refl refl refl (none_left face known (crew_facts known free) crew.handed refl crew spare ends all) refl in record {
        last_is = looks.crew_is;
        weights = looks.weights;
        goes_on = looks.goes_on;
        same_changes = looks.same_changes;
        loads = looks.loads;
        ended = ended;
        ends = t.0;
        none_missing = refl;
        sizes = t.1 refl ∙ ap (λ (z : CrewFacts). length z.round.members + inserts) looks.crew_is;
        inserts_are = refl;
        removals_are = refl;
      }

-- ---- a crew that laid the next round out

module _ (face : ℕ → ℕ → List (ℕ × ℕ) → List ℕ) (lead : Known) (now : CrewFacts) {free : Bool} (back inserts removals : ℕ) (is : crew_facts lead free ≡ now) (holds : HoldsCrew face lead.view back inserts removals) (v : SeatView)
    (stepped : v ≡ record lead.view { whole = v.whole; steps = v.steps }) where
  pub prepared_facts : crew_facts (record { table = lead.table; view = v }) free ≡ record now { steps = v.steps }
  prepared_facts = subst (λ (z : SeatView). crew_facts (record { table = lead.table; view = z }) free ≡ record now { steps = v.steps }) (sym stepped) (ap (λ (z : CrewFacts). record z { steps = v.steps }) is)

  pub prepared_holds : HoldsCrew face v back inserts removals
  prepared_holds = let c = holds.is_crew in let k = c.knowledge in subst (λ (z : SeatView). HoldsCrew face z back inserts removals) (sym stepped) record {
    handed = holds.handed;
    is_crew = record {
      keeps_records = c.keeps_records;
      knows_table = book_as face lead.view refl refl refl c.knows_table;
      hands_out = c.hands_out;
      took_back = c.took_back;
      knowledge = record { is_history = k.is_history; stands = k.stands };
    };
    few = holds.few;
    back_is = holds.back_is;
    inserts_are = holds.inserts_are;
    removals_are = holds.removals_are;
  }

-- after it loaded the root
pub prepares : (old between new : CrewFacts) → CrewLooks old between → new ≡ record between { steps = new.steps } → IsPrefix between.steps new.steps → CrewPrepares old new
prepares old between new l is steps = record {
  crew_is = is ∙ ap (λ (z : CrewFacts). record z { steps = new.steps }) l.crew_is ∙ (λ i. record old { knows = (sym is i).knows; steps = new.steps; words = (sym is i).words });
  weights = subst (λ (z : CrewFacts). KeepWeights old.words z.words) (sym is) l.weights;
  goes_on = subst (λ (z : CrewFacts). IsPrefix old.knows.history z.knows.history) (sym is) l.goes_on;
  same_changes = ap (λ (z : CrewFacts). z.knows.accepted) is ∙ l.same_changes;
  knowledge = subst (λ (z : CrewFacts). IsKnowledge z.round.bits z.round.members z.knows) (sym is) l.knowledge;
  loads = (l.loads.0, steps.0, steps.1 ∙ ap (λ (z : List StepTaken). z ++ steps.0) l.loads.1 ∙ append_assoc old.steps (load_node (root_of old.round) l.loads.0 ∷ []) steps.0);
}

-- ---- the set of a crew

-- the set of the newest cut that its lead knows
pub crew_set : (face : ℕ → ℕ → List (ℕ × ℕ) → List ℕ) (lead : Known) (crew : CrewFacts) {free : Bool} (index : ℕ) (entry : Entry) → crew_facts lead free ≡ crew → IsNewest lead.view.seen (root_place lead.view.shape) index entry
    → pairs_of_cut (root_cut lead.view.shape lead.view.seen index) ≡ pairs_of_cut (last_cut crew.knows.history)
crew_set face lead crew {free} index entry is newest = ap pairs_of_cut (sym (last_is_cut lead.view.shape lead.view.seen index newest.last)) ∙ ap (λ (z : CrewFacts). pairs_of_cut (last_cut z.knows.history)) is

-- ---- a crew that closed its account, and closes it again after steps by which it learned nothing

module _ (old first between last : CrewFacts) (inserts removals inserts' removals' : ℕ) (a : IsOver old first inserts removals) (same : between ≡ record first { steps = between.steps }) (b : IsOver between last inserts' removals') where
  abbrev opened : Cut
  opened = opening_cut first.round.bits first.round.members

  one_round : last.round ≡ first.round
  one_round = ap (λ (z : CrewFacts). z.round) b.last_is ∙ ap (λ (z : CrewFacts). z.round) same

  grows : IsPrefix first.knows.history last.knows.history
  grows = subst (λ (z : CrewFacts). IsPrefix z.knows.history last.knows.history) same b.goes_on

  one_count : last.knows.accepted ≡ first.knows.accepted
  one_count = b.same_changes ∙ ap (λ (z : CrewFacts). z.knows.accepted) same

  tallies : (crew : CrewFacts) (ended : EndedFacts) → Ends crew ended → ended.missing ≡ 0 → Tallies (opening_cut crew.round.bits crew.round.members) (last_cut crew.knows.history) crew.knows.accepted
  tallies crew ended e none = none_lost_tallies crew.round.updates (opening_cut crew.round.bits crew.round.members) (last_cut crew.knows.history) crew.knows.history crew.knows.accepted
      (subst (λ (z : ℕ). TalliesWithLost crew.round.updates z (opening_cut crew.round.bits crew.round.members) (last_cut crew.knows.history) crew.knows.history crew.knows.accepted) none e.tallies)

  -- the set is what it was, since all changes were counted already
  set_stays : pairs_of_cut (last_cut first.knows.history) ≡ b.ended.members
  set_stays =
      let began = a.ends.is_history in let is_history = subst (λ (z : RoundFacts). IsHistory z.bits z.members last.knows.history) one_round b.ends.is_history in
      let some = opens-some first.round.bits first.round.members first.knows.history began first.knows.history began.opens in
      let after : Tallies opened (last_cut last.knows.history) first.knows.accepted = subst (λ (z : RoundFacts × List Change). Tallies (opening_cut z.0.bits z.0.members) (last_cut last.knows.history) z.1) (λ j. (one_round j, one_count j)) (tallies last b.ended b.ends b.none_missing) in
      ap pairs_of_cut (sym (same_end opened (last_cut first.knows.history) (last_cut last.knows.history) first.knows.accepted
      (opening-at_most first.round.bits first.round.members first.knows.history began first.knows.history began.opens (prefix_refl first.knows.history))
      (last-at_most_final first.round.bits first.round.members last.knows.history is_history first.knows.history some grows) (tallies first a.ended a.ends a.none_missing) after)) ∙ sym b.ends.members

  -- so this is one account
  pub over_again : (o : IsOver old (record last { steps = first.steps }) inserts removals) × (pairs_of_cut (last_cut first.knows.history) ≡ o.ended.members)
  over_again = let e = b.ends in (
    record {
      last_is = ap (λ (z : CrewFacts). record z { steps = first.steps }) b.last_is ∙ ap (λ (z : CrewFacts). record z { knows = last.knows; steps = first.steps; words = last.words }) same ∙ ap (λ (z : CrewFacts). record z { knows = last.knows; steps = first.steps; words = last.words }) a.last_is;
      weights = λ key serial weight has. b.weights key serial weight (subst (λ (z : CrewFacts). Weighed z.words key serial weight) (sym same) (a.weights key serial weight has));
      goes_on = prefix_trans old.knows.history first.knows.history last.knows.history a.goes_on grows;
      same_changes = one_count ∙ a.same_changes;
      loads = a.loads;
      ended = b.ended;
      ends = record { bits = e.bits; members = e.members; inserts = e.inserts; removals = e.removals; missing = e.missing; no_calls = e.no_calls; is_history = e.is_history; tallies = e.tallies; ledger = e.ledger };
      none_missing = b.none_missing;
      sizes = b.sizes ∙ ap (λ (z : CrewFacts). length z.round.members + b.ended.inserts) same ∙ ap (λ (z : CrewFacts). length z.round.members + b.ended.inserts) a.last_is;
      inserts_are = a.inserts_are ∙ a.ends.inserts ∙ ap inserts_of (sym one_count) ∙ sym e.inserts;
      removals_are = a.removals_are ∙ a.ends.removals ∙ ap removals_of (sym one_count) ∙ sym e.removals;
    },
    set_stays,
  )
