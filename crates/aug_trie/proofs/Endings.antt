-- How a round ends, and the trie that no round ended.
use Rattle.std.proofs.Common.{◌≡◌, ℕ, Bool, zero, suc, ◌+◌, ◌-◌, ◌*◌, ◌%◌, ◌^◌, ◌<◌, ◌≤◌, eqb, List, [], ◌∷◌, ◌++◌, flat_map, All, get_or, length, length-append, refl, sym, ap, ◌∙◌, subst, arith, Option, Some}
use Rattle.std.specs.Prelude.{unwrap_or}
use Rattle.std.proofs.Math.Nat.{mod-eq_of_lt}
use mathlib.Core.Option.{some}
use lib.ListN.{get_elem?}
use Rattle.atomic_table.specs.Seated.{TableId}
use Rattle.std.proofs.lemmas.List.Elements.{All-nil}
use Rattle.aug_monoid.specs.Weighted.{FitsPair}
use Rattle.aug_model.specs.Keys.{IsKeySet, keys_of}
use Rattle.aug_model.proofs.Pairs.{length-keys_of, length-pairs_of}
use Rattle.aug_core.specs.Places.{Shape, shape_of, own_records, record_words}
use Rattle.aug_core.specs.Layout.{IsLayout, IsWithin}
use Rattle.aug_core.specs.Addresses.{IsInner, root_place}
use Rattle.aug_core.specs.Book.{At, history_of}
use Rattle.aug_core.specs.Counts.{changes_of}
use Rattle.aug_core.specs.Cuts.{Cut, weight_at, set_of_cut, pairs_of_cut, opening_cut, IsAtMost}
use Rattle.aug_core.specs.Rule.{Kept}
use Rattle.aug_core.specs.Effects.{opening_of}
use Rattle.aug_core.specs.declared.view.Entry.{Entry}
use Rattle.aug_core.specs.declared.view.Held.{Held}
use Rattle.aug_core.specs.declared.view.SeatView.{SeatView}
use Rattle.aug_core.proofs.PlaceLemmas.{keys-within}
use Rattle.aug_core.proofs.Sizes.{twice}
use Rattle.aug_core.proofs.Moves.{St}
use Rattle.aug_core.specs.Renewals.{EndWith}
use Rattle.aug_words.specs.Rests.{AtRest, ShowAll}
use Rattle.aug_words.specs.Seats.{Known}
use Rattle.aug_trie.specs.History.{last_cut}
use Rattle.aug_trie.specs.Knowledge.{insertion, removal, inserts_of, removals_of}
use Rattle.aug_core.specs.declared.view.Change.{Change}
use Rattle.aug_trie.specs.inside.Knows.{knows}
use Rattle.aug_trie.specs.inside.CrewState.{crew_facts, HoldsCrew}
use Rattle.aug_trie.specs.Ended.{EndedFacts}
use Rattle.aug_trie.specs.inside.EndedTree.{word_in}
use Rattle.aug_trie.specs.Crew.{CrewFacts, Ends}
use Rattle.aug_trie.specs.Ledger.{IsLedger}
use Rattle.aug_trie.specs.Tallies.{TalliesWithLost}
use Rattle.aug_core.proofs.Counting.{filter_shorter}
use Rattle.aug_trie.proofs.Tallying.{held_few, accounts_at_end, none_lost_tallies}
use Rattle.aug_trie.proofs.CutLemmas.{set_of_cut-opening, pairs_of_cut-opening}
use Rattle.aug_trie.proofs.TallyLemmas.{sizes}
use Rattle.aug_trie.proofs.Histories.{root_some, first_cut, last_is}
use Rattle.aug_core.proofs.EntryCuts.{root_rises}
use Rattle.aug_core.specs.inside.RootCuts.{root_cut}

-- the words at rest, in terms of what the lead knows
pub shows_seen : (face : ℕ → ℕ → List (ℕ × ℕ) → List ℕ) (v : SeatView) (rest : AtRest) → rest.shape ≡ v.shape → ShowAll face (opening_of v) v rest.words
    → (q i field : ℕ) (e : Entry) → IsInner v.shape q → At v.seen q i e → field < record_words → word_in rest e.number field ≡ get_or e.words field 0
shows_seen face v rest shape all q i field e inner p low = ap (λ (z : Shape). word_in (record { shape = z; words = rest.words }) e.number field) shape ∙ all.seen_records q i field e inner p low

-- ---- the end of a round

-- lanes with few changes each have few in all
changes_few : (held : List Held) (most : ℕ) → ((a : ℕ) (h : Held) → get_elem? held a ≡ some h → length h.changes ≤ most) → length (changes_of held) ≤ length held * most
changes_few [] most each = omega arith
changes_few (h ∷ hs) most each = let here = each 0 h refl in let rest = changes_few hs most (λ a g p. each (suc a) g p) in
    let long = length-append h.changes (changes_of hs) in omega arith

module _ (face : ℕ → ℕ → List (ℕ × ℕ) → List ℕ) (v : SeatView) (back inserts removals : ℕ) (c : HoldsCrew face v back inserts removals) (s : St) (r : Kept face (opening_of v) s) (id : ℕ) (at : get_elem? s.views id ≡ some v) where
  all_held : length v.held ≤ c.handed
  all_held = held_few face s id c.handed v r at c.is_crew.hands_out c.is_crew.knows_table c.is_crew.knowledge.stands

  pub back_exact : back ≡ length v.held
  back_exact = let few = all_held in let most = c.few in let workers = c.is_crew.knows_table.laid_out.workers.1 in c.back_is ∙ mod-eq_of_lt (omega arith)

  pub back_few : back ≤ c.handed
  back_few = let is = back_exact in let few = all_held in omega arith

  changes_fit : length (changes_of v.held) < 2 ^ 32
  changes_fit = let few = all_held in let most = c.few in let laid = c.is_crew.knows_table.laid_out in let workers = laid.workers.1 in let updates = laid.updates.1 in
      let t = r.changes.tallied c.is_crew.keeps_records in let le = changes_few v.held 131072 (λ a h p. let is = t.each id a v h at p in let le = t.few h.lane ((r.each_view id v at).holds a h p).exists in omega arith) in omega arith

  inserts_exact : inserts ≡ inserts_of (changes_of v.held)
  inserts_exact = let fit = changes_fit in let le : inserts_of (changes_of v.held) ≤ length (changes_of v.held) = filter_shorter (λ (z : Change). eqb (z.serial % 2) insertion) (changes_of v.held) in c.inserts_are ∙ mod-eq_of_lt (omega arith)

  removals_exact : removals ≡ removals_of (changes_of v.held)
  removals_exact = let fit = changes_fit in let le : removals_of (changes_of v.held) ≤ length (changes_of v.held) = filter_shorter (λ (z : Change). eqb (z.serial % 2) removal) (changes_of v.held) in c.removals_are ∙ mod-eq_of_lt (omega arith)

  -- the last cut is no lower than the opening one
  risen : IsAtMost (opening_cut v.shape.bits v.members) (last_cut (knows v).history)
  risen = let kn = c.is_crew.knows_table in let some_there = root_some face v kn in let i : ℕ = length (history_of v.seen (root_place v.shape)) - 1 in
      subst (λ (z : Cut). IsAtMost z (last_cut (knows v).history)) (first_cut face v kn)
      (subst (IsAtMost (root_cut v.shape v.seen 0)) (sym (last_is v.shape v.seen i (omega arith))) (root_rises face v.shape v.seen kn.book 0 i (omega arith) (omega arith)))

  -- with so many passes missing
  abbrev Accounts : ℕ → Type 0
  Accounts missing = (t : TalliesWithLost v.shape.updates missing (opening_cut v.shape.bits v.members) (last_cut (knows v).history) (knows v).history (changes_of v.held))
      × IsLedger (record { shape = v.shape; book = v.seen }) v.shape.bits v.members (knows v).history (changes_of v.held ++ flat_map (λ list. list) t.all.lists)

  pub ends_so : (table : TableId) (free : Bool) (ended : EndedFacts) → ended.bits ≡ v.shape.bits → ended.members ≡ pairs_of_cut (last_cut (knows v).history) → ended.inserts ≡ inserts → ended.removals ≡ removals → ended.missing ≡ c.handed - back → ended.calls ≡ 0
      → Ends (crew_facts (record { table = table; view = v }) free) ended
  ends_so table free ended bits members ins rem miss loads = let spare : unwrap_or v.spare 0 ≡ c.handed = ap (λ (z : Option ℕ). unwrap_or z 0) c.is_crew.hands_out in
      let both : Accounts ended.missing = subst Accounts (ap (λ (z : ℕ). c.handed - z) (sym back_exact) ∙ sym miss)
      (accounts_at_end face s id c.handed v r at c.is_crew.hands_out c.is_crew.knows_table c.is_crew.knowledge.stands c.is_crew.keeps_records risen) in record {
        bits = bits;
        members = members;
        inserts = ins ∙ inserts_exact;
        removals = rem ∙ removals_exact;
        missing = let few = back_few in let is = back_exact in omega arith;
        no_calls = loads;
        is_history = c.is_crew.knowledge.is_history;
        tallies = both.0;
        ledger = both.1;
      }

  -- so where no pass is missing, the set grew by the insertions and shrank by the removals
  pub sizes_so : (table : TableId) (free : Bool) (ended : EndedFacts) → Ends (crew_facts (record { table = table; view = v }) free) ended → ended.missing ≡ 0 → length ended.members + ended.removals ≡ length v.members + ended.inserts
  sizes_so table free ended e none = let first : Cut = opening_cut v.shape.bits v.members in let last : Cut = last_cut (knows v).history in let all : List Change = changes_of v.held in
      let tally = none_lost_tallies v.shape.updates first last (knows v).history all (subst (λ (z : ℕ). TalliesWithLost v.shape.updates z first last (knows v).history all) none e.tallies) in
      let sum = sizes first last all risen tally in let opened : length (set_of_cut first) ≡ length v.members = ap (λ (z : List ℕ). length z) (set_of_cut-opening v.shape.bits v.members c.is_crew.knows_table.key_set) ∙ length-keys_of v.members in
      let members : length ended.members ≡ length (set_of_cut last) = ap (λ (z : List (ℕ × ℕ)). length z) e.members ∙ length-pairs_of (weight_at last) (set_of_cut last) in let ins = e.inserts in let rem = e.removals in omega arith

-- the lead of a round whose table is at rest: what is left is the round's end, and its sizes tally where no pass is missing
module _ (face : ℕ → ℕ → List (ℕ × ℕ) → List ℕ) (lead : Known) (now : CrewFacts) {free : Bool} (handed : ℕ) {back inserts removals : ℕ} {words : List ℕ} (is : crew_facts lead free ≡ now)
    (holds : HoldsCrew face lead.view back inserts removals) (spare : lead.view.spare ≡ Some handed) (e : EndWith face (opening_of lead.view) lead.view words) where
  pub no_more_back : back ≤ handed
  no_more_back = let at : holds.handed ≡ handed = ap (λ (z : Option ℕ). unwrap_or z 0) (sym holds.is_crew.hands_out ∙ spare) in let few = back_few face lead.view back inserts removals holds e.state e.kept e.seat e.view_is in omega arith

  -- no pass is left out where as many came back as were handed out
  pub none_left : length lead.view.held ≡ handed → 0 ≡ handed - back
  none_left all = let exact = back_exact face lead.view back inserts removals holds e.state e.kept e.seat e.view_is in omega arith

  pub round_ended : (ended : EndedFacts) → ended.bits ≡ lead.view.shape.bits → ended.members ≡ pairs_of_cut (last_cut (knows lead.view).history) → ended.inserts ≡ inserts → ended.removals ≡ removals → ended.missing ≡ handed - back → ended.calls ≡ 0
      → Ends now ended × (ended.missing ≡ 0 → length ended.members + ended.removals ≡ length now.round.members + ended.inserts)
  round_ended ended bits members ins rem miss loads =
      let ends = ends_so face lead.view back inserts removals holds e.state e.kept e.seat e.view_is lead.table free ended bits members ins rem (miss ∙ ap (λ (z : Option ℕ). unwrap_or z 0 - back) (sym spare ∙ holds.is_crew.hands_out)) loads in
      let sizes = sizes_so face lead.view back inserts removals holds e.state e.kept e.seat e.view_is lead.table free ended ends in
      subst (λ (z : CrewFacts). Ends z ended × (ended.missing ≡ 0 → length ended.members + ended.removals ≡ length z.round.members + ended.inserts)) is (ends, sizes)

-- ---- the empty trie

-- no members have no records of their own
none_own : (bits level : ℕ) → own_records bits 0 level ≡ 0
unfolding own_records
none_own bits zero = refl
none_own bits (suc level) = let is = none_own bits level in omega arith

-- a table of one worker with one update and no member can be laid out
pub smallest : (bits : ℕ) → IsWithin 1 16 bits → IsLayout (shape_of bits 1 1 0)
smallest bits within = let t = twice bits in let k = keys-within bits within.0 within.1 in let none = none_own bits bits in record { bits = within; workers = (omega arith, omega arith); updates = (omega arith, omega arith); words = omega arith }

pub no_keys : (bits : ℕ) → IsKeySet bits (keys_of [])
no_keys bits = record { rising = λ k low. absurd (let e : k + 1 < 0 = low in omega arith); below = All-nil (λ k. k < 2 ^ bits) }

pub none_fit : All FitsPair []
none_fit = All-nil FitsPair

-- the opening cut of no members shows none
pub none_shown : (bits : ℕ) → pairs_of_cut (opening_cut bits []) ≡ []
none_shown bits = pairs_of_cut-opening bits [] (no_keys bits)
