use Rattle.std.proofs.Common.{false, ◌≡◌, ◌+◌, ◌^◌, ◌≤◌, ◌++◌, ◌∙◌, ℕ, List, [], ◌∷◌, length, arith, ap, sym, subst, refl}
use Rattle.std.specs.Prelude.{Option, unwrap_or}
use Rattle.std.proofs.lemmas.Bool.{false≢true}
use Rattle.aug_model.proofs.Boundaries.{IsKeySet-few}
use Rattle.aug_model.specs.Keys.{IsKeySet, keys_of}
use Rattle.aug_model.proofs.Pairs.{length-keys_of}
use Rattle.aug_core.specs.Cuts.{opening_cut, pairs_of_cut}
use Rattle.aug_core.specs.Faces.{face}
use Rattle.aug_core.specs.Layout.{IsLayout}
use Rattle.aug_core.specs.Places.{Shape}
use Rattle.aug_core.specs.inside.RootCuts.{root_cut}
use Rattle.aug_core.specs.declared.view.SeatView.{SeatView}
use Rattle.aug_core.specs.Renewals.{reopening}
use Rattle.aug_words.proofs.CutSets.{root_pairs}
use Rattle.aug_words.specs.Seats.{Store, Known}
use Rattle.aug_trie.specs.Chains.{chapters}
use Rattle.aug_trie.specs.Crew.{CrewFacts, crew_chain}
use Rattle.aug_trie.specs.Round.{TableFacts, RoundFacts, table_of}
use Rattle.aug_trie.specs.inside.CrewState.{crew_facts}
use Rattle.aug_trie.specs.inside.RoundState.{round_of, past_rounds}
use Rattle.aug_trie.proofs.RollingOver.{next_crew, next_round, next_facts, over_now, closes_account, crew_set, over_again, prepared_facts, prepared_holds}
use Rattle.aug_trie.proofs.RoundLemmas.{of_round, crew_told}
use Rattle.aug_trie.proofs.Trees.{tree_set}
use Rattle.aug_trie.proofs.rounds.round.Round.renew.Goals as goal

pub open_again-lead-requires : goal.open_again-lead-requires
open_again-lead-requires g c =
    let first : CrewFacts = c.over-inserts.new.self in let a = c.over-inserts.ensures in let told = crew_told c.crew.invariant c.in-Some.is c.crew.view_is in let spare = told.0.is_crew.hands_out in
    let here : table_of first.round ≡ c.args.self.now = ap (λ (z : CrewFacts). table_of z.round) a.last_is ∙ c.requires.together in
    let all : first.back ≡ first.handed = ap (λ (z : CrewFacts). z.back) a.last_is ∙ c.requires.all_back ∙ sym (ap (λ (z : CrewFacts). z.handed) a.last_is) in record {
      together = of_round c.self.inside.words c.in-Some.lead first c.args.self.now c.self.invariant.keeps_records told.0.is_crew.keeps_records told.1 here c.self.view_is;
      room = subst (λ (z : TableFacts). 2 ^ z.bits ≤ z.room) (c.requires.together ∙ sym c.self.view_is) c.requires.room;
      keeps = c.self.invariant.keeps_records;
      all = record { next = told.0.handed; hands_out = spare; all = ap (λ (z : CrewFacts). z.back) told.1 ∙ all ∙ sym (ap (λ (z : CrewFacts). z.handed) told.1) ∙ ap (λ (z : Option ℕ). unwrap_or z 0) spare };
      free = told.2 (ap (λ (z : CrewFacts). z.free) told.1 ∙ ap (λ (z : CrewFacts). z.free) a.last_is ∙ c.requires.free);
    }

pub invariant_of-crew : goal.invariant_of-crew
invariant_of-crew g c =
    let f = face g.A.Monoid.parts g.B.Monoid.parts in let old : Store = c.self.inside.words in let s : Shape = old.shape in let i = c.crew.inside in let now : RoundFacts = c.args.crew.round in
    let first : CrewFacts = c.over-inserts.new.self in let a = c.over-inserts.ensures in let lead : Known = c.in-Some.lead in let told = crew_told c.crew.invariant c.in-Some.is c.crew.view_is in
    let here : table_of first.round ≡ c.args.self.now = ap (λ (z : CrewFacts). table_of z.round) a.last_is ∙ c.requires.together in let together = of_round old lead first c.args.self.now c.self.invariant.keeps_records told.0.is_crew.keeps_records told.1 here c.self.view_is in
    let laid_out : IsLayout s = subst IsLayout together.one_shape told.0.is_crew.knows_table.laid_out in
    let room : 2 ^ s.bits ≤ s.members = subst (λ (z : TableFacts). 2 ^ z.bits ≤ z.room) (c.requires.together ∙ sym c.self.view_is) c.requires.room in
    let e = c.open_again-lead.ensures in let o = e.opens in let next : Known = c.open_again-lead.result in
    let list : List (ℕ × ℕ) = pairs_of_cut (root_cut lead.view.shape lead.view.seen o.index) in let opened = o.opened ∙ ap (λ (z : List (ℕ × ℕ)). reopening f z o.base o.before) (root_pairs f lead.view.shape lead.view.seen told.0.is_crew.knows_table.book o.index o.entry o.newest.at) in let tree = tree_set f lead.view o.index told.0.is_crew.knows_table in
    let keys : IsKeySet s.bits (keys_of list) = subst (λ (z : Shape). IsKeySet z.bits (keys_of list)) together.one_shape tree.is_key_set in
    let few : length list ≤ s.members = (let all = IsKeySet-few s.bits (keys_of list) keys in let long = length-keys_of list in omega arith) in
    record { known = next; there = refl; holds = next_crew f old next o.before o.base list e.together opened laid_out keys tree.fit few c.self.invariant.keeps_records; opens = λ is. absurd (false≢true is) }

pub returns : goal.returns
returns g c =
    let f = face g.A.Monoid.parts g.B.Monoid.parts in let old : Store = c.self.inside.words in let s : Shape = old.shape in let i = c.crew.inside in let now : RoundFacts = c.args.crew.round in
    let first : CrewFacts = c.over-inserts.new.self in let a = c.over-inserts.ensures in let lead : Known = c.in-Some.lead in let told = crew_told c.crew.invariant c.in-Some.is c.crew.view_is in
    let here : table_of first.round ≡ c.args.self.now = ap (λ (z : CrewFacts). table_of z.round) a.last_is ∙ c.requires.together in let together = of_round old lead first c.args.self.now c.self.invariant.keeps_records told.0.is_crew.keeps_records told.1 here c.self.view_is in
    let laid_out : IsLayout s = subst IsLayout together.one_shape told.0.is_crew.knows_table.laid_out in
    let room : 2 ^ s.bits ≤ s.members = subst (λ (z : TableFacts). 2 ^ z.bits ≤ z.room) (c.requires.together ∙ sym c.self.view_is) c.requires.room in
    let e = c.open_again-lead.ensures in let o = e.opens in let next : Known = c.open_again-lead.result in
    let list : List (ℕ × ℕ) = pairs_of_cut (root_cut lead.view.shape lead.view.seen o.index) in let opened = o.opened ∙ ap (λ (z : List (ℕ × ℕ)). reopening f z o.base o.before) (root_pairs f lead.view.shape lead.view.seen told.0.is_crew.knows_table.book o.index o.entry o.newest.at) in let tree = tree_set f lead.view o.index told.0.is_crew.knows_table in
    let keys : IsKeySet s.bits (keys_of list) = subst (λ (z : Shape). IsKeySet z.bits (keys_of list)) together.one_shape tree.is_key_set in
    let few : length list ≤ s.members = (let all = IsKeySet-few s.bits (keys_of list) keys in let long = length-keys_of list in omega arith) in
    let prepared : Known = record { table = lead.table; view = o.prepared } in let between : CrewFacts = record first { steps = o.prepared.steps } in
    let facts_between = prepared_facts f lead first i.back i.inserts i.removals told.1 told.0 o.prepared o.prepared_is in let holds = prepared_holds f lead first i.back i.inserts i.removals told.1 told.0 o.prepared o.prepared_is in
    let r = o.rests in let last : SeatView = r.last in let after : CrewFacts = crew_facts (record { table = lead.table; view = last }) i.free in
    let all : between.back ≡ between.handed = ap (λ (z : CrewFacts). z.back) a.last_is ∙ c.requires.all_back ∙ sym (ap (λ (z : CrewFacts). z.handed) a.last_is) in
    let b = closes_account f prepared between i.back i.inserts i.removals r.root last facts_between holds r.loaded _ r.rule all in
    let again = over_again c.args.crew first between after c.over-inserts.result.0 c.over-inserts.result.1 i.inserts i.removals a refl b in let one = again.0 in
    let shaped : last.shape ≡ s = ap (λ (z : SeatView). z.shape) r.loaded.stepped ∙ ap (λ (z : SeatView). z.shape) o.prepared_is ∙ together.one_shape in
    let members : list ≡ one.ended.members = crew_set f lead first o.index o.entry told.1 o.newest ∙ again.1 in
    let era : next.view.era ≡ now.era + 1 = ap (λ (z : SeatView). z.era) o.opened ∙ o.next.0 ∙ ap (λ (z : SeatView). z.era) r.idle_is ∙ ap (λ (z : SeatView). z.era + 1) r.loaded.stepped ∙ ap (λ (z : SeatView). z.era + 1) o.prepared_is ∙ ap (λ (z : CrewFacts). z.round.era + 1) told.1 ∙ ap (λ (z : CrewFacts). z.round.era + 1) a.last_is in
    let facts = next_facts f old next o.before o.base list e.together opened laid_out keys tree.fit few in
    let round = next_round f old next o.before o.base list e.together opened laid_out keys tree.fit few now era (c.requires.together ∙ sym c.self.view_is) in
    let past : next.view.past ≡ last.past ++ record { members = last.members; book = last.seen } ∷ [] = ap (λ (z : SeatView). z.past) o.opened ∙ o.next.1 ∙ ap (λ (z : SeatView). z.past) r.idle_is in
    let over : past_rounds next.view.shape next.view.past ≡ chapters (crew_chain after) = over_now f prepared between i.back i.inserts i.removals r.root last facts_between holds r.loaded next.view.past next.view.shape past (e.together.one_shape ∙ sym shaped) in
    let bits : s.bits ≡ now.bits = ap (λ (z : TableFacts). z.bits) (c.self.view_is ∙ sym c.requires.together) in
    record {
      last = record after { steps = first.steps };
      last_is = one.last_is;
      weights = one.weights;
      goes_on = one.goes_on;
      same_changes = one.same_changes;
      loads = one.loads;
      ended = one.ended;
      ends = one.ends;
      none_missing = one.none_missing;
      sizes = one.sizes;
      inserts_are = one.inserts_are;
      removals_are = one.removals_are;
      round_is = round ∙ (λ j. record now { era = now.era + 1; members = members j });
      crew_is = facts ∙ (λ j. record { round = round_of next.table next.view; past = over j; knows = record { history = opening_cut (bits j) (members j) ∷ []; accepted = [] }; steps = next.view.steps; handed = 0; back = 0; words = (crew_facts next false).words; free = false });
    }
