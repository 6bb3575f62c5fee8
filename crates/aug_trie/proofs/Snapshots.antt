-- A pass that only looked is one still, and a load of the root is a snapshot.
use Rattle.std.proofs.Common.{◌≡◌, ℕ, Some, zero, suc, ◌+◌, ◌-◌, ◌*◌, ◌<◌, ◌≤◌, eq-eqb, List, [], ◌∷◌, ◌++◌, length, length-append, sym, ap, ◌∙◌, subst, ⊎_elim, arith, ◌==◌, get_or}
use Rattle.std.specs.Prelude.{unwrap_or}
use Rattle.std.proofs.lemmas.Bool.{cases_lt, cond_both, eqb-true, false≢true}
use Rattle.std.proofs.lemmas.List.{append-nil, length-map, get_or-map}
use Rattle.std.proofs.lemmas.List.Elements.{All-nil}
use Rattle.aug_core.specs.Places.{Shape}
use Rattle.aug_core.specs.Addresses.{IsInner, root_place}
use Rattle.aug_core.specs.Book.{Book, history_of, At, NamesOnce, IsBook}
use Rattle.aug_core.specs.Counts.{changes_of}
use Rattle.aug_core.specs.inside.RootCuts.{root_cut}
use Rattle.aug_core.specs.inside.EntryCuts.{entry_of}
use Rattle.aug_core.specs.Effects.{KnowsBook, LoadsNode, opening_of}
use Rattle.aug_core.specs.declared.view.Change.{Change}
use Rattle.aug_core.specs.declared.view.Entry.{Entry}
use Rattle.aug_core.specs.declared.view.SeatView.{SeatView}
use Rattle.aug_core.proofs.Books.{at_below, one_name}
use Rattle.aug_core.proofs.OpeningCuts.{root_inner}
use Rattle.aug_core.proofs.Sizes.{twice}
use Rattle.aug_trie.specs.inside.Goes.{HasLeaves, Goes}
use Rattle.aug_trie.specs.History.{last_cut}
use Rattle.aug_trie.specs.Knowledge.{StandsIn}
use Rattle.aug_trie.specs.Updates.{TakesSnapshot}
use Rattle.aug_trie.specs.inside.Knows.{knows, root_numbers}
use Rattle.std.specs.Path.{rfind_below}
use Rattle.aug_trie.specs.Snapshot.{index_in}
use Rattle.aug_trie.specs.declared.queries.snapshot.Snapshot.{Snapshot}
use Rattle.aug_trie.specs.inside.PassState.{pass_facts, IsPass}
use Rattle.aug_trie.specs.inside.RoundState.{round_of, past_rounds}
use Rattle.aug_trie.specs.Pass.{PassFacts, GoesOn}
use Rattle.atomic_table.specs.Seated.{TableId}
use Rattle.aug_core.specs.Kinds.{load_node}
use Rattle.aug_core.specs.declared.step.StepTaken.{StepTaken}
use Rattle.aug_trie.proofs.Accepting.{knowledge_on, snapshot_is}
use Rattle.aug_trie.proofs.Going.{goes_more, room_on}
use Rattle.aug_trie.proofs.Histories.{some_bits, history_long, numbers_long, cut_at}
use Rattle.aug_trie.specs.inside.NamedCuts.{HasNamed, cut_named, IsSnapshotOf}
use Rattle.aug_core.proofs.EntryCuts.{entry_at, entry_is}
use Rattle.aug_core.specs.Opening.{serial_entry}

-- ---- where a snapshot's number stands in a list

module _ (numbers : List ℕ) (held : Snapshot) where
  abbrev end : ℕ
  end = length numbers

  below_is : (n : ℕ) → let i = unwrap_or (rfind_below held.number numbers n) end in i < end → get_or numbers i 0 ≡ held.number
  below_is zero low = absurd (omega arith)
  below_is (suc n) low = cond_both (get_or numbers n 0 == held.number) (Some n) (rfind_below held.number numbers n) (λ r. unwrap_or r end < end → get_or numbers (unwrap_or r end) 0 ≡ held.number)
      (λ same _. eqb-true (get_or numbers n 0) held.number same) (λ other. below_is n) low

  -- if it stands there, it does at the snapshot's index
  pub at_index : index_in numbers held < end → get_or numbers (index_in numbers held) 0 ≡ held.number
  at_index = below_is end

  -- which is in the list if it stands among the first n
  index_low : (n i : ℕ) → i < n → n ≤ end → get_or numbers i 0 ≡ held.number → unwrap_or (rfind_below held.number numbers n) end < end
  index_low zero i low most is = absurd (omega arith)
  index_low (suc n) i low most is = cond_both (get_or numbers n 0 == held.number) (Some n) (rfind_below held.number numbers n) (λ r. unwrap_or r end < end) (λ same. omega arith)
      (λ other. ⊎_elim (λ (less : i < n). index_low n i less (omega arith) is)
      (λ (last : n ≤ i). absurd (let e : i ≡ n = omega arith in false≢true (sym other ∙ eq-eqb (get_or numbers n 0) held.number (subst (λ (z : ℕ). get_or numbers z 0 ≡ held.number) e is))))
      (cases_lt i n))

-- ---- the records of the root

-- what names an entry of the root
pub number_at : (s : Shape) (book : Book) (i : ℕ) (e : Entry) → At book (root_place s) i e → (i < length (root_numbers s book)) × (get_or (root_numbers s book) i 0 ≡ e.word)
number_at s book i e at = let low = at_below (history_of book (root_place s)) i e at in let long = length-map (history_of book (root_place s)) (λ (z : Entry). z.word) in
    (omega arith, get_or-map (λ (z : Entry). z.word) (history_of book (root_place s)) i (serial_entry 0 0 0) 0 low ∙ ap (λ (z : Entry). z.word) (entry_is book (root_place s) i e at))

-- a snapshot of the root's has the number of the entry at its index
abbrev pub entry_shown : (s : Shape) (book : Book) (held : Snapshot) → HasNamed s book held → IsSnapshotOf s book held.number
entry_shown s book held has = let i = index_in (root_numbers s book) held in let low : i < length (history_of book (root_place s)) = (let long = length-map (history_of book (root_place s)) (λ (z : Entry). z.word) in omega arith) in
    let at = entry_at book (root_place s) i low in
    record { index = i; entry = entry_of book (root_place s) i; at = at; named = sym (at_index (root_numbers s book) held has) ∙ (number_at s book i (entry_of book (root_place s) i) at).1 }

-- and its cut is that entry's
pub cut_is : (s : Shape) (book : Book) (held : Snapshot) → HasNamed s book held → cut_named s book held ≡ root_cut s book (index_in (root_numbers s book) held)
cut_is s book held has = let long = numbers_long s book in let same = history_long s book in cut_at s book (index_in (root_numbers s book) held) (omega arith)

-- one with the number of an entry of the root shows that entry, for a record stands once in the root's history
pub shows_entry : (face : ℕ → ℕ → List (ℕ × ℕ) → List ℕ) (s : Shape) (book : Book) (held : Snapshot) (i : ℕ) (e : Entry) → IsBook face s book → NamesOnce s book → IsInner s (root_place s) → At book (root_place s) i e → held.number ≡ e.word
    → HasNamed s book held × (cut_named s book held ≡ root_cut s book i)
shows_entry face s book held i e b once inner at named =
    let n = number_at s book i e at in let has : HasNamed s book held = index_low (root_numbers s book) held (length (root_numbers s book)) i n.0 (omega arith) (n.1 ∙ sym named) in
    let t = entry_shown s book held has in
    (has, cut_is s book held has ∙ ap (root_cut s book) (once.once (root_place s) t.index i t.entry e inner t.at at (one_name face s book b (root_place s) t.index i t.entry e inner t.at at (sym t.named ∙ named)).0))

module _ (face : ℕ → ℕ → List (ℕ × ℕ) → List ℕ) where
  -- a pass that only looked is one still
  pub pass_still : (v w : SeatView) (leaves bits next left : ℕ) → IsPass face v leaves bits next left → Goes face 0 [] v w → IsPass face w leaves bits next left
  pass_still v w leaves bits next left p g = let goes = goes_more face 0 next [] v w (omega arith) g in let shape = goes.shaped in record {
    leaves_are = subst (λ (z : Shape). HasLeaves z leaves) (sym shape) p.leaves_are;
    bits_are = p.bits_are ∙ ap (λ (z : Shape). z.bits) (sym shape);
    knows_table = goes.knows_table;
    room = room_on face [] v w next (left * bits) g p.room;
    budget = let l : length (changes_of w.held) ≡ length (changes_of v.held) = ap (λ (z : List Change). length z) (goes.changes ∙ append-nil (changes_of v.held)) in
        let u : w.shape.updates ≡ v.shape.updates = ap (λ (z : Shape). z.updates) shape in let b = p.budget in omega arith;
    small = p.small;
    knowledge = knowledge_on face 0 [] v w p.knows_table g (All-nil (StandsIn (last_cut (knows w).history))) p.knowledge;
  }

  -- the root is a node of the pass's table
  pub root_node : (v : SeatView) (leaves : ℕ) → HasLeaves v.shape leaves → KnowsBook face v → IsInner v.shape (2 * leaves - 2) × (root_place v.shape ≡ 2 * leaves - 2)
  root_node v leaves are kn = let inner = root_inner face (opening_of v) (some_bits face v kn) in let l = are.are in let t = twice v.shape.bits in
      let e : root_place v.shape ≡ 2 * leaves - 2 = omega arith in (subst (IsInner v.shape) e inner, e)

  -- a load of the root
  module _ (v w : SeatView) (r leaves bits next left : ℕ) (p : IsPass face v leaves bits next left) (t : LoadsNode face v (root_place v.shape) r w) where
    abbrev held : Snapshot
    held = record { number = r }

    shows : HasNamed v.shape w.seen held × (cut_named v.shape w.seen held ≡ root_cut v.shape w.seen t.index)
    shows = shows_entry face v.shape w.seen held t.index t.entry t.sees.book (t.sees.named p.room.keeps_records) (root_inner face (opening_of v) (some_bits face v p.knows_table)) t.newest.at t.found

    shaped : w.shape ≡ v.shape
    shaped = ap (λ (z : SeatView). z.shape) t.stepped

    pub takes_snapshot : TakesSnapshot (knows v) (knows w) (cut_named w.shape w.seen held)
    takes_snapshot = subst (λ (z : Shape). TakesSnapshot (knows v) (knows w) (cut_named z w.seen held)) (sym shaped)
        (subst (TakesSnapshot (knows v) (knows w)) (sym shows.1) (snapshot_is face v r w p.knows_table t))

    pub has_snapshot : HasNamed w.shape w.seen held
    has_snapshot = subst (λ (z : Shape). HasNamed z w.seen held) (sym shaped) shows.0

    -- the one step is that load
    pub loads_root : w.steps ≡ v.steps ++ load_node (root_place v.shape) r ∷ []
    loads_root = ap (λ (z : SeatView). z.steps) t.stepped

    pub looked_on : (table : TableId) → Goes face 0 [] v w → GoesOn 0 1 (pass_facts (record { table = table; view = v }) left) (pass_facts (record { table = table; view = w }) left)
    looked_on table g = let steps = loads_root in let updates : w.shape.updates ≡ v.shape.updates = ap (λ (z : Shape). z.updates) shaped in record {
      same = let spent : w.shape.updates - left ≡ v.shape.updates - left + 0 = omega arith in
          let facts : PassFacts = pass_facts (record { table = table; view = w }) left in
          λ i. record facts { round = round_of table (record w { era = (g.same_eras i).0; shape = g.shaped i; members = g.same_members i }); past = past_rounds (g.shaped i) (g.same_eras i).1; lane = g.lane i; spent = spent i };
      step_count = ap (λ (z : List StepTaken). length z) steps ∙ length-append v.steps (load_node (root_place v.shape) r ∷ []);
      steps_stay = (load_node (root_place v.shape) r ∷ [], steps);
      knowledge = knowledge_on face 0 [] v w p.knows_table g (All-nil (StandsIn (last_cut (knows w).history))) p.knowledge;
      named = numbers_long w.shape w.seen;
    }
