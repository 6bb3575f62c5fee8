-- What a look at a table that lasts shows, and what a query on it comes to.
use Rattle.std.proofs.Common.{◌≡◌, inr, ℕ, suc, ◌+◌, ◌-◌, ◌*◌, ◌≤◌, eq-eqb, if◌then◌else◌, Option, Some, None, List, [], length, get_or, refl, sym, ap, ◌∙◌, subst, arith}
use Rattle.std.specs.Prelude.{unwrap_or, Bool}
use Rattle.std.specs.Path.{rfind_below}
use Rattle.aug_monoid.specs.Parts.{Parts}
use Rattle.aug_core.specs.Addresses.{root_place}
use Rattle.aug_core.specs.Book.{Book, At, IsNewest}
use Rattle.aug_core.specs.Addresses.{IsInner}
use Rattle.aug_core.specs.Counts.{changes_of}
use Rattle.aug_core.specs.Effects.{Covers, KnowsBook}
use Rattle.aug_core.specs.Faces.{face}
use Rattle.aug_core.specs.Places.{Shape}
use Rattle.aug_core.specs.inside.RootCuts.{root_cut}
use Rattle.aug_core.specs.declared.view.Entry.{Entry}
use Rattle.aug_core.specs.declared.view.SeatView.{SeatView}
use Rattle.aug_core.proofs.EntryCuts.{entry_is}
use Rattle.aug_words.specs.Stocks.{StockFacts, Stocks, LoadsHeld, number_in_word}
use Rattle.aug_words.proofs.Held.{numbered_at}
use Rattle.aug_trie.specs.Snapshot.{index_in}
use Rattle.aug_trie.specs.Updates.{TakesSnapshot}
use Rattle.aug_trie.specs.inside.Goes.{Looks}
use Rattle.aug_trie.specs.inside.Knows.{knows, root_numbers}
use Rattle.aug_trie.specs.inside.LastingState.{IsHeldLook}
use Rattle.aug_trie.specs.inside.NamedCuts.{HasNamed, cut_named}
use Rattle.aug_trie.specs.inside.NodeWords.{HoldsNodeAt}
use Rattle.aug_trie.specs.declared.queries.snapshot.Snapshot.{Snapshot}
use Rattle.std.proofs.lemmas.Option.{none-some}
use Rattle.std.proofs.lemmas.List.{length-map}
use Rattle.std.proofs.lemmas.List.Elements.{All-nil}
use Rattle.aug_core.specs.Book.{history_of}
use Rattle.aug_model.specs.Folds.{summary_of}
use Rattle.aug_words.specs.Seats.{Known}
use Rattle.aug_words.proofs.Stocking.{stocks_same}
use Rattle.aug_trie.specs.History.{last_cut}
use Rattle.aug_trie.specs.Knowledge.{StandsIn}
use Rattle.aug_trie.specs.LastingTable.{LastingFacts, LoadsRootLast, look_steps}
use Rattle.aug_trie.specs.Node.{Reads}
use Rattle.aug_trie.specs.Pass.{GoesOn}
use Rattle.aug_trie.specs.inside.Goes.{HasLeaves}
use Rattle.aug_trie.specs.inside.Knows.{KnowsRound}
use Rattle.aug_trie.specs.inside.Lasting.{LooksAt, WorksBy}
use Rattle.aug_trie.specs.inside.LastingState.{lasting_facts, IsLastingPass, HasLastingPass}
use Rattle.aug_trie.specs.inside.PassState.{known_in, pass_facts}
use Rattle.aug_trie.specs.inside.SnapshotWalk.{Walking}
use Rattle.aug_trie.proofs.Asking.{looks_of, reads_of}
use Rattle.aug_trie.proofs.LastingUpdates.{is_pass, now_is, goes_on_by, known_still, is_pass_on}
use Rattle.aug_trie.proofs.Looking.{goes_looking}
use Rattle.aug_trie.proofs.Snapshots.{root_node}
use Rattle.aug_trie.proofs.SnapshotWalks.{WalkDescends}
use Rattle.aug_trie.proofs.Stocked.{goes_by}
use Rattle.aug_trie.proofs.Accepting.{knowledge_on, knows_on}
use Rattle.aug_trie.proofs.Histories.{last_is}
use Rattle.aug_trie.proofs.Snapshots.{number_at, cut_is}
use Rattle.aug_trie.proofs.SnapshotWalks.{walk_on}
use Rattle.aug_trie.proofs.Trees.{named_set}
use Rattle.aug_trie.proofs.Walking.{top_node}

-- what is last in a list stands there last
last_in : (numbers : List ℕ) (held : Snapshot) (i : ℕ) → length numbers ≡ suc i → get_or numbers i 0 ≡ held.number → index_in numbers held ≡ i
last_in numbers held i long same =
    ap (λ (z : ℕ). unwrap_or (rfind_below held.number numbers z) (length numbers)) long
    ∙ ap (λ (b : Bool). unwrap_or (if b then Some i else rfind_below held.number numbers i) (length numbers)) (eq-eqb (get_or numbers i 0) held.number same)

-- so a snapshot with the word of the root's newest entry shows that entry
newest_shown : (s : Shape) (book : Book) (held : Snapshot) (i : ℕ) (e : Entry) → IsNewest book (root_place s) i e → held.number ≡ e.word → HasNamed s book held × (cut_named s book held ≡ root_cut s book i)
newest_shown s book held i e newest named =
    let at = number_at s book i e newest.at in
    let long = numbers_as_many s book in
    let last : length (root_numbers s book) ≡ suc i = (let l = newest.last in omega arith) in
    let index = last_in (root_numbers s book) held i last (at.1 ∙ sym named) in
    let has : HasNamed s book held = (let low = at.0 in omega arith) in
    (has, cut_is s book held has ∙ ap (root_cut s book) index)
  where
    numbers_as_many : (t : Shape) (c : Book) → length (root_numbers t c) ≡ length (history_of c (root_place t))
    numbers_as_many t c = length-map (history_of c (root_place t)) (λ (z : Entry). z.word)

-- a look that is open is so after loads of words of records
pub held_on : (f : ℕ → ℕ → List (ℕ × ℕ) → List ℕ) (n bits : ℕ) (v w : SeatView) (s : Snapshot) → Looks n v w → IsHeldLook f v s bits → IsHeldLook f w s bits
held_on f n bits v w s l h = record { named = subst (λ (z : SeatView). HasNamed z.shape z.seen s) (sym l.is) h.named; walk = walk_on f n v w s bits l h.walk }

-- what the words' call comes to
pub looks_at : (f : ℕ → ℕ → List (ℕ × ℕ) → List ℕ) (v w : SeatView) (k : StockFacts) (r leaves : ℕ) → HasLeaves v.shape leaves → KnowsBook f v → Stocks w k → LoadsHeld f 11 v (2 * leaves - 2) r w → LooksAt f v r w
looks_at f v w k r leaves are kn s l = let few = l.goes.few in record {
  works = record { goes = goes_by f 11 s kn l.book l.goes; more = l.goes.more; steps = l.goes.steps; few = few };
  loads = subst (λ (z : ℕ). LoadsHeld f 11 v z r w) (sym (root_node f v leaves are kn).1) l;
}

module _ {A B : Type 0} (parts_a : Parts A) (parts_b : Parts B) where
  abbrev f : ℕ → ℕ → List (ℕ × ℕ) → List ℕ
  f = face parts_a parts_b

  -- what a look finds
  module _ (v w : SeatView) (k : StockFacts) (r most : ℕ) (s : Stocks w k) (kn : KnowsBook f w) (l : LoadsHeld f most v (root_place w.shape) r w) where
    abbrev held : Snapshot
    held = record { number = r }

    shown : HasNamed w.shape w.seen held × (cut_named w.shape w.seen held ≡ root_cut w.shape w.seen l.index)
    shown = newest_shown w.shape w.seen held l.index l.entry l.newest l.found

    top : HoldsNodeAt w (cut_named w.shape w.seen held) w.shape.bits 0 r
    top = record {
      node = top_node parts_a parts_b w kn.book (cut_named w.shape w.seen held) r (record { index = l.index; entry = l.entry; at = l.newest.at; named = l.found }) shown.1;
      covers = λ _. subst (Covers w (root_place w.shape) l.index) (sym (entry_is w.seen (root_place w.shape) l.index l.entry l.newest.at)) l.covers;
    }

    numbered : (q i : ℕ) (e : Entry) → IsInner w.shape q → At w.seen q i e → number_in_word e.word ≡ e.number
    numbered q i e inner at = let below = kn.book.below q i e inner at in let few = s.numbers in numbered_at f w.shape w.seen q i e.word e s.used kn.book inner at refl (omega arith)

    pub look_held : (bits : ℕ) → bits ≡ w.shape.bits → IsHeldLook f w held bits
    look_held bits same = record {
      named = shown.0;
      walk = record {
        bits_are = same;
        top = record {
          reads = record { knows_table = kn; closed = inr l.closed; numbered = numbered };
          is_tree_set = named_set f w held kn;
          holds = subst (λ (z : ℕ). HoldsNodeAt w (cut_named w.shape w.seen held) z 0 r) (sym same) top;
        };
      };
    }

    -- it is a snapshot
    pub look_takes : KnowsBook f v → TakesSnapshot (knows v) (knows w) (cut_named w.shape w.seen held)
    look_takes before = let same = l.goes.same in record {
      goes_on = knows_on f v w before (ap (λ (z : SeatView). z.shape) same) l.goes.later;
      same_changes = ap (λ (z : SeatView). changes_of z.held) same;
      is_last = shown.1 ∙ sym (last_is w.shape w.seen l.index l.newest.last);
    }

  -- a pass that looked
  module _ (words : Option Known) (stock : StockFacts) (leaves bits : ℕ) (look : Option Snapshot) (now : LastingFacts) (k : Known) (holds : HasLastingPass f words stock leaves bits look) (facts : lasting_facts (known_in words) stock look ≡ now) (there : words ≡ Some k)
      (w : Known) (after : StockFacts) (table : w.table ≡ k.table) (r : ℕ) (s : Stocks w.view after) (o : LooksAt f k.view r w.view) where
    p : IsLastingPass f k.view stock leaves bits look
    p = is_pass f words stock leaves bits look now k holds facts there

    loads : LoadsHeld f 11 k.view (root_place w.view.shape) r w.view
    loads = subst (λ (z : Shape). LoadsHeld f 11 k.view (root_place z) r w.view) (sym o.works.goes.shaped) o.loads

    known : KnowsRound w.view
    known = known_still f words stock leaves bits look now k holds facts there w after table o.works

    opened : IsHeldLook f w.view (record { number = r }) bits
    opened = look_held k.view w.view after r 11 s o.works.goes.knows_table loads bits (p.bits_are ∙ ap (λ (z : Shape). z.bits) (sym o.works.goes.shaped))

    pub holds_look : after ≡ record stock { era = after.era } → HasLastingPass f (Some w) after leaves bits (Some (record { number = r }))
    holds_look same = record {
      known = w;
      there = refl;
      is_pass = is_pass_on f words stock leaves bits look now k holds facts there w after table (Some (record { number = r })) o.works.goes s (ap (λ (z : StockFacts). z.replaced) same ∙ p.none) (λ is. absurd (none-some _ (sym is)))
          (λ x is. subst (λ (z : Option Snapshot). IsHeldLook f w.view (unwrap_or z x) bits) is opened) known;
    }

    pub takes : TakesSnapshot now.pass.knows (knows w.view) (cut_named w.view.shape w.view.seen (record { number = r }))
    takes = subst (λ (z : LastingFacts). TakesSnapshot z.pass.knows (knows w.view) (cut_named w.view.shape w.view.seen (record { number = r }))) (now_is f words stock leaves bits look now k holds facts there)
        (look_takes k.view w.view after r 11 s o.works.goes.knows_table loads p.knows_table)

    pub has_look : HasNamed w.view.shape w.view.seen (record { number = r })
    has_look = opened.named

    pub look_loads : LoadsRootLast now.pass r (pass_facts w w.view.shape.updates)
    look_loads = subst (λ (z : LastingFacts). LoadsRootLast z.pass r (pass_facts w w.view.shape.updates)) (now_is f words stock leaves bits look now k holds facts there) (o.loads.before, o.loads.last)

    pub look_goes_on : (steps : ℕ) × (steps ≤ look_steps) × GoesOn 0 steps now.pass (pass_facts w w.view.shape.updates)
    look_goes_on = goes_on_by f words stock leaves bits look now k holds facts there w after table o.works known

  -- one that ended its look
  module _ (words : Option Known) (stock : StockFacts) (leaves bits : ℕ) (look : Option Snapshot) (now : LastingFacts) (k : Known) (holds : HasLastingPass f words stock leaves bits look) (facts : lasting_facts (known_in words) stock look ≡ now) (there : words ≡ Some k)
      (w : Known) (after : StockFacts) (table : w.table ≡ k.table) (s : Stocks w.view after) (o : WorksBy f 1 [] k.view w.view) where
    pub holds_none : after ≡ record stock { era = 0 } → HasLastingPass f (Some w) after leaves bits None
    holds_none same = let p = is_pass f words stock leaves bits look now k holds facts there in record {
      known = w;
      there = refl;
      is_pass = is_pass_on f words stock leaves bits look now k holds facts there w after table None o.goes s (ap (λ (z : StockFacts). z.replaced) same ∙ p.none) (λ _. ap (λ (z : StockFacts). z.era) same) (λ x is. absurd (none-some x is))
          (known_still f words stock leaves bits look now k holds facts there w after table o);
    }

    pub end_goes_on : (steps : ℕ) × (steps ≤ 1) × GoesOn 0 steps now.pass (pass_facts w w.view.shape.updates)
    end_goes_on = goes_on_by f words stock leaves bits look now k holds facts there w after table o (known_still f words stock leaves bits look now k holds facts there w after table o)

  -- one that was asked
  module _ (words : Option Known) (stock : StockFacts) (leaves bits : ℕ) (look : Option Snapshot) (now : LastingFacts) (walk new : Walking) (holds : HasLastingPass f words stock leaves bits look) (facts : lasting_facts (known_in words) stock look ≡ now) (there : words ≡ Some walk.words)
      (n c s p : ℕ) (d : WalkDescends f number_in_word n c s p walk new) where
    l : Looks (n + c + 3 * s + 2 * p) walk.words.view new.words.view
    l = looks_of parts_a parts_b n c s p walk new d

    here : IsLastingPass f walk.words.view stock leaves bits look
    here = is_pass f words stock leaves bits look now walk.words holds facts there

    pub asked_still : HasLastingPass f (Some new.words) stock leaves bits look
    asked_still = let same = l.is in let v : SeatView = walk.words.view in let w : SeatView = new.words.view in let g = goes_looking f (n + c + 3 * s + 2 * p) v w l here.knows_table in record {
      known = new.words;
      there = refl;
      is_pass = is_pass_on f words stock leaves bits look now walk.words holds facts there new.words stock d.keeps_rest.same_table look g
          (stocks_same v w stock here.stocks (ap (λ (z : SeatView). z.shape) same) (ap (λ (z : SeatView). z.held) same) (ap (λ (z : SeatView). z.reserved) same))
          here.none here.rests (λ x is. held_on f (n + c + 3 * s + 2 * p) bits v w x l (here.looks x is))
          (knowledge_on f 0 [] v w here.knows_table g (All-nil (StandsIn (last_cut (knows w).history))) here.knowledge);
    }

    pub asked_reads : (most : ℕ) → n + c + 3 * s + 2 * p ≤ most → Reads (summary_of parts_a parts_b) most now.pass (pass_facts new.words new.words.view.shape.updates)
    asked_reads most enough = let left : ℕ = (known_in words).view.shape.updates in
        let same : left ≡ new.words.view.shape.updates = ap (λ (z : Option Known). (known_in z).view.shape.updates) there ∙ ap (λ (z : SeatView). z.shape.updates) (sym l.is) in
        subst (λ (z : ℕ). Reads (summary_of parts_a parts_b) most now.pass (pass_facts new.words z)) same
        (reads_of parts_a parts_b words walk new left n c s p most now.pass there (ap (λ (z : LastingFacts). z.pass) facts) d enough)
