-- The trees of a pass's snapshots, as contracts see them, and what keeps them.
use Rattle.std.proofs.Common.{Some, ◌≡◌, ℕ, ◌^◌, ◌<◌, ◌≤◌, List, [], length, length-append, sym, refl, ap, ◌∙◌, subst, ⊎_elim, arith}
use Rattle.std.proofs.lemmas.List.{get_or_past}
use Rattle.std.proofs.lemmas.Bool.{cases_lt}
use Rattle.aug_monoid.specs.Parts.{Parts}
use Rattle.aug_model.specs.Folds.{summary_of}
use Rattle.aug_model.specs.Queries.{weight_in}
use Rattle.aug_query.specs.Tree.{IsTreeSet}
use Rattle.aug_core.specs.Faces.{face}
use Rattle.aug_core.specs.Places.{Shape}
use Rattle.aug_core.specs.Addresses.{IsInner, root_place}
use Rattle.aug_core.specs.Book.{Book, ArePrefixes, NamesOnce, IsBook}
use Rattle.aug_core.specs.Counts.{changes_of}
use Rattle.aug_core.specs.Cuts.{Cut, weight_at}
use Rattle.aug_core.specs.inside.RootCuts.{root_cut}
use Rattle.aug_core.specs.Effects.{opening_of, KnowsBook}
use Rattle.aug_core.specs.declared.view.SeatView.{SeatView}
use Rattle.aug_core.proofs.Levels.{root_word}
use Rattle.aug_core.proofs.CutsUnder.{cut_long}
use Rattle.aug_core.proofs.EntryCuts.{cut_later}
use Rattle.aug_core.proofs.OpeningCuts.{root_inner}
use Rattle.aug_words.specs.Seats.{Known}
use Rattle.aug_trie.specs.inside.Counted.{HasCounts}
use Rattle.aug_trie.specs.LeafWords.{weight_in_word}
use Rattle.aug_trie.specs.inside.PassState.{pass_facts, IsPass, HoldsPass}
use Rattle.aug_trie.specs.Snapshot.{index_in}
use Rattle.aug_trie.specs.Node.{HasNode, Keeps, Reads}
use Rattle.aug_trie.specs.inside.NodeWords.{IsNodeAt}
use Rattle.aug_trie.specs.inside.Knows.{root_history, root_numbers}
use Rattle.aug_trie.specs.inside.NamedCuts.{HasNamed, cut_named, members_of}
use Rattle.aug_trie.specs.inside.Goes.{Looks}
use Rattle.aug_trie.specs.TreeOf.{IsTreeOf}
use Rattle.aug_trie.specs.declared.queries.node.Node.{Node}
use Rattle.aug_trie.specs.declared.queries.snapshot.Snapshot.{Snapshot}
use Rattle.aug_trie.proofs.Counters.{counted_still}
use Rattle.aug_trie.proofs.Histories.{some_bits, history_long, numbers_long}
use Rattle.aug_trie.proofs.Keeping.{node_later, weighs_later}
use Rattle.aug_trie.proofs.Looking.{goes_looking, leaf_weighs}
use Rattle.aug_trie.proofs.Snapshots.{entry_shown, shows_entry, cut_is, pass_still}
use Rattle.aug_words.proofs.CutSets.{cut_light, cut_members, members_fit}
use Rattle.aug_trie.proofs.Walking.{top_node}
use Rattle.aug_core.proofs.PrefixLemmas.{entry_stays}

-- ---- the set of a cut

-- a cut that is no longer than the keys, and whose weights fit, is of a set of keys of so many bits
cut_set : (f : ℕ → ℕ → List (ℕ × ℕ) → List ℕ) (v : SeatView) (cut : Cut) → KnowsBook f v → length cut ≤ 2 ^ v.shape.bits → ((key : ℕ) → key < 2 ^ v.shape.bits → weight_at cut key < 2 ^ 32) → IsTreeSet (members_of v.shape.bits cut)
cut_set f v cut kn long light = record {
  some_bits = kn.laid_out.bits.0;
  few_bits = kn.laid_out.bits.1;
  is_key_set = cut_members v.shape.bits cut long;
  fit = members_fit v.shape.bits cut kn.laid_out.bits.1 long light;
}

-- so is a root's
pub tree_set : (f : ℕ → ℕ → List (ℕ × ℕ) → List ℕ) (v : SeatView) (i : ℕ) → KnowsBook f v → IsTreeSet (members_of v.shape.bits (root_cut v.shape v.seen i))
tree_set f v i kn = let long = cut_long v.shape v.seen v.shape.bits (root_place v.shape) i in cut_set f v (root_cut v.shape v.seen i) kn (omega arith) (λ key low. cut_light f v i key kn low)

-- ---- the record of a snapshot

-- what is shown by one that the root has not is no set but the empty one
pub named_set : (f : ℕ → ℕ → List (ℕ × ℕ) → List ℕ) (v : SeatView) (held : Snapshot) → KnowsBook f v → IsTreeSet (members_of v.shape.bits (cut_named v.shape v.seen held))
named_set f v held kn = let i = index_in (root_numbers v.shape v.seen) held in ⊎_elim
    (λ (has : HasNamed v.shape v.seen held). subst (λ (z : Cut). IsTreeSet (members_of v.shape.bits z)) (sym (cut_is v.shape v.seen held has)) (tree_set f v i kn))
    (λ (past : length (root_numbers v.shape v.seen) ≤ i). let long = numbers_long v.shape v.seen in
    subst (λ (z : Cut). IsTreeSet (members_of v.shape.bits z)) (sym (get_or_past (root_history v.shape v.seen) i [] (omega arith))) (cut_set f v [] kn (omega arith) (λ key low. omega arith)))
    (cases_lt i (length (root_numbers v.shape v.seen)))

module _ {A B : Type 0} (parts_a : Parts A) (parts_b : Parts B) where
  abbrev both : ℕ → ℕ → List (ℕ × ℕ) → List ℕ
  both = face parts_a parts_b

  pub inner_root : (v : SeatView) → KnowsBook both v → IsInner v.shape (root_place v.shape)
  inner_root v kn = root_inner both (opening_of v) (some_bits both v kn)

  -- the top of a snapshot's tree
  pub top_is : (v : SeatView) (held : Snapshot) → KnowsBook both v → HasNamed v.shape v.seen held → IsNodeAt v.shape v.seen (cut_named v.shape v.seen held) v.shape.bits 0 held.number
  top_is v held kn has = top_node parts_a parts_b v kn.book (cut_named v.shape v.seen held) held.number (entry_shown v.shape v.seen held has) (cut_is v.shape v.seen held has)

  -- what a load tells of a node makes it a node of the pass
  pub has_node : (known : Known) (left : ℕ) (node : Node A B) → KnowsBook both known.view → HasNamed known.view.shape known.view.seen node.snapshot
      → IsNodeAt known.view.shape known.view.seen (cut_named known.view.shape known.view.seen node.snapshot) node.level node.place node.word
      → IsTreeOf (summary_of parts_a parts_b) known.view.shape.bits (cut_named known.view.shape known.view.seen node.snapshot) node.level node.place node.summary
      → HasNode (summary_of parts_a parts_b) (pass_facts known left) node
  has_node known left node kn has named tells = record { of_pass = has; is_tree_set = named_set both known.view node.snapshot kn; named = named; tells = tells; weighs = leaf_weighs parts_a parts_b known.view kn (cut_named known.view.shape known.view.seen node.snapshot) node.level node.place node.word named }

  -- ---- what a pass keeps as its book grows

  module _ (old new : Known) (left rest : ℕ) (off : old.view.shape.reservations ≡ 0) (kn : KnowsBook both old.view) (kn' : KnowsBook both new.view) (shaped : new.view.shape ≡ old.view.shape) (grows : ArePrefixes old.view.seen new.view.seen) where
    abbrev s : Shape
    s = old.view.shape

    abbrev book : Book
    book = old.view.seen

    abbrev later : Book
    later = new.view.seen

    -- a snapshot shows the same entry as before
    shows_later : (held : Snapshot) → HasNamed s book held → HasNamed s later held × (cut_named s later held ≡ root_cut s later (index_in (root_numbers s book) held))
    shows_later held has = let t = entry_shown s book held has in
        shows_entry both s later held t.index t.entry (subst (λ (z : Shape). IsBook both z later) shaped kn'.book) (subst (λ (z : Shape). NamesOnce z later) shaped (kn'.in_round (ap (λ (z : Shape). z.reservations) shaped ∙ off)).0) (inner_root old.view kn) (entry_stays grows (root_place s) t.index t.entry t.at) t.named

    snapshot_on : (held : Snapshot) → HasNamed s book held → HasNamed new.view.shape later held
    snapshot_on held has = subst (λ (z : Shape). HasNamed z later held) (sym shaped) (shows_later held has).0

    cut_on : (held : Snapshot) → HasNamed s book held → cut_named new.view.shape later held ≡ cut_named s book held
    cut_on held has = let long = numbers_long s book in let same = history_long s book in ap (λ (z : Shape). cut_named z later held) shaped ∙ (shows_later held has).1
        ∙ cut_later both s book kn.book later s.bits 0 (root_place s) (index_in (root_numbers s book) held) grows (root_word s) (omega arith) ∙ sym (cut_is s book held has)

    node_on : (node : Node A B) → HasNode (summary_of parts_a parts_b) (pass_facts old left) node → HasNode (summary_of parts_a parts_b) (pass_facts new rest) node
    node_on node has = let held = node.snapshot in let both_same : (new.view.shape, cut_named new.view.shape later held) ≡ (s, cut_named s book held) = λ i. (shaped i, cut_on held has.of_pass i) in record {
      of_pass = snapshot_on held has.of_pass;
      is_tree_set = subst (λ (z : Shape × Cut). IsTreeSet (members_of z.0.bits z.1)) (sym both_same) has.is_tree_set;
      named = subst (λ (z : Shape × Cut). IsNodeAt z.0 later z.1 node.level node.place node.word) (sym both_same) (node_later both s book later kn.book grows (cut_named s book held) node.level node.place node.word has.named);
      tells = subst (λ (z : Shape × Cut). IsTreeOf (summary_of parts_a parts_b) z.0.bits z.1 node.level node.place node.summary) (sym both_same) has.tells;
      weighs = λ level. subst (λ (z : Shape × Cut). weight_in_word node.word ≡ weight_in (members_of z.0.bits z.1).pairs node.place) (sym both_same) (has.weighs level);
    }

    pub keeps_on : Keeps (summary_of parts_a parts_b) (pass_facts old left) (pass_facts new rest)
    keeps_on = record { snapshots = snapshot_on; same_cuts = cut_on; same_sets = λ held has. (λ i. members_of (shaped i).bits (cut_on held has i)); nodes = node_on; weights = λ key serial weight. weighs_later book later key serial weight grows }

  -- a pass that looked
  pub reads_by : (known : Known) (w : SeatView) (left most : ℕ) → Looks most known.view w → Reads (summary_of parts_a parts_b) most (pass_facts known left) (pass_facts (record { table = known.table; view = w }) left)
  reads_by known w left most l = subst (λ (z : SeatView). Reads (summary_of parts_a parts_b) most (pass_facts known left) (pass_facts (record { table = known.table; view = z }) left)) (sym l.is) record {
    stays = record {
      same = refl;
      steps_stay = (l.more, refl);
      keeps = record {
        snapshots = λ z has. has;
        same_cuts = λ z has. refl;
        same_sets = λ z has. refl;
        nodes = λ node has. record { of_pass = has.of_pass; is_tree_set = has.is_tree_set; named = has.named; tells = has.tells; weighs = has.weighs };
        weights = λ key serial weight has. has;
      };
    };
    few_steps = let long = length-append known.view.steps l.more in let few = l.few in omega arith;
  }

-- a pass that looked is one still
pub still_by : (f : ℕ → ℕ → List (ℕ × ℕ) → List ℕ) (known new : Known) (leaves bits next left inserts removals most : ℕ) → IsPass f known.view leaves bits next left → HasCounts (changes_of known.view.held) inserts removals → Looks most known.view new.view
    → HoldsPass f (Some new) leaves bits next left × HasCounts (changes_of new.view.held) inserts removals
still_by f known new leaves bits next left inserts removals most p counts l = let goes = goes_looking f most known.view new.view l p.knows_table in
    (record { known = new; there = refl; is_pass = pass_still f known.view new.view leaves bits next left p goes }, counted_still f 0 known.view new.view inserts removals goes counts)
