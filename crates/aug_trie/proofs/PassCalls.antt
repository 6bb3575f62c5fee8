-- What a pass's update and its snapshot come to, each as one record, from the pass as it was and from what its words' call says; and its load of a node.
use Rattle.std.proofs.Common.{◌≡◌, Option, Some, ℕ, ◌+◌, ◌-◌, ◌*◌, ◌^◌, ◌<◌, ◌≤◌, List, [], ◌∷◌, ◌++◌, length, sym, refl, subst, arith}
use Rattle.atomic_table.specs.Seated.{TableId}
use Rattle.aug_monoid.specs.Parts.{Parts}
use Rattle.aug_model.specs.Folds.{summary_of}
use Rattle.aug_model.specs.declared.outcome.Outcome.{Outcome}
use Rattle.aug_core.specs.Addresses.{IsInner}
use Rattle.aug_core.specs.Counts.{changes_of}
use Rattle.aug_core.specs.Cuts.{Cut}
use Rattle.aug_core.specs.Faces.{face}
use Rattle.aug_core.specs.Kinds.{load_node}
use Rattle.aug_core.specs.Effects.{LoadsNode}
use Rattle.aug_words.specs.Seats.{Known}
use Rattle.aug_trie.specs.Node.{HasNode, Keeps, Reads}
use Rattle.aug_trie.specs.Pass.{PassFacts, GoesOn, StepsOf}
use Rattle.aug_trie.specs.Round.{root_of}
use Rattle.aug_trie.specs.Snapshot.{HasSnapshot, snapshot_cut}
use Rattle.aug_trie.specs.TreeOf.{IsTreeOf}
use Rattle.aug_trie.specs.Updates.{ComesTo, TakesSnapshot, Tells}
use Rattle.aug_trie.specs.inside.Climbing.{UpdatedFrom, told_by}
use Rattle.aug_trie.specs.inside.Counted.{HasCounts, insertions_by, removals_by}
use Rattle.aug_trie.specs.inside.Goes.{Looks, HasRoom}
use Rattle.aug_trie.specs.inside.Knows.{knows}
use Rattle.aug_trie.specs.inside.NamedCuts.{cut_named}
use Rattle.aug_trie.specs.inside.NodeWords.{IsNodeAt}
use Rattle.aug_trie.specs.inside.PassState.{pass_facts, known_in, IsPass, KeepsAccount}
use Rattle.aug_trie.specs.declared.queries.node.Node.{Node}
use Rattle.aug_trie.specs.declared.queries.snapshot.Snapshot.{Snapshot}
use Rattle.aug_trie.specs.declared.rounds.account.Account.{Account}
use Rattle.aug_trie.specs.declared.updates.request.Request.{Request}
use Rattle.aug_trie.specs.declared.updates.told.LeafUpdate.{LeafUpdate}
use Rattle.aug_trie.specs.Requests.{word_left}
use Rattle.aug_trie.proofs.Accepting.{comes_to, settled}
use Rattle.aug_trie.proofs.Counters.{may_count, counted_by, counted_still}
use Rattle.aug_trie.proofs.Going.{goes_seeing}
use Rattle.aug_trie.proofs.Passing.{pass_told, pass_after, gained_by, goes_on_by, steps_of, tells}
use Rattle.aug_trie.proofs.Snapshots.{pass_still, root_node, takes_snapshot, has_snapshot, loads_root, looked_on}
use Rattle.aug_trie.proofs.Staging.{room_one}
use Rattle.aug_trie.proofs.Trees.{top_is, has_node, keeps_on, reads_by, still_by}

-- the account of a pass once an update came to this
abbrev pub account_after : Account → Request → Outcome → Account
account_after a request done = record {
  leaves = a.leaves;
  bits = a.bits;
  next = a.next + a.bits;
  left = a.left - 1;
  inserts = a.inserts + insertions_by request done;
  removals = a.removals + removals_by request done;
}

module _ {A B : Type 0} (parts_a : Parts A) (parts_b : Parts B) where
  abbrev f : ℕ → ℕ → List (ℕ × ℕ) → List ℕ
  f = face parts_a parts_b

  -- an update came to this, from a pass as contracts saw it
  pub record UpdateMade (now : PassFacts) (key : ℕ) (request : Request) (made : LeafUpdate) (w : Known) (after : Account) : Type 0 where
    pub holds : KeepsAccount f (Some w) after
    pub came_to : ComesTo request key made.outcome now.knows (knows w.view)
    pub tells : Tells request key (told_by made) now.knows (knows w.view)
    pub goes_on : (steps : ℕ) × GoesOn 1 steps now (pass_facts w after.left)
    pub keeps : Keeps (summary_of parts_a parts_b) now (pass_facts w after.left)
    pub steps : StepsOf request key made.outcome now (pass_facts w after.left)

  -- a snapshot was taken
  pub record SnapshotTaken (now : PassFacts) (a : Account) (held : Snapshot) (w : Known) : Type 0 where
    pub holds : KeepsAccount f (Some w) a
    pub takes : TakesSnapshot now.knows (knows w.view) (snapshot_cut (pass_facts w a.left) held)
    pub known : HasSnapshot (pass_facts w a.left) held
    pub goes_on : GoesOn 0 1 now (pass_facts w a.left)
    pub step : w.view.steps ≡ now.steps ++ load_node (root_of now.round) held.number ∷ []
    pub keeps : Keeps (summary_of parts_a parts_b) now (pass_facts w a.left)

  module _ (words : Option Known) (a : Account) (now : PassFacts) (k : Known) (holds : KeepsAccount f words a) (facts : pass_facts (known_in words) a.left ≡ now) (there : words ≡ Some k) where
    told : IsPass f k.view a.leaves a.bits a.next a.left × (pass_facts k a.left ≡ now)
    told = pass_told f words k a.leaves a.bits a.next a.left now holds.pass there facts

    counts : HasCounts (changes_of k.view.held) a.inserts a.removals
    counts = subst (λ (z : Option Known). HasCounts (changes_of (known_in z).view.held) a.inserts a.removals) there holds.counts

    -- one more change may be counted
    pub has_count : (a.inserts + 1 < 2 ^ 32) × (a.removals + 1 < 2 ^ 32)
    has_count = let room = may_count f k.view a.leaves a.bits a.next a.left a.inserts a.removals told.0 counts in (omega (arith, room), omega (arith, room))

    -- and it has the records for one more update, which are numbered
    pub has_records : now.spent < now.round.updates → HasRoom k.view a.next a.bits × (a.next + a.bits < 2 ^ 60) × (1 ≤ a.bits)
    has_records budget = let budget' = subst (λ (z : PassFacts). z.spent < z.round.updates) (sym told.1) budget in let some : 1 ≤ a.left = omega arith in
        room_one f k.view a.leaves a.bits a.next a.left told.0 some

    pub update_made : (key : ℕ) (request : Request) (made : LeafUpdate) (w : Known) (after : Account) → key < 2 ^ now.round.bits → now.spent < now.round.updates → UpdatedFrom f (a.next + a.bits) k.view key request w.view made.found made.outcome → made.left ≡ word_left request key made.found made.outcome → w.table ≡ k.table
        → after ≡ account_after a request made.outcome → UpdateMade now key request made w after
    update_made key request made w after low budget from left table is = let u = from.0 in
        let p = told.0 in let now_is = told.1 in
        let low' : key < 2 ^ k.view.shape.bits = subst (λ (z : PassFacts). key < 2 ^ z.round.bits) (sym now_is) low in
        let budget' = subst (λ (z : PassFacts). z.spent < z.round.updates) (sym now_is) budget in let some : 1 ≤ a.left = omega arith in
        let goes = (gained_by f k.view w.view a.leaves a.bits a.next a.left key request p some low' made.outcome u).2 in
        subst (λ (z : PassFacts × TableId × Account). UpdateMade z.0 key request made (record { table = z.1; view = w.view }) z.2) (λ j. (now_is j, sym table j, sym is j)) record {
          holds = record {
            pass = record { known = record { table = k.table; view = w.view }; there = refl; is_pass = pass_after f k.view w.view a.leaves a.bits a.next a.left key request p some low' made.outcome u };
            counts = counted_by f (a.next + a.bits) k.view w.view key a.inserts a.removals request made.outcome u counts;
          };
          came_to = comes_to f (a.next + a.bits) k.view key request w.view p.knows_table low' made.outcome (settled f u);
          tells = tells f k.view w.view a.leaves a.bits a.next a.left key request p some low' made from left;
          goes_on = (length u.more + 1, goes_on_by f k.view w.view a.leaves a.bits a.next a.left key request p some low' k.table made.outcome u);
          keeps = keeps_on parts_a parts_b k (record { table = k.table; view = w.view }) a.left (a.left - 1) p.room.keeps_records p.knows_table goes.knows_table goes.shaped goes.later;
          steps = steps_of f k.view w.view a.leaves a.bits a.next a.left key request p some low' k.table made.outcome u;
        }

    -- the root's word may be loaded
    pub root_inside : IsInner k.view.shape (2 * a.leaves - 2)
    root_inside = (root_node f k.view a.leaves told.0.leaves_are told.0.knows_table).0

    pub snapshot_taken : (number : ℕ) (w : Known) → LoadsNode f k.view (2 * a.leaves - 2) number w.view → w.table ≡ k.table → SnapshotTaken now a (record { number = number }) w
    snapshot_taken number w loads table =
        let p = told.0 in let now_is = told.1 in let root = root_node f k.view a.leaves p.leaves_are p.knows_table in
        let l = subst (λ (z : ℕ). LoadsNode f k.view z number w.view) (sym root.1) loads in
        let goes = goes_seeing f k.view w.view _ l.stepped p.knows_table l.sees in
        subst (λ (z : PassFacts × TableId). SnapshotTaken z.0 a (record { number = number }) (record { table = z.1; view = w.view })) (λ j. (now_is j, sym table j)) record {
          holds = record {
            pass = record { known = record { table = k.table; view = w.view }; there = refl; is_pass = pass_still f k.view w.view a.leaves a.bits a.next a.left p goes };
            counts = counted_still f 0 k.view w.view a.inserts a.removals goes counts;
          };
          takes = takes_snapshot f k.view w.view number a.leaves a.bits a.next a.left p l;
          known = has_snapshot f k.view w.view number a.leaves a.bits a.next a.left p l;
          goes_on = looked_on f k.view w.view number a.leaves a.bits a.next a.left p l k.table goes;
          step = loads_root f k.view w.view number a.leaves a.bits a.next a.left p l;
          keeps = keeps_on parts_a parts_b k (record { table = k.table; view = w.view }) a.left a.left p.room.keeps_records p.knows_table goes.knows_table goes.shaped goes.later;
        }

    -- ---- a pass that looked

    abbrev cut : Snapshot → Cut
    cut held = cut_named k.view.shape k.view.seen held

    -- the top of a snapshot's tree is where its number says
    pub top_at : (held : Snapshot) → HasSnapshot now held → IsNodeAt k.view.shape k.view.seen (cut held) a.bits 0 held.number
    top_at held has = subst (λ (z : ℕ). IsNodeAt k.view.shape k.view.seen (cut held) z 0 held.number) (sym told.0.bits_are) (top_is parts_a parts_b k.view held told.0.knows_table (subst (λ (z : PassFacts). HasSnapshot z held) (sym told.1) has))

    module _ (most : ℕ) (w : Known) (looks : Looks most k.view w.view) where
      pub looked : KeepsAccount f (Some w) a
      looked = let still = still_by f k w a.leaves a.bits a.next a.left a.inserts a.removals most told.0 counts looks in record { pass = still.0; counts = still.1 }

      pub reads : w.table ≡ k.table → Reads (summary_of parts_a parts_b) most now (pass_facts w a.left)
      reads table = subst (λ (z : PassFacts × TableId). Reads (summary_of parts_a parts_b) most z.0 (pass_facts (record { table = z.1; view = w.view }) a.left)) (λ j. (told.1 j, sym table j)) (reads_by parts_a parts_b k w.view a.left most looks)

      -- what it loaded of a node is one of a snapshot of its own
      pub node_read : (s : Snapshot) (n : Node A B) → w.table ≡ k.table → n.snapshot ≡ s → HasSnapshot now s → IsNodeAt k.view.shape k.view.seen (cut s) n.level n.place n.word
          → IsTreeOf (summary_of parts_a parts_b) k.view.shape.bits (cut s) n.level n.place n.summary → HasNode (summary_of parts_a parts_b) (pass_facts w a.left) n
      node_read s n table same has named tells = (reads table).stays.keeps.nodes n (subst (λ (z : PassFacts). HasNode (summary_of parts_a parts_b) z n) told.1
          (has_node parts_a parts_b k a.left n told.0.knows_table (subst (λ (z : PassFacts × Snapshot). HasSnapshot z.0 z.1) (λ j. (sym told.1 j, sym same j)) has)
          (subst (λ (z : Snapshot). IsNodeAt k.view.shape k.view.seen (cut z) n.level n.place n.word) (sym same) named)
          (subst (λ (z : Snapshot). IsTreeOf (summary_of parts_a parts_b) k.view.shape.bits (cut z) n.level n.place n.summary) (sym same) tells)))
