-- A comparison of two snapshots, by the words that its pass loads: down the trees of both, and what it comes to for the pass.
use Rattle.std.proofs.Common.{◌≡◌, ℕ, suc, add-one, ◌+◌, ◌-◌, ◌*◌, ◌/◌, ◌%◌, ◌^◌, ◌≤◌, ◌==◌, Bool, eq-eqb, ne_eqb, if◌then◌else◌, Option, Some, List, [], ◌∷◌, ◌++◌, length, length-append, refl, ap, sym, ◌∙◌, subst, arith}
use Rattle.std.proofs.lemmas.List.{append-nil}
use Rattle.atomic_table.specs.Seated.{TableId}
use Rattle.aug_monoid.specs.Parts.{Parts}
use Rattle.aug_model.specs.Folds.{summary_of}
use Rattle.aug_model.specs.Queries.{weight_of}
use Rattle.aug_model.specs.declared.calls.Calls.{Calls}
use Rattle.aug_model.proofs.Changes.{weight_of-range}
use Rattle.aug_core.specs.Places.{Shape, node_place}
use Rattle.aug_core.specs.Book.{Book}
use Rattle.aug_core.specs.Counts.{changes_of}
use Rattle.aug_core.specs.Cuts.{pairs_of_cut}
use Rattle.aug_core.specs.Effects.{GuardsRecord, Says, KnowsBook}
use Rattle.aug_core.specs.Faces.{face}
use Rattle.aug_core.specs.inside.EntryCuts.{entry_of}
use Rattle.aug_core.specs.inside.RootCuts.{root_cut}
use Rattle.aug_core.specs.declared.view.Entry.{Entry}
use Rattle.aug_core.specs.declared.view.SeatView.{SeatView}
use Rattle.aug_core.proofs.EntryCuts.{entry_at, part_pairs}
use Rattle.aug_core.proofs.Levels.{leaf_word}
use Rattle.aug_query.specs.DescendBoth.{BothSets, DescendsBoth, differing_nodes}
use Rattle.aug_query.proofs.Changing.{none_differ}
use Rattle.aug_words.specs.Seats.{Known}
use Rattle.aug_trie.specs.Comparing.{both_at, compare_steps}
use Rattle.aug_trie.specs.Node.{Reads}
use Rattle.aug_trie.specs.Pass.{PassFacts}
use Rattle.aug_trie.specs.Snapshot.{HasSnapshot}
use Rattle.aug_trie.specs.inside.BothWalk.{top_of, both_seen, IsNamedUnder, IsNamedInBoth, IsBothWalk, WalkingBoth, KeepsBoth}
use Rattle.aug_trie.specs.inside.BothWalkLaws.{word_is}
use Rattle.aug_trie.specs.inside.Counted.{HasCounts}
use Rattle.aug_trie.specs.inside.Goes.{KnowsRecords, Looks, ReadsBelow}
use Rattle.aug_trie.specs.inside.LeafPairs.{leaf_pairs}
use Rattle.aug_trie.specs.inside.NodeWords.{HoldsNodeAt}
use Rattle.aug_trie.specs.inside.NodesUnder.{index_under, IsNodeUnder}
use Rattle.aug_trie.specs.inside.PassState.{pass_facts, known_in, HoldsPass}
use Rattle.aug_trie.specs.declared.queries.snapshot.Snapshot.{Snapshot}
use Rattle.aug_trie.proofs.LeafWords.{pairs_of_serial}
use Rattle.aug_trie.proofs.Looking.{holds_plainly, reads_plainly}
use Rattle.aug_trie.proofs.Passing.{pass_told}
use Rattle.aug_trie.proofs.Snapshots.{entry_shown, cut_is}
use Rattle.aug_trie.proofs.SnapshotWalks.{records_on}
use Rattle.aug_trie.proofs.Trees.{named_set, reads_by, still_by}
use Rattle.aug_trie.proofs.Walking.{node_guarded, left_node, right_node, top_node}

-- ---- down one tree

-- the indices of a node's children are those of the nodes on the next level
module _ (s : Shape) (book : Book) (top level place q i : ℕ) (fits : suc level ≤ s.bits) (here : q ≡ node_place s (suc level) place) (is : i ≡ index_under s book top (s.bits - suc level) place) where
  further : suc (s.bits - suc level) ≡ s.bits - level
  further = omega arith

  back : suc level ≡ s.bits - (s.bits - suc level)
  back = omega arith

  left_index : (entry_of book q i).left ≡ index_under s book top (s.bits - level) (2 * place)
  unfolding index_under
  left_index = let half : place ≡ 2 * place / 2 = omega arith in let even : 2 * place % 2 ≡ 0 = omega arith in let down = s.bits - suc level in
      let above : Entry = entry_of book (node_place s (s.bits - down) (2 * place / 2)) (index_under s book top down (2 * place / 2)) in
      let same : entry_of book q i ≡ above = (λ k. entry_of book (here k) (is k)) ∙ (λ k. entry_of book (node_place s (back k) (half k)) (index_under s book top down (half k))) in
      ap (λ (z : Entry). z.left) same ∙ sym (ap (λ (b : Bool). if b then above.left else above.right) (eq-eqb (2 * place % 2) 0 even)) ∙ ap (λ (z : ℕ). index_under s book top z (2 * place)) further

  right_index : (entry_of book q i).right ≡ index_under s book top (s.bits - level) (2 * place + 1)
  unfolding index_under
  right_index = let half : place ≡ (2 * place + 1) / 2 = omega arith in let odd : (2 * place + 1) % 2 ≡ 1 = omega arith in let down = s.bits - suc level in
      let above : Entry = entry_of book (node_place s (s.bits - down) ((2 * place + 1) / 2)) (index_under s book top down ((2 * place + 1) / 2)) in
      let same : entry_of book q i ≡ above = (λ k. entry_of book (here k) (is k)) ∙ (λ k. entry_of book (node_place s (back k) (half k)) (index_under s book top down (half k))) in
      ap (λ (z : Entry). z.right) same ∙ sym (ap (λ (b : Bool). if b then above.left else above.right) (ne_eqb ((2 * place + 1) % 2) 0 (λ e. omega (arith, e, odd)))) ∙ ap (λ (z : ℕ). index_under s book top z (2 * place + 1)) further

module _ {A B : Type 0} (parts_a : Parts A) (parts_b : Parts B) (number : ℕ → ℕ) (v : SeatView) (kn : KnowsRecords (face parts_a parts_b) v) (plain : (word : ℕ) → number word ≡ word) (top level place word : ℕ) where
  abbrev below : IsNodeUnder v.shape v.seen top (level + 1) place word → IsNodeUnder v.shape v.seen top (suc level) place word
  below t = subst (λ (z : ℕ). IsNodeUnder v.shape v.seen top z place word) (add-one level) t

  abbrev reads : ReadsBelow (face parts_a parts_b) number v
  reads = let r = reads_plainly (face parts_a parts_b) v kn in record { knows_table = r.knows_table; closed = r.closed; numbered = λ q i e inner at. plain e.word ∙ r.numbered q i e inner at }

  abbrev held : IsNodeUnder v.shape v.seen top (level + 1) place word → HoldsNodeAt v (root_cut v.shape v.seen top) (suc level) place word
  held t = holds_plainly v kn.keeps_records (root_cut v.shape v.seen top) (suc level) place word (below t).node

  -- the record of a node above the leaves may be read
  pub under_guarded : IsNodeUnder v.shape v.seen top (level + 1) place word → GuardsRecord v (number word)
  under_guarded t = node_guarded parts_a parts_b v kn.knows_table.book (root_cut v.shape v.seen top) number reads level place word (held t)

  -- and its first two words name its children
  pub left_is_under : IsNodeUnder v.shape v.seen top (level + 1) place word → (r : ℕ) → Says v (number word) 0 r → IsNodeUnder v.shape v.seen top level (2 * place) r
  left_is_under t r says = let n = below t in record {
    node = (left_node parts_a parts_b v kn.knows_table.book (root_cut v.shape v.seen top) number reads level place word (held t) r says).node;
    under = left_index v.shape v.seen top level place n.node.q n.node.index n.node.part.word.level_fits n.node.part.word.is n.under;
  }

  pub right_is_under : IsNodeUnder v.shape v.seen top (level + 1) place word → (r : ℕ) → Says v (number word) 1 r → IsNodeUnder v.shape v.seen top level (2 * place + 1) r
  right_is_under t r says = let n = below t in record {
    node = (right_node parts_a parts_b v kn.knows_table.book (root_cut v.shape v.seen top) number reads level place word (held t) r says).node;
    under = right_index v.shape v.seen top level place n.node.q n.node.index n.node.part.word.level_fits n.node.part.word.is n.under;
  }

-- a leaf's word says what its key weighs in the snapshot's set
pub leaf_says : (f : ℕ → ℕ → List (ℕ × ℕ) → List ℕ) (v : SeatView) (top key word : ℕ) → KnowsBook f v → IsNodeUnder v.shape v.seen top 0 key word → weight_of (leaf_pairs key word) key ≡ weight_of (pairs_of_cut (root_cut v.shape v.seen top)) key
leaf_says f v top key word kn t =
    let node = t.node in let leaf = leaf_word v.shape key node.q node.part.word in
    let serial = kn.book.serials node.q node.index (entry_of v.seen node.q node.index) leaf.1 (entry_at v.seen node.q node.index node.part.there) in
    let all = pairs_of_cut (root_cut v.shape v.seen top) in
    ap (λ (ps : List (ℕ × ℕ)). weight_of ps key) ((λ k. leaf_pairs (sym leaf.0 k) (sym node.named k)) ∙ sym (pairs_of_serial node.q node.index (entry_of v.seen node.q node.index) serial) ∙ part_pairs f v.shape v.seen kn.book (root_cut v.shape v.seen top) 0 key node.q node.index node.part)
    ∙ weight_of-range all key (key * 2 ^ 0) ((key + 1) * 2 ^ 0) (omega arith) (omega arith)

-- whether two words are the same says whether the nodes are
pub sees_same : (f : ℕ → ℕ → List (ℕ × ℕ) → List ℕ) (v : SeatView) (earlier later : Snapshot) (level place : ℕ) (words : ℕ × ℕ) → IsNamedInBoth f v earlier later level place words → (words.0 == words.1) ≡ (both_seen v earlier later).same level place
sees_same f v earlier later level place words named =
    let a = word_is v.shape v.seen (top_of v earlier) level place words.0 named.in_earlier.node in let b = word_is v.shape v.seen (top_of v later) level place words.1 named.in_later.node in
    λ k. a k == b k

-- ---- both trees at once

module _ (f : ℕ → ℕ → List (ℕ × ℕ) → List ℕ) where
  -- names are names still
  under_on : (n : ℕ) (v w : SeatView) (s : Snapshot) (level place word : ℕ) → Looks n v w → IsNamedUnder f v s level place word → IsNamedUnder f w s level place word
  under_on n v w s level place word l has = subst (λ (z : SeatView). IsNamedUnder f z s level place word) (sym l.is)
      record { knows_records = records_on f v has.knows_records; is_tree_set = has.is_tree_set; cut_is = has.cut_is; node = has.node }

  pub both_named_on : (n : ℕ) (v w : SeatView) (earlier later : Snapshot) (level place : ℕ) (words : ℕ × ℕ) → Looks n v w → IsNamedInBoth f v earlier later level place words → IsNamedInBoth f w earlier later level place words
  both_named_on n v w earlier later level place words l has = record { in_earlier = under_on n v w earlier level place words.0 l has.in_earlier; in_later = under_on n v w later level place words.1 l has.in_later }

  pub both_walk_on : {number : ℕ → ℕ} (n : ℕ) (v w : SeatView) (earlier later : Snapshot) (bits : ℕ) → Looks n v w → IsBothWalk f number v earlier later bits → IsBothWalk f number w earlier later bits
  both_walk_on n v w earlier later bits l walk = record { plain = walk.plain; bits_are = walk.bits_are ∙ ap (λ (z : SeatView). z.shape.bits) (sym l.is); tops = both_named_on n v w earlier later bits 0 (earlier.number, later.number) l walk.tops }

  -- what was named before some looks, as it is after them, and the other way round
  pub node_under_on : (n : ℕ) (v w : SeatView) (s : Snapshot) (level place word : ℕ) → Looks n v w → IsNodeUnder v.shape v.seen (top_of v s) level place word → IsNodeUnder w.shape w.seen (top_of w s) level place word
  node_under_on n v w s level place word l t = subst (λ (z : SeatView). IsNodeUnder z.shape z.seen (top_of z s) level place word) (sym l.is) t

  pub node_under_back : (n : ℕ) (v w : SeatView) (s : Snapshot) (level place word : ℕ) → Looks n v w → IsNodeUnder w.shape w.seen (top_of w s) level place word → IsNodeUnder v.shape v.seen (top_of v s) level place word
  node_under_back n v w s level place word l t = subst (λ (z : SeatView). IsNodeUnder z.shape z.seen (top_of z s) level place word) l.is t

  -- the names of two nodes that were loaded
  pub both_named_then : {number : ℕ → ℕ} (n : ℕ) (v w : SeatView) (earlier later : Snapshot) (bits level place : ℕ) (words : ℕ × ℕ) → Looks n v w → IsBothWalk f number v earlier later bits
      → IsNodeUnder v.shape v.seen (top_of v earlier) level place words.0 → IsNodeUnder v.shape v.seen (top_of v later) level place words.1 → IsNamedInBoth f w earlier later level place words
  both_named_then n v w earlier later bits level place words l walk first second =
      let a = walk.tops.in_earlier in let b = walk.tops.in_later in
      both_named_on n v w earlier later level place words l record {
        in_earlier = record { knows_records = a.knows_records; is_tree_set = a.is_tree_set; cut_is = a.cut_is; node = first };
        in_later = record { knows_records = b.knows_records; is_tree_set = b.is_tree_set; cut_is = b.cut_is; node = second };
      }

  abbrev pub BothDescends : ℕ → WalkingBoth → WalkingBoth → Type 0
  BothDescends loads old new = DescendsBoth {Trees = WalkingBoth} {Name = ℕ × ℕ} (λ w. both_seen w.words.view w.earlier w.later) (λ w. w.loaded.made) (λ w level place words. IsNamedInBoth f w.words.view w.earlier w.later level place words) (λ first w. KeepsBoth first w) loads old new

  -- the children of both nodes were loaded
  pub descends_children : (i old : WalkingBoth) (words : Known) (loaded : Calls) → i ≡ old → words.table ≡ i.words.table → Looks 2 i.words.view words.view → loaded.made ≡ i.loaded.made + 1 → BothDescends 1 old (record i { words = words; loaded = loaded })
  descends_children i old words loaded same table l is = let few = l.few in
      subst (λ (z : WalkingBoth). BothDescends 1 z (record i { words = words; loaded = loaded })) same record {
        same_sets = ap (λ (z : SeatView). both_seen z i.earlier i.later) l.is;
        few_loads = omega (arith, is);
        keeps_names = λ level place name has. both_named_on 2 i.words.view words.view i.earlier i.later level place name l has;
        keeps_rest = record { same_table = table; same_earlier = refl; same_later = refl; more = l.more; steps = l.is; few_steps = omega (arith, few, is) };
      }

  -- what a comparison loaded, the pass looked at
  pub looks_of_both : (n : ℕ) (walk new : WalkingBoth) → BothDescends n walk new → Looks (2 * n) walk.words.view new.words.view
  looks_of_both n walk new d = let keeps = d.keeps_rest in record { more = keeps.more; is = keeps.steps; few = omega (arith, keeps.few_steps, d.few_loads) }

-- ---- a comparison of a pass

-- the sets that it compares are those of the snapshots
pub same_both : (words : Option Known) (walk : WalkingBoth) (earlier later : Snapshot) (left : ℕ) (now : PassFacts) → words ≡ Some walk.words → walk.earlier ≡ earlier → walk.later ≡ later → pass_facts (known_in words) left ≡ now
    → both_seen walk.words.view walk.earlier walk.later ≡ both_at now earlier later
same_both words walk earlier later left now there one other facts =
    (λ k. both_seen walk.words.view (one k) (other k)) ∙ ap (λ (z : Option Known). both_at (pass_facts (known_in z) left) earlier later) (sym there) ∙ ap (λ (z : PassFacts). both_at z earlier later) facts

module _ {A B : Type 0} (parts_a : Parts A) (parts_b : Parts B) where
  -- the top of a snapshot's tree
  top_under : (k : Known) (left : ℕ) (s : Snapshot) → KnowsRecords (face parts_a parts_b) k.view → HasSnapshot (pass_facts k left) s → IsNamedUnder (face parts_a parts_b) k.view s k.view.shape.bits 0 s.number
  unfolding index_under
  top_under k left s kn has =
      let f = face parts_a parts_b in let v : SeatView = k.view in let top = top_of v s in
      let none : 0 ≡ v.shape.bits - v.shape.bits = omega arith in record {
        knows_records = kn;
        is_tree_set = named_set f v s kn.knows_table;
        cut_is = cut_is v.shape v.seen s has;
        node = record {
          node = top_node parts_a parts_b v kn.knows_table.book (root_cut v.shape v.seen top) s.number (entry_shown v.shape v.seen s has) refl;
          under = ap (λ (z : ℕ). index_under v.shape v.seen top z 0) none;
        };
      }

  -- who knows a table may compare two of its snapshots
  pub walks_both : (k : Known) (bits left : ℕ) (now : PassFacts) (earlier later : Snapshot) → KnowsRecords (face parts_a parts_b) k.view → bits ≡ k.view.shape.bits → pass_facts k left ≡ now → HasSnapshot now earlier → HasSnapshot now later
      → IsBothWalk (face parts_a parts_b) (λ word. word) k.view earlier later bits
  walks_both k bits left now earlier later kn bits_are facts one other =
      let f = face parts_a parts_b in
      let has : (s : Snapshot) → HasSnapshot now s → IsNamedUnder f k.view s bits 0 s.number = λ s has.
      subst (λ (z : ℕ). IsNamedUnder f k.view s z 0 s.number) (sym bits_are) (top_under k left s kn (subst (λ (z : PassFacts). HasSnapshot z s) (sym facts) has)) in
      record { plain = λ word. refl; bits_are = bits_are; tops = record { in_earlier = has earlier one; in_later = has later other } }

  -- the pass is one still, with the same counts
  pub still_pass_both : (words : Option Known) (walk new : WalkingBoth) (leaves bits next left inserts removals n : ℕ) → HoldsPass (face parts_a parts_b) words leaves bits next left → HasCounts (changes_of (known_in words).view.held) inserts removals → words ≡ Some walk.words
      → BothDescends (face parts_a parts_b) n walk new → HoldsPass (face parts_a parts_b) (Some new.words) leaves bits next left × HasCounts (changes_of new.words.view.held) inserts removals
  still_pass_both words walk new leaves bits next left inserts removals n h counts there d =
      let f = face parts_a parts_b in
      let t = pass_told f words walk.words leaves bits next left (pass_facts (known_in words) left) h there refl in
      still_by f walk.words new.words leaves bits next left inserts removals (2 * n) t.0 (subst (λ (z : Option Known). HasCounts (changes_of (known_in z).view.held) inserts removals) there counts) (looks_of_both f n walk new d)

  -- and it only read
  pub reads_of_both : (words : Option Known) (walk new : WalkingBoth) (left n most : ℕ) (now : PassFacts) → words ≡ Some walk.words → pass_facts (known_in words) left ≡ now → BothDescends (face parts_a parts_b) n walk new → 2 * n ≤ most
      → Reads (summary_of parts_a parts_b) most now (pass_facts new.words left)
  reads_of_both words walk new left n most now there facts d enough =
      let reads = reads_by parts_a parts_b walk.words new.words.view left (2 * n) (looks_of_both (face parts_a parts_b) n walk new d) in
      let all = subst (λ (z : PassFacts × TableId). Reads (summary_of parts_a parts_b) (2 * n) z.0 (pass_facts (record { table = z.1; view = new.words.view }) left))
      (λ j. ((ap (λ (z : Option Known). pass_facts (known_in z) left) (sym there) ∙ facts) j, sym d.keeps_rest.same_table j)) reads in
      record { stays = all.stays; few_steps = let few = all.few_steps in omega (arith, few, enough) }

  -- so a comparison only reads, and makes a step for each word of the children of nodes that differ
  pub compared : (words after : Option Known) (walk new : WalkingBoth) (earlier later : Snapshot) (k left : ℕ) (now : PassFacts) → words ≡ Some walk.words → walk.earlier ≡ earlier → walk.later ≡ later → pass_facts (known_in words) left ≡ now
      → BothDescends (face parts_a parts_b) (2 * differing_nodes (both_seen walk.words.view walk.earlier walk.later) k) walk new → after ≡ Some new.words → Reads (summary_of parts_a parts_b) (compare_steps now earlier later k) now (pass_facts (known_in after) left)
  compared words after walk new earlier later k left now there one other facts d back =
      let same = same_both words walk earlier later left now there one other facts in
      subst (λ (z : Option Known). Reads (summary_of parts_a parts_b) (compare_steps now earlier later k) now (pass_facts (known_in z) left)) (sym back)
      (reads_of_both words walk new left (2 * differing_nodes (both_seen walk.words.view walk.earlier walk.later) k) (compare_steps now earlier later k) now there facts d (omega (arith, ap (λ (z : BothSets). differing_nodes z k) same)))

  -- and made no step, where one snapshot is compared with itself
  pub none_read : (old new : PassFacts) (earlier later : Snapshot) (k : ℕ) → Reads (summary_of parts_a parts_b) (compare_steps old earlier later k) old new → earlier ≡ later → new.steps ≡ old.steps
  none_read old new earlier later k reads same =
      let none : differing_nodes (both_at old earlier later) k ≡ 0 = subst (λ (z : Snapshot). differing_nodes (both_at old earlier z) k ≡ 0) same
      (none_differ (both_at old earlier earlier).same k (λ level place. eq-eqb _ _ refl) (both_at old earlier earlier).earlier.bits 0) in
      let more = reads.stays.steps_stay in
      more.1 ∙ ap (λ zs. old.steps ++ zs) (no_more more.0 (omega (arith, reads.few_steps, none, ap length more.1, length-append old.steps more.0))) ∙ append-nil old.steps
    where
      no_more : {X : Type 0} (xs : List X) → length xs ≡ 0 → xs ≡ []
      no_more [] e = refl
      no_more (x ∷ xs) e = absurd (omega (arith, e))
