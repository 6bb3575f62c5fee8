-- What a walk over a snapshot leaves as it was, and how a descent over it comes of the words that it loaded.
use Rattle.std.proofs.Common.{◌≡◌, ℕ, ◌+◌, ◌*◌, ◌≤◌, List, length, sym, refl, ap, ◌∙◌, subst, arith}
use Rattle.aug_core.specs.Cuts.{Cut, weight_at, set_of_cut}
use Rattle.aug_core.specs.declared.step.StepTaken.{StepTaken}
use Rattle.aug_core.specs.declared.view.SeatView.{SeatView}
use Rattle.aug_core.proofs.Fits.{book_as}
use Rattle.aug_model.specs.Keys.{list_of}
use Rattle.aug_model.proofs.Pairs.{keys_of-pairs_of}
use Rattle.aug_model.specs.NodeKeys.{keys_below}
use Rattle.aug_query.specs.Descend.{Descends, one_more_node, one_more_past, one_more_count, one_more_summary}
use Rattle.aug_query.specs.declared.loaded.Loaded.{Loaded}
use Rattle.aug_words.specs.Seats.{Known}
use Rattle.aug_trie.specs.inside.NodeWords.{HoldsNodeAt}
use Rattle.aug_trie.specs.inside.Goes.{KnowsRecords, Looks, ReadsBelow}
use Rattle.aug_trie.specs.inside.NamedCuts.{cut_named, members_of}
use Rattle.aug_trie.specs.inside.SnapshotWalk.{set_seen, IsNamed, IsWalk, Walking, KeepsWords}
use Rattle.aug_trie.specs.declared.queries.snapshot.Snapshot.{Snapshot}

-- the keys of a cut's set are the cut's
pub keys_of_cut : (bits : ℕ) (cut : Cut) → list_of (members_of bits cut) ≡ set_of_cut cut
keys_of_cut bits cut = keys_of-pairs_of (weight_at cut) (set_of_cut cut)

module _ (f : ℕ → ℕ → List (ℕ × ℕ) → List ℕ) where
  -- a view that looked knows its table still
  pub records_on : (v : SeatView) {steps : List StepTaken} → KnowsRecords f v → KnowsRecords f (record v { steps = steps })
  records_on v kn = record { knows_table = book_as f v refl refl refl kn.knows_table; keeps_records = kn.keeps_records }

  pub knows_on : (n : ℕ) (v w : SeatView) → Looks n v w → KnowsRecords f v → KnowsRecords f w
  knows_on n v w l kn = subst (KnowsRecords f) (sym l.is) (records_on v kn)

  -- and may read what it might
  reads_more : {number : ℕ → ℕ} (v : SeatView) {steps : List StepTaken} → ReadsBelow f number v → ReadsBelow f number (record v { steps = steps })
  reads_more v r = record { knows_table = book_as f v refl refl refl r.knows_table; closed = r.closed; numbered = r.numbered }

  pub reads_on : {number : ℕ → ℕ} (n : ℕ) (v w : SeatView) → Looks n v w → ReadsBelow f number v → ReadsBelow f number w
  reads_on {number} n v w l r = subst (ReadsBelow f number) (sym l.is) (reads_more v r)

  holds_more : (v : SeatView) {steps : List StepTaken} (cut : Cut) (level place word : ℕ) → HoldsNodeAt v cut level place word → HoldsNodeAt (record v { steps = steps }) cut level place word
  holds_more v cut level place word h = record { node = h.node; covers = h.covers }

  -- names are names still
  pub named_on : {number : ℕ → ℕ} (n : ℕ) (v w : SeatView) (s : Snapshot) (level place word : ℕ) → Looks n v w → IsNamed f number v s level place word → IsNamed f number w s level place word
  named_on {number} n v w s level place word l has = subst (λ (z : SeatView). IsNamed f number z s level place word) (sym l.is)
      record { reads = reads_more v has.reads; is_tree_set = has.is_tree_set; holds = holds_more v (cut_named v.shape v.seen s) level place word has.holds }

  pub walk_on : {number : ℕ → ℕ} (n : ℕ) (v w : SeatView) (s : Snapshot) (bits : ℕ) → Looks n v w → IsWalk f number v s bits → IsWalk f number w s bits
  walk_on n v w s bits l walk = record { bits_are = walk.bits_are ∙ ap (λ (z : SeatView). z.shape.bits) (sym l.is); top = named_on n v w s bits 0 s.number l walk.top }

  abbrev pub WalkDescends : (ℕ → ℕ) → ℕ → ℕ → ℕ → ℕ → Walking → Walking → Type 0
  WalkDescends number nodes counts summaries passed old new = Descends {Tree = Walking} {Name = ℕ} (λ w. set_seen w.words.view w.snapshot) (λ w. w.loaded) (λ w level place word. IsNamed f number w.words.view w.snapshot level place word)
      (λ first w. KeepsWords first.words w.words first.snapshot w.snapshot first.loaded w.loaded) nodes counts summaries passed old new

  -- what was loaded, by its kind
  descends_by : {number : ℕ → ℕ} (n nodes counts summaries passed : ℕ) (i old : Walking) (words : Known) (loaded : Loaded) → i ≡ old → words.table ≡ i.words.table → Looks n i.words.view words.view
      → n ≤ nodes + counts + 3 * summaries + 2 * passed
      → (loaded.nodes.made ≡ i.loaded.nodes.made + nodes) × (loaded.counts.made ≡ i.loaded.counts.made + counts) × (loaded.summaries.made ≡ i.loaded.summaries.made + summaries) × (loaded.passed.made ≡ i.loaded.passed.made + passed)
      → WalkDescends number nodes counts summaries passed old (record i { words = words; loaded = loaded })
  descends_by {number} n nodes counts summaries passed i old words loaded same table l most is = let few = l.few in let a = is.0 in let b = is.1 in let c = is.2 in let d = is.3 in
      subst (λ (z : Walking). WalkDescends number nodes counts summaries passed z (record i { words = words; loaded = loaded })) same record {
        same_set = ap (λ (z : SeatView). set_seen z i.snapshot) l.is;
        few_nodes = omega arith;
        few_counts = omega arith;
        few_summaries = omega arith;
        few_passed = omega arith;
        keeps_names = λ level place word has. named_on n i.words.view words.view i.snapshot level place word l has;
        keeps_rest = record { same_table = table; same_snapshot = refl; more = l.more; steps = l.is; few_steps = omega arith };
      }

  none : (n : ℕ) → n ≡ n + 0
  none n = omega arith

  -- a node was loaded
  pub descends_node : {number : ℕ → ℕ} (i old : Walking) (words : Known) (loaded : Loaded) → i ≡ old → words.table ≡ i.words.table → Looks 1 i.words.view words.view → loaded ≡ one_more_node i.loaded
      → WalkDescends number 1 0 0 0 old (record i { words = words; loaded = loaded })
  descends_node i old words loaded same table l is = descends_by 1 1 0 0 0 i old words loaded same table l (omega arith) (ap (λ (z : Loaded). z.nodes.made) is, ap (λ (z : Loaded). z.counts.made) is ∙ none _, ap (λ (z : Loaded). z.summaries.made) is ∙ none _, ap (λ (z : Loaded). z.passed.made) is ∙ none _)

  -- a node was loaded past another, and the count of that one
  pub descends_past : {number : ℕ → ℕ} (i old : Walking) (words : Known) (loaded : Loaded) → i ≡ old → words.table ≡ i.words.table → Looks 3 i.words.view words.view → loaded ≡ one_more_past i.loaded
      → WalkDescends number 1 0 0 1 old (record i { words = words; loaded = loaded })
  descends_past i old words loaded same table l is = descends_by 3 1 0 0 1 i old words loaded same table l (omega arith) (ap (λ (z : Loaded). z.nodes.made) is, ap (λ (z : Loaded). z.counts.made) is ∙ none _, ap (λ (z : Loaded). z.summaries.made) is ∙ none _, ap (λ (z : Loaded). z.passed.made) is)

  -- the members of a node were counted
  pub descends_count : {number : ℕ → ℕ} (i old : Walking) (words : Known) (loaded : Loaded) → i ≡ old → words.table ≡ i.words.table → Looks 1 i.words.view words.view → loaded ≡ one_more_count i.loaded
      → WalkDescends number 0 1 0 0 old (record i { words = words; loaded = loaded })
  descends_count i old words loaded same table l is = descends_by 1 0 1 0 0 i old words loaded same table l (omega arith) (ap (λ (z : Loaded). z.nodes.made) is ∙ none _, ap (λ (z : Loaded). z.counts.made) is, ap (λ (z : Loaded). z.summaries.made) is ∙ none _, ap (λ (z : Loaded). z.passed.made) is ∙ none _)

  -- a whole summary was loaded
  pub descends_summary : {number : ℕ → ℕ} (i old : Walking) (words : Known) (loaded : Loaded) → i ≡ old → words.table ≡ i.words.table → Looks 3 i.words.view words.view → loaded ≡ one_more_summary i.loaded
      → WalkDescends number 0 0 1 0 old (record i { words = words; loaded = loaded })
  descends_summary i old words loaded same table l is = descends_by 3 0 0 1 0 i old words loaded same table l (omega arith) (ap (λ (z : Loaded). z.nodes.made) is ∙ none _, ap (λ (z : Loaded). z.counts.made) is ∙ none _, ap (λ (z : Loaded). z.summaries.made) is, ap (λ (z : Loaded). z.passed.made) is ∙ none _)

  -- the count of what a name stands for, by the keys of the set and by those of the cut
  pub counted : (v : SeatView) (s : Snapshot) (level place n : ℕ) → n ≡ length (keys_below (set_of_cut (cut_named v.shape v.seen s)) level place) → n ≡ length (keys_below (list_of (set_seen v s)) level place)
  counted v s level place n is = is ∙ ap (λ (z : List ℕ). length (keys_below z level place)) (sym (keys_of_cut v.shape.bits (cut_named v.shape v.seen s)))

  -- a name, as it is after some looks
  pub named_then : {number : ℕ → ℕ} (n level place word : ℕ) (v w : SeatView) (s : Snapshot) (bits : ℕ) → Looks n v w → IsWalk f number v s bits → HoldsNodeAt v (cut_named v.shape v.seen s) level place word → IsNamed f number w s level place word
  named_then n level place word v w s bits l walk node = named_on n v w s level place word l record { reads = walk.top.reads; is_tree_set = walk.top.is_tree_set; holds = node }

  -- what was held before some looks is so still
  pub node_on : (n level place word : ℕ) (v w : SeatView) (s : Snapshot) → Looks n v w → HoldsNodeAt v (cut_named v.shape v.seen s) level place word → HoldsNodeAt w (cut_named w.shape w.seen s) level place word
  node_on n level place word v w s l h = subst (λ (z : SeatView). HoldsNodeAt z (cut_named z.shape z.seen s) level place word) (sym l.is) (holds_more v (cut_named v.shape v.seen s) level place word h)

  -- and the other way round
  pub node_back : (n level place word : ℕ) (v w : SeatView) (s : Snapshot) → Looks n v w → HoldsNodeAt w (cut_named w.shape w.seen s) level place word → HoldsNodeAt v (cut_named v.shape v.seen s) level place word
  node_back n level place word v w s l h = let back = subst (λ (z : SeatView). HoldsNodeAt z (cut_named z.shape z.seen s) level place word) l.is h in record { node = back.node; covers = back.covers }

  -- a count that was loaded after some looks, by the set of the beginning
  pub counted_before : (n : ℕ) (i old : Walking) (w : SeatView) (level place m : ℕ) → i ≡ old → Looks n i.words.view w → m ≡ length (keys_below (set_of_cut (cut_named w.shape w.seen i.snapshot)) level place)
      → m ≡ length (keys_below (list_of (set_seen old.words.view old.snapshot)) level place)
  counted_before n i old w level place m same l is =
      subst (λ (z : Walking). m ≡ length (keys_below (list_of (set_seen z.words.view z.snapshot)) level place)) same
      (counted i.words.view i.snapshot level place m (subst (λ (z : SeatView). m ≡ length (keys_below (set_of_cut (cut_named z.shape z.seen i.snapshot)) level place)) l.is is))
