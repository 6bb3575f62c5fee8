-- Two snapshots of a pass, as a comparison of them goes: their sets, and where their trees have the same node. In the example the snapshots with the
-- numbers 4 and 6 have the same node at level 1 and place 1, which no change has touched.
use Rattle.std.specs.Prelude.{ℕ, ◌*◌, Bool}
use Rattle.aug_query.specs.DescendBoth.{BothSets, differing_nodes}
use Rattle.aug_trie.specs.Pass.{PassFacts}
use Rattle.aug_trie.specs.Snapshot.{index_in, set_at}
use Rattle.aug_trie.specs.inside.NodesUnder.{same_under}
use Rattle.aug_trie.specs.declared.queries.snapshot.Snapshot.{Snapshot}

-- whether the trees of two snapshots have the same node at a level and a place: one record, which was there before either snapshot
abbrev pub same_node : PassFacts → Snapshot → Snapshot → ℕ → ℕ → Bool
same_node pass earlier later level place = same_under pass.words.shape pass.words.book (index_in pass.numbers earlier) (index_in pass.numbers later) level place

-- both sets, and where their trees have the same node
abbrev pub both_at : PassFacts → Snapshot → Snapshot → BothSets
both_at pass earlier later = record { earlier = set_at pass earlier; later = set_at pass later; same = same_node pass earlier later }

-- how many steps a comparison from a key on takes at most: for each node that has children, covers keys from that on and is not the same in both trees,
-- two loads in each tree, one for each child
abbrev pub compare_steps : PassFacts → Snapshot → Snapshot → ℕ → ℕ
compare_steps pass earlier later k = 4 * differing_nodes (both_at pass earlier later) k
