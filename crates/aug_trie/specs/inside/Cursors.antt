-- Which cursors are a pass's.
use Rattle.aug_query.specs.inside.Paths.{IsCursor}
use Rattle.aug_trie.specs.Pass.{PassFacts}
use Rattle.aug_trie.specs.Snapshot.{HasSnapshot, snapshot_cut, set_at}
use Rattle.aug_trie.specs.inside.NodeWords.{IsNodeAt}
use Rattle.aug_trie.specs.declared.queries.cursor.SnapshotCursor.{SnapshotCursor}

-- opaque: the cursor is over one of the pass's snapshots: it keeps words of nodes of that snapshot's tree
pub record IsCursorOf (pass : PassFacts) (at : SnapshotCursor) : Type 0 where
  pub of_pass : HasSnapshot pass at.snapshot
  pub is_cursor : IsCursor (IsNodeAt pass.words.shape pass.words.book (snapshot_cut pass at.snapshot)) (set_at pass at.snapshot) at.cursor
