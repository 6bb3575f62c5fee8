use Rattle.std.proofs.Common.{◌≡◌, ◌+◌, ◌-◌}
use Rattle.aug_trie.specs.UpdateBatches.{apart}
use Rattle.aug_trie.proofs.updates.batch.levels_apart.Given as goal

abbrev pub invariant-loop-level : goal.invariant-loop-level
invariant-loop-level l = l.level + apart (l.bits - l.level) l.node l.other ≡ apart l.bits l.key l.next
