use Rattle.std.proofs.Common.{◌+◌, ◌-◌, length}
use Rattle.aug_model_tests.proofs.key_sets.all_memory.Given as goal

abbrev pub decreases-loop-words : goal.decreases-loop-words
decreases-loop-words l = l.words + (100000 - length l.taken.items)
