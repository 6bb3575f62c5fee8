use Rattle.std.proofs.Common.{arith}
use Rattle.aug_words_tests.proofs.LaneTests.{small_lane}
use Rattle.aug_words_tests.proofs.requests.a_table_that_passes_work_on_asks_4_times_for_memory.Goals as goal

pub next_half-first-requires-clause-number : goal.next_half-first-requires-clause-number
next_half-first-requires-clause-number g c = small_lane _ c.in_ok-words.ensures.shape 0 5 0 (omega arith) (omega arith)

pub next_half-second-requires-clause-number : goal.next_half-second-requires-clause-number
next_half-second-requires-clause-number g c = small_lane _ c.in_ok-words.ensures.shape 1 9 0 (omega arith) (omega arith)
