use Rattle.std.proofs.Common.{arith}
use Rattle.aug_words_tests.proofs.LaneTests.{small_lane}
use Rattle.aug_words_tests.proofs.working.three.Goals as goal

pub next_half-first-requires-clause-number : goal.next_half-first-requires-clause-number
next_half-first-requires-clause-number g c = small_lane _ c.in_ok-words.ensures.shape 0 5 0 (omega arith) (omega arith)

pub next_half-second-requires-clause-number : goal.next_half-second-requires-clause-number
next_half-second-requires-clause-number g c = small_lane _ c.in_ok-words.ensures.shape 1 9 0 (omega arith) (omega arith)

pub next_half-third-requires-clause-number : goal.next_half-third-requires-clause-number
next_half-third-requires-clause-number g c = small_lane _ c.in_ok-words.ensures.shape 2 14 1 (omega arith) (omega arith)
