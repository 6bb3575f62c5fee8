use Rattle.aug_words_tests.proofs.LaneTests.{reclaiming_lane}
use Rattle.aug_words_tests.proofs.reclaiming.play.Goals as goal

pub next_pass-first-requires-clause-number : goal.next_pass-first-requires-clause-number
next_pass-first-requires-clause-number c = reclaiming_lane _ c.in_ok-words.ensures.shape 0

pub next_pass-second-requires-clause-number : goal.next_pass-second-requires-clause-number
next_pass-second-requires-clause-number c = reclaiming_lane _ c.in_ok-words.ensures.shape 1
