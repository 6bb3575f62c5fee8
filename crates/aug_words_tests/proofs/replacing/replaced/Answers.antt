use Rattle.aug_words_tests.proofs.LaneTests.{only_lane}
use Rattle.aug_words_tests.proofs.replacing.replaced.Goals as goal

pub next_pass-pass-requires-clause-number : goal.next_pass-pass-requires-clause-number
next_pass-pass-requires-clause-number c = only_lane _ c.in_ok-words.ensures.shape
