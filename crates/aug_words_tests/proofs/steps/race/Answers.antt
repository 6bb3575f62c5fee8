use Rattle.aug_words_tests.proofs.StepTests.{first_lane}
use Rattle.aug_words_tests.proofs.steps.race.Goals as goal

pub next_pass-first-requires-clause-number : goal.next_pass-first-requires-clause-number
next_pass-first-requires-clause-number c = first_lane _ c.in_ok-words.ensures.shape 0

pub next_pass-second-requires-clause-number : goal.next_pass-second-requires-clause-number
next_pass-second-requires-clause-number c = first_lane _ c.in_ok-words.ensures.shape 1
