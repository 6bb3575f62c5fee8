use Rattle.aug_words_tests.proofs.steps.play.Goals as goal

pub refill-of_first-requires-clause-own : goal.refill-of_first-requires-clause-own
refill-of_first-requires-clause-own g c = c.insert.ensures.own 1 c.requires.own.0

pub refill-of_second-requires-clause-own : goal.refill-of_second-requires-clause-own
refill-of_second-requires-clause-own g c = c.insert-2.ensures.own 2 c.requires.own.1
