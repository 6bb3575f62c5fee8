use Rattle.std.proofs.Common.{◌∙◌}
use Rattle.aug_words_tests.proofs.LaneTests.{records_of_small}
use Rattle.aug_words_tests.proofs.opening.assert_opens.Goals as goal

pub assert_records-requires : goal.assert_records-requires
assert_records-requires g c = record { count = records_of_small _ (c.close-rest.ensures.shape ∙ c.in_ok-words.ensures.shape) }
