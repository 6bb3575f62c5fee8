use Rattle.aug_words_tests.proofs.LaneTests.{records_of_small}
use Rattle.aug_words_tests.proofs.working.three_passes_fill_their_records.Goals as goal

pub assert_records-requires : goal.assert_records-requires
assert_records-requires g c = record { count = records_of_small _ c.in_ok-done.ensures }
