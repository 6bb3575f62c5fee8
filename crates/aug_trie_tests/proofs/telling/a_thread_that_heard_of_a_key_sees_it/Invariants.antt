use Rattle.aug_trie_tests.proofs.telling.a_thread_that_heard_of_a_key_sees_it.Given as goal

abbrev pub ghosts-spoken : goal.ghosts-spoken
ghosts-spoken g a = record { round = a.crew.round }
