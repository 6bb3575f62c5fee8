use Rattle.aug_trie_tests.proofs.crowds.assert_accounts.Given as goal

abbrev pub ghosts-crowded : goal.ghosts-crowded
ghosts-crowded g a = record { round = a.crew.round }
