use Rattle.aug_trie_tests.proofs.playing.steps.Given as goal

abbrev pub ghosts-played : goal.ghosts-played
ghosts-played g a = record { round = a.crew.round }
