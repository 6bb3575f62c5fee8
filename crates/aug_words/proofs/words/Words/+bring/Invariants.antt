use Rattle.aug_words.proofs.words.Words.+bring.Given as goal

abbrev pub decreases-bring : goal.decreases-bring
decreases-bring g l = l.node
