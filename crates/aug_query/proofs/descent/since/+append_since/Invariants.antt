use Rattle.aug_query.proofs.descent.since.+append_since.Given as goal

abbrev pub decreases-append_since : goal.decreases-append_since
decreases-append_since g l = l.level
