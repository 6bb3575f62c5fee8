use Rattle.aug_query.proofs.descent.changes.+append_changes.Given as goal

abbrev pub decreases-append_changes : goal.decreases-append_changes
decreases-append_changes g l = l.level
