use Rattle.aug_query.proofs.descent.pages.+append_members.Given as goal

abbrev pub decreases-append_members : goal.decreases-append_members
decreases-append_members g l = l.level
