use Rattle.aug_query.proofs.descent.listing.+list_members.Given as goal

abbrev pub decreases-list_members : goal.decreases-list_members
decreases-list_members g l = l.level
