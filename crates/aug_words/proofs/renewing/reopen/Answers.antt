use Rattle.aug_core.proofs.Renewals.{reopens}
use Rattle.aug_words.proofs.renewing.reopen.Goals as goal

pub load-requires : goal.load-requires
load-requires g c = let o = c.requires.opened in (c.requires.table, c.requires.some, reopens _ _ _ _ _ _ o.members c.requires.live c.requires.no_slot c.requires.laid_out c.requires.keeps c.requires.all o.aside o.inside o.clear o.opened)

pub returns-clause-view : goal.returns-clause-view
returns-clause-view g c = c.load.ensures.2.1
