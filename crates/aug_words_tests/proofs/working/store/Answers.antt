use Rattle.std.proofs.Common.{ap}
use Rattle.aug_core.specs.declared.view.SeatView.{SeatView}
use Rattle.aug_core.proofs.Clients.{may_store_on}
use Rattle.aug_words_tests.proofs.working.store.Goals as goal

pub returns : goal.returns
returns c = (c.store_record_word.ensures.table, ap (λ (v : SeatView). v.shape) c.store_record_word.ensures.view, ap (λ (v : SeatView). v.members) c.store_record_word.ensures.view, may_store_on _ _ _ _ _ c.requires c.store_record_word.ensures.view)
