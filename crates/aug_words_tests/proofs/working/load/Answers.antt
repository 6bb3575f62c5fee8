use Rattle.std.proofs.Common.{ap, inr}
use Rattle.aug_core.specs.declared.view.SeatView.{SeatView}
use Rattle.aug_core.proofs.Clients.{may_store_stepped}
use Rattle.aug_words_tests.proofs.working.load.Goals as goal

pub load_record_word-requires : goal.load_record_word-requires
load_record_word-requires c = inr c.requires

pub returns : goal.returns
returns c = (c.load_record_word.ensures.table, ap (λ (v : SeatView). v.shape) c.load_record_word.ensures.view.stepped, ap (λ (v : SeatView). v.members) c.load_record_word.ensures.view.stepped, may_store_stepped _ _ _ _ c.requires c.load_record_word.ensures.view.stepped)
