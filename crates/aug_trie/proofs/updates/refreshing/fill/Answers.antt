use Rattle.std.proofs.Common.{◌∙◌}
use Rattle.aug_core.proofs.Clients.{may_store_on}
use Rattle.aug_core.proofs.Filling.{filled_is}
use Rattle.aug_trie.proofs.updates.refreshing.fill.Goals as goal

pub store_record_word-requires-2 : goal.store_record_word-requires-2
store_record_word-requires-2 g c = may_store_on _ _ _ _ c.args.number c.requires c.store_record_word.ensures.view

pub store_record_word-requires-3 : goal.store_record_word-requires-3
store_record_word-requires-3 g c = may_store_on _ _ _ _ c.args.number (may_store_on _ _ _ _ c.args.number c.requires c.store_record_word.ensures.view) c.store_record_word-2.ensures.view

pub store_record_word-requires-4 : goal.store_record_word-requires-4
store_record_word-requires-4 g c = may_store_on _ _ _ _ c.args.number (may_store_on _ _ _ _ c.args.number (may_store_on _ _ _ _ c.args.number c.requires c.store_record_word.ensures.view) c.store_record_word-2.ensures.view) c.store_record_word-3.ensures.view

pub store_record_word-requires-5 : goal.store_record_word-requires-5
store_record_word-requires-5 g c = may_store_on _ _ _ _ c.args.number (may_store_on _ _ _ _ c.args.number (may_store_on _ _ _ _ c.args.number (may_store_on _ _ _ _ c.args.number c.requires c.store_record_word.ensures.view) c.store_record_word-2.ensures.view) c.store_record_word-3.ensures.view) c.store_record_word-4.ensures.view

pub returns : goal.returns
returns g c = record {
  table = c.store_record_word-5.ensures.table ∙ c.store_record_word-4.ensures.table ∙ c.store_record_word-3.ensures.table ∙ c.store_record_word-2.ensures.table ∙ c.store_record_word.ensures.table;
  view = filled_is c.args.pass.now.view _ _ _ _ _ c.args.number c.args.five c.store_record_word.ensures.view c.store_record_word-2.ensures.view c.store_record_word-3.ensures.view c.store_record_word-4.ensures.view c.store_record_word-5.ensures.view;
}
