use Rattle.std.proofs.Common.{arith, refl}
use Rattle.aug_trie.proofs.Publishing.{quiet_try}
use Rattle.aug_words.proofs.Passes.{told_plainly}
use Rattle.aug_core.specs.Faces.{face}
use Rattle.aug_trie.proofs.Going.{quiet_storing}
use Rattle.aug_trie.proofs.Advancing.{may_store_word, may_try, try_over, record_on, knows_old, room_old}
use Rattle.aug_trie.proofs.turns.points.store_or_try.Goals as goal

pub store_record_word-requires : goal.store_record_word-requires
store_record_word-requires g c = may_store_word g.A.Monoid.parts g.B.Monoid.parts c.requires.begun.0 c.args.node c.args.number c.args.filling c.args.pass.now.view c.requires.begun.1

pub try_node-requires-clause-own : goal.try_node-requires-clause-own
try_node-requires-clause-own g c = may_try g.A.Monoid.parts g.B.Monoid.parts c.requires.begun.0 c.args.node c.args.number c.args.filling c.args.pass.now.view c.requires.begun.1 c.if-count-eq-RECORD_WORDS.true

pub returns-then-count-eq-RECORD_WORDS-clause-on : goal.returns-then-count-eq-RECORD_WORDS-clause-on
returns-then-count-eq-RECORD_WORDS-clause-on g c = λ v t.
    try_over g.A.Monoid.parts g.B.Monoid.parts v c.args.node c.args.number c.args.filling c.args.pass.now.view t c.if-count-eq-RECORD_WORDS.true c.try_node.new.self.view c.try_node.result c.try_node.ensures.view

pub returns-clause-on : goal.returns-clause-on
returns-clause-on g c = λ v t. let few = t.is_at.few in let not = c.if-count-eq-RECORD_WORDS.false in
    record_on g.A.Monoid.parts g.B.Monoid.parts v c.args.node c.args.number c.args.filling c.args.pass.now.view t c.store_record_word.new.self.view _ _ refl c.field_at.ensures (omega arith) c.store_record_word.ensures.view

pub returns-clause-step : goal.returns-clause-step
returns-clause-step g c = record { table = c.store_record_word.ensures.table; view = quiet_storing _ _ _ _ c.store_record_word.ensures.view }

pub returns-then-count-eq-RECORD_WORDS-clause-step : goal.returns-then-count-eq-RECORD_WORDS-clause-step
returns-then-count-eq-RECORD_WORDS-clause-step g c = let m = g.A.Monoid.parts in let n = g.B.Monoid.parts in let told = c.try_node.ensures.view in
    let kn = knows_old m n c.requires.begun.0 c.args.node c.args.number c.args.filling c.args.pass.now.view c.requires.begun.1 in record {
      table = c.try_node.ensures.table;
      view = quiet_try (face m n) c.args.pass.now.view c.try_node.new.self.view c.args.node _ c.args.number c.args.number told.found c.try_node.result told.decided (told_plainly (room_old m n c.requires.begun.0 c.args.node c.args.number c.args.filling c.args.pass.now.view c.requires.begun.1).keeps_records (may_store_word m n c.requires.begun.0 c.args.node c.args.number c.args.filling c.args.pass.now.view c.requires.begun.1) told) kn;
    }
