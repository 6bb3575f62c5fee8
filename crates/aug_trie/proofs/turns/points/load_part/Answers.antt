use Rattle.std.proofs.Common.{arith, inl, refl, subst, sym, ◌≡◌, ◌+◌, set}
use Rattle.aug_monoid.proofs.BoundLaws.{laws_of}
use Rattle.aug_core.specs.Faces.{face}
use Rattle.aug_core.specs.Effects.{GuardsRecord}
use Rattle.aug_core.specs.declared.view.SeatView.{SeatView}
use Rattle.aug_trie.specs.inside.Points.{reading_words}
use Rattle.aug_trie.specs.declared.turns.points.Point.TheVariants.{Part}
use Rattle.aug_core.proofs.PlaceLemmas.{keys-within}
use Rattle.aug_trie.proofs.Going.{quiet_stepping}
use Rattle.aug_trie.proofs.Advancing.{child_guarded, counts_fit, part_on, all_on, goes_all, took_all, nodes_told}
use Rattle.aug_trie.proofs.turns.points.load_part.Goals as goal

pub next_word-number-requires : goal.next_word-number-requires
next_word-number-requires g c = c.requires.begun.3.is_at.few

pub load_record_word-requires : goal.load_record_word-requires
load_record_word-requires g c = let m = g.A.Monoid in let n = g.B.Monoid in let b = c.requires.begun in let old : SeatView = c.args.pass.now.view in
    inl (subst (GuardsRecord old) (sym c.next_word-number.ensures.record) (child_guarded m.parts n.parts (laws_of g.met.A.Monoid) (laws_of g.met.B.Monoid) b.0 b.1 b.2 c.args.reading old b.3))

pub over_nodes-requires : goal.over_nodes-requires
over_nodes-requires g c = let m = g.A.Monoid in let n = g.B.Monoid in let r = c.args.reading in let is = c.next_word-number.ensures in let b = c.requires.begun in let v : SeatView = b.0 in let t = b.3 in let a = t.is_at in
    let small = a.few in let full = c.if-reading-lt-READING_WORDS.false in let laid = t.knows_table.laid_out.bits in let few = (keys-within v.shape.bits laid.0 laid.1).1 in
    let fit = counts_fit m.parts n.parts (laws_of g.met.A.Monoid) (laws_of g.met.B.Monoid) v b.1 r.from r.left r.right (set r.words r.count c.load_record_word.result) a.third t.room.keeps_records few a.nodes t.inner a.loaded
    (all_on (face m.parts n.parts) t is.field is.record c.load_record_word.ensures.view (omega arith)) in omega arith

pub returns-then-reading-lt-READING_WORDS-clause-on : goal.returns-then-reading-lt-READING_WORDS-clause-on
returns-then-reading-lt-READING_WORDS-clause-on g c = λ v q number t. let is = c.next_word-number.ensures in
    part_on (face g.A.Monoid.parts g.B.Monoid.parts) t is.field is.record c.load_record_word.ensures.view _ refl c.if-reading-lt-READING_WORDS.true

pub returns-else-reading-lt-READING_WORDS-clause-on : goal.returns-else-reading-lt-READING_WORDS-clause-on
returns-else-reading-lt-READING_WORDS-clause-on g c = λ v q number t. let m = g.A.Monoid in let n = g.B.Monoid in let f = face m.parts n.parts in let r = c.args.reading in let is = c.next_word-number.ensures in let l = c.load_record_word.ensures.view in let a = t.is_at in
    let small = a.few in let full = c.if-reading-lt-READING_WORDS.false in let six : r.count + 1 ≡ reading_words = omega arith in let laid = t.knows_table.laid_out.bits in let few = (keys-within v.shape.bits laid.0 laid.1).1 in
    nodes_told m.parts n.parts (laws_of g.met.A.Monoid) (laws_of g.met.B.Monoid) v q r.from r.left r.right (set r.words r.count c.load_record_word.result) a.third t.room.keeps_records few a.nodes t.inner a.loaded (all_on f t is.field is.record l six)
    number (Part r) c.args.pass.now.view c.load_record_word.new.self.view c.over_nodes.result c.over_nodes.ensures.from c.over_nodes.ensures.five c.over_nodes.ensures.count t (goes_all f t is.field is.record l) (took_all f t is.field is.record l six)

pub returns-then-reading-lt-READING_WORDS-clause-step : goal.returns-then-reading-lt-READING_WORDS-clause-step
returns-then-reading-lt-READING_WORDS-clause-step g c = record { table = c.load_record_word.ensures.table; view = quiet_stepping _ _ _ c.load_record_word.ensures.view.stepped }

pub returns-else-reading-lt-READING_WORDS-clause-step : goal.returns-else-reading-lt-READING_WORDS-clause-step
returns-else-reading-lt-READING_WORDS-clause-step g c = record { table = c.load_record_word.ensures.table; view = quiet_stepping _ _ _ c.load_record_word.ensures.view.stepped }
