use Rattle.std.proofs.Common.{arith, inl, ◌∙◌}
use Rattle.aug_monoid.proofs.BoundLaws.{laws_of}
use Rattle.aug_core.specs.Faces.{face}
use Rattle.aug_core.specs.declared.view.SeatView.{SeatView}
use Rattle.aug_trie.proofs.Looked.{looks_on, looks_one}
use Rattle.aug_trie.proofs.Telling.{guards_on, says_before, goes_three, part_of_node}
use Rattle.aug_trie.proofs.updates.parts.record_part.Goals as goal

pub load_record_word-count-requires : goal.load_record_word-count-requires
load_record_word-count-requires g c = inl c.requires.guards

pub load_record_word-a-requires : goal.load_record_word-a-requires
load_record_word-a-requires g c = inl (guards_on c.args.pass.now.view c.load_record_word-count.new.self.view _ c.args.number c.load_record_word-count.ensures.view.stepped c.requires.guards)

pub load_record_word-b-requires : goal.load_record_word-b-requires
load_record_word-b-requires g c = inl (guards_on c.load_record_word-count.new.self.view c.load_record_word-a.new.self.view _ c.args.number c.load_record_word-a.ensures.view.stepped
    (guards_on c.args.pass.now.view c.load_record_word-count.new.self.view _ c.args.number c.load_record_word-count.ensures.view.stepped c.requires.guards))

pub returns-clause-goes : goal.returns-clause-goes
returns-clause-goes g c = goes_three (face g.A.Monoid.parts g.B.Monoid.parts) c.args.pass.now.view c.load_record_word-count.new.self.view c.load_record_word-a.new.self.view c.load_record_word-b.new.self.view _ _ _ c.requires.knows
    c.load_record_word-count.ensures.view.stepped c.load_record_word-a.ensures.view.stepped c.load_record_word-b.ensures.view.stepped

pub returns-clause-looks : goal.returns-clause-looks
returns-clause-looks g c = let v : SeatView = c.args.pass.now.view in let w1 : SeatView = c.load_record_word-count.new.self.view in let w2 : SeatView = c.load_record_word-a.new.self.view in let w3 : SeatView = c.load_record_word-b.new.self.view in
    looks_on 2 1 3 v w2 w3 (omega arith) (looks_on 1 1 2 v w1 w2 (omega arith) (looks_one v w1 _ c.load_record_word-count.ensures.view.stepped) (looks_one w1 w2 _ c.load_record_word-a.ensures.view.stepped)) (looks_one w2 w3 _ c.load_record_word-b.ensures.view.stepped)

pub returns-clause-part : goal.returns-clause-part
returns-clause-part g c = let m = g.A.Monoid in let n = g.B.Monoid in let v : SeatView = c.args.pass.now.view in let w1 : SeatView = c.load_record_word-count.new.self.view in let w2 : SeatView = c.load_record_word-a.new.self.view in
    let l1 = c.load_record_word-count.ensures.view in let l2 = c.load_record_word-a.ensures.view in let l3 = c.load_record_word-b.ensures.view in λ node word inner.
    let told = part_of_node m.parts n.parts (laws_of g.met.A.Monoid) (laws_of g.met.B.Monoid) v node word c.args.number _ _ _ c.requires.few c.requires.knows inner l1.known
    (says_before v w1 _ c.args.number 3 _ l1.stepped l2.known) (says_before v w1 _ c.args.number 4 _ l1.stepped (says_before w1 w2 _ c.args.number 4 _ l2.stepped l3.known)) in
    record { of = λ i e p is held. let t = told.of i e p is held in record { count_is = c.part_of_words.ensures.count ∙ t.count_is; a_is = c.part_of_words.ensures.a ∙ t.a_is; b_is = c.part_of_words.ensures.b ∙ t.b_is } }
