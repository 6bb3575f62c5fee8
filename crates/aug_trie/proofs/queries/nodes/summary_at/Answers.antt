use Rattle.std.proofs.Common.{◌∙◌, ◌≤◌, arith, rules}
use Rattle.aug_monoid.proofs.BoundLaws.{laws_of}
use Rattle.aug_core.specs.Cuts.{Cut}
use Rattle.aug_core.specs.declared.view.SeatView.{SeatView}
use Rattle.aug_trie.specs.inside.NamedCuts.{cut_named}
use Rattle.aug_trie.proofs.Telling.{guards_on, says_before}
use Rattle.aug_trie.proofs.Looking.{leaf_tells, record_guarded, count_fits, record_tells}
use Rattle.aug_trie.proofs.Looked.{looks_one, looks_on}
use Rattle.aug_trie.proofs.queries.nodes.summary_at.Goals as goal

pub returns-then-level-eq0-clause-tells : goal.returns-then-level-eq0-clause-tells
returns-then-level-eq0-clause-tells g c = let v : SeatView = (g.W.RecordWords.known c.args.words.now).view in
    leaf_tells g.A.Monoid.parts g.B.Monoid.parts v c.requires.knows.knows_table (cut_named v.shape v.seen c.args.snapshot) c.args.level c.args.place c.args.word c.requires.node.node c.leaf_summary.result c.if-level-eq0.true c.leaf_summary.ensures

pub load_word-count-requires : goal.load_word-count-requires
load_word-count-requires g c = let v : SeatView = (g.W.RecordWords.known c.args.words.now).view in let inner : 1 ≤ c.args.level = search rules in
    record_guarded g.A.Monoid.parts g.B.Monoid.parts g.W.RecordWords.number v c.requires.knows (cut_named v.shape v.seen c.args.snapshot) c.args.level c.args.place c.args.word c.requires.node inner

pub load_word-a-requires : goal.load_word-a-requires
load_word-a-requires g c = let v : SeatView = (g.W.RecordWords.known c.args.words.now).view in let inner : 1 ≤ c.args.level = search rules in
    guards_on v (g.W.RecordWords.known c.load_word-count.new.self).view _ (g.W.RecordWords.number c.args.word) c.load_word-count.ensures.view.stepped
    (record_guarded g.A.Monoid.parts g.B.Monoid.parts g.W.RecordWords.number v c.requires.knows (cut_named v.shape v.seen c.args.snapshot) c.args.level c.args.place c.args.word c.requires.node inner)

pub load_word-b-requires : goal.load_word-b-requires
load_word-b-requires g c = let v : SeatView = (g.W.RecordWords.known c.args.words.now).view in let inner : 1 ≤ c.args.level = search rules in
    guards_on (g.W.RecordWords.known c.load_word-count.new.self).view (g.W.RecordWords.known c.load_word-a.new.self).view _ (g.W.RecordWords.number c.args.word) c.load_word-a.ensures.view.stepped
    (guards_on v (g.W.RecordWords.known c.load_word-count.new.self).view _ (g.W.RecordWords.number c.args.word) c.load_word-count.ensures.view.stepped
    (record_guarded g.A.Monoid.parts g.B.Monoid.parts g.W.RecordWords.number v c.requires.knows (cut_named v.shape v.seen c.args.snapshot) c.args.level c.args.place c.args.word c.requires.node inner))

pub overflow_cast-result : goal.overflow_cast-result
overflow_cast-result g c = let v : SeatView = (g.W.RecordWords.known c.args.words.now).view in let inner : 1 ≤ c.args.level = search rules in
    let few = count_fits g.A.Monoid.parts g.B.Monoid.parts g.W.RecordWords.number v c.requires.knows (cut_named v.shape v.seen c.args.snapshot) c.args.level c.args.place c.args.word c.requires.node inner c.load_word-count.result c.load_word-count.ensures.view.known in
    omega arith

pub returns-clause-tells : goal.returns-clause-tells
returns-clause-tells g c = let m = g.A.Monoid in let n = g.B.Monoid in let v : SeatView = (g.W.RecordWords.known c.args.words.now).view in let w1 : SeatView = (g.W.RecordWords.known c.load_word-count.new.self).view in let w2 : SeatView = (g.W.RecordWords.known c.load_word-a.new.self).view in
    let inner : 1 ≤ c.args.level = search rules in let cut : Cut = cut_named v.shape v.seen c.args.snapshot in
    let l1 = c.load_word-count.ensures.view in let l2 = c.load_word-a.ensures.view in let l3 = c.load_word-b.ensures.view in
    let told = record_tells m.parts n.parts g.W.RecordWords.number v c.requires.knows cut c.args.level c.args.place c.args.word c.requires.node inner _ _ _ (laws_of g.met.A.Monoid) (laws_of g.met.B.Monoid) l1.known
    (says_before v w1 _ (g.W.RecordWords.number c.args.word) 3 _ l1.stepped l2.known) (says_before v w1 _ (g.W.RecordWords.number c.args.word) 4 _ l1.stepped (says_before w1 w2 _ (g.W.RecordWords.number c.args.word) 4 _ l2.stepped l3.known)) in
    record {
      place_fits = told.place_fits;
      tells = (λ i. record { count = c.load_word-count.result; a = c.from_word.ensures i; b = c.from_word-2.ensures i }) ∙ told.tells;
    }

pub returns-clause-looks : goal.returns-clause-looks
returns-clause-looks g c = let v : SeatView = (g.W.RecordWords.known c.args.words.now).view in let w1 : SeatView = (g.W.RecordWords.known c.load_word-count.new.self).view in let w2 : SeatView = (g.W.RecordWords.known c.load_word-a.new.self).view in let w3 : SeatView = (g.W.RecordWords.known c.load_word-b.new.self).view in
    let two = looks_on 1 1 2 v w1 w2 (omega arith) (looks_one v w1 _ c.load_word-count.ensures.view.stepped) (looks_one w1 w2 _ c.load_word-a.ensures.view.stepped) in
    looks_on 2 1 3 v w2 w3 (omega arith) two (looks_one w2 w3 _ c.load_word-b.ensures.view.stepped)
