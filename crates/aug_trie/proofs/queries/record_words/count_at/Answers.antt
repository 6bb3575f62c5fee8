use Rattle.std.proofs.Common.{◌≡◌, ℕ, ◌%◌, ◌≤◌, length, sym, subst, arith, rules}
use Rattle.aug_core.specs.Cuts.{Cut, set_of_cut}
use Rattle.aug_core.specs.declared.view.SeatView.{SeatView}
use Rattle.aug_model.specs.NodeKeys.{keys_below}
use Rattle.aug_trie.specs.inside.NodeWords.{IsNodeAt}
use Rattle.aug_trie.specs.LeafWords.{serial_in_word}
use Rattle.aug_trie.specs.inside.NamedCuts.{cut_named}
use Rattle.aug_trie.proofs.Looking.{record_guarded, count_fits, count_is}
use Rattle.aug_trie.proofs.Walking.{leaf_count}
use Rattle.aug_trie.proofs.queries.record_words.count_at.Goals as goal

pub returns-then-level-eq0-clause-value : goal.returns-then-level-eq0-clause-value
returns-then-level-eq0-clause-value g c = let v : SeatView = (g.W.RecordWords.known c.args.words.now).view in let cut : Cut = cut_named v.shape v.seen c.args.snapshot in
    let leaf : c.args.level ≡ 0 = c.if-level-eq0.true in
    let counts : serial_in_word c.args.word % 2 ≡ length (keys_below (set_of_cut cut) c.args.level c.args.place) =
    subst (λ (z : ℕ). serial_in_word c.args.word % 2 ≡ length (keys_below (set_of_cut cut) z c.args.place)) (sym leaf)
    (leaf_count g.A.Monoid.parts g.B.Monoid.parts v c.requires.knows.knows_table.book cut c.args.place c.args.word (subst (λ (z : ℕ). IsNodeAt v.shape v.seen cut z c.args.place c.args.word) leaf c.requires.node.node)) in
    let serial = c.leaf_serial.ensures in
    omega (arith, serial, counts)

pub load_word-requires : goal.load_word-requires
load_word-requires g c = let v : SeatView = (g.W.RecordWords.known c.args.words.now).view in let inner : 1 ≤ c.args.level = search rules in
    record_guarded g.A.Monoid.parts g.B.Monoid.parts g.W.RecordWords.number v c.requires.knows (cut_named v.shape v.seen c.args.snapshot) c.args.level c.args.place c.args.word c.requires.node inner

pub overflow_cast-result-2 : goal.overflow_cast-result-2
overflow_cast-result-2 g c = let v : SeatView = (g.W.RecordWords.known c.args.words.now).view in let inner : 1 ≤ c.args.level = search rules in
    let fits = count_fits g.A.Monoid.parts g.B.Monoid.parts g.W.RecordWords.number v c.requires.knows (cut_named v.shape v.seen c.args.snapshot) c.args.level c.args.place c.args.word c.requires.node inner c.load_word.result c.load_word.ensures.view.known in
    omega (arith, fits)

pub returns-clause-value : goal.returns-clause-value
returns-clause-value g c = let v : SeatView = (g.W.RecordWords.known c.args.words.now).view in let inner : 1 ≤ c.args.level = search rules in
    count_is g.A.Monoid.parts g.B.Monoid.parts g.W.RecordWords.number v c.requires.knows (cut_named v.shape v.seen c.args.snapshot) c.args.level c.args.place c.args.word c.requires.node inner c.load_word.result c.load_word.ensures.view.known
