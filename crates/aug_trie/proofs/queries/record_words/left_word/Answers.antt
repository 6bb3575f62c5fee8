use Rattle.std.proofs.Common.{◌≡◌, ℕ, ◌+◌, ◌-◌, ◌*◌, ◌≤◌, subst, arith}
use Rattle.aug_core.specs.Cuts.{Cut}
use Rattle.aug_core.specs.declared.view.SeatView.{SeatView}
use Rattle.aug_trie.specs.inside.NodeWords.{HoldsNodeAt}
use Rattle.aug_trie.specs.inside.NamedCuts.{cut_named}
use Rattle.aug_trie.proofs.Looking.{record_guarded, left_is}
use Rattle.aug_trie.proofs.queries.record_words.left_word.Goals as goal

pub load_word-requires : goal.load_word-requires
load_word-requires g c = let v : SeatView = (g.W.RecordWords.known c.args.words.now).view in let inner : 1 ≤ c.args.level + 1 = omega arith in
    record_guarded g.A.Monoid.parts g.B.Monoid.parts g.W.RecordWords.number v c.requires.knows (cut_named v.shape v.seen c.args.snapshot) (c.args.level + 1) c.args.place c.args.word c.requires.node inner

pub returns-clause-node : goal.returns-clause-node
returns-clause-node g c = let v : SeatView = (g.W.RecordWords.known c.args.words.now).view in let cut : Cut = cut_named v.shape v.seen c.args.snapshot in let inner : 1 ≤ c.args.level + 1 = omega arith in
    let down : c.args.level + 1 - 1 ≡ c.args.level = omega arith in
    subst (λ (z : ℕ). HoldsNodeAt v cut z (2 * c.args.place) c.load_word.result) down
    (left_is g.A.Monoid.parts g.B.Monoid.parts g.W.RecordWords.number v c.requires.knows cut (c.args.level + 1) c.args.place c.args.word c.requires.node inner c.load_word.result c.load_word.ensures.view.known)
