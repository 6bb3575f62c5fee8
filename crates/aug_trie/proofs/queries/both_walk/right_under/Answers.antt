use Rattle.aug_core.specs.declared.view.SeatView.{SeatView}
use Rattle.aug_trie.specs.inside.BothWalk.{top_of}
use Rattle.aug_trie.proofs.Comparing.{under_guarded, right_is_under}
use Rattle.aug_trie.proofs.queries.both_walk.right_under.Goals as goal

pub load_word-requires : goal.load_word-requires
load_word-requires g c = let v : SeatView = (g.W.RecordWords.known c.args.words.now).view in
    under_guarded g.A.Monoid.parts g.B.Monoid.parts g.W.RecordWords.number v c.requires.knows c.requires.plain (top_of v c.args.snapshot) c.args.level c.args.place c.args.word c.requires.node

pub returns-clause-node : goal.returns-clause-node
returns-clause-node g c = let v : SeatView = (g.W.RecordWords.known c.args.words.now).view in
    right_is_under g.A.Monoid.parts g.B.Monoid.parts g.W.RecordWords.number v c.requires.knows c.requires.plain (top_of v c.args.snapshot) c.args.level c.args.place c.args.word c.requires.node c.load_word.result c.load_word.ensures.view.known
