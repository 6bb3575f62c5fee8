use Rattle.std.proofs.Common.{sym, ap, ◌∙◌}
use Rattle.aug_core.specs.Cuts.{Cut, pairs_of_cut}
use Rattle.aug_core.specs.Faces.{face}
use Rattle.aug_model.specs.Queries.{weight_of}
use Rattle.aug_trie.specs.inside.BothWalk.{top_of}
use Rattle.aug_trie.proofs.Comparing.{leaf_says}
use Rattle.aug_trie.proofs.queries.both_walk.BothWalkDescendBoth.weights.Goals as goal

pub returns-clause-earlier : goal.returns-clause-earlier
returns-clause-earlier g c = let w = c.args.self.now in let v = w.words.view in let n = c.requires.in_earlier in
    c.weight_by_word.ensures ∙ leaf_says (face g.A.Monoid.parts g.B.Monoid.parts) v (top_of v w.earlier) c.args.place c.args.nodes.now.0 n.knows_records.knows_table n.node ∙ ap (λ (z : Cut). weight_of (pairs_of_cut z) c.args.place) (sym n.cut_is)

pub returns-clause-later : goal.returns-clause-later
returns-clause-later g c = let w = c.args.self.now in let v = w.words.view in let n = c.requires.in_later in
    c.weight_by_word-2.ensures ∙ leaf_says (face g.A.Monoid.parts g.B.Monoid.parts) v (top_of v w.later) c.args.place c.args.nodes.now.1 n.knows_records.knows_table n.node ∙ ap (λ (z : Cut). weight_of (pairs_of_cut z) c.args.place) (sym n.cut_is)
