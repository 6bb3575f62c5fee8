use Rattle.std.proofs.Common.{◌∙◌, ap, subst, ◌≡◌}
use Rattle.aug_model.specs.Folds.{summary_of}
use Rattle.aug_model.specs.Keys.{list_of}
use Rattle.aug_model.proofs.Pairs.{range-again}
use Rattle.aug_model.proofs.Ranges.{rises_from}
use Rattle.aug_query.specs.Tree.{sum_of}
use Rattle.aug_model.specs.NodeKeys.{keys_below, first_key, end_key}
use Rattle.aug_trie.specs.inside.SnapshotWalk.{Walking, set_seen}
use Rattle.aug_core.specs.Faces.{face}
use Rattle.aug_trie.proofs.SnapshotWalks.{walk_on, descends_summary}
use Rattle.aug_trie.proofs.queries.snapshot_walk.SnapshotWalkDescend.summary.Goals as goal

pub invariant_of-self : goal.invariant_of-self
invariant_of-self g c = let f = face g.A.Monoid.parts g.B.Monoid.parts in let i = c.self.inside in
    walk_on f 3 (g.W.RecordWords.known i.words).view (g.W.RecordWords.known c.summary_at.new.words).view i.snapshot i.bits c.summary_at.ensures.looks c.self.invariant

pub returns-clause-descends : goal.returns-clause-descends
returns-clause-descends g c = let f = face g.A.Monoid.parts g.B.Monoid.parts in let i = c.self.inside in
    let first : Walking = record { words = g.W.RecordWords.known i.words; snapshot = i.snapshot; bits = i.bits; loaded = i.loaded } in
    descends_summary f first c.args.self.now (g.W.RecordWords.known c.summary_at.new.words) c.one_summary.new.self c.self.view_is c.summary_at.ensures.table c.summary_at.ensures.looks c.one_summary.ensures

pub returns-clause-value : goal.returns-clause-value
returns-clause-value g c = let sum = summary_of g.A.Monoid.parts g.B.Monoid.parts in let i = c.self.inside in let set = set_seen (g.W.RecordWords.known i.words).view i.snapshot in
    subst (λ (z : Walking). c.summary_at.result ≡ sum_of sum (set_seen z.words.view z.snapshot).pairs (keys_below (list_of (set_seen z.words.view z.snapshot)) c.args.level c.args.place)) c.self.view_is
    (c.summary_at.ensures.tells.tells ∙ ap sum (range-again set.pairs (first_key c.args.level c.args.place) (end_key c.args.level c.args.place) (rises_from (list_of set) c.self.invariant.top.is_tree_set.is_key_set.rising)))
