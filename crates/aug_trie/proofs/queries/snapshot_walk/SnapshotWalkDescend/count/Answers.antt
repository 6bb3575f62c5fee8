use Rattle.aug_core.specs.Faces.{face}
use Rattle.aug_trie.specs.inside.SnapshotWalk.{Walking}
use Rattle.aug_trie.proofs.Looked.{looks_none}
use Rattle.aug_trie.proofs.SnapshotWalks.{walk_on, descends_count, counted_before}
use Rattle.aug_trie.proofs.queries.snapshot_walk.SnapshotWalkDescend.count.Goals as goal

pub invariant_of-self : goal.invariant_of-self
invariant_of-self g c = let f = face g.A.Monoid.parts g.B.Monoid.parts in let i = c.self.inside in
    walk_on f 1 (g.W.RecordWords.known i.words).view (g.W.RecordWords.known c.count_at.new.words).view i.snapshot i.bits c.count_at.ensures.looks c.self.invariant

pub returns-clause-descends : goal.returns-clause-descends
returns-clause-descends g c = let f = face g.A.Monoid.parts g.B.Monoid.parts in let i = c.self.inside in
    let first : Walking = record { words = g.W.RecordWords.known i.words; snapshot = i.snapshot; bits = i.bits; loaded = i.loaded } in
    descends_count f first c.args.self.now (g.W.RecordWords.known c.count_at.new.words) c.one_count.new.self c.self.view_is c.count_at.ensures.table c.count_at.ensures.looks c.one_count.ensures

pub returns-clause-value : goal.returns-clause-value
returns-clause-value g c = let f = face g.A.Monoid.parts g.B.Monoid.parts in let i = c.self.inside in let first : Walking = record { words = g.W.RecordWords.known i.words; snapshot = i.snapshot; bits = i.bits; loaded = i.loaded } in
    counted_before f 0 first c.args.self.now (g.W.RecordWords.known i.words).view c.args.level c.args.place c.count_at.result c.self.view_is (looks_none 0 (g.W.RecordWords.known i.words).view) c.count_at.ensures.value
