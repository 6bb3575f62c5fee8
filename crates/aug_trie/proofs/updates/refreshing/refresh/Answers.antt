use Rattle.std.proofs.Common.{arith, ap, refl, ◌∙◌}
use Rattle.aug_monoid.proofs.BoundLaws.{laws_of}
use Rattle.aug_core.specs.Faces.{face}
use Rattle.aug_core.specs.Places.{Shape}
use Rattle.aug_core.proofs.Refreshing.{has_entry}
use Rattle.aug_trie.proofs.Levels.{child_places}
use Rattle.aug_trie.proofs.Telling.{guards_named}
use Rattle.aug_trie.proofs.Whole.{try_loaded}
use Rattle.aug_trie.proofs.updates.refreshing.refresh.Goals as goal

pub any_part-l-requires-clause-guards : goal.any_part-l-requires-clause-guards
any_part-l-requires-clause-guards g c = let l = c.look-left.ensures in let r = c.look-right.ensures in
    λ inner. guards_named (face g.A.Monoid.parts g.B.Monoid.parts) c.look-right.new.pass.view _ c.look-left.result (ap (λ (z : Shape). z.reservations) (r.goes.shaped ∙ l.goes.shaped ∙ c.look-from.ensures.goes.shaped) ∙ c.requires.room.keeps_records) r.goes.knows_table inner
    (has_entry (face g.A.Monoid.parts g.B.Monoid.parts) c.args.pass.now.view.shape c.look-right.new.pass.view.seen c.look-left.new.pass.view.seen _ c.look-left.result r.goes.later l.newest)

pub any_part-r-requires-clause-guards : goal.any_part-r-requires-clause-guards
any_part-r-requires-clause-guards g c = let l = c.look-left.ensures in let r = c.look-right.ensures in let pl = c.any_part-l.ensures in
    λ inner. guards_named (face g.A.Monoid.parts g.B.Monoid.parts) c.any_part-l.new.pass.view _ c.look-right.result (ap (λ (z : Shape). z.reservations) (pl.goes.shaped ∙ r.goes.shaped ∙ l.goes.shaped ∙ c.look-from.ensures.goes.shaped) ∙ c.requires.room.keeps_records) pl.goes.knows_table inner
    (has_entry (face g.A.Monoid.parts g.B.Monoid.parts) c.args.pass.now.view.shape c.any_part-l.new.pass.view.seen c.look-right.new.pass.view.seen _ c.look-right.result pl.goes.later r.newest)

pub publish-requires-clause-room : goal.publish-requires-clause-room
publish-requires-clause-room g c = let n = c.look-from.ensures in let l = c.look-left.ensures in let r = c.look-right.ensures in let pl = c.any_part-l.ensures in let pr = c.any_part-r.ensures in
    (try_loaded g.A.Monoid.parts g.B.Monoid.parts (laws_of g.met.A.Monoid) (laws_of g.met.B.Monoid) c.requires.leaves c.requires.inner c.requires.room
    n.goes n.took n.newest l.goes l.took l.newest r.goes r.took r.newest pl.goes pl.took pl.part pr.goes pr.took pr.part).room

pub five_words-requires : goal.five_words-requires
five_words-requires g c = let n = c.look-from.ensures in let l = c.look-left.ensures in let r = c.look-right.ensures in let pl = c.any_part-l.ensures in let pr = c.any_part-r.ensures in
    let few = (try_loaded g.A.Monoid.parts g.B.Monoid.parts (laws_of g.met.A.Monoid) (laws_of g.met.B.Monoid) c.requires.leaves c.requires.inner c.requires.room
    n.goes n.took n.newest l.goes l.took l.newest r.goes r.took r.newest pl.goes pl.took pl.part pr.goes pr.took pr.part).few in omega arith

pub publish-requires-clause-loaded : goal.publish-requires-clause-loaded
publish-requires-clause-loaded g c = let n = c.look-from.ensures in let l = c.look-left.ensures in let r = c.look-right.ensures in let pl = c.any_part-l.ensures in let pr = c.any_part-r.ensures in
    (try_loaded g.A.Monoid.parts g.B.Monoid.parts (laws_of g.met.A.Monoid) (laws_of g.met.B.Monoid) c.requires.leaves c.requires.inner c.requires.room
    n.goes n.took n.newest l.goes l.took l.newest r.goes r.took r.newest pl.goes pl.took pl.part pr.goes pr.took pr.part).loaded c.five_words.result c.five_words.ensures

pub returns : goal.returns
returns g c = let p = c.publish.ensures in let n = c.look-from.ensures in let l = c.look-left.ensures in let r = c.look-right.ensures in let pl = c.any_part-l.ensures in let pr = c.any_part-r.ensures in record {
  table = c.publish.ensures.table ∙ pr.table ∙ pl.table ∙ r.step.table ∙ l.step.table ∙ n.step.table;
  view = (try_loaded g.A.Monoid.parts g.B.Monoid.parts (laws_of g.met.A.Monoid) (laws_of g.met.B.Monoid) c.requires.leaves c.requires.inner c.requires.room
      n.goes n.took n.newest l.goes l.took l.newest r.goes r.took r.newest pl.goes pl.took pl.part pr.goes pr.took pr.part).over c.publish.new.pass.view c.publish.result c.five_words.result c.five_words.ensures p.goes p.took p.published p.again;
}

pub look-left-requires-clause-place : goal.look-left-requires-clause-place
look-left-requires-clause-place g c = (child_places c.requires.leaves c.requires.inner refl c.look-from.ensures.goes.shaped).0

pub look-right-requires-clause-place : goal.look-right-requires-clause-place
look-right-requires-clause-place g c = (child_places c.requires.leaves c.requires.inner refl (c.look-left.ensures.goes.shaped ∙ c.look-from.ensures.goes.shaped)).1

pub any_part-l-requires-clause-place : goal.any_part-l-requires-clause-place
any_part-l-requires-clause-place g c = (child_places c.requires.leaves c.requires.inner refl (c.look-right.ensures.goes.shaped ∙ c.look-left.ensures.goes.shaped ∙ c.look-from.ensures.goes.shaped)).0

pub any_part-r-requires-clause-place : goal.any_part-r-requires-clause-place
any_part-r-requires-clause-place g c = (child_places c.requires.leaves c.requires.inner refl (c.any_part-l.ensures.goes.shaped ∙ c.look-right.ensures.goes.shaped ∙ c.look-left.ensures.goes.shaped ∙ c.look-from.ensures.goes.shaped)).1
