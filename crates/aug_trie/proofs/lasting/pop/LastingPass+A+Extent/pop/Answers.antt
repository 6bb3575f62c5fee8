use Rattle.std.proofs.Common.{◌+◌}
use Rattle.aug_model.specs.Folds.{summary_of}
use Rattle.aug_monoid.specs.Extent.{extent_parts}
use Rattle.aug_trie.specs.declared.error.LastingError.TheVariants.{Full}
use Rattle.aug_trie.proofs.Popping.{lasting_pops, lasting_full, lasting_pop_goes_on}
use Rattle.aug_trie.proofs.lasting.pop.LastingPass+A+Extent.pop.Goals as goal

pub returns-clause-pops : goal.returns-clause-pops
returns-clause-pops g c = let l = c.look-s in let m = c.member_at-seen in let e = c.end_look in
    lasting_pops (summary_of g.A.Monoid.parts extent_parts) c.args.side l.result m.result (l.new.self.pass.round.bits + 6) c.args.self.now l.new.self m.new.self e.new.self c.take_seen.new.self
    l.ensures.takes l.ensures.last_step l.ensures.known m.ensures.seen m.ensures.reads e.ensures.knows c.take_seen.result c.take_seen.ensures.takes

pub returns-clause-full : goal.returns-clause-full
returns-clause-full g c = let l = c.look-s in let m = c.member_at-seen in let e = c.end_look in
    lasting_full (summary_of g.A.Monoid.parts extent_parts) c.args.side l.result m.result (l.new.self.pass.round.bits + 6) c.args.self.now l.new.self m.new.self e.new.self c.take_seen.new.self
    l.ensures.takes l.ensures.last_step l.ensures.known m.ensures.seen m.ensures.reads e.ensures.knows c.take_seen.result Full l.ensures.stock m.ensures.same e.ensures.rests e.ensures.goes_on c.take_seen.ensures.full

pub returns-clause-goes_on : goal.returns-clause-goes_on
returns-clause-goes_on g c = let l = c.look-s in let m = c.member_at-seen in let e = c.end_look in
    lasting_pop_goes_on (summary_of g.A.Monoid.parts extent_parts) c.args.self.now.pass l.new.self.pass m.new.self.pass e.new.self.pass c.take_seen.new.self.pass l.ensures.goes_on m.ensures.reads e.ensures.goes_on c.take_seen.ensures.goes_on
