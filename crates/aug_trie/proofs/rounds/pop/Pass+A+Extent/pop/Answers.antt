use Rattle.aug_model.specs.Folds.{summary_of}
use Rattle.aug_monoid.specs.Extent.{extent_parts}
use Rattle.aug_trie.proofs.Popping.{pops_made, pops_go_on, pops_keep}
use Rattle.aug_trie.proofs.rounds.pop.Pass+A+Extent.pop.Goals as goal

pub returns-clause-pops : goal.returns-clause-pops
returns-clause-pops g c = let s = c.snapshot-s in let e = s.ensures in let f = c.member_at-found in
    pops_made (summary_of g.A.Monoid.parts extent_parts) c.args.side c.take_shown.result s.result f.result c.args.self.now s.new.self f.new.self c.take_shown.new.self e.takes e.known e.goes_on e.step e.keeps f.ensures.answer f.ensures.reads c.take_shown.ensures

pub returns-clause-goes_on : goal.returns-clause-goes_on
returns-clause-goes_on g c = let s = c.snapshot-s in let e = s.ensures in let f = c.member_at-found in let parts = summary_of g.A.Monoid.parts extent_parts in
    pops_go_on parts c.args.side c.take_shown.result c.args.self.now c.take_shown.new.self
    (pops_made parts c.args.side c.take_shown.result s.result f.result c.args.self.now s.new.self f.new.self c.take_shown.new.self e.takes e.known e.goes_on e.step e.keeps f.ensures.answer f.ensures.reads c.take_shown.ensures)

pub returns-clause-keeps : goal.returns-clause-keeps
returns-clause-keeps g c = let s = c.snapshot-s in let e = s.ensures in let f = c.member_at-found in let parts = summary_of g.A.Monoid.parts extent_parts in
    pops_keep parts c.args.side c.take_shown.result c.args.self.now c.take_shown.new.self
    (pops_made parts c.args.side c.take_shown.result s.result f.result c.args.self.now s.new.self f.new.self c.take_shown.new.self e.takes e.known e.goes_on e.step e.keeps f.ensures.answer f.ensures.reads c.take_shown.ensures)
