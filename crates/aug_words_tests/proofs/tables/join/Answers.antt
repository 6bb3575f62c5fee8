use Rattle.std.proofs.Common.{sym, ◌∙◌}
use Rattle.aug_core.specs.Faces.{face}
use Rattle.aug_words_tests.proofs.LaneTests.{shape_back}
use Rattle.aug_words_tests.proofs.tables.join.Goals as goal

pub join-requires : goal.join-requires
join-requires g c = let t = c.requires.together in let p = c.requires.pass in record { one_table = p.0 ∙ sym t.one_table; one_shape = p.1 ∙ sym t.one_shape }

pub returns : goal.returns
returns g c = let f = face g.A.Monoid.parts g.B.Monoid.parts in let t = c.requires.together in let h = c.join.ensures.view in record {
  together = record {
    one_table = c.join.ensures.table ∙ t.one_table;
    one_shape = shape_back f _ _ _ h ∙ t.one_shape;
  };
}
