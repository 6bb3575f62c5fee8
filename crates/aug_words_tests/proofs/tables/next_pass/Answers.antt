use Rattle.std.proofs.Common.{sym, ap, subst, ◌∙◌, ◌+◌, ◌<◌}
use Rattle.aug_core.specs.Faces.{face}
use Rattle.aug_core.specs.Lanes.{first_record, lane_records}
use Rattle.aug_core.specs.Places.{Shape}
use Rattle.aug_core.specs.Effects.{MayStore}
use Rattle.aug_words.proofs.Leads.{lead_shape, next_spare, pass_shape, pass_may_store, pass_may_change}
use Rattle.aug_words_tests.proofs.tables.next_pass.Goals as goal

pub split-requires-clause-room : goal.split-requires-clause-room
split-requires-clause-room g c = (c.args.lane, record { next = c.requires.lane.0; exists = subst (λ (s : Shape). c.args.lane < s.workers) (sym c.requires.together.one_shape) c.requires.lane.1 })

pub returns-clause-together : goal.returns-clause-together
returns-clause-together g c = let f = face g.A.Monoid.parts g.B.Monoid.parts in let h = c.split.ensures.hands_out in let t = c.requires.together in record {
  one_table = c.split.ensures.table ∙ t.one_table;
  one_shape = lead_shape f _ _ _ h ∙ t.one_shape;
}

pub returns-clause-lead : goal.returns-clause-lead
returns-clause-lead g c = next_spare (face g.A.Monoid.parts g.B.Monoid.parts) _ _ _ c.split.ensures.hands_out c.args.lane c.requires.lane.0

pub returns-clause-pass : goal.returns-clause-pass
returns-clause-pass g c = let f = face g.A.Monoid.parts g.B.Monoid.parts in let h = c.split.ensures.hands_out in let t = c.requires.together in record {
  one_table = c.split.ensures.pass_table ∙ t.one_table;
  one_shape = pass_shape f _ _ _ h ∙ t.one_shape;
}

pub returns-clause-own : goal.returns-clause-own
returns-clause-own g c = let of = c.requires.number in let shaped = c.requires.together.one_shape in
    subst (MayStore c.split.result.view) (ap (λ (s : Shape). first_record s c.args.lane + of.0) shaped ∙ sym of.2)
    (pass_may_store (face g.A.Monoid.parts g.B.Monoid.parts) _ _ _ c.split.ensures.hands_out c.args.lane of.0
    record { next = c.requires.lane.0; exists = subst (λ (s : Shape). c.args.lane < s.workers) (sym shaped) c.requires.lane.1 } (subst (λ (s : Shape). of.0 < lane_records s) (sym shaped) of.1))

pub returns-clause-change : goal.returns-clause-change
returns-clause-change g c = pass_may_change (face g.A.Monoid.parts g.B.Monoid.parts) _ _ _ c.split.ensures.hands_out
    (subst (λ (s : Shape). 0 < s.updates) (sym c.requires.together.one_shape) c.requires.updates)
