use Rattle.std.proofs.Common.{arith}
use Rattle.aug_query.proofs.Descending.{within}
use Rattle.aug_batch.proofs.FourWays.{four, way_stays}
use Rattle.aug_batch.proofs.together.lower_all.Goals as goal

pub lower-s-requires : goal.lower-s-requires
lower-s-requires g c = way_stays c.lower-r.ensures.descends (way_stays c.lower-q.ensures.descends (way_stays c.lower-p.ensures.descends c.requires.way_s))

pub returns-clause-ways : goal.returns-clause-ways
returns-clause-ways g c =
    let p = c.lower-p.ensures in
    let q = c.lower-q.ensures in
    let r = c.lower-r.ensures in
    let s = c.lower-s.ensures in
    record {
      way_p = way_stays s.descends (way_stays r.descends (way_stays q.descends p.way));
      way_q = way_stays s.descends (way_stays r.descends q.way);
      way_r = way_stays s.descends r.way;
      way_s = s.way;
    }

pub returns-clause-descends : goal.returns-clause-descends
returns-clause-descends g c = within (four g.met.D.Descend.keeps_on c.lower-p.ensures.descends c.lower-q.ensures.descends c.lower-r.ensures.descends c.lower-s.ensures.descends) (omega arith) (omega arith) (omega arith) (omega arith)
