use Rattle.std.proofs.Common.{◌+◌, ◌≤◌, refl, sym, ◌∙◌, subst, arith, length-set, get_or, get_or-set_same, get_or-set_other}
use Rattle.aug_words.specs.Seats.{Store}
use Rattle.aug_words.proofs.Stocking.{loads_none, loads_more}
use Rattle.aug_words.proofs.stock.load_reservations.Goals as goal

pub loop-lane-init : goal.loop-lane-init
loop-lane-init g c = record { table = refl; low = omega arith; few = let few = c.reservations-lane-end.ensures.few in let is = c.reservations-lane-end.ensures.value in let most = c.words.invariant.laid_out.workers.1 in subst (λ (z : Store). z.shape.reservations ≤ 64) c.words.view_is (omega arith); long = refl; loads = loads_none c.args.pass.now.view _ }

pub loop-lane-preserved : goal.loop-lane-preserved
loop-lane-preserved g c = let inv = c.loop-lane.invariant in let lane = c.loop-lane.lane in let eras = c.loop-lane.eras in let r = c.pass_reservation.result in record {
  table = c.pass_reservation.ensures.table ∙ inv.table;
  low = let test = c.loop-lane-test.true in let is = c.reservations-lane-end.ensures.value in subst (λ (z : Store). lane + 1 ≤ z.shape.reservations) c.words.view_is (omega arith);
  few = inv.few;
  long = length-set eras lane r ∙ inv.long;
  loads = loads_more c.args.pass.now.view c.loop-lane.pass.view c.pass_reservation.new.self.view (λ k. get_or eras k 0) _ lane r inv.loads c.pass_reservation.ensures.view (λ k low. sym (get_or-set_other eras lane k r 0 (λ same. absurd (omega arith)))) (get_or-set_same eras lane r 0 (let few = inv.few in let long = inv.long in let test = c.loop-lane-test.true in let is = c.reservations-lane-end.ensures.value in let most = c.words.invariant.laid_out.workers.1 in let under = c.reservations-lane-end.ensures.few in omega arith));
}
