use Rattle.std.proofs.Common.{ℕ, ◌+◌, ◌-◌, ◌/◌, ap, arith}
use Rattle.aug_model.specs.Keys.{list_of}
use Rattle.aug_model.proofs.Pairs.{key_at, length-keys_of}
use Rattle.aug_query.proofs.Boundaries.{before_middle, from_middle}
use Rattle.aug_query.proofs.member_list.place_from.Goals as goal

pub loop-place-preserved-then-member-key : goal.loop-place-preserved-then-member-key
loop-place-preserved-then-member-key g c =
    let loop = c.loop-place.invariant in let ps = (g.L.MemberList.set_of c.args.list.now).pairs in let long = length-keys_of ps in
    let middle = c.loop-place.place + (c.loop-place.end - c.loop-place.place) / 2 in
    let here = key_at ps middle (0, 0) (omega (arith, loop.within, long, c.loop-place-test.true)) in
    record {
      ordered = omega (arith, c.loop-place-test.true);
      within = loop.within;
      front = before_middle (list_of (g.L.MemberList.set_of c.args.list.now)) c.args.key middle loop.rising (omega (arith, loop.within, c.loop-place-test.true)) (omega (arith, here, ap (λ (p : ℕ × ℕ). p.0) c.member.ensures, c.if-member-key.true));
      back = loop.back;
      rising = loop.rising;
    }

pub loop-place-preserved : goal.loop-place-preserved
loop-place-preserved g c =
    let loop = c.loop-place.invariant in let ps = (g.L.MemberList.set_of c.args.list.now).pairs in let long = length-keys_of ps in
    let middle = c.loop-place.place + (c.loop-place.end - c.loop-place.place) / 2 in
    let here = key_at ps middle (0, 0) (omega (arith, loop.within, long, c.loop-place-test.true)) in
    record {
      ordered = omega (arith, c.loop-place-test.true);
      within = omega (arith, loop.within, c.loop-place-test.true);
      front = loop.front;
      back = from_middle (list_of (g.L.MemberList.set_of c.args.list.now)) c.args.key middle loop.rising (omega (arith, loop.within, c.loop-place-test.true)) (omega (arith, here, ap (λ (p : ℕ × ℕ). p.0) c.member.ensures, c.if-member-key.false));
      rising = loop.rising;
    }
