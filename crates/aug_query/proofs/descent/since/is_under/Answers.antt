use Rattle.std.proofs.Common.{ℕ, ◌+◌, ◌^◌, ap, leb-true, le-leb, arith}
use Rattle.std.proofs.Math.Nat.{div-lt_iff_lt-mul}
use Rattle.std.proofs.lemmas.Nat.{pow_pos}
use Rattle.aug_query.proofs.descent.since.is_under.Goals as goal

pub returns-then-next-len : goal.returns-then-next-len
returns-then-next-len g c =
    let key = c.member.result.0 in let same = ap (λ (p : ℕ × ℕ). p.0) c.member.ensures in
    let iff = div-lt_iff_lt-mul {k = 2 ^ c.args.level} {x = key} {y = c.args.place + 1} (pow_pos c.args.level) in
    (λ h. (omega (arith, c.if-next-len.true, c.len.ensures.value), omega (arith, same, iff.0 (omega (arith, leb-true _ _ h)))), λ h. le-leb _ _ (omega (arith, iff.1 (omega (arith, same, h.1)))))
