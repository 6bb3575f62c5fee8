use Rattle.std.proofs.Common.{ℕ, Some, ap, sym, ◌∙◌, arith}
use Rattle.aug_query.proofs.Boundaries.{missing_weighs, missing_moves, member_weighs, member_moves}
use Rattle.aug_query.proofs.member_list.weight_at.Goals as goal

pub returns-then-place-len-clause-weight : goal.returns-then-place-len-clause-weight
returns-then-place-len-clause-weight g c = let ps = (g.L.MemberList.set_of c.args.list.now).pairs in
    missing_weighs ps c.args.key c.args.place.now c.len.ensures.rising c.requires (λ some. absurd (omega (arith, some, c.if-place-len.true, c.len.ensures.value)))

pub returns-then-place-len-clause-place : goal.returns-then-place-len-clause-place
returns-then-place-len-clause-place g c = let ps = (g.L.MemberList.set_of c.args.list.now).pairs in
    missing_moves ps c.args.key c.args.place.now c.len.ensures.rising c.requires (λ some. absurd (omega (arith, some, c.if-place-len.true, c.len.ensures.value)))

pub returns-then-next-key-clause-weight : goal.returns-then-next-key-clause-weight
returns-then-next-key-clause-weight g c = let ps = (g.L.MemberList.set_of c.args.list.now).pairs in
    missing_weighs ps c.args.key c.args.place.now c.len.ensures.rising c.requires (λ _ e. c.if-next-key.true (ap (λ (p : ℕ × ℕ). p.0) c.member-next.ensures ∙ e))

pub returns-then-next-key-clause-place : goal.returns-then-next-key-clause-place
returns-then-next-key-clause-place g c = let ps = (g.L.MemberList.set_of c.args.list.now).pairs in
    missing_moves ps c.args.key c.args.place.now c.len.ensures.rising c.requires (λ _ e. c.if-next-key.true (ap (λ (p : ℕ × ℕ). p.0) c.member-next.ensures ∙ e))

pub returns-clause-weight : goal.returns-clause-weight
returns-clause-weight g c = let ps = (g.L.MemberList.set_of c.args.list.now).pairs in
    ap (λ (p : ℕ × ℕ). Some p.1) c.member-next.ensures ∙ member_weighs ps c.args.key c.args.place.now c.len.ensures.rising c.requires (omega (arith, c.if-place-len.false, c.len.ensures.value)) (sym (ap (λ (p : ℕ × ℕ). p.0) c.member-next.ensures) ∙ c.if-next-key.false)

pub returns-clause-place : goal.returns-clause-place
returns-clause-place g c = let ps = (g.L.MemberList.set_of c.args.list.now).pairs in
    member_moves ps c.args.key c.args.place.now c.len.ensures.rising c.requires (omega (arith, c.if-place-len.false, c.len.ensures.value)) (sym (ap (λ (p : ℕ × ℕ). p.0) c.member-next.ensures) ∙ c.if-next-key.false)
