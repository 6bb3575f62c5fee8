use Rattle.std.proofs.Common.{◌≡◌, [], sym, subst, arith}
use Rattle.std.specs.List.{All}
use Rattle.std.proofs.lemmas.List.Elements.{All-nil, All-push}
use Rattle.aug_model.specs.Folds.{summary_of}
use Rattle.aug_query_testing.proofs.rows.empty_row.Goals as goal

pub loop-init : goal.loop-init
loop-init g c =
    let none = summary_of g.A.Monoid.parts g.B.Monoid.parts [] in
    record { all = omega (arith, c.in_ok-row.ensures.len); each = subst (All (λ leaf. leaf ≡ none)) (sym c.in_ok-row.ensures.items) (All-nil (λ leaf. leaf ≡ none)) }

pub loop-preserved : goal.loop-preserved
loop-preserved g c =
    let none = summary_of g.A.Monoid.parts g.B.Monoid.parts [] in
    record {
      all = omega (arith, c.loop.invariant.all, c.in_ok-push.ensures.len);
      each = subst (All (λ leaf. leaf ≡ none)) (sym c.in_ok-push.ensures.items) (All-push (λ leaf. leaf ≡ none) c.loop.row.items c.of_none.result c.loop.invariant.each c.of_none.ensures);
    }
