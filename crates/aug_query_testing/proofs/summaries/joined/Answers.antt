use Rattle.std.proofs.Common.{◌≡◌, ◌+◌, ◌++◌, length, ap, sym, ◌∙◌, length-append}
use Rattle.aug_monoid.specs.Fold.{fold_of}
use Rattle.aug_monoid.proofs.BoundLaws.{laws_of}
use Rattle.aug_monoid.proofs.FoldLemmas.{fold_of-append}
use Rattle.aug_query_testing.proofs.summaries.joined.Goals as goal

pub returns : goal.returns
returns g c = λ xs ys xs_keys ys_keys e f.
    let count : c.args.low.count + c.args.high.count ≡ length (xs ++ ys) = rw (ap (λ s. s.count) e, ap (λ s. s.count) f) (sym (length-append xs ys)) in
    let a = c.join.ensures ∙ ap (λ s. g.A.Monoid.parts.join s.a c.args.high.a) e ∙ ap (λ s. g.A.Monoid.parts.join (fold_of g.A.Monoid.parts xs) s.a) f ∙ sym (fold_of-append (laws_of g.met.A.Monoid) xs ys xs_keys ys_keys) in
    let b = c.join-2.ensures ∙ ap (λ s. g.B.Monoid.parts.join s.b c.args.high.b) e ∙ ap (λ s. g.B.Monoid.parts.join (fold_of g.B.Monoid.parts xs) s.b) f ∙ sym (fold_of-append (laws_of g.met.B.Monoid) xs ys xs_keys ys_keys) in
    λ i. record { count = count i; a = a i; b = b i }
