use Rattle.std.proofs.Common.{◌≡◌, ◌+◌, ◌<◌, ◌∙◌, ℕ, length, get_or, set, length-set, sym, subst, ⊎_elim, arith}
use Rattle.std.proofs.lemmas.Bool.{cases_eq}
use Rattle.std.proofs.lemmas.List.{get_or-set_same, get_or-set_other}
use Rattle.aug_trie.specs.declared.updates.request.Request.TheVariants.{Insert}
use Rattle.aug_c.specs.inside.KeyRequests.{requests_of}
use Rattle.aug_c.proofs.array_updates.requests_from.Goals as goal

pub loop-place-preserved : goal.loop-place-preserved
loop-place-preserved c = let inv = c.loop-place.invariant in let place = c.loop-place.place in let requests = c.loop-place.requests in let all = inv.long in
    let test = c.loop-place-test.true in let few = c.min-place-end.ensures in let long : place < length requests = omega (arith, all, test, few) in record {
      asks = λ i below. ⊎_elim
          (λ (same : i ≡ place). subst (λ (z : ℕ). get_or (set requests place c.with_weight.result) z Insert ≡ requests_of c.args.each c.args.weights.now (c.args.first + z)) (sym same) (get_or-set_same requests place c.with_weight.result Insert long ∙ c.with_weight.ensures))
          (λ other. get_or-set_other requests place i c.with_weight.result Insert other ∙ inv.asks i (omega (arith, below, other))) (cases_eq i place);
      long = length-set requests place c.with_weight.result ∙ all;
    }
