use Rattle.std.proofs.Common.{◌^◌, ◌<◌, ◌∙◌, ap, sym, subst, arith, ℕ}
use Rattle.aug_trie.specs.Round.{RoundFacts, table_of}
use Rattle.aug_trie_tests.proofs.lasting.good_tells.Goals as goal

pub told-requires-clause-together : goal.told-requires-clause-together
told-requires-clause-together c = ap table_of c.loop-request.invariant.round ∙ c.requires.together

pub told-requires-clause-key : goal.told-requires-clause-key
told-requires-clause-key c = let is = ap (λ (z : RoundFacts). z.bits) c.loop-request.invariant.round ∙ c.requires.bits in let low : 5 < 2 ^ 3 = omega arith in subst (λ (z : ℕ). 5 < 2 ^ z) (sym is) low
