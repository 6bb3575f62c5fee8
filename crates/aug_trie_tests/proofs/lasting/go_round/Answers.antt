use Rattle.std.proofs.Common.{ℕ, ◌+◌, ◌%◌, ◌^◌, ◌<◌, ◌∙◌, sym, ap, subst, arith}
use Rattle.aug_trie.specs.Round.{RoundFacts, table_of}
use Rattle.aug_trie_tests.proofs.lasting.go_round.Goals as goal

pub comes_and_goes-requires-clause-together : goal.comes_and_goes-requires-clause-together
comes_and_goes-requires-clause-together c = ap table_of c.loop-turn.invariant.round ∙ c.requires.together

pub comes_and_goes-requires-clause-key : goal.comes_and_goes-requires-clause-key
comes_and_goes-requires-clause-key c = let is = ap (λ (z : RoundFacts). z.bits) c.loop-turn.invariant.round ∙ c.requires.bits in let low : c.args.from + c.loop-turn.turn % 4 < 2 ^ 3 = (let from = c.requires.from in omega arith) in
    subst (λ (z : ℕ). c.args.from + c.loop-turn.turn % 4 < 2 ^ z) (sym is) low
