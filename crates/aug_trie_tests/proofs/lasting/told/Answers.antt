use Rattle.std.proofs.Common.{◌^◌, ◌<◌, ◌∙◌, sym, ap, subst}
use Rattle.aug_trie.specs.Pass.{PassFacts}
use Rattle.aug_trie.specs.Round.{RoundFacts, table_of}
use Rattle.aug_trie_tests.proofs.lasting.told.Goals as goal

pub update-requires-clause-together : goal.update-requires-clause-together
update-requires-clause-together c = ap table_of c.loop.invariant.round ∙ c.requires.together

pub update-requires-clause-key : goal.update-requires-clause-key
update-requires-clause-key c = subst (λ (z : RoundFacts). c.args.k < 2 ^ z.bits) (sym c.loop.invariant.round) c.requires.key

pub returns-in-Ok : goal.returns-in-Ok
returns-in-Ok c = record { round = ap (λ (z : PassFacts). z.round) c.update.ensures.goes_on.2.same ∙ c.loop.invariant.round; no_look = c.update.ensures.no_look }

pub loop-preserved : goal.loop-preserved
loop-preserved c = record { round = ap (λ (z : PassFacts). z.round) c.update.ensures.goes_on.2.same ∙ c.loop.invariant.round; no_look = c.update.ensures.no_look }
