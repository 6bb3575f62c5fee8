use Rattle.std.proofs.Common.{◌≡◌, ◌∙◌, arith}
use Rattle.std.specs.Prelude.{Option, Some}
use Rattle.std.proofs.lemmas.List.Elements.{All-set}
use Rattle.aug_trie.specs.Round.{TableFacts}
use Rattle.aug_live.proofs.slot.collect_all.Goals as goal

pub loop-i-preserved : goal.loop-i-preserved
loop-i-preserved g c = let was = c.loop-i.invariant in let round = c.args.round.now in
    let same : c.collect.new.self ≡ Some round = c.collect.ensures.same ∙ c.index_mut.ensures.value ∙ was.0 c.loop-i.i c.index_mut.result.now (omega arith) in
    (All-set (λ (s : Option TableFacts). s ≡ Some round) c.loop-i.slots.items c.loop-i.i c.collect.new.self same was.0, c.collect.ensures.crew ∙ was.1, was.2)
