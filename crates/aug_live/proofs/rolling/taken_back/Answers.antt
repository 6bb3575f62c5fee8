use Rattle.std.proofs.Common.{◌∙◌}
use Rattle.aug_live.proofs.Beginning.{gives_back, same_bits}
use Rattle.aug_live.proofs.rolling.taken_back.Goals as goal

pub returns : goal.returns
returns g c = let begun = c.requires.begun in let done = c.finish-set.ensures in let rolls = done.rolls in
    let bits = done.bits ∙ same_bits c.args.set.value c.args.round.now c.args.crew rolls.0 begun.0 begun.1 c.finish-set.result.1 c.finish-set.result.2 c.finish-set.result.0.pairs c.requires.keys begun.2 rolls.1 rolls.2 in
    let pairs = gives_back c.args.set.value c.args.round.now c.args.crew rolls.0 begun.0 begun.1 c.finish-set.result.1 c.finish-set.result.2 c.finish-set.result.0.pairs c.requires.keys begun.2 rolls.1 rolls.2 in
    λ i. record { bits = bits i; pairs = pairs i }
