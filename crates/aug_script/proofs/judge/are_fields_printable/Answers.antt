use Rattle.std.proofs.Common.{arith}
use Rattle.std.proofs.lemmas.Grind.{common_steps}
use Rattle.aug_script.proofs.judge.are_fields_printable.Goals as goal

pub returns : goal.returns
returns c = let inv = c.loop-place.invariant in grind (arith, common_steps)
