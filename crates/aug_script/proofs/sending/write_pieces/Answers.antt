use Rattle.std.proofs.Common.{rules}
use Rattle.aug_script.proofs.DeviceLemmas.{Appends-piece, length-piece}
use Rattle.aug_script.proofs.sending.write_pieces.Goals as goal

pub loop-taken-preserved : goal.loop-taken-preserved
loop-taken-preserved g c =
    let before = c.loop-taken.invariant in
    record {
      within = length-piece _ _ _ before.within c.in_ok-taken.ensures.bound;
      wrote = record {
        bytes = Appends-piece _ _ _ c.args.bytes.now _ _ before.wrote.bytes c.in_ok-taken.ensures.bytes;
        finished = search rules;
        no_fault = search rules;
      };
    }
