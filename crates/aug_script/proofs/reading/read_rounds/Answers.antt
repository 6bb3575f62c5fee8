use Rattle.std.proofs.Common.{ap, arith}
use Rattle.aug_script.proofs.Runnable.{records_of-few}
use Rattle.aug_script.proofs.reading.read_rounds.Goals as goal

pub take_bytes-requires : goal.take_bytes-requires
take_bytes-requires c = omega (arith, ap (λ read. read.next) c.new-rounds.ensures, records_of-few c.args.bytes.now)
