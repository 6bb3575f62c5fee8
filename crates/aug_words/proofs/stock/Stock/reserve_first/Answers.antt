use Rattle.std.proofs.Common.{refl}
use Rattle.aug_words.proofs.Held.{goes_by_none}
use Rattle.aug_words.proofs.stock.Stock.reserve_first.Goals as goal

pub returns-else-era-eq0-clause-goes : goal.returns-else-era-eq0-clause-goes
returns-else-era-eq0-clause-goes g c = record { table = refl; view = goes_by_none 3 c.args.pass.now.view }
