use denote.Memory.{part_of, raw_all}
use denote.Param.Send.{IsSync, cell_keyless}
use Rattle.aug_core.specs.contracts.opening.OpeningKey.{the_row}

pub sync : IsSync the_row
unfolding part_of
sync = record { shared = λ d b o κ x. ((λ q vs. (cell_keyless q (raw_all the_row.mir) vs b o, ((λ vss. (tt, tt)), tt))), tt) }
