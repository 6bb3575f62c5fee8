use denote.Memory.{part_of, raw_all}
use denote.Param.Send.{IsSync, cell_keyless, owning_send}
use Rattle.aug_model.specs.contracts.calls.Calls.{the_row, the_type}

pub sync : IsSync the_row
unfolding part_of
sync = record { shared = λ d b o κ. λ q vs. (cell_keyless q (raw_all the_row.mir) vs b o, (owning_send the_type tt (λ e. tt) (λ k x w. tt)).owned d vs) }
