use denote.Param.Send.{IsSend}
use Rattle.aug_core.specs.contracts.opening.OpeningKey.{the_row}

pub send : IsSend the_row
send = record { owned = λ d vs x. (((λ vss. (tt, tt)), tt), tt); leaving = λ k d w. tt }
