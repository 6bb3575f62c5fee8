-- What an answer unfolds to compute the rounds, the replies and the reports' text of a script that is written out.
use Rattle.std.specs.Prelude.{⊤}
use Rattle.std.specs.Fmt.{digits}
use Rattle.csv.proofs.OnLiterals.{csv_on_literals}
use Rattle.aug_script.specs.Replies.{replies_of, sets_of}
use Rattle.aug_script.specs.Script.{read_from}

unfoldable pub script_on_literals : ⊤
unfolding csv_on_literals digits read_from replies_of sets_of
script_on_literals = tt
