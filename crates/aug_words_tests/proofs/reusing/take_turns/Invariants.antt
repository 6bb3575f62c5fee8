use Rattle.std.proofs.Common.{◌≡◌}
use Rattle.aug_words.specs.Seats.{AreTogether}
use Rattle.aug_words.specs.Stocks.{Stocks}
use Rattle.aug_words_tests.proofs.reusing.take_turns.Given as goal

abbrev pub invariant-loop : goal.invariant-loop
invariant-loop g l = record {
  together : AreTogether l.words l.pass;
  stocks : Stocks l.pass.view l.stock;
  retired : l.stock.replaced ≡ 0;
}
