use Rattle.std.proofs.Common.{sym, subst}
use Rattle.std.specs.Prelude.{IfSome, Option}
use Rattle.aug_trie.specs.Pass.{PassFacts}
use Rattle.aug_trie.specs.Reader.{TakesUp}
use Rattle.aug_live.proofs.operation.snapshot_behind.Goals as goal

pub returns-in-Ok-clause-takes_up : goal.returns-in-Ok-clause-takes_up
returns-in-Ok-clause-takes_up g c = subst (λ (o : Option PassFacts). IfSome o (λ r. TakesUp r c.take_reader.new.self)) (sym c.in-Some.is) (subst (TakesUp c.in-Some.reader) (sym c.take_reader.ensures.pass) c.follow-snapshot.ensures.takes_up)

pub returns-in-Err-clause-takes_up : goal.returns-in-Err-clause-takes_up
returns-in-Err-clause-takes_up g c = subst (λ (o : Option PassFacts). IfSome o (λ r. TakesUp r c.take_reader.new.self)) (sym c.in-Some.is) (subst (TakesUp c.in-Some.reader) (sym c.take_reader.ensures.pass) c.follow-snapshot.ensures.takes_up)
