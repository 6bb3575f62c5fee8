use Rattle.std.proofs.Common.{ℕ, List, sym, subst, arith}
use Rattle.std.specs.List.Sorted.{IsStrictlyIncreasing}
use Rattle.std.proofs.lemmas.Slice.Zip.{length-zip, firsts-zip}
use Rattle.aug_c.proofs.changes.ArraysMemberList.len.Goals as goal

pub returns-clause-value : goal.returns-clause-value
returns-clause-value c = let list = c.args.self.now in omega (arith, length-zip list.keys.now list.weights.now, list.lengths)

pub returns-clause-rising : goal.returns-clause-rising
returns-clause-rising c = let list = c.args.self.now in subst (λ (xs : List ℕ). IsStrictlyIncreasing xs) (sym (firsts-zip list.keys.now list.weights.now list.lengths)) list.rising
