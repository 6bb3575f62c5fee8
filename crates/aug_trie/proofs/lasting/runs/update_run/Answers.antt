use Rattle.std.proofs.Common.{◌∙◌, ◌<◌, ◌^◌, ℕ, All, sym, ap, subst, arith}
use Rattle.aug_core.specs.Faces.{face}
use Rattle.aug_core.specs.Places.{Shape}
use Rattle.aug_words.specs.Stocks.{StockFacts}
use Rattle.aug_trie.specs.inside.Goes.{HasLeaves}
use Rattle.aug_trie.proofs.LastingRuns.{makes_run}
use Rattle.aug_trie.proofs.Lifting.{stocks_gained}
use Rattle.aug_trie.proofs.Stocked.{keeps_on, works_retired}
use Rattle.aug_trie.proofs.lasting.runs.update_run.Goals as goal

pub leave_run-requires : goal.leave_run-requires
leave_run-requires g c = let s = c.reserve.ensures.keeps.stocks in record {
  knows = c.reserve.ensures.keeps.knows_table;
  may = record { lane = s.lane; only = s.only; room = λ off. let used = s.used in absurd (omega (arith, off, used)) };
  used = s.used;
  keys = subst (λ (z : Shape). All (λ (k : ℕ). k < 2 ^ z.bits) c.args.keys.now) (sym c.reserve.ensures.works.goes.shaped) c.requires.keys;
  begins = let begins = c.requires.begins in omega arith;
  ends = c.requires.ends;
  requests = c.requires.requests;
  outcomes = c.requires.outcomes;
}

pub lift_run-requires : goal.lift_run-requires
lift_run-requires g c = let left = c.leave_run.ensures.leaves in let shaped = left.works.goes.shaped ∙ c.reserve.ensures.works.goes.shaped in let stock = c.reserve.ensures.same in let had = c.requires.records in let free = ap (λ (z : StockFacts). z.free) stock in record {
  keeps = keeps_on c.reserve.ensures.keeps c.leave_run.ensures.table left.works.goes (stocks_gained left.works.goes.shaped left.rest c.reserve.ensures.keeps.stocks);
  reserved = c.reserve.ensures.reserved;
  leaves = subst (λ (z : Shape). HasLeaves z c.args.leaves) (sym shaped) c.requires.leaves;
  bits = c.requires.bits ∙ ap (λ (z : Shape). z.bits) (sym shaped);
  keys = subst (λ (z : Shape). All (λ (k : ℕ). k < 2 ^ z.bits) c.args.keys.now) (sym shaped) c.requires.keys;
  begins = c.requires.begins;
  ends = c.requires.ends;
  records = omega arith;
  none = ap (λ (z : StockFacts). z.replaced) stock ∙ c.requires.none;
}

pub returns-clause-makes : goal.returns-clause-makes
returns-clause-makes g c = let f = face g.A.Monoid.parts g.B.Monoid.parts in let up = c.lift_run.ensures in
    makes_run f c.requires.keys c.requires.ends c.reserve.ensures.works c.leave_run.ensures.leaves up.lifts (works_retired f up.keeps.stocks up.keeps.knows_table c.retire.ensures.step.view) c.release.ensures.works
