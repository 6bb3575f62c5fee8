use Rattle.aug_report.proofs.LostPuts.{lost_has_cause}
use Rattle.aug_report.proofs.Puts.{set_keeps_the_key, weights_were_put}
use Rattle.aug_report.proofs.SeenPuts.{weight_seen}
use Rattle.aug_report.proofs.theorems.weights.Goals as goal

pub returns : goal.returns
returns c = record {
  set_keeps_the_key = set_keeps_the_key;
  is_seen = weight_seen;
  were_put = λ k w v bits number size inserts removals members closing. weights_were_put k w bits number size inserts removals members closing v;
  lost_has_cause = lost_has_cause;
}
