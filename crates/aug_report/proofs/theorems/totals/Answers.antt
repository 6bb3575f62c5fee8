use Rattle.aug_report.proofs.LineCounts.{totals_count, sizes_add_up}
use Rattle.aug_report.proofs.theorems.totals.Goals as goal

pub returns : goal.returns
returns c = record {
  count_lines = totals_count;
  sizes_add_up = sizes_add_up;
}
