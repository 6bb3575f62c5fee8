use Rattle.aug_report.proofs.OneList.{one_list, script_one_list}
use Rattle.aug_report.proofs.theorems.one_list.Goals as goal

pub returns : goal.returns
returns c = record {
  reports = one_list;
  of_a_script = script_one_list;
}
