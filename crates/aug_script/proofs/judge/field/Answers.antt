use Rattle.std.proofs.Common.{refl}
use Rattle.csv.specs.Records.{fields_of}
use Rattle.aug_script.proofs.Fields.{field_or_empty}
use Rattle.aug_script.proofs.judge.field.Goals as goal

pub returns : goal.returns
returns c = rw c.unwrap_or.ensures (field_or_empty (fields_of c.args.fields.now) c.args.place c.get.result _ refl c.get.ensures.value)
