use Rattle.std.proofs.Common.{length, sym, ap, ◌∙◌, rules, arith}
use Rattle.csv.specs.Records.{fields_of}
use Rattle.aug_script.specs.Script.{read_from}
use Rattle.aug_script.proofs.Rows.{next-with_item, read_from-item, read_from-fault, read_from-none}
use Rattle.aug_script.proofs.reading.take_records.Goals as goal

pub returns-in_err-item-clause-fault : goal.returns-in_err-item-clause-fault
returns-in_err-item-clause-fault c =
    let records = rw c.if-branch.true at c.in_ok-next.ensures in
    let bad = sym c.judge.ensures.item ∙ c.in_err-item.was in
    let total = read_from c.args.limits.now c.args.rounds.now c.args.records.now in
    let fault = read_from-fault c.args.limits.now c.loop-rounds.rounds total c.loop-rounds.records c.next.new.self (fields_of c.next.new.row) c.in_err-item.field-0.0 records bad c.loop-rounds.invariant.reads in
    let gives = c.from_residual-in_err-item.ensures in
    search rules

pub take-requires-clause-number : goal.take-requires-clause-number
take-requires-clause-number c =
    let records = rw c.if-branch.true at c.in_ok-next.ensures in
    omega (arith, ap length records, c.loop-rounds.invariant.counted, c.requires)

pub loop-rounds-preserved : goal.loop-rounds-preserved
loop-rounds-preserved c =
    let records = rw c.if-branch.true at c.in_ok-next.ensures in
    let good = sym c.judge.ensures.item ∙ c.in_ok-item.was in
    let total = read_from c.args.limits.now c.args.rounds.now c.args.records.now in
    rw c.in_ok-take.ensures (record {
      reads = read_from-item c.args.limits.now c.loop-rounds.rounds total c.loop-rounds.records c.next.new.self (fields_of c.next.new.row) c.in_ok-item.item records good c.loop-rounds.invariant.reads;
      counted = omega (arith, ap length records, c.loop-rounds.invariant.counted, next-with_item c.loop-rounds.rounds c.in_ok-item.item);
    })

pub returns-clause-ok : goal.returns-clause-ok
returns-clause-ok c =
    let records = rw c.if-branch.false at c.in_ok-next.ensures in
    let total = read_from c.args.limits.now c.args.rounds.now c.args.records.now in
    read_from-none c.args.limits.now c.loop-rounds.rounds total c.loop-rounds.records records c.loop-rounds.invariant.reads
