use Rattle.std.proofs.Common.{◌≡◌, ℕ, Bool, false, List, ◌∷◌, sym, ap, ◌∙◌}
use Rattle.csv.specs.Records.{fields_of}
use Rattle.aug_script.specs.inside.RecordsLeft.{records_left}
use Rattle.aug_script.proofs.ReaderLemmas.{found_more, found_none}
use Rattle.aug_script.proofs.records.Records.next.Goals as goal
use Rattle.aug_script.proofs.records.Records.next.Goals.{in-Ok-true, in-Ok-false, in-Err}

pub invariant_of-self : goal.invariant_of-self
invariant_of-self c going =
    let reading = c.self.invariant going in
    let es = c.in-Ok-true.ensures in
    let read = rw c.in-Ok-true.field-0-test at (es.reads reading.untrimmed reading.ready) in
    (found_more c.self.inside.reader c.read_byte_record.new.self (fields_of c.read_byte_record.new.row) reading read (es.ready reading.untrimmed) es.flexible).0

pub returns : goal.returns
returns c =
    let going = c.if-self.false in
    let reading = c.self.invariant going in
    let row = fields_of c.read_byte_record.new.row in
    let before : c.args.self.now ≡ records_left false c.self.inside.reader = sym c.self.view_is ∙ ap (λ (d : Bool). records_left d c.self.inside.reader) going in
    elim c.match-read_byte_record.branch [
      | in-Ok-true w ↦
          let es = w.in-Ok-true.ensures in
          let read = rw w.in-Ok-true.field-0-test at (es.reads reading.untrimmed reading.ready) in
          let more = (found_more c.self.inside.reader c.read_byte_record.new.self row reading read (es.ready reading.untrimmed) es.flexible).1 in
          let after : c.match-read_byte_record.self ≡ records_left false c.read_byte_record.new.self = w.self-is ∙ ap (λ (d : Bool). records_left d c.read_byte_record.new.self) going in
          rw w.result-is (before ∙ more ∙ ap (λ (rest : List (List (List ℕ))). row ∷ rest) (sym after))
      | in-Ok-false w ↦
          let es = w.in-Ok-false.ensures in
          let read = rw w.in-Ok-false.field-0-test at (es.reads reading.untrimmed reading.ready) in
          rw w.result-is (before ∙ found_none c.self.inside.reader c.read_byte_record.new.self row reading read)
      | in-Err w ↦ rw w.result-is tt
    ]
