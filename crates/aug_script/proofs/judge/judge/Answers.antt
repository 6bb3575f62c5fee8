use Rattle.std.proofs.Common.{◌≡◌, true, ◌||◌, [], Some, drop, slice_index_or, refl, rules, ◌∙◌, sym}
use Rattle.std.specs.Prelude.{find}
use Rattle.std.specs.Str.{bytes_eq}
use Rattle.csv.specs.Records.{fields_of}
use Rattle.aug_script.specs.Script.{are_printable, is_number, is_star, item_of, item_written, items_with, named_item}
use Rattle.aug_script.proofs.judge.judge.Goals as goal

pub returns-clause-item : goal.returns-clause-item
returns-clause-item c =
    let fields = fields_of c.args.fields.now in
    let first = slice_index_or fields 0 [] in
    let printable : are_printable fields ≡ true = search rules in
    let lane : (is_number first || is_star first) ≡ true = search rules in
    let named : find (λ next. bytes_eq (slice_index_or fields 1 []) (item_written next).0) (items_with c.args.read.now.next fields) ≡ Some c.in-Some.item = rw (c.next_number-row_number.ensures) at (sym c.named.ensures ∙ c.in-Some.is) in
    let judged : item_of c.args.limits.now c.args.read.now fields ≡ named_item c.args.limits.now c.args.read.now (drop 2 fields) (Some c.in-Some.item) = rw (printable, lane, named) refl in
    c.checked.ensures.item ∙ sym judged
