use Rattle.std.proofs.Common.{rules, ◌≡◌, ◌∙◌, List, length, map, min, take, w64, to_z, pos, ap, sym, subst, arith}
use Rattle.std.proofs.lemmas.List.{length-map}
use Rattle.aug_live.specs.LiveHandles.{set_before, set_of_look}
use Rattle.aug_model.specs.Differences.{changes_from}
use Rattle.aug_c.specs.ArrayCalls.{ListsMembers}
use Rattle.aug_c.specs.ChangeCalls.{change_of}
use Rattle.aug_c.specs.declared.changes.WeightChange.{WeightChange}
use Rattle.aug_c.proofs.Since.{page_lists}
use Rattle.aug_c.proofs.changes.page_of.Goals as goal

pub returns : goal.returns
returns c =
    let items = c.as_slice.result.now in let out = c.args.out.now in
    let page : map change_of items ≡ map change_of (take 32 (changes_from (set_before c.args.look.now) (set_of_look c.args.look.now) c.args.from)) = ap (map change_of) (c.as_slice.ensures.value ∙ c.changes-page.ensures.answer) in
    let long = ap length c.as_slice.ensures.value in
    let count : c.min.result ≡ min (length out) (length (map change_of items)) = omega (arith, c.min.ensures, c.len.ensures.value, c.write_changes.auto.out, long, length-map items change_of) in
    let code : to_z w64 c.min.result ≡ pos c.min.result = search rules in
    record {
      count = min (length out) (length (map change_of items));
      says = code ∙ ap pos count;
      lists = subst (λ (xs : List WeightChange). ListsMembers xs out c.write_changes.new.out (min (length out) (length (map change_of items)))) page (page_lists (map change_of items) out c.write_changes.new.out (length items) (sym (length-map items change_of)) c.write_changes.ensures);
      most = _;
      asked = c.changes-page.ensures.asked;
    }
