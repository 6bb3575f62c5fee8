use Rattle.std.proofs.Common.{rules, ◌≡◌, ◌∙◌, ◌+◌, ◌-◌, ◌<◌, ◌++◌, ℕ, inr, List, length, map, min, take, drop, get_or, w64, to_z, pos, ap, sym, subst, arith}
use Rattle.std.specs.Prelude.{None}
use Rattle.std.proofs.lemmas.Bool.{eqb-true, eqb-false}
use Rattle.aug_model.specs.Differences.{changes_from}
use Rattle.aug_model.specs.declared.difference.Difference.{Difference}
use Rattle.aug_live.specs.LiveHandles.{set_of_look}
use Rattle.aug_c.specs.ChangeCalls.{change_of, set_of_arrays}
use Rattle.aug_c.specs.declared.changes.WeightChange.{WeightChange}
use Rattle.aug_c.proofs.Since.{SinceWritten, listed_since, more_since, page_since, whole_since}
use Rattle.aug_c.proofs.changes.list_since.Goals as goal

-- what a page was written as
items_written : (listed : ℕ) (page items : List Difference) (old new : List WeightChange) → page ≡ items → new ≡ take listed old ++ (take (length old - listed) (map change_of page) ++ drop (listed + length page) old) → new ≡ take listed old ++ (take (length old - listed) (map change_of items) ++ drop (listed + length items) old)
items_written listed page items old new same is = subst (λ (zs : List Difference). new ≡ take listed old ++ (take (length old - listed) (map change_of zs) ++ drop (listed + length zs) old)) same is

pub returns-then-not-is_full : goal.returns-then-not-is_full
returns-then-not-is_full c =
    let set = set_of_arrays c.args.list.now.keys.now c.args.list.now.weights.now in let first = c.args.look.now in let before = c.args.out.now in
    let p = c.loop-listed in let inv = p.invariant in let page = c.changes_since-page.ensures in let items = c.changes_since-page.result.items in
    let written = items_written p.listed c.as_slice.result.now items p.out c.write_changes.new.out c.as_slice.ensures.value c.write_changes.ensures in
    let done = page_since set first c.args.from before p.listed p.next _ p.look c.changes_since-page.new.self p.out items inv.written inv.rest page.answer c.write_changes.new.out page.asked written in
    let few : length items < 32 = omega (arith, eqb-false (length items) 32 (sym c.if-not-is_full.ensures.value), c.if-not-is_full.ensures.fits) in
    let whole = whole_since set first c.args.from before p.listed p.next 0 p.look p.look p.out items inv.written inv.rest page.answer few in
    let room : c.min.result ≡ min (p.listed + length items) (length before) = omega (arith, c.min.ensures, c.len-listed.ensures.value, c.write_changes.auto.out, p.auto.out) in
    let code : to_z w64 c.min.result ≡ pos c.min.result = search rules in
    listed_since set first c.args.from before (p.listed + length items) c.changes_since-page.new.self c.write_changes.new.out (to_z w64 c.min.result) done (inr whole) (code ∙ ap pos room)

pub loop-listed-preserved : goal.loop-listed-preserved
loop-listed-preserved c =
    let none : Difference = record { key = 0; before = None; after = None } in
    let set = set_of_arrays c.args.list.now.keys.now c.args.list.now.weights.now in let first = c.args.look.now in let before = c.args.out.now in
    let p = c.loop-listed in let inv = p.invariant in let page = c.changes_since-page.ensures in let items = c.changes_since-page.result.items in
    let written = items_written p.listed c.as_slice.result.now items p.out c.write_changes.new.out c.as_slice.ensures.value c.write_changes.ensures in
    let done = page_since set first c.args.from before p.listed p.next _ p.look c.changes_since-page.new.self p.out items inv.written inv.rest page.answer c.write_changes.new.out page.asked written in
    let full : length items ≡ 32 = eqb-true (length items) 32 (sym c.if-not-is_full.ensures.value) in
    let rest = more_since set first c.args.from before p.listed p.next 0 p.look p.look p.out items inv.written inv.rest page.answer none full in
    let last : get_or items 31 none ≡ get_or c.as_slice-in-loop-listed.result.now 31 none = ap (λ (xs : List Difference). get_or xs 31 none) (sym c.as_slice-in-loop-listed.ensures.value) in
    let all = changes_from set (set_of_look first) c.args.from in
    record {
      written = subst (λ (n : ℕ). SinceWritten set first c.args.from before (p.listed + n) c.changes_since-page.new.self c.write_changes.new.out) (sym c.len-listed.ensures.value) done;
      rest = ap (λ (d : Difference). changes_from set (set_of_look first) (d.key + 1)) (sym last) ∙ rest ∙ ap (λ (n : ℕ). drop (p.listed + n) all) (sym c.len-listed.ensures.value);
    }
