use Rattle.std.proofs.Common.{rules, ◌≡◌, ℕ, ◌+◌, ◌-◌, ◌<◌, inr, List, ◌++◌, length, min, take, drop, map, w64, to_z, pos, ap, sym, ◌∙◌, subst, arith}
use Rattle.aug_model.specs.Keys.{SetFacts}
use Rattle.aug_live.specs.LiveHandles.{set_of_look}
use Rattle.aug_c.proofs.Listing.{Written, page_written, more_left, all_listed, listed_keys, listed_weights, at_none, at_some}
use Rattle.aug_c.proofs.array_listing.list.Goals as goal

-- what a page was written as
items_written : (part : ℕ × ℕ → ℕ) (listed : ℕ) (page items : List (ℕ × ℕ)) (old new : List ℕ) → page ≡ items → new ≡ take listed old ++ (take (length old - listed) (map part page) ++ drop (listed + length page) old) → new ≡ take listed old ++ (take (length old - listed) (map part items) ++ drop (listed + length items) old)
items_written part listed page items old new same is = subst (λ (zs : List (ℕ × ℕ)). new ≡ take listed old ++ (take (length old - listed) (map part zs) ++ drop (listed + length zs) old)) same is

pub returns-in_default-clause-keys : goal.returns-in_default-clause-keys
returns-in_default-clause-keys g c =
    let members = λ (s : SetFacts) (k : ℕ). g.O.Order.members s k in
    let p = c.loop-listed in let inv = p.invariant in let page = c.page-page.ensures in let items = c.page-page.result.0.items in
    let k = items_written (λ (m : ℕ × ℕ). m.0) p.listed c.as_slice.result.now items p.keys c.write_members.new.out c.as_slice.ensures.value c.write_members.ensures in
    let w = items_written (λ (m : ℕ × ℕ). m.1) p.listed c.as_slice-in-loop-listed.result.now items p.weights c.write_members-in-loop-listed.new.out c.as_slice-in-loop-listed.ensures.value c.write_members-in-loop-listed.ensures in
    let done = page_written members c.args.look.now c.args.key c.args.keys.now c.args.weights.now p.listed p.from page.asked.0 p.look c.page-page.new.look p.keys p.weights c.write_members.new.out c.write_members-in-loop-listed.new.out items inv.written inv.rest page.page page.asked.1 k w in
    let few = at_none c.page-page.result.1 (length items < 32) c.in_default.is page.last in
    let whole = all_listed members c.args.look.now c.args.key c.args.keys.now c.args.weights.now p.listed p.from p.look p.keys p.weights items inv.written inv.rest page.page few in
    let room : c.min.result ≡ min (p.listed + length items) (length c.args.keys.now) = omega (arith, c.min.ensures, c.len-listed.ensures.value, c.write_members.auto.out, p.auto.keys) in
    let code : to_z w64 c.min.result ≡ pos c.min.result = search rules in
    listed_keys members c.args.look.now c.args.key c.args.keys.now c.args.weights.now (p.listed + length items) c.page-page.new.look c.write_members.new.out c.write_members-in-loop-listed.new.out (to_z w64 c.min.result) done (inr whole) (code ∙ ap pos room)

pub returns-in_default-clause-weights : goal.returns-in_default-clause-weights
returns-in_default-clause-weights g c =
    let members = λ (s : SetFacts) (k : ℕ). g.O.Order.members s k in
    let p = c.loop-listed in let inv = p.invariant in let page = c.page-page.ensures in let items = c.page-page.result.0.items in
    let k = items_written (λ (m : ℕ × ℕ). m.0) p.listed c.as_slice.result.now items p.keys c.write_members.new.out c.as_slice.ensures.value c.write_members.ensures in
    let w = items_written (λ (m : ℕ × ℕ). m.1) p.listed c.as_slice-in-loop-listed.result.now items p.weights c.write_members-in-loop-listed.new.out c.as_slice-in-loop-listed.ensures.value c.write_members-in-loop-listed.ensures in
    let done = page_written members c.args.look.now c.args.key c.args.keys.now c.args.weights.now p.listed p.from page.asked.0 p.look c.page-page.new.look p.keys p.weights c.write_members.new.out c.write_members-in-loop-listed.new.out items inv.written inv.rest page.page page.asked.1 k w in
    let few = at_none c.page-page.result.1 (length items < 32) c.in_default.is page.last in
    let whole = all_listed members c.args.look.now c.args.key c.args.keys.now c.args.weights.now p.listed p.from p.look p.keys p.weights items inv.written inv.rest page.page few in
    listed_weights members c.args.look.now c.args.key c.args.keys.now c.args.weights.now (p.listed + length items) c.page-page.new.look c.write_members.new.out c.write_members-in-loop-listed.new.out done c.requires (inr whole)

pub loop-listed-preserved : goal.loop-listed-preserved
loop-listed-preserved g c =
    let members = λ (s : SetFacts) (k : ℕ). g.O.Order.members s k in
    let p = c.loop-listed in let inv = p.invariant in let page = c.page-page.ensures in let items = c.page-page.result.0.items in
    let k = items_written (λ (m : ℕ × ℕ). m.0) p.listed c.as_slice.result.now items p.keys c.write_members.new.out c.as_slice.ensures.value c.write_members.ensures in
    let w = items_written (λ (m : ℕ × ℕ). m.1) p.listed c.as_slice-in-loop-listed.result.now items p.weights c.write_members-in-loop-listed.new.out c.as_slice-in-loop-listed.ensures.value c.write_members-in-loop-listed.ensures in
    let done = page_written members c.args.look.now c.args.key c.args.keys.now c.args.weights.now p.listed p.from page.asked.0 p.look c.page-page.new.look p.keys p.weights c.write_members.new.out c.write_members-in-loop-listed.new.out items inv.written inv.rest page.page page.asked.1 k w in
    let full = at_some c.page-page.result.1 c.in-Some.next (λ (n : ℕ). length items ≡ 32) c.in-Some.is page.full in
    let more = at_some c.page-page.result.1 c.in-Some.next (λ (n : ℕ). members (set_of_look p.look) n ≡ drop 32 (members (set_of_look p.look) p.from)) c.in-Some.is page.more in
    record {
      written = subst (λ (n : ℕ). Written members c.args.look.now c.args.key c.args.keys.now c.args.weights.now (p.listed + n) c.page-page.new.look c.write_members.new.out c.write_members-in-loop-listed.new.out) (sym c.len-listed.ensures.value) done;
      rest = more_left members c.args.look.now c.args.key c.args.keys.now c.args.weights.now p.listed p.from c.in-Some.next c.len-listed.result p.look p.keys p.weights inv.written inv.rest (c.len-listed.ensures.value ∙ full) more;
    }
