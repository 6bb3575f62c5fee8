use Rattle.std.proofs.Common.{◌≡◌, ◌∙◌, ◌+◌, ◌-◌, ◌<◌, ◌^◌, ℕ, get_or, sym, ap, subst, arith}
use Rattle.std.proofs.lemmas.List.Elements.{All-get_or}
use Rattle.aug_core.specs.Faces.{face}
use Rattle.aug_core.specs.Places.{Shape}
use Rattle.aug_trie.specs.UpdateBatches.{apart}
use Rattle.aug_trie.specs.inside.Goes.{HasLeaves}
use Rattle.aug_trie.specs.inside.Lasting.{ShowsBelow}
use Rattle.aug_trie.specs.inside.LastingRuns.{LiftsRun}
use Rattle.aug_trie.proofs.LastingRuns.{RaisesRun, raises_none_yet, raises_more, lifts_run, retires_run, room_next, room_after}
use Rattle.aug_trie.proofs.Lifting.{shows_stocked}
use Rattle.aug_trie.proofs.Parting.{few_levels}
use Rattle.aug_trie.proofs.lasting.runs.lift_run.Goals as goal

pub loop-place-init : goal.loop-place-init
loop-place-init g c = let f = face g.A.Monoid.parts g.B.Monoid.parts in record {
  keeps = c.requires.keeps;
  reserved = c.requires.reserved;
  within = c.requires.begins;
  raises = raises_none_yet f c.args.keys.now c.args.from c.args.pass.now.view c.requires.keeps.knows_table (shows_stocked f (get_or c.args.keys.now c.args.from 0) c.requires.keeps.knows_table c.requires.keeps.stocks c.requires.none);
  records = omega arith;
}

pub lift_all-requires : goal.lift_all-requires
lift_all-requires g c = let f = face g.A.Monoid.parts g.B.Monoid.parts in let inv = c.loop-place.invariant in let shaped = inv.raises.works.goes.shaped in let test = c.loop-place-test.true in let ends = c.requires.ends in let begun = inv.raises.begun in let bits_are = c.requires.bits in
    let few = few_levels c.args.bits _ _ _ c.levels_apart-levels.ensures in let same : c.loop-place.pass.view.shape.bits ≡ c.args.pass.now.view.shape.bits = ap (λ (z : Shape). z.bits) shaped in
    let room = room_next f {i = c.loop-place.place} begun (omega arith) c.requires.records inv.records in record {
      keeps = inv.keeps;
      reserved = inv.reserved;
      leaves = subst (λ (z : Shape). HasLeaves z c.args.leaves) (sym shaped) c.requires.leaves;
      leaf = subst (λ (z : Shape). get_or c.args.keys.now c.loop-place.place 0 < 2 ^ z.bits) (sym shaped) (All-get_or (λ (k : ℕ). k < 2 ^ c.args.pass.now.view.shape.bits) c.args.keys.now c.loop-place.place 0 (omega arith) c.requires.keys);
      levels = omega arith;
      records = omega arith;
      below = inv.raises.below;
    }

pub loop-place-preserved : goal.loop-place-preserved
loop-place-preserved g c = let f = face g.A.Monoid.parts g.B.Monoid.parts in let inv = c.loop-place.invariant in let test = c.loop-place-test.true in let ends = c.requires.ends in let begun = inv.raises.begun in let bits_are = c.requires.bits in
    let few = few_levels c.args.bits _ _ _ c.levels_apart-levels.ensures in let step = c.lift_all.ensures in
    let is : c.levels_apart-levels.result ≡ apart c.args.pass.now.view.shape.bits (get_or c.args.keys.now c.loop-place.place 0) (get_or c.args.keys.now (c.loop-place.place + 1) 0) = c.levels_apart-levels.ensures ∙ ap (λ (z : ℕ). apart z (get_or c.args.keys.now c.loop-place.place 0) (get_or c.args.keys.now (c.loop-place.place + 1) 0)) bits_are in record {
      keeps = step.keeps;
      reserved = step.reserved;
      within = omega arith;
      raises = raises_more f c.requires.keys (omega arith) (omega arith) inv.raises step.lifted (omega arith) is;
      records = room_after f c.lift_all.new.stock.free begun few inv.records step.records;
    }

pub lift_all-requires-2 : goal.lift_all-requires-2
lift_all-requires-2 g c = let f = face g.A.Monoid.parts g.B.Monoid.parts in let inv = c.loop-place.invariant in let shaped = inv.raises.works.goes.shaped in let test = c.loop-place-test.false in let within = inv.within in let begins = c.requires.begins in let ends = c.requires.ends in let begun = inv.raises.begun in let bits_are = c.requires.bits in
    let here : c.loop-place.place ≡ c.args.to - 1 = omega (arith, test, within) in let same : c.loop-place.pass.view.shape.bits ≡ c.args.pass.now.view.shape.bits = ap (λ (z : Shape). z.bits) shaped in
    let room = room_next f {i = c.loop-place.place} begun (omega arith) c.requires.records inv.records in record {
      keeps = inv.keeps;
      reserved = inv.reserved;
      leaves = subst (λ (z : Shape). HasLeaves z c.args.leaves) (sym shaped) c.requires.leaves;
      leaf = subst (λ (z : Shape). get_or c.args.keys.now (c.args.to - 1) 0 < 2 ^ z.bits) (sym shaped) (All-get_or (λ (k : ℕ). k < 2 ^ c.args.pass.now.view.shape.bits) c.args.keys.now (c.args.to - 1) 0 (omega arith) c.requires.keys);
      levels = omega arith;
      records = omega arith;
      below = subst (λ (z : ℕ). ShowsBelow c.loop-place.pass.view (get_or c.args.keys.now z 0) 0) here inv.raises.below;
    }

pub returns : goal.returns
returns g c = let f = face g.A.Monoid.parts g.B.Monoid.parts in let inv = c.loop-place.invariant in let test = c.loop-place-test.false in let within = inv.within in let begins = c.requires.begins in let ends = c.requires.ends in let begun = inv.raises.begun in let bits_are = c.requires.bits in
    let here : c.loop-place.place ≡ c.args.to - 1 = omega (arith, test, within) in let step = c.lift_all-2.ensures in
    let r : RaisesRun f c.args.keys.now c.args.from (c.args.to - 1) c.args.pass.now.view c.loop-place.pass.view = subst (λ (z : ℕ). RaisesRun f c.args.keys.now c.args.from z c.args.pass.now.view c.loop-place.pass.view) here inv.raises in record {
      keeps = step.keeps;
      lifts = let all : c.args.to - 1 + 1 ≡ c.args.to = omega arith in subst (λ (z : ℕ). LiftsRun f c.args.keys.now c.args.from z c.args.pass.now.view c.lift_all-2.new.pass.view) all (lifts_run f c.requires.keys (omega arith) (omega arith) r step.lifted bits_are);
      later = retires_run f c.requires.keys (omega arith) (omega arith) r step.lifted bits_are;
    }
