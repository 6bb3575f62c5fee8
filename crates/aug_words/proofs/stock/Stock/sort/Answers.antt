use Rattle.std.proofs.Common.{◌≡◌, ◌<◌, ◌≤◌, ◌+◌, ℕ, get_or, refl, sym, ap, ◌∙◌, subst, arith, length}
use Rattle.std.proofs.lemmas.Grind.{get_or_default_zero}
use Rattle.aug_words.specs.Stocks.{StockFacts, IsHeld, birth_in_word}
use Rattle.aug_words.specs.inside.Stocking.{Sorts}
use Rattle.aug_words.proofs.Stocking.{sorts_none, sorts_held, sorts_freed, none_before}
use Rattle.aug_words.proofs.stock.Stock.sort.Goals.{then-index-lowest, then-index-lowest-via-then-index-lowest, then-index-lowest-via-else-index-lowest+then-not-is_held, else-index-lowest+else-not-is_held}
use Rattle.aug_words.proofs.stock.Stock.sort.Goals as goal

pub loop-i-init : goal.loop-i-init
loop-i-init c = let few = subst (λ (z : StockFacts). z.free + z.replaced ≤ length z.words) c.self.view_is c.self.invariant.few in
    let free : c.self.inside.free ≡ c.args.self.now.free = ap (λ (z : StockFacts). z.free) c.self.view_is in
    let low : c.args.self.now.free ≤ length c.args.self.now.words = omega arith in
    record { past = omega arith; in_range = omega arith; retired = c.requires; long = subst (λ (z : StockFacts). length z.deaths ≡ length z.words) c.self.view_is c.self.invariant.long; sorts = subst (Sorts c.args.eras.now c.args.self.now c.args.self.now) (sym free) (sorts_none c.args.eras.now c.args.self.now low) }

pub loop-i-preserved : goal.loop-i-preserved
loop-i-preserved c = let inv = c.loop-i.invariant in let k = c.args.self.now in let i = c.loop-i.i in let s = inv.sorts in let test = c.loop-i-test.true in let len = ap (λ (z : StockFacts). length z.words) c.self.view_is in let end = c.len-i-end.ensures in
    let low : i < length k.words = omega arith in
    let before = c.self-in-loop-i.view_is in
    elim c.if-index-lowest.branch [
      | then-index-lowest w ↦ let is = w.self-is ∙ w.set_free.ensures in
          let none : (slot : ℕ) → slot < length c.args.eras.now → IsHeld (get_or c.args.eras.now slot 0) (birth_in_word (get_or c.loop-i.self.words i 0)) (get_or c.loop-i.self.deaths i 0) → ⊥ = elim w.then-index-lowest.branch [
            | then-index-lowest-via-then-index-lowest u ↦ let long = s.long_deaths in let as_long = inv.long in let same = ap (λ (z : StockFacts). length z.deaths) before in
                let death : c.index.result.now ≡ get_or c.loop-i.self.deaths i 0 = c.index.ensures ∙ get_or_default_zero c.self-in-loop-i.inside.deaths.items i c.index.result.now (omega arith) ∙ ap (λ (z : StockFacts). get_or z.deaths i 0) before in
                let early = u.if-index-lowest.true in
                none_before c.args.eras.now c.lowest_era-lowest.result (birth_in_word (get_or c.loop-i.self.words i 0)) (get_or c.loop-i.self.deaths i 0) c.lowest_era-lowest.ensures (omega arith)
            | then-index-lowest-via-else-index-lowest+then-not-is_held u ↦ u.if-not-is_held.ensures.free refl
          ] in record {
            past = let free = ap (λ (z : StockFacts). z.free) is in let past = inv.past in omega arith;
            in_range = omega arith;
            retired = ap (λ (z : StockFacts). z.replaced) is ∙ inv.retired;
            long = inv.long;
            sorts = subst (λ (z : StockFacts). Sorts c.args.eras.now k z (i + 1)) (sym is) (sorts_freed c.args.eras.now k c.loop-i.self i low s inv.past inv.long none);
          }
      | else-index-lowest+else-not-is_held w ↦ subst (λ (z : StockFacts). record { past : z.free ≤ i + 1; in_range : i + 1 ≤ length k.words; retired : z.replaced ≡ 0; long : length k.deaths ≡ length k.words; sorts : Sorts c.args.eras.now k z (i + 1) }) (sym w.self-is)
          record { past = let past = inv.past in omega arith; in_range = omega arith; retired = inv.retired; long = inv.long; sorts = sorts_held c.args.eras.now k c.loop-i.self i low s (w.if-not-is_held.ensures.held refl) }
    ]
