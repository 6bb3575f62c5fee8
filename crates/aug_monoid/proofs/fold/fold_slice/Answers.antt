use Rattle.std.proofs.Common.{◌≡◌, ℕ, ◌+◌, ◌∷◌, [], ◌++◌, take, get_or, All, ap, sym, ◌∙◌, arith}
use Rattle.std.proofs.lemmas.List.{take_all, take_more}
use Rattle.std.proofs.lemmas.List.Elements.{All-append, All-cons, All-nil, All-same}
use Rattle.aug_monoid.specs.Fold.{fold_of}
use Rattle.aug_monoid.specs.Weighted.{FitsPair}
use Rattle.aug_monoid.proofs.BoundLaws.{laws_of}
use Rattle.aug_monoid.proofs.FoldLemmas.{fold_of-is_proper, fold_of-push, fold_of-cut, fold_of-cut_words}
use Rattle.aug_monoid.proofs.fold.fold_slice.Goals as goal

pub loop-key-preserved : goal.loop-key-preserved
loop-key-preserved g c =
    let m = g.M.Monoid in
    let keys = c.args.keys.now in
    let i = c.loop-key.key-index in
    let front = take i keys in
    let p : ℕ × ℕ = get_or keys i (0, 0) in
    let one : FitsPair p = c.value_of.ensures.fits in
    let more : take (i + 1) keys ≡ front ++ p ∷ [] = take_more keys i (0, 0) c.loop-key-test.true in
    let fit : All FitsPair (front ++ p ∷ []) = All-append FitsPair front (p ∷ []) c.loop-key.invariant.fit (All-cons FitsPair p [] one (All-nil FitsPair)) in
    let joined = rw (c.loop-key.invariant.folded, c.value_of.ensures.value) at c.join-total.ensures in
    record {
      in_range = omega arith;
      fit = All-same FitsPair _ _ more fit;
      folded = joined ∙ sym (fold_of-push (laws_of g.met.M.Monoid) front p c.loop-key.invariant.fit one) ∙ ap (fold_of m.parts) (sym more);
    }

-- the whole slice is folded
whole : (g : _) (c : goal.After-loop-key g) → let m = g.M.Monoid in c.loop-key.total ≡ fold_of m.parts c.args.keys.now
whole g c =
    let m = g.M.Monoid in
    c.loop-key.invariant.folded ∙ ap (fold_of m.parts) (take_all c.loop-key.key-index c.args.keys.now c.loop-key-test.false)

-- and all of it fits
fit : (g : _) (c : goal.After-loop-key g) → All FitsPair c.args.keys.now
fit g c = All-same FitsPair _ _ (sym (take_all c.loop-key.key-index c.args.keys.now c.loop-key-test.false)) c.loop-key.invariant.fit

pub returns-clause-proper : goal.returns-clause-proper
returns-clause-proper g c = rw (whole g c) (fold_of-is_proper (laws_of g.met.M.Monoid) c.args.keys.now (fit g c))

pub returns-clause-cut : goal.returns-clause-cut
returns-clause-cut g c = λ xs ys cut. whole g c ∙ fold_of-cut (laws_of g.met.M.Monoid) c.args.keys.now xs ys (fit g c) cut

pub returns-clause-cut_words : goal.returns-clause-cut_words
returns-clause-cut_words g c = λ xs ys cut. whole g c ∙ fold_of-cut_words (laws_of g.met.M.Monoid) c.args.keys.now xs ys (fit g c) cut
