use Rattle.std.proofs.Common.{ap, refl, ◌∙◌}
use Rattle.aug_core.proofs.FaceLemmas.{face_is}
use Rattle.aug_words_tests.proofs.steps.words_of.Goals as goal

pub returns : goal.returns
returns g c = let m = g.A.Monoid in let n = g.B.Monoid in
    face_is m.parts n.parts c.args.left c.args.right _ _ _ c.args.pairs.now refl (c.to_word.ensures ∙ ap m.parts.to_word c.fold_slice-a.ensures.fold) (c.to_word-2.ensures ∙ ap n.parts.to_word c.fold_slice-b.ensures.fold)
