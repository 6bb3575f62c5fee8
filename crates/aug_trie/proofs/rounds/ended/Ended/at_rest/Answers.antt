use Rattle.std.proofs.Common.{◌∙◌, ℕ, ap, sym, subst}
use Rattle.aug_core.specs.Places.{Shape}
use Rattle.aug_core.specs.Faces.{face}
use Rattle.aug_core.specs.declared.view.SeatView.{SeatView}
use Rattle.aug_words.specs.Rests.{AtRest}
use Rattle.aug_trie.specs.inside.EndedState.{pairs_at_rest, HoldsVersion}
use Rattle.aug_trie.proofs.Versions.{members_are, holds_version}
use Rattle.aug_trie.proofs.Endings.{shows_seen}
use Rattle.aug_trie.proofs.rounds.ended.Ended.at_rest.Goals as goal

pub invariant_of-result : goal.invariant_of-result
invariant_of-result g c = let m = g.A.Monoid.parts in let n = g.B.Monoid.parts in let v : SeatView = c.args.lead.view in let rest : AtRest = c.close-rest.result in let root = c.root-root.ensures in
    let shaped = c.close-rest.ensures.shape ∙ sym c.requires.together.one_shape in
    subst (HoldsVersion (face m n) rest c.root-root.result) (sym c.requires.bits)
    (holds_version m n v c.requires.keeps root.knows c.root-root.result root.value rest shaped (shows_seen (face m n) v rest shaped c.close-rest.ensures.words))

pub returns-clause-members : goal.returns-clause-members
returns-clause-members g c = let m = g.A.Monoid.parts in let n = g.B.Monoid.parts in let v : SeatView = c.args.lead.view in let rest : AtRest = c.close-rest.result in let root = c.root-root.ensures in
    let shaped = c.close-rest.ensures.shape ∙ sym c.requires.together.one_shape in
    ap (λ (z : ℕ). pairs_at_rest rest z 0 c.root-root.result) c.requires.bits
    ∙ members_are m n v c.requires.keeps root.knows c.root-root.result root.value rest shaped (shows_seen (face m n) v rest shaped c.close-rest.ensures.words)

pub close-rest-requires-clause-keeps : goal.close-rest-requires-clause-keeps
close-rest-requires-clause-keeps g c = ap (λ (z : Shape). z.reservations) (sym c.requires.together.one_shape) ∙ c.requires.keeps
