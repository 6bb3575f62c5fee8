use Rattle.std.proofs.Common.{◌≡◌, ◌<◌, ◌≤◌, ◌∙◌, inl, inr, List, [], ap, sym, subst, arith, rules, refl, ⊎_elim}
use Rattle.std.proofs.lemmas.Bool.{cases_lt, false≢true}
use Rattle.aug_core.specs.Cuts.{Cut, pairs_of_cut}
use Rattle.aug_core.specs.Faces.{face}
use Rattle.aug_core.specs.Layout.{IsLayout}
use Rattle.aug_core.specs.Opening.{Opening}
use Rattle.aug_core.specs.Places.{shape_of}
use Rattle.aug_core.specs.declared.view.SeatView.{SeatView}
use Rattle.aug_trie.specs.Ended.{EndedFacts}
use Rattle.aug_trie.specs.History.{last_cut}
use Rattle.aug_trie.specs.inside.Knows.{knows}
use Rattle.aug_trie.proofs.Crews.{begins_history}
use Rattle.aug_trie.proofs.Endings.{smallest, none_shown, no_keys, none_fit}
use Rattle.aug_trie.proofs.rounds.ended.Ended.empty.Goals as goal

pub returns-in_default-clause-bad_bits : goal.returns-in_default-clause-bad_bits
returns-in_default-clause-bad_bits g c = (
  λ _. ⊎_elim (λ (low : c.args.bits < 1). inl low) (λ (some : 1 ≤ c.args.bits). ⊎_elim (λ (high : 16 < c.args.bits). inr high) (λ (few : c.args.bits ≤ 16).
      absurd (false≢true (c.in_default.ensures.ok.1 (smallest c.args.bits (some, few))))) (cases_lt 16 c.args.bits)) (cases_lt c.args.bits 1),
  λ _. refl,
)

pub returns-in-Ok-open-clause-empty : goal.returns-in-Ok-open-clause-empty
returns-in-Ok-open-clause-empty g c = let f = face g.A.Monoid.parts g.B.Monoid.parts in let o : Opening = record { shape = c.in-Ok.layout; members = [] } in let made = c.at_rest.ensures in
    let laid : IsLayout (shape_of c.args.bits 1 1 0) = search rules in
    let first = begins_history f o (subst IsLayout (sym c.in-Ok.ensures.layout) laid) (no_keys o.shape.bits) none_fit (omega arith) in
    let no_members : c.at_rest.result.members ≡ [] = made.members ∙ ap (λ (z : SeatView). pairs_of_cut (last_cut (knows z).history)) c.in-Ok-open.ensures.lead ∙ ap (λ (z : List Cut). pairs_of_cut (last_cut z)) first
    ∙ none_shown o.shape.bits in
    let ended : EndedFacts = c.at_rest.result in
    λ j. record ended { bits = made.bits j; members = no_members j; inserts = made.no_inserts j; removals = made.no_removals j; missing = made.none_missing j; calls = made.no_calls j }
