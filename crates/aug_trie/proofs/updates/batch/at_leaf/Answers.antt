use Rattle.std.proofs.Common.{sym, subst, ap, ◌∙◌}
use Rattle.aug_core.specs.Faces.{face}
use Rattle.aug_core.specs.declared.view.SeatView.{SeatView}
use Rattle.aug_words.specs.Seats.{MayAdvance}
use Rattle.aug_trie.proofs.Leaving.{left_at_once, left_tried}
use Rattle.aug_trie.proofs.Updating.{advances}
use Rattle.aug_trie.proofs.updates.batch.at_leaf.Goals as goal

pub returns-then-not-goes_on-clause-at : goal.returns-then-not-goes_on-clause-at
returns-then-not-goes_on-clause-at g c = record { table = c.begin_at_leaf-word.ensures.table; view = left_at_once c.args.request c.requires.key c.requires.knows c.begin_at_leaf-word.ensures.view (sym c.goes_on.ensures ∙ c.if-not-goes_on.true) c.at_once-outcome.ensures }

pub word_after-next-requires : goal.word_after-next-requires
word_after-next-requires g c = sym c.goes_on.ensures ∙ c.if-not-goes_on.false

pub try_leaf-done-requires-clause-advance : goal.try_leaf-done-requires-clause-advance
try_leaf-done-requires-clause-advance g c = let w0 : SeatView = c.begin_at_leaf-word.new.self.view in let word = c.begin_at_leaf-word.result in subst (MayAdvance w0 c.args.key word) (sym c.word_after-next.ensures)
    (advances (face g.A.Monoid.parts g.B.Monoid.parts) c.args.pass.now.view w0 c.args.key word c.args.request c.requires.key c.requires.knows c.begin_at_leaf-word.ensures.view c.amount_in-amount.ensures (sym c.goes_on.ensures ∙ c.if-not-goes_on.false))

pub returns-then-done-clause-at : goal.returns-then-done-clause-at
returns-then-done-clause-at g c = let lane = c.requires.may.lane in
    record {
      table = c.try_leaf-done.ensures.table ∙ c.begin_at_leaf-word.ensures.table;
      view = left_tried c.args.request c.requires.key c.requires.knows c.begin_at_leaf-word.ensures.view c.amount_in-amount.ensures (sym c.goes_on.ensures ∙ c.if-not-goes_on.false) c.word_after-next.ensures lane
          (ap (λ (z : SeatView). z.held) c.begin_at_leaf-word.ensures.view.stepped ∙ c.requires.may.only) c.try_leaf-done.ensures.view c.outcome_of-outcome.ensures;
    }

pub returns-else-done-clause-at : goal.returns-else-done-clause-at
returns-else-done-clause-at g c = let lane = c.requires.may.lane in
    record {
      table = c.try_leaf-done.ensures.table ∙ c.begin_at_leaf-word.ensures.table;
      view = left_tried c.args.request c.requires.key c.requires.knows c.begin_at_leaf-word.ensures.view c.amount_in-amount.ensures (sym c.goes_on.ensures ∙ c.if-not-goes_on.false) c.word_after-next.ensures lane
          (ap (λ (z : SeatView). z.held) c.begin_at_leaf-word.ensures.view.stepped ∙ c.requires.may.only) c.try_leaf-done.ensures.view c.outcome_of-outcome.ensures;
    }
