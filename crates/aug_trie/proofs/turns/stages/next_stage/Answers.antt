use Rattle.std.proofs.Common.{◌≡◌, ◌∙◌, [], ◌∷◌, ◌++◌, sym, ap, subst, ℕ, Option}
use Rattle.aug_core.specs.Faces.{face}
use Rattle.aug_core.specs.Kinds.{try_leaf}
use Rattle.aug_core.specs.declared.view.SeatView.{SeatView}
use Rattle.aug_words.specs.Seats.{MayAdvance, TriedLeaf}
use Rattle.aug_trie.specs.Requests.{word_after}
use Rattle.aug_trie.specs.inside.Stages.{Ascends}
use Rattle.aug_trie.specs.declared.turns.ascents.Ascent.{Ascent}
use Rattle.aug_trie.proofs.Staging.{room_one, stage_is, begun_change, begun_up, may_advance, exchanged_word, tried_steps, try_step, tried_up, rising_on, risen_up}
use Rattle.aug_trie.proofs.turns.stages.next_stage.Goals as goal

pub ascend-requires-clause-small : goal.ascend-requires-clause-small
ascend-requires-clause-small g c = let t = c.requires.at.2 in (room_one (face g.A.Monoid.parts g.B.Monoid.parts) c.requires.at.1 c.args.leaves c.args.bits c.args.number c.requires.at.0 t.is_pass t.some).1

pub ascend-requires-clause-on_way : goal.ascend-requires-clause-on_way
ascend-requires-clause-on_way g c = let t = stage_is (face g.A.Monoid.parts g.B.Monoid.parts) c.in-Up.is c.requires.at.2 in (c.args.key, t.is_stage.leaf, t.is_stage.on_way)

pub returns-else-goes_on-clause-on : goal.returns-else-goes_on-clause-on
returns-else-goes_on-clause-on g c = λ left u t. let f = face g.A.Monoid.parts g.B.Monoid.parts in let is = c.from_leaf.ensures in
    begun_up f (stage_is f c.in-Leaf.is t) c.begin_at_leaf-word.ensures.view c.at_once.result c.from_leaf.result (sym c.goes_on.ensures ∙ c.if-goes_on.false) c.at_once.ensures is.level is.node is.second is.point

pub returns-in-Change-clause-on : goal.returns-in-Change-clause-on
returns-in-Change-clause-on g c = λ left u t. let f = face g.A.Monoid.parts g.B.Monoid.parts in let is = c.from_leaf-in-Change.ensures in
    let tried = subst (λ (z : ℕ). TriedLeaf f c.args.pass.now.view c.args.key c.in-Change.word z c.try_leaf-done.result c.try_leaf-done.new.self.view) c.word_after.ensures c.try_leaf-done.ensures.view in
    tried_up f (stage_is f c.in-Change.is t) tried c.outcome_of-outcome.result c.from_leaf-in-Change.result c.outcome_of-outcome.ensures is.level is.node is.second is.point

pub returns-in-Change-clause-step : goal.returns-in-Change-clause-step
returns-in-Change-clause-step g c = let f = face g.A.Monoid.parts g.B.Monoid.parts in
    let tried = subst (λ (z : ℕ). TriedLeaf f c.args.pass.now.view c.args.key c.in-Change.word z c.try_leaf-done.result c.try_leaf-done.new.self.view) c.word_after.ensures c.try_leaf-done.ensures.view in
    record { table = c.try_leaf-done.ensures.table; view = try_step f (stage_is f c.in-Change.is c.requires.at.2) tried }

pub returns-in-Change-clause-second : goal.returns-in-Change-clause-second
returns-in-Change-clause-second g c = λ word is. let f = face g.A.Monoid.parts g.B.Monoid.parts in let old : SeatView = c.args.pass.now.view in let w : SeatView = c.try_leaf-done.new.self.view in
    let tried = subst (λ (z : ℕ). TriedLeaf f old c.args.key c.in-Change.word z c.try_leaf-done.result w) c.word_after.ensures c.try_leaf-done.ensures.view in
    subst (λ (z : ℕ). (x : ℕ) × (w.steps ≡ old.steps ++ try_leaf c.args.key z (word_after c.args.request c.args.key z) x ∷ [])) (ap exchanged_word (sym c.in-Change.is ∙ is)) (tried.found, tried_steps f (stage_is f c.in-Change.is c.requires.at.2) tried)

pub try_leaf-done-requires-clause-advance : goal.try_leaf-done-requires-clause-advance
try_leaf-done-requires-clause-advance g c = let f = face g.A.Monoid.parts g.B.Monoid.parts in
    subst (MayAdvance c.args.pass.now.view c.args.key c.in-Change.word) (sym c.word_after.ensures) (may_advance f (stage_is f c.in-Change.is c.requires.at.2))

pub returns-in-Some-clause-on : goal.returns-in-Some-clause-on
returns-in-Some-clause-on g c = λ left u t. let f = face g.A.Monoid.parts g.B.Monoid.parts in let up = stage_is f c.in-Up.is t in let leaf : SeatView = up.is_stage.leaf in
    rising_on f up c.in-Some.ascent c.ascend.ensures.step.view
    (subst (λ (z : Option Ascent). Ascends f c.args.bits c.args.number c.args.key leaf z c.ascend.new.pass.view) c.in-Some.is (c.ascend.ensures.on c.args.key leaf up.is_stage.on_way))

pub returns-in-None-clause-on : goal.returns-in-None-clause-on
returns-in-None-clause-on g c = λ left u t. let f = face g.A.Monoid.parts g.B.Monoid.parts in let up = stage_is f c.in-Up.is t in let leaf : SeatView = up.is_stage.leaf in
    risen_up f up (subst (λ (z : Option Ascent). Ascends f c.args.bits c.args.number c.args.key leaf z c.ascend.new.pass.view) c.in-None.is (c.ascend.ensures.on c.args.key leaf up.is_stage.on_way))

pub returns-then-goes_on-clause-on : goal.returns-then-goes_on-clause-on
returns-then-goes_on-clause-on g c = λ left u t. let f = face g.A.Monoid.parts g.B.Monoid.parts in begun_change f (stage_is f c.in-Leaf.is t) c.begin_at_leaf-word.ensures.view (sym c.goes_on.ensures ∙ c.if-goes_on.true)

pub word_after-requires : goal.word_after-requires
word_after-requires g c = let f = face g.A.Monoid.parts g.B.Monoid.parts in (stage_is f c.in-Change.is c.requires.at.2).is_stage.lets
