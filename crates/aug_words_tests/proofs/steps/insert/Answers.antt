use Rattle.std.proofs.Common.{arith, ℕ, sym, subst, ◌∙◌, ◌^◌, ◌<◌}
use Rattle.aug_core.specs.Faces.{face}
use Rattle.aug_words_tests.proofs.StepTests.{may_insert, shape_stays, stores_on}
use Rattle.aug_words_tests.proofs.steps.insert.Goals as goal

pub try_leaf-requires-clause-advance : goal.try_leaf-requires-clause-advance
try_leaf-requires-clause-advance g c =
    let inside = subst (λ (b : ℕ). c.args.leaf < 2 ^ b) (sym c.requires.bits) (let low = c.requires.leaf in omega arith) in
    may_insert (face g.A.Monoid.parts g.B.Monoid.parts) _ _ _ _ c.begin_at_leaf-word.ensures.view inside c.args.leaf c.if-serial-eq0.true (let low = c.requires.leaf in omega arith)

pub returns-then-serial-eq0-clause-same : goal.returns-then-serial-eq0-clause-same
returns-then-serial-eq0-clause-same g c =
    let inside = subst (λ (b : ℕ). c.args.leaf < 2 ^ b) (sym c.requires.bits) (let low = c.requires.leaf in omega arith) in
    let may = may_insert (face g.A.Monoid.parts g.B.Monoid.parts) _ _ _ _ c.begin_at_leaf-word.ensures.view inside c.args.leaf c.if-serial-eq0.true (let low = c.requires.leaf in omega arith) in
    (c.try_leaf.ensures.table ∙ c.begin_at_leaf-word.ensures.table, shape_stays _ _ _ _ _ c.begin_at_leaf-word.ensures.view inside _ _ _ may c.try_leaf.ensures.view)

pub returns-then-serial-eq0-clause-own : goal.returns-then-serial-eq0-clause-own
returns-then-serial-eq0-clause-own g c =
    let inside = subst (λ (b : ℕ). c.args.leaf < 2 ^ b) (sym c.requires.bits) (let low = c.requires.leaf in omega arith) in
    let may = may_insert (face g.A.Monoid.parts g.B.Monoid.parts) _ _ _ _ c.begin_at_leaf-word.ensures.view inside c.args.leaf c.if-serial-eq0.true (let low = c.requires.leaf in omega arith) in
    stores_on _ _ _ _ _ c.begin_at_leaf-word.ensures.view inside _ _ _ may c.try_leaf.ensures.view
