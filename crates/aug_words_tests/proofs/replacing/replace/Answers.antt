use Rattle.std.proofs.Common.{arith, sym, subst, ◌∙◌, ◌^◌, ◌<◌, ◌*◌, ap}
use Rattle.aug_core.specs.Faces.{face}
use Rattle.aug_core.specs.Places.{Shape}
use Rattle.aug_words_tests.proofs.StepTests.{serial_is, may_replace, shape_stays}
use Rattle.aug_words_tests.proofs.replacing.replace.Goals as goal

pub overflow_mul-serial : goal.overflow_mul-serial
overflow_mul-serial g c =
    let inside = subst (λ (s : Shape). c.args.leaf < 2 ^ s.bits) (sym c.requires.shape) (let low = c.requires.leaf in omega arith) in
    let is = serial_is _ _ _ _ _ c.begin_at_leaf-word.ensures.view inside in let few = ap (λ (s : Shape). s.workers * (2 * s.updates)) c.requires.shape in omega (arith, is.0, is.1 (ap (λ (s : Shape). s.reservations) c.requires.shape), few)

pub overflow_add-serial-then-serial-eq1 : goal.overflow_add-serial-then-serial-eq1
overflow_add-serial-then-serial-eq1 g c =
    let inside = subst (λ (s : Shape). c.args.leaf < 2 ^ s.bits) (sym c.requires.shape) (let low = c.requires.leaf in omega arith) in
    let is = serial_is _ _ _ _ _ c.begin_at_leaf-word.ensures.view inside in let few = ap (λ (s : Shape). s.workers * (2 * s.updates)) c.requires.shape in
    let weight = c.from.ensures in let fits = c.ranges.weight.fits in omega (arith, is.0, is.1 (ap (λ (s : Shape). s.reservations) c.requires.shape), few, weight, fits)

pub try_leaf-requires-clause-advance : goal.try_leaf-requires-clause-advance
try_leaf-requires-clause-advance g c =
    let inside = subst (λ (s : Shape). c.args.leaf < 2 ^ s.bits) (sym c.requires.shape) (let low = c.requires.leaf in omega arith) in
    may_replace (face g.A.Monoid.parts g.B.Monoid.parts) _ _ _ _ c.begin_at_leaf-word.ensures.view inside c.from.result c.if-serial-eq1.true (ap (λ (s : Shape). s.reservations) c.requires.shape) (ap (λ (s : Shape). s.workers * (2 * s.updates)) c.requires.shape) (let weight = c.from.ensures in let fits = c.ranges.weight.fits in omega arith)

pub returns-then-serial-eq1 : goal.returns-then-serial-eq1
returns-then-serial-eq1 g c =
    let inside = subst (λ (s : Shape). c.args.leaf < 2 ^ s.bits) (sym c.requires.shape) (let low = c.requires.leaf in omega arith) in
    let may = may_replace (face g.A.Monoid.parts g.B.Monoid.parts) _ _ _ _ c.begin_at_leaf-word.ensures.view inside c.from.result c.if-serial-eq1.true (ap (λ (s : Shape). s.reservations) c.requires.shape) (ap (λ (s : Shape). s.workers * (2 * s.updates)) c.requires.shape) (let weight = c.from.ensures in let fits = c.ranges.weight.fits in omega arith) in
    record { same = (c.try_leaf.ensures.table ∙ c.begin_at_leaf-word.ensures.table, shape_stays _ _ _ _ _ c.begin_at_leaf-word.ensures.view inside _ _ _ may c.try_leaf.ensures.view) }
