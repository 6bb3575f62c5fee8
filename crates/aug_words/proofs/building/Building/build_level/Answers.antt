use Rattle.std.proofs.Common.{arith, ap, ◌∙◌, subst, ◌≡◌, ◌<◌, ◌+◌, ◌-◌, ◌^◌, ℕ, suc}
use Rattle.aug_core.specs.Places.{level_start}
use Rattle.std.proofs.lemmas.Nat.{one_shl}
use Rattle.aug_core.specs.Faces.{face}
use Rattle.aug_words.specs.inside.Builds.{IsBuilt}
use Rattle.aug_words.proofs.Builds.{next_level}
use Rattle.aug_words.proofs.building.Building.build_level.Goals as goal

pub returns-clause-built : goal.returns-clause-built
returns-clause-built g c =
    let b = c.args.self.now.plan in let s = b.key.shape in let level = c.args.level in let i = c.loop-place.invariant in let last = i.last in let within = i.in_range in let past = c.loop-place-test.false in
    let up = c.requires.level in let bits = b.bits_are in let few = b.laid_out.bits.1 in let low : level < s.bits = omega arith in
    let shifted = one_shl (b.bits - 1 - level) 64 (omega arith) in let pow = ap (λ (z : ℕ). 2 ^ (z - 1 - level)) bits in
    let nodes : c.loop-place.place ≡ 2 ^ (s.bits - 1 - level) = omega arith in
    subst (λ (z : ℕ). IsBuilt (face g.A.Monoid.parts g.B.Monoid.parts) b.key s.bits z c.loop-place.self.words.items) (ap (λ (z : ℕ). level_start s (suc level) + z) nodes ∙ next_level s level low) i.built
