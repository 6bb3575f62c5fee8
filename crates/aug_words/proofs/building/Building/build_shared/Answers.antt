use Rattle.std.proofs.Common.{arith, refl, ap, subst, ◌∙◌, ◌≡◌, ◌+◌, ◌-◌, ◌*◌, ◌<◌, ℕ, List, [], ◌∷◌}
use Rattle.aug_core.specs.Places.{record_start, record_words}
use Rattle.aug_core.specs.Faces.{face}
use Rattle.aug_words.specs.inside.Builds.{WritesFive}
use Rattle.aug_core.proofs.FaceLemmas.{face_is}
use Rattle.aug_words.proofs.Builds.{rises, shared_more}
use Rattle.aug_words.proofs.building.Building.build_shared.Goals as goal

pub returns-clause-built : goal.returns-clause-built
returns-clause-built g c =
    let m = g.A.Monoid in let n = g.B.Monoid in let b = c.args.self.now.plan in let o = b.key in let level = c.args.level in let bits = b.bits_are in let up = c.requires.level in let start = b.records_are in
    let low : level < o.shape.bits = omega arith in
    let below : c.from-below.result ≡ level - 1 = c.from-below.ensures ∙ c.saturating_sub.ensures in
    let five : List ℕ = c.from-below.result ∷ c.from-below.result ∷ 0 ∷ c.to_word.result ∷ c.to_word-2.result ∷ [] in
    shared_more (face m.parts n.parts) o (rises o b.key_set) level c.args.self.now.words.items c.write_five.new.words.items five low c.requires.built
    (subst (λ (z : ℕ). WritesFive c.args.self.now.words.items c.write_five.new.words.items z five) (let is : b.records + record_words * level ≡ record_start o.shape level = omega arith in is) c.write_five.ensures)
    ((λ i. below i ∷ below i ∷ 0 ∷ c.to_word.result ∷ c.to_word-2.result ∷ [])
    ∙ face_is m.parts n.parts (level - 1) (level - 1) 0 c.to_word.result c.to_word-2.result [] refl (c.to_word.ensures ∙ ap m.parts.to_word c.unit.ensures) (c.to_word-2.ensures ∙ ap n.parts.to_word c.unit-2.ensures))
