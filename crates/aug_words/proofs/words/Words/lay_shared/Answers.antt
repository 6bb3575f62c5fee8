use Rattle.std.proofs.Common.{arith, ap, refl, subst, ◌+◌, ◌-◌, ◌*◌, ◌∙◌, ◌≡◌, ◌∷◌, [], ℕ, List}
use Rattle.aug_core.specs.Faces.{face}
use Rattle.aug_core.specs.Places.{Shape, record_start, record_words}
use Rattle.aug_words.specs.inside.Builds.{WritesFive}
use Rattle.aug_core.proofs.FaceLemmas.{face_is}
use Rattle.aug_words.specs.Seats.{Store}
use Rattle.aug_words.specs.inside.Laying.{words_in}
use Rattle.aug_words.proofs.Lays.{changes_none, changes_on, shares_more, shares_none}
use Rattle.aug_words.proofs.words.Words.lay_shared.Goals as goal

pub loop-level-init : goal.loop-level-init
loop-level-init g c = record { in_range = omega arith; may = c.requires.may; changes = changes_none _ _ _; shares = shares_none _ c.args.self.now.shape _ }

pub put_five-requires-clause-inside : goal.put_five-requires-clause-inside
put_five-requires-clause-inside g c = let s : Shape = c.args.self.now.shape in let begin : c.self.inside.records ≡ record_start s 0 = c.self.invariant.records_are ∙ ap (λ (z : Store). record_start z.shape 0) c.self.view_is in
    let bits : c.bits-level-end.result ≡ s.bits = c.bits-level-end.ensures ∙ ap (λ (z : Store). z.shape.bits) c.self.view_is in let up = c.loop-level-test.true in omega arith

pub loop-level-preserved : goal.loop-level-preserved
loop-level-preserved g c =
    let m = g.A.Monoid in let n = g.B.Monoid in let s : Shape = c.args.self.now.shape in let level : ℕ = c.loop-level.level in let v = c.loop-level.invariant in
    let begin : c.self.inside.records ≡ record_start s 0 = c.self.invariant.records_are ∙ ap (λ (z : Store). record_start z.shape 0) c.self.view_is in
    let bits : c.bits-level-end.result ≡ s.bits = c.bits-level-end.ensures ∙ ap (λ (z : Store). z.shape.bits) c.self.view_is in let up = c.loop-level-test.true in
    let below : c.saturating_sub-below.result ≡ level - 1 = c.saturating_sub-below.ensures in
    let five : List ℕ = c.saturating_sub-below.result ∷ c.saturating_sub-below.result ∷ 0 ∷ c.to_word.result ∷ c.to_word-in-loop-level.result ∷ [] in
    let start : c.self.inside.records + record_words * level ≡ record_start s level = omega arith in record {
      in_range = omega arith;
      may = c.put_five.ensures.may;
      changes = changes_on _ _ _ _ _ v.changes c.put_five.ensures.changes;
      shares = shares_more (face m.parts n.parts) s level five _ _ _ v.shares (subst (λ (z : ℕ). WritesFive (words_in c.args.base s c.loop-level.seat.me.0) (words_in c.args.base s c.put_five.new.seat.me.0) z five) start c.put_five.ensures.writes)
          ((λ i. below i ∷ below i ∷ 0 ∷ c.to_word.result ∷ c.to_word-in-loop-level.result ∷ [])
          ∙ face_is m.parts n.parts (level - 1) (level - 1) 0 c.to_word.result c.to_word-in-loop-level.result [] refl (c.to_word.ensures ∙ ap m.parts.to_word c.unit.ensures) (c.to_word-in-loop-level.ensures ∙ ap n.parts.to_word c.unit-in-loop-level.ensures));
    }
