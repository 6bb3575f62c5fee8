use Rattle.std.proofs.Common.{arith, refl, sym, ap, ap₂, subst, ◌∙◌, ◌≡◌, ◌+◌, ◌-◌, ◌*◌, ◌%◌, ◌<◌, ◌^◌, min, ℕ, List, true, suc}
use Rattle.std.proofs.lemmas.Nat.{one_shl}
use Rattle.aug_core.specs.Places.{Shape, level_start}
use Rattle.aug_model.specs.Keys.{is_member, keys_of}
use Rattle.aug_core.specs.Faces.{face}
use Rattle.aug_core.proofs.Sizes.{own_none, own_next, own_few_more}
use Rattle.aug_words.specs.declared.building.Plan.{Plan}
use Rattle.aug_words.specs.inside.Builds.{HasStarts, next_own, IsMarked, IsBuilt}
use Rattle.aug_words.proofs.Builds.{rises, built_none, members_below_keys, next_level, first_nodes, last_nodes}
use Rattle.aug_words.proofs.building.Building.over.Goals as goal

pub loop-level-init : goal.loop-level-init
loop-level-init g c = let b = c.marked-building.result.plan in let words = c.marked-building.result.words.items in let e = c.marked-building.ensures in record {
  in_range = omega arith;
  last = refl;
  shape = e.key.0;
  members = e.key.1;
  starts = e.starts;
  built = built_none _ b.key (rises b.key b.key_set) words
      (subst (λ (s : Shape). (key : ℕ) → is_member (keys_of b.key.members) key ≡ true → key < 2 ^ s.bits) (sym e.key.0)
      (subst (λ (ms : List (ℕ × ℕ)). (key : ℕ) → is_member (keys_of ms) key ≡ true → key < 2 ^ c.args.layout.now.bits) (sym e.key.1) (members_below_keys c.args.layout.now (keys_of c.args.members.now) c.requires.keys)))
      (subst (λ (s : Shape). IsMarked s b.key.members words) (sym e.key.0) (subst (λ (ms : List (ℕ × ℕ)). IsMarked c.args.layout.now ms words) (sym e.key.1) e.words));
}

pub loop-level-preserved : goal.loop-level-preserved
loop-level-preserved g c =
    let m = g.A.Monoid in let n = g.B.Monoid in let b = c.build_shared.new.self.plan in let words = c.build_shared.new.self.words.items in let i = c.loop-level.invariant in let under = c.loop-level-test.true in
    let same = c.build_shared.ensures.same in let was = ap (λ (z : Plan). z.bits) same in let last = i.last in record {
      in_range = omega arith;
      last = i.last ∙ sym was;
      shape = ap (λ (z : Plan). z.key.shape) same ∙ i.shape;
      members = ap (λ (z : Plan). z.key.members) same ∙ i.members;
      starts = subst (λ (z : Plan). HasStarts c.args.layout.now z.lanes z.records) (sym same) i.starts;
      built = subst (λ (z : Plan). IsBuilt (face m.parts n.parts) z.key (c.loop-level.level + 1) (2 ^ z.key.shape.bits) words) (sym same) c.build_shared.ensures.built;
    }

pub loop-level-2-init : goal.loop-level-2-init
loop-level-2-init g c =
    let m = g.A.Monoid in let n = g.B.Monoid in let b = c.loop-level.building.plan in let words = c.loop-level.building.words.items in let o = b.key in let s = o.shape in let i = c.loop-level.invariant in let within = i.in_range in let last = i.last in let past = c.loop-level-test.false in
    let bits = b.bits_are in let few = b.laid_out.bits.1 in let begin = c.from-next.ensures in let none = own_none s.bits s.members in
    let all : c.loop-level.level ≡ s.bits = omega arith in let from : 2 ^ s.bits ≡ level_start s (suc 0) = sym (first_nodes s) in record {
      in_range = omega arith;
      last = refl;
      shape = i.shape;
      members = i.members;
      starts = i.starts;
      first = b.leaves_are ∙ from;
      next = omega arith;
      few = omega arith;
      built = subst (λ (z : ℕ × ℕ). IsBuilt (face m.parts n.parts) o z.0 z.1 words) (λ k. (all k, from k)) i.built;
    }

pub loop-level-2-preserved : goal.loop-level-2-preserved
loop-level-2-preserved g c =
    let m = g.A.Monoid in let n = g.B.Monoid in let b = c.build_level.new.self.plan in let words = c.build_level.new.self.words.items in let o = b.key in let s = o.shape in let i = c.loop-level-2.invariant in let level = c.loop-level-2.level in let under = c.loop-level-2-test.true in
    let same = c.build_level.ensures.same in let was = ap (λ (z : Plan). z.bits) same in let last = i.last in let bits = b.bits_are in let few_bits = b.laid_out.bits.1 in
    let low : level < s.bits = omega arith in
    let shape = ap (λ (z : Plan). z.key.shape) same ∙ i.shape in
    let first : c.loop-level-2.first ≡ level_start s (suc level) = i.first ∙ ap (λ (z : Plan). level_start z.key.shape (suc level)) (sym same) in
    let next : c.loop-level-2.next ≡ next_own o level 0 = i.next ∙ ap (λ (z : Plan). next_own z.key level 0) (sym same) in
    let shifted = one_shl (b.bits - 1 - level) 32 (omega arith) in
    let nodes : (1 * 2 ^ (b.bits - 1 - level)) % 2 ^ 32 ≡ 2 ^ (s.bits - 1 - level) = shifted ∙ ap (λ (z : ℕ). 2 ^ (z - 1 - level)) bits in
    let more : c.from-next-in-loop-level-2.result ≡ min s.members (2 ^ (s.bits - 1 - level)) = c.from-next-in-loop-level-2.ensures ∙ c.min.ensures ∙ ap₂ min (c.members.ensures ∙ ap (λ (z : Shape). z.members) (sym shape)) nodes in
    let own = own_next s.bits s.members level low in let small = own_few_more s.bits s.members level few_bits in let few = i.few in record {
      in_range = omega arith;
      last = i.last ∙ ap (λ (z : Plan). z.bits) (sym same);
      shape = shape;
      members = ap (λ (z : Plan). z.key.members) same ∙ i.members;
      starts = subst (λ (z : Plan). HasStarts c.args.layout.now z.lanes z.records) (sym same) i.starts;
      first = ap₂ (λ (x y : ℕ). x + y) first nodes ∙ next_level s level low;
      next = omega arith;
      few = omega arith;
      built = subst (λ (z : Plan). IsBuilt (face m.parts n.parts) z.key z.key.shape.bits (level_start z.key.shape (suc (level + 1))) words) (sym same) c.build_level.ensures.built;
    }

pub returns-clause-built : goal.returns-clause-built
returns-clause-built g c =
    let m = g.A.Monoid in let n = g.B.Monoid in let b = c.loop-level-2.building.plan in let words = c.loop-level-2.building.words.items in let s = b.key.shape in let i = c.loop-level-2.invariant in let within = i.in_range in let last = i.last in let past = c.loop-level-2-test.false in let bits = b.bits_are in
    let all : c.loop-level-2.level ≡ s.bits = omega arith in
    subst (λ (z : ℕ). IsBuilt (face m.parts n.parts) b.key s.bits z words) (ap (λ (z : ℕ). level_start s (suc z)) all ∙ last_nodes s) i.built
