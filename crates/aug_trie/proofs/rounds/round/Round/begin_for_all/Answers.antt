use Rattle.std.proofs.Common.{◌≡◌, ◌^◌, ◌≤◌, ◌∙◌, ℕ, List, length, arith, ap, subst}
use Rattle.aug_model.specs.Keys.{keys_of}
use Rattle.aug_model.proofs.Boundaries.{IsKeySet-few}
use Rattle.aug_model.proofs.Pairs.{length-keys_of}
use Rattle.aug_core.specs.Places.{Shape}
use Rattle.aug_trie.proofs.rounds.round.Round.begin_for_all.Goals as goal

pub over-requires-clause-few : goal.over-requires-clause-few
over-requires-clause-few g c =
    let bits : ℕ = c.args.members.bits in let list : List (ℕ × ℕ) = c.args.members.pairs in
    let few : length list ≤ 2 ^ bits = subst (λ (z : ℕ). z ≤ 2 ^ bits) (length-keys_of list) (IsKeySet-few bits (keys_of list) c.universe.ensures.keys) in
    let same : length c.as_slice.result.now ≡ length list = ap (λ (z : List (ℕ × ℕ)). length z) c.as_slice.ensures in
    let room : c.in-Ok.layout.members ≡ 2 ^ bits = ap (λ (z : Shape). z.members) c.in-Ok.ensures.layout ∙ c.universe.ensures.value in omega (arith, few, same, room)
