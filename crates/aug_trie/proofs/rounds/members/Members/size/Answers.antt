use Rattle.std.proofs.Common.{arith, ◌≡◌, ℕ, ◌≤◌, ◌^◌, List, length}
use Rattle.std.proofs.Math.Pow.{pow_mono}
use Rattle.aug_model.specs.Keys.{keys_of}
use Rattle.aug_model.proofs.Boundaries.{IsKeySet-few}
use Rattle.aug_model.proofs.Pairs.{length-keys_of}
use Rattle.aug_trie.proofs.rounds.members.Members.size.Goals as goal

pub overflow_cast-result : goal.overflow_cast-result
overflow_cast-result c = let bits : ℕ = c.self.inside.bits in let list : List (ℕ × ℕ) = c.self.inside.pairs.items in
    let few : length (keys_of list) ≤ 2 ^ bits = IsKeySet-few bits (keys_of list) c.self.invariant.is_key_set in
    let same : length (keys_of list) ≡ length list = length-keys_of list in
    let room : 2 ^ bits ≤ 2 ^ 16 = pow_mono {i = bits} {j = 16} c.self.invariant.few_bits in
    omega (arith, c.len.ensures)
