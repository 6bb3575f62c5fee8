-- Keys that go down a tree together: each way stays one while another goes on.
use Rattle.std.proofs.Common.{◌≡◌, ℕ, ◌+◌, ◌-◌, ◌*◌, ◌/◌, ◌^◌, ◌≤◌, ap, sym, ◌∙◌, subst, arith}
use Rattle.aug_model.specs.Keys.{SetFacts, list_of}
use Rattle.aug_model.specs.Queries.{rank_of}
use Rattle.aug_model.specs.NodeKeys.{first_key}
use Rattle.aug_query.specs.Descend.{Descends}
use Rattle.aug_query.specs.declared.loaded.Loaded.{Loaded}
use Rattle.aug_batch.specs.declared.together.Way.{Way}
use Rattle.aug_batch.specs.inside.Together.{IsWay}

-- what four steps pass on a level, beside what those above it did
pub more_passed : (passed bits level : ℕ) → level + 1 ≤ bits → 1 ≤ level → 4 * (passed * (bits - (level + 1))) + 4 * passed ≤ 4 * (passed * (bits - (level - 1 + 1)))
more_passed passed bits level most some =
    let one : bits - (level - 1 + 1) ≡ bits - (level + 1) + 1 = omega (arith, most, some) in
    let all : passed * (bits - (level + 1) + 1) ≡ passed * (bits - (level + 1)) + passed = omega arith in
    omega (arith, all, ap (λ n. passed * n) one)

module _ {Tree Name : Type 0} {set_of : Tree → SetFacts} {loads_of : Tree → Loaded} {Names : Tree → ℕ → ℕ → Name → Type 0} {KeepsRest : Tree → Tree → Type 0} where
  -- four descents, one after the other
  pub four : {n c s p : ℕ} {first second third fourth last : Tree} → ((first tree last : Tree) → KeepsRest first tree → KeepsRest tree last → KeepsRest first last)
      → Descends set_of loads_of Names KeepsRest n c s p first second → Descends set_of loads_of Names KeepsRest n c s p second third → Descends set_of loads_of Names KeepsRest n c s p third fourth → Descends set_of loads_of Names KeepsRest n c s p fourth last
      → Descends set_of loads_of Names KeepsRest (4 * n) (4 * c) (4 * s) (4 * p) first last
  four {first = first} {second = second} {third = third} {fourth = fourth} {last = last} on a b d e = record {
    same_set = e.same_set ∙ d.same_set ∙ b.same_set ∙ a.same_set;
    few_nodes = omega (arith, a.few_nodes, b.few_nodes, d.few_nodes, e.few_nodes);
    few_counts = omega (arith, a.few_counts, b.few_counts, d.few_counts, e.few_counts);
    few_summaries = omega (arith, a.few_summaries, b.few_summaries, d.few_summaries, e.few_summaries);
    few_passed = omega (arith, a.few_passed, b.few_passed, d.few_passed, e.few_passed);
    keeps_names = λ level place name has. e.keeps_names level place name (d.keeps_names level place name (b.keeps_names level place name (a.keeps_names level place name has)));
    keeps_rest = on first fourth last (on first third fourth (on first second third a.keeps_rest b.keeps_rest) d.keeps_rest) e.keeps_rest;
  }

  module _ {Counts : ℕ → ℕ → Type 0} where
    -- a way is one after a descent too
    pub way_stays : {n c s p level key : ℕ} {old new : Tree} {way : Way Name} → Descends set_of loads_of Names KeepsRest n c s p old new → IsWay set_of Names Counts old level key way → IsWay set_of Names Counts new level key way
    way_stays {level = level} {key = key} {way = way} walk is = record {
      node = walk.keeps_names _ _ _ is.node;
      counted = subst (λ set. Counts way.counted (rank_of (list_of set) (first_key level (key / 2 ^ level)))) (sym walk.same_set) is.counted;
    }
