-- What a walk keeps of a pass: lemmas for no walk at all, and for walks one after the other.
use Rattle.std.proofs.Common.{◌≡◌, ℕ, ◌+◌, ◌*◌, ◌^◌, ◌<◌, ◌≤◌, List, [], ◌++◌, append_assoc, sym, refl, ap, subst, ◌∙◌, ⊎_elim, arith}
use Rattle.std.proofs.Math.Nat.{mul-le-mul_right}
use Rattle.std.proofs.Math.Pow.{pow_mono}
use Rattle.std.proofs.lemmas.Bool.{cases_lt}
use Rattle.std.proofs.lemmas.List.{append-nil}
use Rattle.std.specs.Borrow.{MutBor}
use Rattle.aug_core.specs.declared.step.StepTaken.{StepTaken}
use Rattle.aug_core.proofs.Sizes.{twice, some_leaf}
use Rattle.aug_model.specs.declared.summary.Summary.{Summary}
use Rattle.aug_trie.specs.Pass.{PassFacts}
use Rattle.aug_trie.specs.Node.{HasNode, Stays}
use Rattle.aug_trie.specs.Snapshot.{set_at}
use Rattle.aug_trie.specs.declared.queries.node.Node.{Node}
use Rattle.aug_model.specs.Queries.{weight_in}
use Rattle.aug_model.specs.Keys.{list_of}
use Rattle.aug_model.proofs.Pairs.{range-again}
use Rattle.aug_model.proofs.Ranges.{rises_from}
use Rattle.aug_query.specs.Tree.{IsNodeOf, sum_of}
use Rattle.aug_model.specs.NodeKeys.{keys_below, first_key, end_key}
use Rattle.aug_trie.specs.LeafWords.{weight_in_word}
use Rattle.aug_trie.specs.View.{KeepsPass}
use Rattle.aug_trie.specs.declared.queries.snapshot.Snapshot.{Snapshot}

-- a node whose keys are below 2 ^ bits stands no higher than the root
level_within : (bits level place : ℕ) → (place + 1) * 2 ^ level ≤ 2 ^ bits → level ≤ bits
level_within bits level place fits = ⊎_elim
    (λ (past : bits < level). let up : 2 ^ (bits + 1) ≤ 2 ^ level = pow_mono {i = bits + 1} {j = level} (omega arith) in let double = twice bits in let some = some_leaf bits in
    let one : 1 ≤ place + 1 = omega arith in let wide : 1 * 2 ^ level ≤ (place + 1) * 2 ^ level = mul-le-mul_right (2 ^ level) one in absurd (omega arith))
    (λ (le : level ≤ bits). le) (cases_lt bits level)

module _ {A B : Type 0} (summary_of : List (ℕ × ℕ) → Summary A B) where
  pub stays_so : (p : PassFacts) → Stays summary_of p p
  stays_so p = record {
    same = refl;
    steps_stay = ([], sym (append-nil p.steps));
    keeps = record { snapshots = λ s has. has; same_cuts = λ s has. refl; same_sets = λ s has. refl; nodes = λ node has. has; weights = λ key serial weight has. has };
  }

  pub stays_on : (p q r : PassFacts) → Stays summary_of p q → Stays summary_of q r → Stays summary_of p r
  stays_on p q r a b = record {
    same = b.same ∙ ap (λ (z : PassFacts). record z { steps = r.steps; words = r.words }) a.same;
    steps_stay = (a.steps_stay.0 ++ b.steps_stay.0, b.steps_stay.1 ∙ ap (λ (z : List StepTaken). z ++ b.steps_stay.0) a.steps_stay.1 ∙ append_assoc p.steps a.steps_stay.0 b.steps_stay.0);
    keeps = record {
      snapshots = λ s has. b.keeps.snapshots s (a.keeps.snapshots s has);
      same_cuts = λ s has. b.keeps.same_cuts s (a.keeps.snapshots s has) ∙ a.keeps.same_cuts s has;
      same_sets = λ s has. b.keeps.same_sets s (a.keeps.snapshots s has) ∙ a.keeps.same_sets s has;
      nodes = λ node has. b.keeps.nodes node (a.keeps.nodes node has);
      weights = λ key serial weight has. b.keeps.weights key serial weight (a.keeps.weights key serial weight has);
    };
  }

  pub kept_so : (p : MutBor PassFacts) (s : Snapshot) (calls : ℕ) → KeepsPass summary_of p p s s calls calls
  kept_so p s calls = record { same_reference = refl; same_snapshot = refl; stays = stays_so p.now; few_steps = omega arith }

  pub kept_on : (p q r : MutBor PassFacts) (s t u : Snapshot) (k l m : ℕ) → KeepsPass summary_of p q s t k l → KeepsPass summary_of q r t u l m → KeepsPass summary_of p r s u k m
  kept_on p q r s t u k l m a b = record {
    same_reference = b.same_reference ∙ a.same_reference;
    same_snapshot = b.same_snapshot ∙ a.same_snapshot;
    stays = stays_on p.now q.now r.now a.stays b.stays;
    few_steps = let x = a.few_steps in let y = b.few_steps in omega arith;
  }

  -- a leaf of a view's pass has the weight of its key in the snapshot's set
  pub leaf_weighs : (p : PassFacts) (s : Snapshot) (node : Node A B) → node.snapshot ≡ s → HasNode summary_of p node → node.level ≡ 0 → weight_in_word node.word ≡ weight_in (set_at p s).pairs node.place
  leaf_weighs p s node same has level = subst (λ (z : Snapshot). weight_in_word node.word ≡ weight_in (set_at p z).pairs node.place) same (has.weighs level)

  told : (p : PassFacts) (node : Node A B) (has : HasNode summary_of p node) → node.summary ≡ sum_of summary_of (set_at p node.snapshot).pairs (keys_below (list_of (set_at p node.snapshot)) node.level node.place)
  told p node has = let set = set_at p node.snapshot in has.tells.tells
      ∙ ap summary_of (range-again set.pairs (first_key node.level node.place) (end_key node.level node.place) (rises_from (list_of set) has.is_tree_set.is_key_set.rising))

  -- a node of a view's pass is one of the tree of its snapshot's set
  pub node_of : (p : PassFacts) (s : Snapshot) (node : Node A B) → node.snapshot ≡ s → HasNode summary_of p node → IsNodeOf summary_of (set_at p s) node.level node.place node.summary
  node_of p s node same has = subst (λ (z : Snapshot). IsNodeOf summary_of (set_at p z) node.level node.place node.summary) same
      record { is_tree_set = has.is_tree_set; level_fits = level_within (set_at p node.snapshot).bits node.level node.place has.tells.place_fits; place_fits = has.tells.place_fits; tells = told p node has }
