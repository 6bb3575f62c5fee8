-- What a walk over a tree keeps of it: lemmas for no walk at all, and for two walks one after the other; and that the nodes which they name stand in
-- the tree.
use Rattle.std.proofs.Common.{ℕ, List, refl, subst, ◌∙◌, arith}
use Rattle.std.specs.Borrow.{MutBor}
use Rattle.aug_model.specs.Keys.{SetFacts, list_of}
use Rattle.aug_model.specs.declared.summary.Summary.{Summary}
use Rattle.aug_query.specs.Tree.{IsNodeOf, sum_of}
use Rattle.aug_model.specs.NodeKeys.{keys_below}
use Rattle.aug_query.specs.NodeWalk.{KeepsWalk}
use Rattle.aug_query.specs.inside.NodePlaces.{NamesNode}
use Rattle.aug_query.specs.declared.loaded.Loaded.{Loaded}

module _ {Tree Node : Type 0} {calls_of : Tree → ℕ} {HasNode : Tree → Node → Type 0} {KeepsRest : Tree → Tree → Type 0} where
  pub kept_so : ((tree : Tree) → KeepsRest tree tree) → (t : MutBor Tree) (loads : Loaded) → KeepsWalk calls_of HasNode KeepsRest t t loads loads
  kept_so so t loads = record { same_reference = refl; counts = omega arith; few_calls = omega arith; keeps_nodes = λ node has. has; keeps_rest = so t.now }

  pub kept_on : ((first tree last : Tree) → KeepsRest first tree → KeepsRest tree last → KeepsRest first last) → (t u v : MutBor Tree) (k l m : Loaded) → KeepsWalk calls_of HasNode KeepsRest t u k l → KeepsWalk calls_of HasNode KeepsRest u v l m → KeepsWalk calls_of HasNode KeepsRest t v k m
  kept_on on t u v k l m a b = record {
    same_reference = b.same_reference ∙ a.same_reference;
    counts = let x = a.counts in let y = b.counts in omega arith;
    few_calls = let x = a.few_calls in let y = b.few_calls in omega arith;
    keeps_nodes = λ node has. b.keeps_nodes node (a.keeps_nodes node has);
    keeps_rest = on t.now u.now v.now a.keeps_rest b.keeps_rest;
  }

-- a node stands in the tree, and has the summary of what it covers
pub stands : {A B : Type 0} {sum : List (ℕ × ℕ) → Summary A B} {Tree Node : Type 0} {set_of : Tree → SetFacts} {HasNode : Tree → Node → Type 0} {level_of place_of : Node → ℕ} {summary_in : Node → Summary A B}
    → ((tree : Tree) (node : Node) → HasNode tree node → IsNodeOf sum (set_of tree) (level_of node) (place_of node) (summary_in node))
    → (tree : Tree) (level place : ℕ) (node : Node) → NamesNode HasNode level_of place_of tree level place node → IsNodeOf sum (set_of tree) level place (sum_of sum (set_of tree).pairs (keys_below (list_of (set_of tree)) level place))
stands {sum = sum} {set_of = set_of} {level_of = level_of} {place_of = place_of} {summary_in = summary_in} tells tree level place node is =
    let set = set_of tree in
    let at = subst (λ (l : ℕ). IsNodeOf sum set l (place_of node) (summary_in node)) is.at_level (tells tree node is.has) in
    let here = subst (λ (p : ℕ). IsNodeOf sum set level p (summary_in node)) is.at_place at in
    record { is_tree_set = here.is_tree_set; level_fits = here.level_fits; place_fits = here.place_fits; tells = refl }
