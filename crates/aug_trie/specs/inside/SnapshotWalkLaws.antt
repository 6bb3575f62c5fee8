-- What a walk over a snapshot keeps: lemmas for no walk at all, and for two walks one after the other; and that the nodes which they name stand in
-- its tree.
use Rattle.std.proofs.Common.{ℕ, List, [], ◌++◌, length-append, append_assoc, refl, ap, sym, ◌∙◌, arith}
use Rattle.std.proofs.lemmas.List.{append-nil}
use Rattle.aug_core.specs.declared.step.StepTaken.{StepTaken}
use Rattle.aug_core.specs.declared.view.SeatView.{SeatView}
use Rattle.aug_model.specs.Keys.{list_of}
use Rattle.aug_model.specs.declared.summary.Summary.{Summary}
use Rattle.aug_query.specs.Tree.{IsNodeOf, sum_of}
use Rattle.aug_model.specs.NodeKeys.{keys_below}
use Rattle.aug_query.specs.declared.loaded.Loaded.{Loaded}
use Rattle.aug_query.proofs.Placed.{row_in_keys}
use Rattle.aug_words.specs.Seats.{Known}
use Rattle.aug_trie.specs.inside.SnapshotWalk.{set_seen, IsNamed, KeepsWords}
use Rattle.aug_trie.specs.declared.queries.snapshot.Snapshot.{Snapshot}

pub kept_so : (p : Known) (s : Snapshot) (l : Loaded) → KeepsWords p p s s l l
kept_so p s l = record {
  same_table = refl;
  same_snapshot = refl;
  more = [];
  steps = ap (λ (z : List StepTaken). record p.view { steps = z }) (sym (append-nil p.view.steps));
  few_steps = omega arith;
}

pub kept_on : (p q r : Known) (s t u : Snapshot) (k l m : Loaded) → KeepsWords p q s t k l → KeepsWords q r t u l m → KeepsWords p r s u k m
kept_on p q r s t u k l m a b = record {
  same_table = b.same_table ∙ a.same_table;
  same_snapshot = b.same_snapshot ∙ a.same_snapshot;
  more = a.more ++ b.more;
  steps = b.steps ∙ (λ i. record (a.steps i) { steps = (a.steps i).steps ++ b.more }) ∙ ap (λ (z : List StepTaken). record p.view { steps = z }) (append_assoc p.view.steps a.more b.more);
  few_steps = let x = a.few_steps in let y = b.few_steps in let long = length-append a.more b.more in omega arith;
}

pub stands : {A B : Type 0} (f : ℕ → ℕ → List (ℕ × ℕ) → List ℕ) (number : ℕ → ℕ) (sum : List (ℕ × ℕ) → Summary A B) (v : SeatView) (s : Snapshot) (level place word : ℕ) → IsNamed f number v s level place word
    → IsNodeOf sum (set_seen v s) level place (sum_of sum (set_seen v s).pairs (keys_below (list_of (set_seen v s)) level place))
stands f number sum v s level place word named =
    let at = named.holds.node.part.word in
    record { is_tree_set = named.is_tree_set; level_fits = at.level_fits; place_fits = row_in_keys v.shape.bits level place at.level_fits at.place_fits; tells = refl }
