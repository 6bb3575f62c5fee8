-- How a walk over a trie at rest comes of the words that it loaded.
use Rattle.std.proofs.Common.{◌≡◌, ℕ, suc, ◌+◌, ◌-◌, ◌*◌, ◌<◌, ◌≤◌, List, refl, sym, ap, ◌∙◌, subst, arith}
use Rattle.aug_monoid.specs.Parts.{Parts}
use Rattle.aug_core.specs.Faces.{face}
use Rattle.aug_core.specs.Places.{record_count}
use Rattle.aug_model.specs.Folds.{summary_of}
use Rattle.aug_query.specs.Tree.{IsTreeSet}
use Rattle.aug_query.proofs.Nodes.{left_high, right_high, middle_high}
use Rattle.aug_trie.specs.Ended.{EndedFacts}
use Rattle.aug_trie.specs.inside.EndedTree.{word_in, IsVersion, NamesEnded, HasEndedNode}
use Rattle.aug_trie.specs.inside.EndedState.{pairs_at_rest, HoldsVersion}
use Rattle.aug_trie.specs.declared.rounds.ended_tree.EndedNode.{EndedNode}
use Rattle.aug_trie.proofs.Versions.{ended_set, inside_of}

module _ {A B : Type 0} (parts_a : Parts A) (parts_b : Parts B) where
  abbrev both : ℕ → ℕ → List (ℕ × ℕ) → List ℕ
  both = face parts_a parts_b

  -- a version of an inner node, with those of its children
  opened : (e : EndedFacts) (level place word : ℕ) → NamesEnded both e (level + 1) place word → IsVersion both e.rest e.members (suc level) place word
  opened e level place word has = let up : level + 1 ≡ suc level = omega arith in subst (λ (z : ℕ). IsVersion both e.rest e.members z place word) up has.is_version

  -- the record of an inner node is one of the table
  pub inner_inside : (first e : EndedFacts) (level place word : ℕ) → first ≡ e → 1 ≤ level → IsVersion both e.rest e.members level place word → word < record_count first.rest.shape
  inner_inside first e level place word same inner version = subst (λ (z : EndedFacts). word < record_count z.rest.shape) (sym same) (inside_of parts_a parts_b e.rest e.members level place word inner version)

  -- also where it is its children whose level is given
  pub record_inside : (first e : EndedFacts) (level place word : ℕ) → first ≡ e → NamesEnded both e (level + 1) place word → word < record_count first.rest.shape
  record_inside first e level place word same has = inner_inside first e (level + 1) place word same (omega arith) has.is_version

  -- its first word names its left child
  pub left_named : (first e : EndedFacts) (level place word r : ℕ) → first ≡ e → NamesEnded both e (level + 1) place word → r ≡ word_in first.rest word 0 → NamesEnded both e level (2 * place) r
  left_named first e level place word r same has is = record {
    is_tree_set = has.is_tree_set;
    level_fits = omega (arith, has.level_fits);
    place_fits = omega (arith, has.place_fits, left_high (level + 1) place level (2 * place) refl refl, middle_high (level + 1) place (omega arith));
    is_version = subst (IsVersion both e.rest e.members level (2 * place)) (sym (is ∙ ap (λ (z : EndedFacts). word_in z.rest word 0) same)) (opened e level place word has).1;
  }

  -- its second its right child
  pub right_named : (first e : EndedFacts) (level place word r : ℕ) → first ≡ e → NamesEnded both e (level + 1) place word → r ≡ word_in first.rest word 1 → NamesEnded both e level (2 * place + 1) r
  right_named first e level place word r same has is = record {
    is_tree_set = has.is_tree_set;
    level_fits = omega (arith, has.level_fits);
    place_fits = omega (arith, has.place_fits, right_high (level + 1) place level (2 * place + 1) refl refl);
    is_version = subst (IsVersion both e.rest e.members level (2 * place + 1)) (sym (is ∙ ap (λ (z : EndedFacts). word_in z.rest word 1) same)) (opened e level place word has).2;
  }

  -- the root's number names the top
  pub top_named : (e : EndedFacts) → HoldsVersion both e.rest e.root e.bits → e.members ≡ pairs_at_rest e.rest e.bits 0 e.root → NamesEnded both e e.bits 0 e.root
  top_named e holds is = record {
    is_tree_set = subst (λ (z : List (ℕ × ℕ)). IsTreeSet (record { bits = e.bits; pairs = z })) (sym is) (ended_set parts_a parts_b e.rest e.root e.bits holds);
    level_fits = omega arith;
    place_fits = omega arith;
    is_version = subst (λ (z : List (ℕ × ℕ)). IsVersion both e.rest z e.bits 0 e.root) (sym is) holds.is_version;
  }

  -- what names a node of the tree names it after calls
  pub node_named : (first e : EndedFacts) (calls : ℕ) (node : EndedNode A B) → first ≡ e → 1 ≤ node.level → HasEndedNode both (summary_of parts_a parts_b) e node → NamesEnded both (record first { calls = calls }) (node.level - 1 + 1) node.place node.word
  node_named first e calls node same inner has = let up : node.level ≡ node.level - 1 + 1 = omega arith in
      let named : NamesEnded both e node.level node.place node.word = record { is_tree_set = has.is_node.is_tree_set; level_fits = has.is_node.level_fits; place_fits = has.is_node.place_fits; is_version = has.is_version } in
      let then : NamesEnded both first node.level node.place node.word = subst (λ (z : EndedFacts). NamesEnded both z node.level node.place node.word) (sym same) named in
      subst (λ (z : ℕ). NamesEnded both (record first { calls = calls }) z node.place node.word) up
      record { is_tree_set = then.is_tree_set; level_fits = then.level_fits; place_fits = then.place_fits; is_version = then.is_version }

  -- names are names still after calls
  pub named_on : (first e : EndedFacts) (calls : ℕ) (level place word : ℕ) → first ≡ e → NamesEnded both e level place word → NamesEnded both (record first { calls = calls }) level place word
  named_on first e calls level place word same has =
      let then : NamesEnded both first level place word = subst (λ (z : EndedFacts). NamesEnded both z level place word) (sym same) has in
      record { is_tree_set = then.is_tree_set; level_fits = then.level_fits; place_fits = then.place_fits; is_version = then.is_version }
