-- Cursors over snapshots: how they walk, and that they stay cursors of their pass.
use Rattle.std.proofs.Common.{◌≡◌, ℕ, ◌+◌, ◌*◌, Option, Some, List, sym, refl, ◌∙◌, subst, arith}
use Rattle.aug_monoid.specs.Parts.{Parts}
use Rattle.aug_core.specs.Faces.{face}
use Rattle.aug_model.specs.NodeKeys.{pairs_below}
use Rattle.aug_model.specs.declared.summary.Summary.{Summary}
use Rattle.aug_query.specs.inside.Paths.{IsCursor}
use Rattle.aug_query.specs.declared.descent.cursor.Cursor.{Cursor}
use Rattle.aug_query.proofs.Paths.{cursor_kept}
use Rattle.aug_words.specs.Seats.{Known}
use Rattle.aug_trie.specs.inside.Cursors.{IsCursorOf}
use Rattle.aug_trie.specs.Node.{HasNode, Keeps}
use Rattle.aug_trie.specs.Pass.{PassFacts}
use Rattle.aug_trie.specs.Snapshot.{HasSnapshot, snapshot_cut, set_at}
use Rattle.aug_trie.specs.inside.NamedCuts.{cut_named}
use Rattle.aug_trie.specs.inside.PassState.{pass_facts, known_in, HoldsPass}
use Rattle.aug_trie.specs.inside.SnapshotWalk.{set_seen, IsNamed, Walking}
use Rattle.aug_trie.specs.declared.queries.cursor.SnapshotCursor.{SnapshotCursor}
use Rattle.aug_trie.specs.declared.queries.node.Node.{Node}
use Rattle.aug_trie.specs.declared.queries.snapshot.Snapshot.{Snapshot}
use Rattle.aug_trie.proofs.Asking.{reads_of}
use Rattle.aug_trie.proofs.Looking.{holds_plainly, reads_plainly}
use Rattle.aug_trie.proofs.Passing.{pass_records, pass_told}
use Rattle.aug_trie.proofs.SnapshotWalks.{WalkDescends}

-- a cursor of the snapshot that a walk goes over
abbrev pub WalksCursor : (ℕ → ℕ → List (ℕ × ℕ) → List ℕ) → Walking → Cursor ℕ → Type 0
WalksCursor f walk cursor = IsCursor {N = ℕ} (λ level place word. IsNamed f (λ word. word) walk.words.view walk.snapshot level place word) (set_seen walk.words.view walk.snapshot) cursor

module _ (f : ℕ → ℕ → List (ℕ × ℕ) → List ℕ) where
  -- a cursor of a pass, as its walk begins
  pub cursor_in : (words : Option Known) (walk : Walking) (leaves bits next left : ℕ) (now : PassFacts) (at : SnapshotCursor) → HoldsPass f words leaves bits next left → words ≡ Some walk.words → walk.snapshot ≡ at.snapshot → pass_facts (known_in words) left ≡ now → IsCursorOf now at
      → WalksCursor f walk at.cursor
  cursor_in words walk leaves bits next left now at h there same facts of =
      let told = pass_told f words walk.words leaves bits next left now h there facts in
      let of_words = subst (λ (z : PassFacts). IsCursorOf z at) (sym told.1) of in
      let is = of_words.is_cursor in
      let tree = is.is_tree_set in
      let kept = cursor_kept {Still = λ level place word. IsNamed f (λ word. word) walk.words.view at.snapshot level place word} (λ level place word low fits named. let kn = pass_records told.0 in record { reads = reads_plainly f walk.words.view kn; is_tree_set = tree; holds = holds_plainly walk.words.view kn.keeps_records (cut_named walk.words.view.shape walk.words.view.seen at.snapshot) level place word named }) refl is in
      subst (λ s. IsCursor {N = ℕ} (λ level place word. IsNamed f (λ word. word) walk.words.view s level place word) (set_seen walk.words.view s) at.cursor) (sym same) kept

module _ {A B : Type 0} (parts_a : Parts A) (parts_b : Parts B) where
  -- and as it ends
  pub walked_out : {number : ℕ → ℕ} (words : Option Known) (walk new : Walking) (left n c s p : ℕ) (now : PassFacts) (at : SnapshotCursor) → words ≡ Some walk.words → walk.snapshot ≡ at.snapshot → pass_facts (known_in words) left ≡ now → HasSnapshot now at.snapshot
      → WalkDescends (face parts_a parts_b) number n c s p walk new → WalksCursor (face parts_a parts_b) new at.cursor → IsCursorOf (pass_facts new.words left) at
  walked_out words walk new left n c s p now at there same facts has d is =
      let reads = reads_of parts_a parts_b words walk new left n c s p (n + c + 3 * s + 2 * p) now there facts d (omega arith) in
      let here = d.keeps_rest.same_snapshot ∙ same in
      let of = subst (λ (z : Snapshot). IsCursor {N = ℕ} (λ level place word. IsNamed (face parts_a parts_b) (λ word. word) new.words.view z level place word) (set_seen new.words.view z) at.cursor) here is in
      record { of_pass = reads.stays.keeps.snapshots at.snapshot has; is_cursor = cursor_kept (λ level place word low fits named. named.holds.node) refl of }

-- a cursor of a pass is one still after an update, a snapshot or a query
pub cursor_stays : {A B : Type 0} (sum : List (ℕ × ℕ) → Summary A B) (old new : PassFacts) (at : SnapshotCursor) → Keeps sum old new → IsCursorOf old at → IsCursorOf new at
cursor_stays {A} {B} sum old new at keeps of =
    let s = at.snapshot in
    let is = of.is_cursor in
    let cut = snapshot_cut old s in
    record {
      of_pass = keeps.snapshots s of.of_pass;
      is_cursor = cursor_kept (λ level place word low fits named.
          let node : Node A B = record { snapshot = s; level = level; place = place; word = word; summary = sum (pairs_below (set_at old s).pairs level place) } in
          let has : HasNode sum old node = record {
            of_pass = of.of_pass;
            is_tree_set = is.is_tree_set;
            named = named;
            tells = record { place_fits = fits; tells = refl };
            weighs = λ leaf. absurd (omega (arith, low, leaf));
          } in
          (keeps.nodes node has).named) (keeps.same_sets s of.of_pass) is;
    }
