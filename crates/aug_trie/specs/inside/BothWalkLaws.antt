-- What a walk over two snapshots keeps: lemmas for no walk at all, and for two walks one after the other; and that nodes which it sees to be the same
-- cover the same members with the same weights. The last is what sharing comes to: in one book no two entries of one place have the same word.
use Rattle.std.proofs.Common.{◌≡◌, ℕ, true, List, [], ◌++◌, length-append, append_assoc, refl, ap, sym, ◌∙◌, subst, arith}
use Rattle.std.proofs.lemmas.Bool.{eqb-true}
use Rattle.std.proofs.lemmas.List.{append-nil}
use Rattle.aug_core.specs.Places.{Shape}
use Rattle.aug_core.specs.Book.{Book, IsBook, NamesOnce}
use Rattle.aug_core.specs.Cuts.{Cut, pairs_of_cut}
use Rattle.aug_core.specs.inside.EntryCuts.{entry_of, IsPartOfCut}
use Rattle.aug_core.specs.inside.RootCuts.{root_cut}
use Rattle.aug_core.specs.declared.step.StepTaken.{StepTaken}
use Rattle.aug_core.specs.declared.view.SeatView.{SeatView}
use Rattle.aug_core.proofs.Fits.{HasFewSerials, few_serials}
use Rattle.aug_core.proofs.Refreshing.{same_word}
use Rattle.aug_core.proofs.EntryCuts.{entry_at, part_pairs, part_fits}
use Rattle.aug_core.proofs.Levels.{level_inside}
use Rattle.aug_model.specs.NodeKeys.{pairs_below}
use Rattle.aug_query.specs.DescendBoth.{StandInBoth}
use Rattle.aug_trie.specs.inside.NodesUnder.{word_under, IsNodeUnder}
use Rattle.aug_trie.specs.inside.BothWalk.{top_of, both_seen, IsNamedInBoth, WalkingBoth, KeepsBoth}
use Rattle.aug_trie.specs.declared.queries.snapshot.Snapshot.{Snapshot}

pub both_kept_so : (w : WalkingBoth) → KeepsBoth w w
both_kept_so w = record {
  same_table = refl;
  same_earlier = refl;
  same_later = refl;
  more = [];
  steps = ap (λ (z : List StepTaken). record w.words.view { steps = z }) (sym (append-nil w.words.view.steps));
  few_steps = omega arith;
}

pub both_kept_on : (p q r : WalkingBoth) → KeepsBoth p q → KeepsBoth q r → KeepsBoth p r
both_kept_on p q r a b = record {
  same_table = b.same_table ∙ a.same_table;
  same_earlier = b.same_earlier ∙ a.same_earlier;
  same_later = b.same_later ∙ a.same_later;
  more = a.more ++ b.more;
  steps = b.steps ∙ (λ i. record (a.steps i) { steps = (a.steps i).steps ++ b.more }) ∙ ap (λ (z : List StepTaken). record p.words.view { steps = z }) (append_assoc p.words.view.steps a.more b.more);
  few_steps = let x = a.few_steps in let y = b.few_steps in let long = length-append a.more b.more in omega arith;
}

module _ (f : ℕ → ℕ → List (ℕ × ℕ) → List ℕ) (s : Shape) (book : Book) (b : IsBook f s book) (once : NamesOnce s book) (few : HasFewSerials s book) where
  -- two cuts whose nodes at a level and a place have the same word have the same members with the same weights there
  pub same_pairs : (cut other : Cut) (level place q i j : ℕ) → IsPartOfCut s book cut level place q i → IsPartOfCut s book other level place q j → (entry_of book q i).word ≡ (entry_of book q j).word
      → pairs_below (pairs_of_cut cut) level place ≡ pairs_below (pairs_of_cut other) level place
  same_pairs cut other level place q i j p r same =
      sym (part_pairs f s book b cut level place q i p) ∙ ap (λ (z : ℕ). (entry_of book q z).pairs) (same_word f s book b once few q i j (entry_of book q i) (entry_of book q j) (level_inside s q level place p.word) (entry_at book q i p.there) (entry_at book q j r.there) same) ∙ part_pairs f s book b other level place q j r

-- the word of a node is the one at its level and place
pub word_is : (s : Shape) (book : Book) (top level place word : ℕ) → IsNodeUnder s book top level place word → word ≡ word_under s book top level place
word_is s book top level place word n = sym n.node.named ∙ (λ k. (entry_of book (n.node.part.word.is k) (n.under k)).word)

module _ (f : ℕ → ℕ → List (ℕ × ℕ) → List ℕ) (v : SeatView) (earlier later : Snapshot) (level place : ℕ) (words : ℕ × ℕ) (named : IsNamedInBoth f v earlier later level place words) where
  -- words are the same where the nodes are seen to be
  pub same_words : (both_seen v earlier later).same level place ≡ true → words.0 ≡ words.1
  same_words same = let a = word_is v.shape v.seen (top_of v earlier) level place words.0 named.in_earlier.node in let b = word_is v.shape v.seen (top_of v later) level place words.1 named.in_later.node in
      a ∙ eqb-true (word_under v.shape v.seen (top_of v earlier) level place) (word_under v.shape v.seen (top_of v later) level place) same ∙ sym b

  pub stand_in_both : StandInBoth (both_seen v earlier later) level place
  stand_in_both = let mine = named.in_earlier in let other = named.in_later in let node = mine.node.node in let twin = other.node.node in let kn = mine.knows_records.knows_table in let round = kn.in_round mine.knows_records.keeps_records in
      let here : twin.q ≡ node.q = twin.part.word.is ∙ sym node.part.word.is in record {
        are_both = record { is_earlier = mine.is_tree_set; is_later = other.is_tree_set; same_bits = refl };
        level_fits = node.part.word.level_fits;
        place_fits = part_fits f v.shape v.seen kn.book (root_cut v.shape v.seen (top_of v earlier)) level place node.q node.index node.part;
        same_below = λ same.
            ap (λ (z : Cut). pairs_below (pairs_of_cut z) level place) mine.cut_is
            ∙ same_pairs f v.shape v.seen kn.book round.0 (few_serials v.shape v.seen kn.laid_out round.1) (root_cut v.shape v.seen (top_of v earlier)) (root_cut v.shape v.seen (top_of v later)) level place node.q node.index twin.index node.part
            (subst (λ (z : ℕ). IsPartOfCut v.shape v.seen (root_cut v.shape v.seen (top_of v later)) level place z twin.index) here twin.part)
            (node.named ∙ same_words same ∙ sym twin.named ∙ ap (λ (z : ℕ). (entry_of v.seen z twin.index).word) here)
            ∙ ap (λ (z : Cut). pairs_below (pairs_of_cut z) level place) (sym other.cut_is);
      }
