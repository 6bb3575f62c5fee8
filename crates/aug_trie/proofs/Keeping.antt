-- Snapshots and nodes stay what they are as the book grows.
use Rattle.std.proofs.Common.{ℕ, List, ◌++◌, sym, ap, ◌∙◌, arith}
use Rattle.aug_core.specs.Places.{Shape}
use Rattle.aug_core.specs.Book.{Book, ArePrefixes, IsBook}
use Rattle.aug_core.specs.Cuts.{Cut}
use Rattle.aug_core.specs.inside.EntryCuts.{IsPartOfCut}
use Rattle.aug_core.specs.declared.view.Entry.{Entry}
use Rattle.aug_core.proofs.Books.{no_shorter}
use Rattle.aug_core.proofs.EntryCuts.{entry_later, cut_later}
use Rattle.aug_trie.specs.inside.NodeWords.{IsNodeAt}
use Rattle.aug_trie.specs.inside.Weights.{WeighsAt}
use Rattle.aug_core.proofs.PrefixLemmas.{entry_stays}

-- so does what is known of weights
pub weighs_later : (book later : Book) (key serial weight : ℕ) → ArePrefixes book later → WeighsAt book key serial weight → WeighsAt later key serial weight
weighs_later book later key serial weight grows h = record { entry = h.entry; at = entry_stays grows key serial h.entry h.at; weighs = h.weighs }

module _ (face : ℕ → ℕ → List (ℕ × ℕ) → List ℕ) (s : Shape) (book later : Book) (b : IsBook face s book) (grows : ArePrefixes book later) where
  pub part_later : (cut : Cut) (level place q i : ℕ) → IsPartOfCut s book cut level place q i → IsPartOfCut s later cut level place q i
  part_later cut level place q i p = record {
    word = p.word;
    there = let le = no_shorter later book grows q in let lt = p.there in omega arith;
    before = p.before;
    after = p.after;
    parts = p.parts ∙ ap (λ (z : Cut). p.before ++ (z ++ p.after)) (sym (cut_later face s book b later level place q i grows p.word p.there));
    from = p.from;
  }

  pub node_later : (cut : Cut) (level place word : ℕ) → IsNodeAt s book cut level place word → IsNodeAt s later cut level place word
  node_later cut level place word t = record {
    q = t.q;
    index = t.index;
    part = part_later cut level place t.q t.index t.part;
    named = ap (λ (z : Entry). z.word) (entry_later later book t.q t.index grows t.part.there) ∙ t.named;
  }
