-- A leaf's word gives its serial and its weight back, and so what its entry has.
use Rattle.std.proofs.Common.{◌≡◌, ℕ, ◌%◌, ◌^◌, ◌<◌, eqb, if◌then◌else◌, [], ◌∷◌, sym, ap, ◌∙◌, arith}
use Rattle.aug_core.specs.Book.{IsSerial, word_of_leaf}
use Rattle.aug_core.specs.declared.view.Entry.{Entry}
use Rattle.aug_trie.specs.LeafWords.{serial_in_word, weight_in_word}
use Rattle.aug_trie.specs.inside.LeafPairs.{leaf_pairs}

pub weight_of_leaf : (i w : ℕ) → w < 2 ^ 32 → weight_in_word (word_of_leaf i w) ≡ w
weight_of_leaf i w fits = omega arith

-- the weight in the word of a leaf's entry is its own, and its serial is odd if the entry's is
pub parity_of_entry : (key i : ℕ) (e : Entry) → IsSerial key i e → serial_in_word e.word % 2 ≡ i % 2
parity_of_entry key i e serial = let named = serial.named in let fits = serial.fits in omega arith

pub weight_of_entry : (key i : ℕ) (e : Entry) → IsSerial key i e → weight_in_word e.word ≡ e.weight
weight_of_entry key i e serial = ap weight_in_word serial.named ∙ weight_of_leaf i e.weight serial.fits

-- and so the word tells the entry's pairs
pub pairs_of_serial : (key i : ℕ) (e : Entry) → IsSerial key i e → e.pairs ≡ leaf_pairs key e.word
pairs_of_serial key i e serial = let a = parity_of_entry key i e serial in let b = weight_of_entry key i e serial in
    serial.there_if_odd ∙ (λ k. if eqb (sym a k) 1 then (key, sym b k) ∷ [] else [])
