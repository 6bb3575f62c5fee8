-- Beginnings of one history.
use Rattle.std.proofs.Common.{◌≡◌, ℕ, ◌-◌, ◌≤◌, List, [], length, sym, ◌∙◌}
use Rattle.std.proofs.lemmas.List.{append-nil}
use Rattle.std.proofs.lemmas.List.Prefix.{front_fits}
use Rattle.aug_core.specs.Cuts.{Cut, serial_of, IsAtMost}
use Rattle.aug_core.specs.Prefixes.{IsPrefix}
use Rattle.aug_trie.proofs.CutLemmas.{serial_rises}

pub prefix-same : {A : Type 0} (xs ys : List A) → ys ≡ xs → IsPrefix xs ys
prefix-same xs ys is = ([], is ∙ sym (append-nil xs))

pub prefix-length : {A : Type 0} (xs ys : List A) → IsPrefix xs ys → length xs ≤ length ys
prefix-length xs ys b = front_fits ys xs b.0 b.1

-- no key's serial falls from one cut to another
abbrev pub Below : Cut → Cut → Type 0
Below c d = (key : ℕ) → serial_of c key ≤ serial_of d key

pub below_of : (c d : Cut) → IsAtMost c d → Below c d
below_of c d le = λ key. serial_rises c d key le
