-- What each key weighed with each of its serials, from the opening of a round to its end. There is one weight for each, so what an update found in its
-- leaf (`StepsOf`) is what the change before it stored, whoever made that. If 1 weighs 7 at the opening and two passes add 5 to it, the ledger has the
-- weights 7, 0, 12, 0 and 17 for the serials 1 to 5 of key 1, and 17 + (7 + 0 + 12 + 0) ≡ 7 + (0 + 12 + 0 + 17).
use Rattle.std.specs.Prelude.{◌≡◌, ℕ, ◌+◌, ◌-◌, ◌^◌, ◌<◌, List, All}
use Rattle.std.specs.List.{sum_by}
use Rattle.aug_core.specs.Cuts.{Cut, serial_of, weight_at, pairs_of_cut}
use Rattle.aug_core.specs.declared.view.Change.{Change}
use Rattle.aug_trie.specs.History.{last_cut}
use Rattle.aug_trie.specs.Pass.{WordsSeen, Weighed}

-- what members weigh together
abbrev pub total_weight : List (ℕ × ℕ) → ℕ
total_weight pairs = sum_by (λ (pair : ℕ × ℕ). pair.1) pairs

-- one weight for each serial of a key: what the words tell, what a change stored, and what a cut shows. The members weigh in the end what they weighed at
-- the opening, more by what the changes stored and less by what the keys weighed just before each. So no unit is lost, and none is counted twice
pub record IsLedger (words : WordsSeen) (bits : ℕ) (members : List (ℕ × ℕ)) (history : List Cut) (changes : List Change) : Type 0 where
  pub weight_of : ℕ → ℕ → ℕ
  pub told : (key serial weight : ℕ) → Weighed words key serial weight → weight_of key serial ≡ weight
  pub stored : All (λ change. weight_of change.key change.serial ≡ change.weight) changes
  pub shown : All (λ cut. (key : ℕ) → key < 2 ^ bits → weight_of key (serial_of cut key) ≡ weight_at cut key) history
  pub sums : total_weight (pairs_of_cut (last_cut history)) + sum_by (λ (change : Change). weight_of change.key (change.serial - 1)) changes ≡ total_weight members + sum_by (λ (change : Change). change.weight) changes
