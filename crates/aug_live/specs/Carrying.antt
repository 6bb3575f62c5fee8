-- What is carried over from a round to later ones. Serials begin anew in each round. So a change stands in the last cut of its own round, and `Leads`
-- relates that cut to later sets. In the example a round in which 0 was put in leads to `(0, 0) ∷ (1, 1) ∷ (3, 3) ∷ []`, and with a second round that
-- took 1 out to `(0, 0) ∷ (3, 3) ∷ []`.
use Rattle.std.specs.Prelude.{◌≡◌, ℕ, List, [], ◌∷◌}
use Rattle.aug_core.specs.Cuts.{pairs_of_cut}
use Rattle.aug_trie.specs.Chains.{Chapter}
use Rattle.aug_trie.specs.History.{IsHistory, last_cut}

-- the members with which the first of these rounds began, or if there is none, those of the next one
abbrev pub first_members : List Chapter → List (ℕ × ℕ) → List (ℕ × ℕ)
first_members [] next = next
first_members (x ∷ xs) next = x.members

-- rounds of keys of `bits` bits, all of whose histories are known, lead to the set with which the next one begins: each begins with the set that the one
-- before ended with
abbrev pub Leads : ℕ → List Chapter → List (ℕ × ℕ) → Type 0
Leads bits [] next = Unit {0}
Leads bits (x ∷ xs) next = IsHistory bits x.members x.history × (first_members xs next ≡ pairs_of_cut (last_cut x.history)) × Leads bits xs next
