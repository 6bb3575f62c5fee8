-- What was made through handles: changes, each with the number of its round. A handle that put 0 in in the first round and took 3 out in the second
-- has the ledger `(1, Insert(0)) ∷ (2, Remove(3)) ∷ []`.
use Rattle.std.specs.Prelude.{ℕ, ◌==◌, List, map, filter}
use Rattle.aug_core.specs.declared.view.Change.{Change}

-- a change, with the number of the round in which it was made, counted from 1
abbrev pub Made : Type 0
Made = ℕ × Change

-- changes of one round
abbrev pub dated : ℕ → List Change → List Made
dated era changes = map (λ (c : Change). (era, c)) changes

-- those of a round
abbrev pub made_in : ℕ → List Made → List Change
made_in era made = map (λ (m : Made). m.1) (filter (λ (m : Made). m.0 == era) made)
