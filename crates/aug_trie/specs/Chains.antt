-- The rounds of one table, one after another, as far as they are known. A pass that put 0 into the example knows the chain of one round with two
-- cuts. It is a part of that which a pass of the next round knows, whose first round has these two cuts.
use Rattle.std.specs.Prelude.{◌≡◌, ℕ, List, [], ◌∷◌, ◌++◌}
use Rattle.aug_core.specs.Cuts.{Cut}
use Rattle.aug_core.specs.Prefixes.{IsPrefix}

-- a round: the members that it began with, and its history
pub record Chapter : Type 0 where
  pub members : List (ℕ × ℕ)
  pub history : List Cut

-- the rounds that are over, and the one that goes on
pub record Chain : Type 0 where
  pub past : List Chapter
  pub now : Chapter

abbrev pub chain : List Chapter → List (ℕ × ℕ) → List Cut → Chain
chain past members history = record { past = past; now = record { members = members; history = history } }

-- all rounds of a chain
abbrev pub chapters : Chain → List Chapter
chapters c = c.past ++ c.now ∷ []

-- it is one round, of which more may be known later
pub record Continues (early late : Chapter) : Type 0 where
  pub members : late.members ≡ early.members
  pub goes_on : IsPrefix early.history late.history

-- these rounds begin with those of `past`, and the next is `now`, or `now` continued
abbrev pub BeginsWith : List Chapter → Chapter → List Chapter → Type 0
BeginsWith past now [] = ⊥
BeginsWith [] now (x ∷ xs) = Continues now x
BeginsWith (p ∷ ps) now (x ∷ xs) = (x ≡ p) × BeginsWith ps now xs

-- a chain is a part of another: it is known by whoever knows the other
abbrev pub IsPart : Chain → Chain → Type 0
IsPart early late = BeginsWith early.past early.now (chapters late)
