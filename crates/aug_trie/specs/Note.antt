-- What contracts see of a note. A pass that put 0 into the example makes a note of two cuts. A pass that knew only the first knows both once it has
-- learnt the note, and its snapshots show 0, or what came to 0 later.
use Rattle.std.specs.Prelude.{List}
use Rattle.aug_core.specs.Cuts.{Cut}
use Rattle.aug_trie.specs.Chains.{Chapter, Chain, chain}
use Rattle.aug_trie.specs.Round.{RoundFacts}

-- a note: the round of the pass or the crew that made it, the rounds before, and the history that this knew then
pub record NoteFacts : Type 0 where
  pub round : RoundFacts
  pub past : List Chapter
  pub history : List Cut

-- the rounds of its table, as far as it tells of them
abbrev pub chain_of_note : NoteFacts → Chain
chain_of_note note = chain note.past note.round.members note.history
