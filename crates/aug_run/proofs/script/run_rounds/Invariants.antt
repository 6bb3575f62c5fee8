use Rattle.std.proofs.Common.{◌≡◌, ℕ, ◌+◌, ◌<◌, ◌≤◌, length, get_or}
use Rattle.aug_script.specs.declared.script_round.ScriptRound.{ScriptRound}
use Rattle.aug_run.proofs.Printing.{Printed}
use Rattle.aug_run.proofs.script.run_rounds.Given as goal

-- the reports of the rounds so far were printed, and closed with the set of the trie, which has no more bits than any round that is left
abbrev pub invariant-loop-round : goal.invariant-loop-round
invariant-loop-round g l = record {
  number : l.number ≡ l.round-index + 1;
  printed : Printed l.limits l.rounds l.round-index l.ended.members (g.W.Sink.state l.initial.sink) (g.W.Sink.state l.sink);
  bits : (j : ℕ) (d : ScriptRound) → l.round-index ≤ j → j < length l.rounds → l.ended.bits ≤ (get_or l.rounds j d).bits;
}
