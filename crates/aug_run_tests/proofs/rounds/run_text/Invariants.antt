use Rattle.std.proofs.Common.{ℕ, ◌<◌, ◌≤◌, length, get_or}
use Rattle.aug_script.specs.declared.script_round.ScriptRound.{ScriptRound}
use Rattle.aug_run_tests.proofs.rounds.run_text.Given as goal

-- the trie has no more bits than any round that is left
abbrev pub invariant-loop-round : goal.invariant-loop-round
invariant-loop-round g l = (j : ℕ) (d : ScriptRound) → l.round-index ≤ j → j < length l.round-items → l.ended.bits ≤ (get_or l.round-items j d).bits
