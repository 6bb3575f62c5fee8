use Rattle.std.proofs.Common.{◌≡◌, ◌<◌, ◌≤◌, ℕ, length, get_or}
use Rattle.aug_words.proofs.draft.Draft.turn.Given as goal

abbrev pub invariant-loop-slot : goal.invariant-loop-slot
invariant-loop-slot l = record {
  in_range : l.slot ≤ length l.self.shown.items;
  long : length l.self.shown.items ≡ length l.fn.self.shown.items;
  blank : (i : ℕ) → i < l.slot → get_or l.self.shown.items i 0 ≡ 0;
}
