use Rattle.std.proofs.Common.{◌≡◌, ◌≢◌, ◌<◌, ℕ, get_or}
use Rattle.aug_words.proofs.parts.Parts.turn.Given as goal

abbrev pub invariant-loop-part : goal.invariant-loop-part
invariant-loop-part l = record {
  same : l.self ≡ l.fn.self;
  passed : (part : ℕ) → part < l.part → part ≢ l.fn.self.own → get_or l.fn.self.out.items part 0 ≢ 0;
}
