use Rattle.std.proofs.lemmas.List.{get_or-replicate}
use Rattle.aug_script.proofs.open_rounds.OpenRounds.new.Goals as goal

pub invariant_of-result : goal.invariant_of-result
invariant_of-result c = record { most = c.requires; counted = λ lane below. rw c.new-2.ensures.items (get_or-replicate 64 lane 0 0 below) }
