use Rattle.std.proofs.Common.{ap, ◌∙◌}
use Rattle.std.proofs.lemmas.List.{get_or-replicate}
use Rattle.aug_script.proofs.open_rounds.OpenRounds.close.Goals as goal

pub invariant_of-self : goal.invariant_of-self
invariant_of-self c =
    let none = ap (λ rows. rows.items) c.replace-rows.ensures.after ∙ c.new.ensures.items in
    record { most = c.self.invariant.most; counted = λ lane below. rw none (get_or-replicate 64 lane 0 0 below) }

pub invariant_of-self-2 : goal.invariant_of-self-2
invariant_of-self-2 c =
    let none = ap (λ rows. rows.items) c.replace-rows.ensures.after ∙ c.new.ensures.items in
    record { most = c.self.invariant.most; counted = λ lane below. rw none (get_or-replicate 64 lane 0 0 below) }
