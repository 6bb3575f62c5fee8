use Rattle.std.proofs.Common.{rules, Some, ◌∙◌, sym, ap, ◌∷◌}
use Rattle.atomic_table.specs.Table.{rest}
use Rattle.ruled_lock.proofs.lock.RuledLock.take.Goals as goal

pub exchange-requires : goal.exchange-requires
exchange-requires g c = let t = c.in-Ok.ensures.holds.0 in let is = c.in-Ok.ensures.holds.1.1 in
    (search rules, (Some t, is ∙ ap (λ m. (8, Some t) ∷ rest m) (sym is)))
