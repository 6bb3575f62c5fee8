use Rattle.std.proofs.Common.{arith, ap, refl, sym, ◌∙◌}
use Rattle.atomic_table.specs.Seated.{TableId}
use Rattle.aug_words.specs.Seats.{Store}
use Rattle.aug_words.proofs.Lays.{lay_loads}
use Rattle.aug_words.proofs.words.Words.fetch.Goals as goal

pub load-requires : goal.load-requires
load-requires g c = let m = c.requires.may.may in let inside = m.inside in let same = ap (λ (z : Store). z.table) c.self.view_is in let words = ap (λ (z : TableId). z.words) same in let low = c.requires.place in
    (m.seated ∙ sym same, omega arith, lay_loads _ _ _ _ _ m _ _ _ _ c.args.place _ 0 refl low)
