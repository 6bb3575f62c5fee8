use Rattle.std.proofs.Common.{arith, ap, ◌∙◌, ◌≡◌}
use Rattle.aug_core.specs.Places.{Shape, record_start}
use Rattle.aug_words.specs.Seats.{Store}
use Rattle.aug_core.proofs.Below.{own_low}
use Rattle.aug_words.proofs.words.Words.own_place.Goals as goal

pub returns-clause-inside : goal.returns-clause-inside
returns-clause-inside g c =
    let s : Shape = c.args.self.now.shape in let low = own_low s c.args.node c.requires.room c.requires.node in
    let begin : c.self.inside.records ≡ record_start s 0 = c.self.invariant.records_are ∙ ap (λ (z : Store). record_start z.shape 0) c.self.view_is in let number = c.own_number.ensures in omega arith
