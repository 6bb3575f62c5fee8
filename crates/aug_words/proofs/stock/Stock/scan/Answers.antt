use Rattle.std.proofs.Common.{take, get_or, sym, ap, ◌∙◌, arith}
use Rattle.std.proofs.lemmas.List.{get_or-take, length-take-le}
use Rattle.aug_core.specs.Places.{Shape}
use Rattle.aug_words.specs.Seats.{Store}
use Rattle.aug_words.proofs.Stocking.{scans_all, stocks_scanned}
use Rattle.aug_words.proofs.stock.Stock.scan.Goals as goal

pub returns-clause-scans : goal.returns-clause-scans
returns-clause-scans g c = let is = c.reservations.ensures.value ∙ ap (λ (z : Store). z.shape.reservations) c.words.view_is ∙ ap (λ (z : Shape). z.reservations) (sym c.requires.together.one_shape) in let eras = c.load_reservations-eras.result in let long = c.load_reservations-eras.ensures.long in
    scans_all c.args.pass.now.view c.load_reservations-eras.new.pass.view c.args.self.now c.sort.new.self (λ k. get_or eras k 0) (take c.reservations.result eras) c.requires.stocks c.requires.retired c.load_reservations-eras.ensures.loads c.sort.ensures
    (length-take-le c.reservations.result eras (omega arith) ∙ is) (λ slot low. get_or-take c.reservations.result eras slot 0 (omega arith))

pub returns-clause-stocks : goal.returns-clause-stocks
returns-clause-stocks g c = let is = c.reservations.ensures.value ∙ ap (λ (z : Store). z.shape.reservations) c.words.view_is ∙ ap (λ (z : Shape). z.reservations) (sym c.requires.together.one_shape) in let eras = c.load_reservations-eras.result in let long = c.load_reservations-eras.ensures.long in
    stocks_scanned c.args.pass.now.view c.load_reservations-eras.new.pass.view c.args.self.now c.sort.new.self (λ k. get_or eras k 0) (take c.reservations.result eras) c.requires.stocks c.requires.retired c.load_reservations-eras.ensures.loads c.sort.ensures
    (length-take-le c.reservations.result eras (omega arith) ∙ is) (λ slot low. get_or-take c.reservations.result eras slot 0 (omega arith))
