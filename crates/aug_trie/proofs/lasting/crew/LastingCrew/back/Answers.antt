use Rattle.std.proofs.Common.{Some, sym, ap, ◌∙◌}
use Rattle.aug_core.specs.Faces.{face}
use Rattle.aug_words.specs.Seats.{Known}
use Rattle.aug_trie.specs.Round.{table_of}
use Rattle.aug_trie.proofs.LastingAccounts.{of_lead, reserves_nothing, lasting_back}
use Rattle.aug_trie.proofs.LastingUpdates.{keeps}
use Rattle.aug_trie.proofs.lasting.crew.LastingCrew.back.Goals as goal

pub release-requires : goal.release-requires
release-requires g c =
    let f = face g.A.Monoid.parts g.B.Monoid.parts in let i = c.pass.inside in let k : Known = c.pass-words.result in let there = c.in-Some.is ∙ ap Some (sym c.pass-words.ensures) in
    record { keeps = keeps f i.words i.stock i.leaves i.bits i.look c.args.pass k c.pass.invariant c.pass.view_is there c.table.invariant (ap table_of c.requires.of_crew ∙ c.requires.together ∙ sym c.table.view_is) }

pub take_in-requires : goal.take_in-requires
take_in-requires g c =
    let f = face g.A.Monoid.parts g.B.Monoid.parts in let i = c.pass.inside in let k : Known = c.pass-words.result in let there = c.in-Some.is ∙ ap Some (sym c.pass-words.ensures) in let lead : Known = c.self.inside.lead in let crew = c.self.invariant in
    let first = keeps f i.words i.stock i.leaves i.bits i.look c.args.pass k c.pass.invariant c.pass.view_is there c.table.invariant (ap table_of c.requires.of_crew ∙ c.requires.together ∙ sym c.table.view_is) in let w : Known = c.release.new.pass in let table = c.release.ensures.keeps.together.one_table ∙ sym first.together.one_table in let after = c.release.new.stock in
    record { of_lead = of_lead f i.words i.stock i.leaves i.bits i.look c.args.pass k c.pass.invariant c.pass.view_is there lead c.args.self.now crew.0 crew.1 c.self.view_is c.requires.of_crew w after table c.release.ensures.keeps.stocks c.release.ensures.works; rests = reserves_nothing f i.words i.stock i.leaves i.bits i.look c.args.pass k c.pass.invariant c.pass.view_is there lead c.args.self.now crew.0 crew.1 c.self.view_is c.requires.of_crew w after table c.release.ensures.keeps.stocks c.release.ensures.works c.release.ensures.same }

pub invariant_of-self : goal.invariant_of-self
invariant_of-self g c =
    let f = face g.A.Monoid.parts g.B.Monoid.parts in let i = c.pass.inside in let k : Known = c.pass-words.result in let there = c.in-Some.is ∙ ap Some (sym c.pass-words.ensures) in let lead : Known = c.self.inside.lead in let crew = c.self.invariant in
    let first = keeps f i.words i.stock i.leaves i.bits i.look c.args.pass k c.pass.invariant c.pass.view_is there c.table.invariant (ap table_of c.requires.of_crew ∙ c.requires.together ∙ sym c.table.view_is) in let w : Known = c.release.new.pass in let table = c.release.ensures.keeps.together.one_table ∙ sym first.together.one_table in let after = c.release.new.stock in
    let back = lasting_back f i.words i.stock i.leaves i.bits i.look c.args.pass k c.pass.invariant c.pass.view_is there lead c.args.self.now crew.0 crew.1 c.self.view_is c.requires.of_crew w after table c.release.ensures.keeps.stocks c.release.ensures.works c.release.ensures.knows c.take_in.new.lead c.take_in.ensures.table c.take_in.ensures.view in
    (crew.0, back.crew)

pub returns : goal.returns
returns g c =
    let f = face g.A.Monoid.parts g.B.Monoid.parts in let i = c.pass.inside in let k : Known = c.pass-words.result in let there = c.in-Some.is ∙ ap Some (sym c.pass-words.ensures) in let lead : Known = c.self.inside.lead in let crew = c.self.invariant in
    let first = keeps f i.words i.stock i.leaves i.bits i.look c.args.pass k c.pass.invariant c.pass.view_is there c.table.invariant (ap table_of c.requires.of_crew ∙ c.requires.together ∙ sym c.table.view_is) in let w : Known = c.release.new.pass in let table = c.release.ensures.keeps.together.one_table ∙ sym first.together.one_table in let after = c.release.new.stock in
    let back = lasting_back f i.words i.stock i.leaves i.bits i.look c.args.pass k c.pass.invariant c.pass.view_is there lead c.args.self.now crew.0 crew.1 c.self.view_is c.requires.of_crew w after table c.release.ensures.keeps.stocks c.release.ensures.works c.release.ensures.knows c.take_in.new.lead c.take_in.ensures.table c.take_in.ensures.view in
    back.takes_back
