use Rattle.std.proofs.Common.{◌≡◌, ◌∙◌, arith, subst, sym}
use Rattle.std.specs.Arc.{arc_value}
use Rattle.std.specs.Prelude.{Option}
use Rattle.aug_trie.specs.Pass.{PassFacts}
use Rattle.aug_live.specs.LiveHandles.{IsLookOf}
use Rattle.aug_live.specs.inside.Looks.{HandleShows}
use Rattle.aug_live.proofs.Shown.{holds_other, holds_same_round}
use Rattle.aug_live.proofs.Looking.{again_same}
use Rattle.aug_live.proofs.look.Look.try_again.Goals as goal

pub invariant_of-self : goal.invariant_of-self
invariant_of-self g c = let i = c.self.inside in let show = c.try_show-done.new.show in let a = c.args.handle.now in let b = c.try_show-done.new.self in
    holds_other i.out (arc_value i.round) i.reader show.reader i.held i.before c.in-Ok.held i.era show.era i.lane a b c.self.invariant
    (subst (λ (z : Option PassFacts). HandleShows z show.reader show.era c.in-Ok.held a b) (c.after-show.ensures.reader ∙ c.take.ensures.value) c.in-Ok.ensures.shows) (subst (IsLookOf a) (sym c.self.view_is) c.requires.own)

pub invariant_of-self-in-Ok : goal.invariant_of-self-in-Ok
invariant_of-self-in-Ok g c = let i = c.self.inside in let show = c.try_show-done.new.show in let a = c.args.handle.now in let b = c.try_show-done.new.self in
    let same : show.era ≡ i.era = omega arith in
    holds_same_round i.out (arc_value i.round) i.reader show.reader i.held i.before c.in-Ok.held i.era show.era i.lane a b c.self.invariant
    (subst (λ (z : Option PassFacts). HandleShows z show.reader show.era c.in-Ok.held a b) (c.after-show.ensures.reader ∙ c.take.ensures.value) c.in-Ok.ensures.shows) (subst (IsLookOf a) (sym c.self.view_is) c.requires.own) same

pub returns-in-Ok-clause-looks : goal.returns-in-Ok-clause-looks
returns-in-Ok-clause-looks g c = let i = c.self.inside in let show = c.try_show-done.new.show in let was = c.after-show in let now = c.args.self.now in
    again_same i.reader c.take.result was.result.reader show.reader i.held i.before i.lane c.args.handle.now c.try_show-done.new.self now was.ensures.reader c.take.ensures.value c.self.view_is
    i.out (arc_value i.round) c.in-Ok.held i.era show.era c.self.invariant c.requires.own c.in-Ok.ensures.shows c.if-show-self.false
