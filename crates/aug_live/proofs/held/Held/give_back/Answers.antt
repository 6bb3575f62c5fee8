use Rattle.std.proofs.Common.{◌∙◌, ap, sym, subst}
use Rattle.aug_core.specs.Prefixes.{IsPrefix}
use Rattle.aug_trie.specs.Pass.{PassFacts}
use Rattle.aug_live.specs.inside.LaneKnowledge.{EndFacts}
use Rattle.aug_live.specs.inside.Rolls.{IsOf, rounds_in}
use Rattle.aug_live.proofs.Dealing.{back_in}
use Rattle.aug_live.proofs.held.Held.give_back.Goals as goal

pub returns-clause-back : goal.returns-clause-back
returns-clause-back g c = let w = c.self.inside in let is = c.self.view_is in let rest = c.into_work-work.result.1 in let rounds = rounds_in c.args.crew.now in
    let of = subst (λ (z : EndFacts). IsOf rounds z.known.at.era z) (sym is) c.requires.of_round in let history = c.back.new.self.knows.history in
    back_in rounds c.args.self.known.at.era history w.out.lock w.out.known w.lane rest c.into_work-work.ensures.rest c.self.invariant.2 of.whose of.round_is (ap (λ (z : EndFacts). z.known.at.era) is)
    (subst (λ (z : PassFacts). IsPrefix z.knows.history history) (c.pass.ensures ∙ c.into_work-work.ensures.work) c.back.ensures.knows.takes_up)
