use Rattle.std.proofs.Common.{◌≡◌, ◌+◌, ◌∙◌, ℕ, List, [], ◌∷◌, ◌++◌, vec_len, ap, subst, sym}
use Rattle.std.specs.Prelude.{Option, option_to_list}
use Rattle.aug_trie.specs.Chains.{Chapter}
use Rattle.aug_trie.specs.Round.{RoundFacts, table_of}
use Rattle.aug_core.proofs.PrefixLemmas.{prefix_trans}
use Rattle.aug_live.specs.inside.LaneKnowledge.{EndFacts}
use Rattle.aug_live.specs.inside.Rolls.{IsOf, HasEnded, rounds_in}
use Rattle.aug_live.proofs.Dealing.{dealt_one}
use Rattle.aug_live.proofs.Moving.{all_but_last, grown_len, one_more}
use Rattle.aug_live.proofs.rolling.deal_all.Goals as goal

pub loop-one-preserved : goal.loop-one-preserved
loop-one-preserved g c =
    let was = c.loop-one.invariant in let began = c.begin.ensures in let past = c.args.crew.now.past in let P = HasEnded (table_of c.args.crew.now.round) past c.args.era in
    let cut : c.loop-one.idle.items ≡ c.pop.new.self.items ++ c.in-Some.one ∷ [] = c.pop.ensures.items ∙ ap (λ (z : Option EndFacts). c.pop.new.self.items ++ option_to_list z) c.in-Some.is in
    let grown : vec_len c.push_reserved.new.self ≡ vec_len c.loop-one.ports + 1 = c.push_reserved.ensures.len in let shrunk : vec_len c.pop.new.self + 1 ≡ vec_len c.loop-one.idle = c.in-Some.ensures.cases in (
      grown_len (vec_len c.loop-one.ports) _ (vec_len c.loop-one.idle) _ _ was.0 grown shrunk,
      all_but_last P c.pop.new.self.items c.loop-one.idle.items c.in-Some.one cut was.1,
      one_more (IsOf (rounds_in c.args.crew.now) (c.args.era + 1)) c.loop-one.ports.items c.push_reserved.new.self.items c.begin.result c.push_reserved.ensures.items was.2
          (subst (λ (z : RoundFacts × List Chapter). IsOf z (c.args.era + 1) c.begin.result) was.3 began.of_round),
      began.round ∙ was.3,
      c.push_reserved.ensures.capacity ∙ was.4,
      c.pop.ensures.capacity ∙ was.5,
      began.handed ∙ ap (λ (n : ℕ). n + 1) was.6 ∙ sym grown,
      began.back ∙ was.7,
      prefix_trans c.args.crew.now.knows.history c.loop-one.crew.knows.history c.begin.new.crew.knows.history was.8 began.goes_on,
      dealt_one c.loop-one.ports.items c.push_reserved.new.self.items c.pop.new.self.items c.loop-one.idle.items c.in-Some.one c.begin.result _ cut c.push_reserved.ensures.items began.kept was.9,
      began.same_changes ∙ was.10,
    )
