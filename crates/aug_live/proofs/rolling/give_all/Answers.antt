use Rattle.std.proofs.Common.{◌≡◌, ◌+◌, ◌∙◌, List, [], ◌∷◌, ◌++◌, map, vec_len, ap, subst, sym}
use Rattle.std.specs.Prelude.{Option, option_to_list, reverse}
use Rattle.std.proofs.lemmas.List.{nil_from_length}
use Rattle.aug_trie.specs.Chains.{Chapter}
use Rattle.aug_trie.specs.Round.{RoundFacts}
use Rattle.aug_core.proofs.PrefixLemmas.{prefix_trans}
use Rattle.aug_live.specs.inside.LaneKnowledge.{EndFacts}
use Rattle.aug_live.specs.inside.Rolls.{IsOf, IsBackIn, kept_of, rounds_in}
use Rattle.aug_live.proofs.Dealing.{gave_one, kept_in_order, took_one}
use Rattle.aug_live.proofs.Moving.{all_back_on, all_but_last, counted_on, grown_len, last_one, one_more, same_era}
use Rattle.aug_live.proofs.rolling.give_all.Goals as goal

pub loop-one-preserved : goal.loop-one-preserved
loop-one-preserved g c =
    let was = c.loop-one.invariant in let gave = c.give_back.ensures in let round = rounds_in c.args.crew.now in let era = c.args.era in
    let cut : c.loop-one.held.items ≡ c.pop.new.self.items ++ c.in-Some.one ∷ [] = c.pop.ensures.items ∙ ap (λ (z : Option EndFacts). c.pop.new.self.items ++ option_to_list z) c.in-Some.is in
    let mine = last_one (IsOf round era) c.pop.new.self.items c.loop-one.held.items c.in-Some.one cut was.1 in
    let grown : vec_len c.push_reserved.new.self ≡ vec_len c.loop-one.idle + 1 = c.push_reserved.ensures.len in let shrunk : vec_len c.pop.new.self + 1 ≡ vec_len c.loop-one.held = c.in-Some.ensures.cases in (
      grown_len (vec_len c.loop-one.idle) _ (vec_len c.loop-one.held) _ _ was.0 grown shrunk,
      all_but_last (IsOf round era) c.pop.new.self.items c.loop-one.held.items c.in-Some.one cut was.1,
      one_more (IsBackIn round era c.give_back.new.crew.knows.history) c.loop-one.idle.items c.push_reserved.new.self.items c.give_back.result c.push_reserved.ensures.items
          (all_back_on _ _ _ _ _ gave.goes_on was.2) (same_era _ _ _ _ _ mine.era_is (subst (λ (z : RoundFacts × List Chapter). IsBackIn z c.in-Some.one.known.at.era c.give_back.new.crew.knows.history c.give_back.result) was.3 gave.back)),
      gave.round ∙ was.3,
      c.push_reserved.ensures.capacity ∙ was.4,
      c.pop.ensures.capacity ∙ was.5,
      gave.handed ∙ was.6,
      counted_on c.loop-one.crew.back _ (vec_len c.loop-one.idle) _ _ gave.counted was.7 grown,
      prefix_trans c.args.crew.now.knows.history c.loop-one.crew.knows.history c.give_back.new.crew.knows.history was.8 gave.goes_on,
      took_one c.pop.new.self.items c.loop-one.held.items c.loop-one.idle.items c.push_reserved.new.self.items c.in-Some.one c.give_back.result _ cut c.push_reserved.ensures.items gave.kept was.9,
      gave_one c.args.crew.now.knows.accepted c.loop-one.crew.knows.accepted c.give_back.new.crew.knows.accepted c.loop-one.idle.items c.push_reserved.new.self.items c.give_back.result c.push_reserved.ensures.items gave.changes was.10,
      gave.free ∙ was.11,
    )

pub returns-clause-kept : goal.returns-clause-kept
returns-clause-kept g c = let was = c.loop-one.invariant in let none : c.loop-one.held.items ≡ [] = nil_from_length c.loop-one.held.items (sym c.loop-one.held.ok.0 ∙ c.in_default.ensures.cases.0) in
    kept_in_order c.loop-one.idle.items c.args.held.now.items (ap (λ (z : List EndFacts). map kept_of z ++ map kept_of (reverse c.loop-one.idle.items)) (sym none) ∙ was.9)
