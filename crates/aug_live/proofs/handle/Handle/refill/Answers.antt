use Rattle.std.proofs.Common.{List, ◌∙◌, sym, subst}
use Rattle.std.specs.Arc.{arc_value}
use Rattle.atomic_table.specs.Seated.{TableId}
use Rattle.aug_live.specs.LiveErrors.{RefusesCall, RefusesRound}
use Rattle.aug_live.specs.inside.LaneKnowledge.{handle_by}
use Rattle.aug_live.specs.inside.Looks.{HoldsHandle}
use Rattle.aug_live.proofs.Carries.{desk_follows, follows_self, refused_map, round_call, trie_by}
use Rattle.aug_live.proofs.Lanes.{ids_more}
use Rattle.aug_live.proofs.handle.Handle.refill.Goals as goal

pub invariant_of-self : goal.invariant_of-self
invariant_of-self g c = let i = c.self.inside in (
  subst (λ (z : List TableId). HoldsHandle i.end (arc_value i.round) i.bits i.lane i.number z) (sym (ids_more i.desk c.refill.new.self c.refill.ensures.more)) c.self.invariant.0,
  c.self.invariant.1,
  c.refill.ensures.more.table ∙ c.self.invariant.2,
)

pub returns-in-Held-clause-follows : goal.returns-in-Held-clause-follows
returns-in-Held-clause-follows g c = let i = c.self.inside in desk_follows i.desk c.refill.new.self i.lane c.args.self.now i.end c.self.invariant.0.mine c.self.invariant.0.there c.self.view_is c.refill.ensures.more

pub returns-in-Held-clause-refused : goal.returns-in-Held-clause-refused
returns-in-Held-clause-refused g c = let i = c.self.inside in let trie = c.refill.new.self in
    refused_map (RefusesRound trie) (RefusesCall (handle_by trie i.lane i.end)) c.refill.result (round_call (handle_by trie i.lane i.end) trie (trie_by trie i.lane i.end)) c.refill.ensures.refused

pub returns-in-Round-clause-follows : goal.returns-in-Round-clause-follows
returns-in-Round-clause-follows g c = let i = c.self.inside in desk_follows i.desk c.refill-in-Round.new.self i.lane c.args.self.now i.end c.self.invariant.0.mine c.self.invariant.0.there c.self.view_is c.refill-in-Round.ensures.more

pub returns-in-Round-clause-refused : goal.returns-in-Round-clause-refused
returns-in-Round-clause-refused g c = let i = c.self.inside in let trie = c.refill-in-Round.new.self in
    refused_map (RefusesRound trie) (RefusesCall (handle_by trie i.lane i.end)) c.refill-in-Round.result (round_call (handle_by trie i.lane i.end) trie (trie_by trie i.lane i.end)) c.refill-in-Round.ensures.refused

pub invariant_of-self-in-Round : goal.invariant_of-self-in-Round
invariant_of-self-in-Round g c = let i = c.self.inside in (
  subst (λ (z : List TableId). HoldsHandle i.end (arc_value i.round) i.bits i.lane i.number z) (sym (ids_more i.desk c.refill-in-Round.new.self c.refill-in-Round.ensures.more)) c.self.invariant.0,
  c.self.invariant.1,
  c.refill-in-Round.ensures.more.table ∙ c.self.invariant.2,
)

pub returns-in-Replaced-clause-follows : goal.returns-in-Replaced-clause-follows
returns-in-Replaced-clause-follows g c = follows_self c.args.self.now
