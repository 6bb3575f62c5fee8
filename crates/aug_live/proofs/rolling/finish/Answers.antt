use Rattle.std.proofs.Common.{◌∙◌, ap, sym}
use Rattle.std.specs.Prelude.{reverse}
use Rattle.aug_core.proofs.PrefixLemmas.{prefix_trans}
use Rattle.aug_trie.specs.Crew.{CrewFacts}
use Rattle.aug_trie.specs.Round.{RoundFacts}
use Rattle.aug_live.specs.inside.Rolls.{kept_of, rounds_in}
use Rattle.aug_live.proofs.Dealing.{map_reverse}
use Rattle.aug_live.proofs.Moving.{all_back_on}
use Rattle.aug_live.proofs.rolling.finish.Goals as goal

pub returns-clause-ends : goal.returns-clause-ends
returns-clause-ends g c =
    let gave = c.give_all.ensures in let gone = c.give_all.new.crew in let lanes = c.give_all.new.idle.items in let done = c.finish.ensures in let rolls = done.rolls.1 in let pairs = done.rolls.2 ∙ ap (λ (z : RoundFacts). z.members) rolls.round_is in let last = rolls.last in
    let bits = done.bits ∙ ap (λ (z : CrewFacts). z.round.bits) (sym rolls.last_is) ∙ sym rolls.ends.bits in (
      rolls.ended,
      record {
        last = last;
        same_rounds = ap rounds_in rolls.last_is ∙ gave.round;
        goes_on = prefix_trans c.args.crew.knows.history gone.knows.history last.knows.history gave.goes_on rolls.goes_on;
        ends = rolls.ends;
        none_missing = rolls.none_missing;
        lanes = lanes;
        back = all_back_on (rounds_in c.args.crew) c.args.era gone.knows.history last.knows.history lanes rolls.goes_on gave.back;
        kept = map_reverse kept_of lanes ∙ ap reverse gave.kept ∙ sym (map_reverse kept_of c.args.held.items);
        changes = rolls.same_changes ∙ gave.changes;
      },
      λ i. record { bits = bits i; pairs = pairs i },
      rolls.inserts_are,
      rolls.removals_are,
    )
