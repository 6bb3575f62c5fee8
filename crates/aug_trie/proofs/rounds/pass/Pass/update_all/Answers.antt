use Rattle.std.proofs.Common.{rules, sym, ◌∙◌}
use Rattle.aug_trie.proofs.BatchCalls.{batch_made, may_raise}
use Rattle.aug_trie.proofs.rounds.pass.Pass.update_all.Goals as goal

pub invariant_of-self : goal.invariant_of-self
invariant_of-self g c = let left = c.at_leaves-after.ensures in let up = c.propagate_all-words.ensures in
    (batch_made g.A.Monoid.parts g.B.Monoid.parts c.self.invariant c.self.view_is (sym c.take.ensures.value ∙ c.in-Some.is) c.requires.keys c.requires.budget left.left left.table left.account left.counts up.raised up.table).holds

pub returns : goal.returns
returns g c = let left = c.at_leaves-after.ensures in let up = c.propagate_all-words.ensures in
    let made = batch_made g.A.Monoid.parts g.B.Monoid.parts c.self.invariant c.self.view_is (sym c.take.ensures.value ∙ c.in-Some.is) c.requires.keys c.requires.budget left.left left.table left.account left.counts up.raised up.table in
    record { does = made.does; goes_on = made.goes_on; keeps = made.keeps; rest = search rules }

pub propagate_all-words-requires-clause-keys : goal.propagate_all-words-requires-clause-keys
propagate_all-words-requires-clause-keys g c = let left = c.at_leaves-after.ensures in
    (may_raise g.A.Monoid.parts g.B.Monoid.parts c.self.invariant c.self.view_is (sym c.take.ensures.value ∙ c.in-Some.is) c.requires.keys c.requires.budget
    left.left left.table left.account left.counts).low

pub propagate_all-words-requires-clause-room : goal.propagate_all-words-requires-clause-room
propagate_all-words-requires-clause-room g c = let left = c.at_leaves-after.ensures in
    (may_raise g.A.Monoid.parts g.B.Monoid.parts c.self.invariant c.self.view_is (sym c.take.ensures.value ∙ c.in-Some.is) c.requires.keys c.requires.budget
    left.left left.table left.account left.counts).room

pub propagate_all-words-requires-clause-small : goal.propagate_all-words-requires-clause-small
propagate_all-words-requires-clause-small g c = let left = c.at_leaves-after.ensures in
    (may_raise g.A.Monoid.parts g.B.Monoid.parts c.self.invariant c.self.view_is (sym c.take.ensures.value ∙ c.in-Some.is) c.requires.keys c.requires.budget
    left.left left.table left.account left.counts).small
