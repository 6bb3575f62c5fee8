use Rattle.std.proofs.Common.{Option, ℕ, sym, subst, ◌∙◌}
use Rattle.aug_trie.specs.Updates.{Tells}
use Rattle.aug_trie.specs.inside.Knows.{knows}
use Rattle.aug_trie.proofs.PassCalls.{has_count, has_records, update_made}
use Rattle.aug_trie.proofs.rounds.pass.Pass.update.Goals as goal

pub after-self-inside-requires-clause-inserts : goal.after-self-inside-requires-clause-inserts
after-self-inside-requires-clause-inserts g c = let i = c.self.inside in (has_count g.A.Monoid.parts g.B.Monoid.parts i.words i.account c.args.self.now c.in-Some.words c.self.invariant c.self.view_is (sym c.take.ensures.value ∙ c.in-Some.is)).0

pub after-self-inside-requires-clause-removals : goal.after-self-inside-requires-clause-removals
after-self-inside-requires-clause-removals g c = let i = c.self.inside in (has_count g.A.Monoid.parts g.B.Monoid.parts i.words i.account c.args.self.now c.in-Some.words c.self.invariant c.self.view_is (sym c.take.ensures.value ∙ c.in-Some.is)).1

pub invariant_of-self : goal.invariant_of-self
invariant_of-self g c = let i = c.self.inside in (update_made g.A.Monoid.parts g.B.Monoid.parts i.words i.account c.args.self.now c.in-Some.words c.self.invariant c.self.view_is (sym c.take.ensures.value ∙ c.in-Some.is)
    c.args.k c.args.request c.update-words.result.1 c.update-words.result.0 c.after-self-inside.result c.requires.key c.requires.budget c.update-words.ensures.updated c.update-words.ensures.left c.update-words.ensures.table c.after-self-inside.ensures).holds

pub returns : goal.returns
returns g c = let i = c.self.inside in let made = update_made g.A.Monoid.parts g.B.Monoid.parts i.words i.account c.args.self.now c.in-Some.words c.self.invariant c.self.view_is (sym c.take.ensures.value ∙ c.in-Some.is)
    c.args.k c.args.request c.update-words.result.1 c.update-words.result.0 c.after-self-inside.result c.requires.key c.requires.budget c.update-words.ensures.updated c.update-words.ensures.left c.update-words.ensures.table c.after-self-inside.ensures in
    record {
      comes_to = made.came_to;
      goes_on = made.goes_on;
      keeps = made.keeps;
      steps = made.steps;
      tells = subst (λ (z : Option ℕ × Option ℕ). Tells c.args.request c.args.k (record { outcome = c.update-words.result.1.outcome; before = z.0; now = z.1 }) c.args.self.now.knows (knows c.update-words.result.0.view))
          (λ i. (sym c.weight_in-before.ensures i, sym c.weight_in-now.ensures i)) made.tells;
    }

pub update-words-requires-clause-room : goal.update-words-requires-clause-room
update-words-requires-clause-room g c = let i = c.self.inside in (has_records g.A.Monoid.parts g.B.Monoid.parts i.words i.account c.args.self.now c.in-Some.words c.self.invariant c.self.view_is (sym c.take.ensures.value ∙ c.in-Some.is) c.requires.budget).0

pub update-words-requires-clause-small : goal.update-words-requires-clause-small
update-words-requires-clause-small g c = let i = c.self.inside in (has_records g.A.Monoid.parts g.B.Monoid.parts i.words i.account c.args.self.now c.in-Some.words c.self.invariant c.self.view_is (sym c.take.ensures.value ∙ c.in-Some.is) c.requires.budget).1

pub after-self-inside-requires-clause-records : goal.after-self-inside-requires-clause-records
after-self-inside-requires-clause-records g c = let i = c.self.inside in (has_records g.A.Monoid.parts g.B.Monoid.parts i.words i.account c.args.self.now c.in-Some.words c.self.invariant c.self.view_is (sym c.take.ensures.value ∙ c.in-Some.is) c.requires.budget).1
