use Rattle.std.proofs.Common.{rules}
use Rattle.aug_trie.proofs.Noting.{followed}
use Rattle.aug_trie.proofs.rounds.pass.Pass.follow.Goals as goal

pub invariant_of-self : goal.invariant_of-self
invariant_of-self g c = let i = c.self.inside in (followed g.A.Monoid.parts g.B.Monoid.parts i.words i.account c.args.self.now c.in-Some-words.words c.self.invariant c.self.view_is c.in-Some-words.is
    c.reader.inside.words c.reader.inside.bits c.args.reader.now c.in-Some.followed c.follow-number.new.self c.follow-number.result c.reader.invariant c.in-Some.is c.reader.view_is c.follow-number.ensures.learns.view c.follow-number.ensures.learns.table).taken.holds

pub returns : goal.returns
returns g c = let i = c.self.inside in let made = followed g.A.Monoid.parts g.B.Monoid.parts i.words i.account c.args.self.now c.in-Some-words.words c.self.invariant c.self.view_is c.in-Some-words.is
    c.reader.inside.words c.reader.inside.bits c.args.reader.now c.in-Some.followed c.follow-number.new.self c.follow-number.result c.reader.invariant c.in-Some.is c.reader.view_is c.follow-number.ensures.learns.view c.follow-number.ensures.learns.table in
    record { takes_up = made.takes_up; learns = made.learns; takes = made.taken.takes; known = made.taken.known; goes_on = made.taken.goes_on; keeps = made.taken.keeps; step = made.taken.step; reader = search rules }
