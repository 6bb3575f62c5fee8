use Rattle.std.proofs.Common.{arith, refl, rules}
use Rattle.aug_trie.proofs.Ascending.{at_root, level_begins, second_begins}
use Rattle.aug_trie.proofs.turns.ascents.after_try.Goals as goal
use Rattle.aug_trie.proofs.turns.ascents.after_try.Goals.{else-not-published-via-then-not-published+else-not-ascent, else-not-published-via-else-not-published}

pub returns-then-not-ascent-clause-on : goal.returns-then-not-ascent-clause-on
returns-then-not-ascent-clause-on c = λ f number key leaf w are past. second_begins f c.args.bits number key leaf c.args.ascent c.args.published w past _ refl (search rules) (search rules)

pub returns-then-ascent-bits-clause-on : goal.returns-then-ascent-bits-clause-on
returns-then-ascent-bits-clause-on c = λ f number key leaf w are past. at_root f c.args.bits number key leaf c.args.ascent c.args.published w past c.if-ascent-bits.true
    (elim c.else-not-published.branch [ else-not-published-via-then-not-published+else-not-ascent x ↦ (λ first. search rules) | else-not-published-via-else-not-published x ↦ (λ first. search rules) ])

pub returns-clause-on : goal.returns-clause-on
returns-clause-on c = λ f number key leaf w are past. level_begins f c.args.bits number key leaf c.args.ascent c.args.published w past c.args.leaves _ are refl (let not = c.if-ascent-bits.false in let low = c.requires.level in omega arith)
    (elim c.else-not-published.branch [ else-not-published-via-then-not-published+else-not-ascent x ↦ (λ first. search rules) | else-not-published-via-else-not-published x ↦ (λ first. search rules) ])
