use Rattle.std.proofs.Common.{◌≤◌, ◌∙◌, length, arith, ap}
use Rattle.aug_trie.specs.Ended.{EndedFacts}
use Rattle.aug_trie.proofs.Versions.{root_inside, root_counts, root_fits}
use Rattle.aug_trie.proofs.rounds.ended.Ended.size.Goals as goal

pub record_word-count-requires : goal.record_word-count-requires
record_word-count-requires g c = let e = c.self.inside in root_inside g.A.Monoid.parts g.B.Monoid.parts e.rest e.root e.bits c.self.invariant

pub overflow_cast-result : goal.overflow_cast-result
overflow_cast-result g c = let e = c.self.inside in let fits : c.record_word-count.result ≤ 65536 = (let is = c.record_word-count.ensures in let f = root_fits g.A.Monoid.parts g.B.Monoid.parts e.rest e.root e.bits c.self.invariant in omega arith) in omega arith

pub returns : goal.returns
returns g c = let e = c.self.inside in c.record_word-count.ensures ∙ root_counts g.A.Monoid.parts g.B.Monoid.parts e.rest e.root e.bits c.self.invariant ∙ ap (λ (z : EndedFacts). length z.members) c.self.view_is
