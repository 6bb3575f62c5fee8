use Rattle.std.proofs.Common.{Option, ap, sym, subst, ◌∙◌}
use Rattle.aug_query.specs.Tree.{IsTreeSet}
use Rattle.aug_core.specs.Faces.{face}
use Rattle.aug_words.specs.Seats.{Known}
use Rattle.aug_trie.specs.Pass.{PassFacts}
use Rattle.aug_trie.specs.inside.PassState.{pass_facts, known_in}
use Rattle.aug_trie.specs.Snapshot.{set_at}
use Rattle.aug_trie.proofs.Trees.{named_set}
use Rattle.aug_trie.proofs.rounds.pass.Pass.bits.Goals as goal

pub returns-clause-sets : goal.returns-clause-sets
returns-clause-sets g c s has = let i = c.self.inside in let h = c.self.invariant.pass in let facts = ap (λ (z : Option Known). pass_facts (known_in z) i.account.left) (sym h.there) ∙ c.self.view_is in
    subst (λ (z : PassFacts). IsTreeSet (set_at z s)) facts (named_set (face g.A.Monoid.parts g.B.Monoid.parts) h.known.view s h.is_pass.knows_table)
