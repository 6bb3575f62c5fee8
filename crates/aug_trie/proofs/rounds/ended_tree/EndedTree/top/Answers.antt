use Rattle.std.proofs.Common.{refl}
use Rattle.aug_trie.specs.Ended.{EndedFacts}
use Rattle.aug_trie.specs.inside.EndedState.{pairs_at_rest}
use Rattle.aug_trie.proofs.EndedWalks.{top_named, named_on}
use Rattle.aug_trie.proofs.rounds.ended_tree.EndedTree.top.Goals as goal

pub node-requires : goal.node-requires
node-requires g c = let m = g.A.Monoid.parts in let n = g.B.Monoid.parts in let i = c.self.inside in let first : EndedFacts = record { bits = i.bits; members = pairs_at_rest i.rest i.bits 0 i.root; inserts = i.inserts; removals = i.removals; missing = i.missing; calls = i.calls.made; rest = i.rest; root = i.root } in
    named_on m n first first c.one_more-self-inside.result.made i.bits 0 i.root refl (top_named m n first c.self.invariant refl)
