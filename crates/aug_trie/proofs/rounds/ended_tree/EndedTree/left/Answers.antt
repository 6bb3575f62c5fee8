use Rattle.aug_trie.specs.Ended.{EndedFacts}
use Rattle.aug_trie.specs.inside.EndedState.{pairs_at_rest}
use Rattle.aug_trie.proofs.EndedWalks.{node_named}
use Rattle.aug_trie.proofs.rounds.ended_tree.EndedTree.left.Goals as goal

pub left_word-word-requires : goal.left_word-word-requires
left_word-word-requires g c = let i = c.self.inside in let first : EndedFacts = record { bits = i.bits; members = pairs_at_rest i.rest i.bits 0 i.root; inserts = i.inserts; removals = i.removals; missing = i.missing; calls = i.calls.made; rest = i.rest; root = i.root } in
    node_named g.A.Monoid.parts g.B.Monoid.parts first c.args.self.now c.one_more-self-inside.result.made c.args.node.now c.self.view_is c.requires.inner c.requires.node
