use Rattle.aug_core.specs.Faces.{face}
use Rattle.aug_trie.specs.inside.NamedCuts.{cut_named}
use Rattle.aug_trie.proofs.Looking.{holds_plainly, reads_plainly}
use Rattle.aug_trie.proofs.queries.nodes.node_at.Goals as goal

pub summary_at-summary-requires-clause-knows : goal.summary_at-summary-requires-clause-knows
summary_at-summary-requires-clause-knows g c = reads_plainly (face g.A.Monoid.parts g.B.Monoid.parts) c.args.pass.now.view c.requires.knows

pub summary_at-summary-requires-clause-node : goal.summary_at-summary-requires-clause-node
summary_at-summary-requires-clause-node g c = let v = c.args.pass.now.view in holds_plainly v c.requires.knows.keeps_records (cut_named v.shape v.seen c.args.snapshot) c.args.level c.args.place c.args.word c.requires.node
