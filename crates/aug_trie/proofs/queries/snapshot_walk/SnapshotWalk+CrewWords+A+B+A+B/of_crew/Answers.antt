use Rattle.aug_trie.proofs.CrewWalks.{walk_of_last}
use Rattle.aug_trie.proofs.queries.snapshot_walk.SnapshotWalk+CrewWords+A+B+A+B.of_crew.Goals as goal

pub over-requires : goal.over-requires
over-requires g c = let e = c.root-number.ensures in walk_of_last g.A.Monoid.parts g.B.Monoid.parts c.args.lead.view (record { number = c.root-number.result }) c.requires.knows e.value c.args.bits c.requires.bits
