use Rattle.aug_trie.specs.Ended.{EndedFacts}
use Rattle.aug_trie.specs.inside.EndedState.{pairs_at_rest}
use Rattle.aug_trie.proofs.EndedWalks.{record_inside, left_named}
use Rattle.aug_trie.proofs.rounds.ended.Ended.left_word.Goals as goal

pub record_word-requires : goal.record_word-requires
record_word-requires g c = let i = c.self.inside in let first : EndedFacts = record { bits = i.bits; members = pairs_at_rest i.rest i.bits 0 i.root; inserts = i.inserts; removals = i.removals; missing = i.missing; calls = i.calls.made; rest = i.rest; root = i.root } in
    record_inside g.A.Monoid.parts g.B.Monoid.parts first c.args.self.now c.args.level c.args.place c.args.word c.self.view_is c.requires

pub returns : goal.returns
returns g c = let i = c.self.inside in let first : EndedFacts = record { bits = i.bits; members = pairs_at_rest i.rest i.bits 0 i.root; inserts = i.inserts; removals = i.removals; missing = i.missing; calls = i.calls.made; rest = i.rest; root = i.root } in
    left_named g.A.Monoid.parts g.B.Monoid.parts first c.args.self.now c.args.level c.args.place c.args.word c.record_word.result c.self.view_is c.requires c.record_word.ensures
