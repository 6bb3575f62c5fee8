use Rattle.aug_trie.proofs.Cursors.{cursor_stays}
use Rattle.aug_trie_tests.proofs.asking.passes_over.Goals as goal

pub next-next-requires : goal.next-next-requires
next-next-requires c = cursor_stays _ _ _ _ c.snapshot.ensures.keeps c.next-first.ensures.of_pass
