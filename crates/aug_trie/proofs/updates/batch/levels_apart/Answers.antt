use Rattle.std.proofs.Common.{◌≡◌, arith}
use Rattle.aug_trie.proofs.Parting.{apart_end, apart_here, apart_on, apart_start}
use Rattle.aug_trie.proofs.updates.batch.levels_apart.Goals as goal

pub loop-level-init : goal.loop-level-init
loop-level-init c = apart_start c.args.bits c.args.key c.args.next

pub loop-level-preserved : goal.loop-level-preserved
loop-level-preserved c = apart_on _ _ _ _ _ _ c.loop-level-test.true c.loop-level.invariant c.if-node-other.false

pub returns-then-node-other : goal.returns-then-node-other
returns-then-node-other c = apart_here _ _ _ _ _ _ c.loop-level-test.true c.loop-level.invariant c.if-node-other.true

pub returns : goal.returns
returns c = let test = c.loop-level-test.false in let end = c.loop-level.auto.level-end in let last : c.loop-level.level ≡ c.args.bits = omega (arith, test, end) in apart_end _ _ _ _ _ _ last c.loop-level.invariant
