use Rattle.std.proofs.Common.{◌∙◌, ap}
use Rattle.aug_trie.specs.Round.{table_of}
use Rattle.aug_trie_tests.proofs.Crewing.{asked_since, learnt_since, handed_since, handed_round, half_of, one_out}
use Rattle.aug_trie_tests.proofs.renewing.a_crew_looks_asks_and_closes_its_account.Goals as goal

pub closed_over-requires-clause-one_out : goal.closed_over-requires-clause-one_out
closed_over-requires-clause-one_out g c =
    one_out c.in_ok-round.crew c.ask.new.self (asked_since 1 0 c.in_ok-round.crew c.look.new.self c.ask.new.self
    (learnt_since 1 0 c.in_ok-round.crew c.pass.new.self c.look.new.self
    (handed_since c.in_ok-round.crew c.pass.new.self c.expect-pass.result c.pass.result c.pass.ensures.handed c.expect-pass.ensures)
    c.look.ensures.crew_is) c.ask.ensures.reads.same) c.in_ok-round.ensures.none_out

pub closed_over-requires-clause-together : goal.closed_over-requires-clause-together
closed_over-requires-clause-together g c =
    ap table_of (asked_since 1 0 c.in_ok-round.crew c.look.new.self c.ask.new.self
    (learnt_since 1 0 c.in_ok-round.crew c.pass.new.self c.look.new.self
    (handed_since c.in_ok-round.crew c.pass.new.self c.expect-pass.result c.pass.result c.pass.ensures.handed c.expect-pass.ensures)
    c.look.ensures.crew_is) c.ask.ensures.reads.same).round
    ∙ c.in_ok-round.ensures.together

pub closed_over-requires-clause-half : goal.closed_over-requires-clause-half
closed_over-requires-clause-half g c =
    half_of c.into_half-half.result c.changed.new.pass c.expect-pass.result c.in_ok-round.crew c.ask.new.self c.into_half-half.ensures c.changed.ensures
    (handed_round c.in_ok-round.crew c.pass.new.self c.expect-pass.result c.pass.result c.pass.ensures.handed c.expect-pass.ensures)
    (asked_since 1 0 c.in_ok-round.crew c.look.new.self c.ask.new.self
    (learnt_since 1 0 c.in_ok-round.crew c.pass.new.self c.look.new.self
    (handed_since c.in_ok-round.crew c.pass.new.self c.expect-pass.result c.pass.result c.pass.ensures.handed c.expect-pass.ensures)
    c.look.ensures.crew_is) c.ask.ensures.reads.same).round
