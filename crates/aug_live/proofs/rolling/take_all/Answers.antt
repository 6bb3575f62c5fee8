use Rattle.std.proofs.Common.{◌≡◌, ◌+◌, ◌<◌, ◌∙◌, [], ◌∷◌, ◌++◌, true, vec_len, ap, subst, sym}
use Rattle.std.specs.Prelude.{Option, option_to_list}
use Rattle.aug_live.specs.inside.LaneKnowledge.{EndFacts, KnownFacts, Rolls, rolls}
use Rattle.aug_live.proofs.Dealing.{moved_one}
use Rattle.aug_live.proofs.Moving.{all_but_last, last_one, shrunk_len}
use Rattle.aug_live.proofs.Tied.{rolls_on}
use Rattle.aug_live.proofs.rolling.take_all.Goals as goal

pub loop-port-preserved : goal.loop-port-preserved
loop-port-preserved g c =
    let was = c.loop-port.invariant in
    let cut : c.loop-port.ports.items ≡ c.pop.new.self.items ++ c.in-Some.port ∷ [] = c.pop.ensures.items ∙ ap (λ (z : Option EndFacts). c.pop.new.self.items ++ option_to_list z) c.in-Some.is in
    let grown : vec_len c.push_reserved.new.self ≡ vec_len c.loop-port.held + 1 = c.push_reserved.ensures.len in let shrunk : vec_len c.pop.new.self + 1 ≡ vec_len c.loop-port.ports = c.in-Some.ensures.cases in (
      moved_one c.pop.new.self.items c.loop-port.ports.items c.loop-port.held.items c.push_reserved.new.self.items c.in-Some.port (record { lock = c.in-Ok.out.lock; known = c.in-Ok.out.known }) _ cut c.push_reserved.ensures.items
          (λ i. record { lock = c.in-Ok.ensures.lock i; known = c.in-Ok.ensures.known i }) was.0,
      shrunk_len (vec_len c.loop-port.ports) _ (vec_len c.loop-port.held) _ _ was.1 grown shrunk,
      all_but_last (λ (e : EndFacts). (rolls e.known.whose ≡ true) × (0 < e.known.at.era)) c.pop.new.self.items c.loop-port.ports.items c.in-Some.port cut was.2,
      c.pop.ensures.capacity ∙ was.3,
      c.push_reserved.ensures.capacity ∙ was.4,
    )

pub invariant_of-push_reserved : goal.invariant_of-push_reserved
invariant_of-push_reserved g c =
    let port : EndFacts = c.in-Some.port in let learnt = c.in-Ok.ensures in
    let mine = last_one (λ (e : EndFacts). (rolls e.known.whose ≡ true) × (0 < e.known.at.era)) c.pop.new.self.items c.loop-port.ports.items port c.in-Some.ensures.items c.loop-port.invariant.2 in (
      learnt.taken,
      ap (λ (z : KnownFacts). rolls z.whose) learnt.known ∙ mine.0,
      subst (λ (z : KnownFacts). Rolls z z.before c.in-Ok.lane) (sym learnt.known) (rolls_on port.known c.in-Ok.lane learnt.knows mine.0 mine.1),
    )
