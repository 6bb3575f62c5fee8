use Rattle.std.proofs.Common.{false, arith, rules, ap, subst, sym, refl, ◌∙◌, ◌≡◌, [], ◌∷◌, length}
use Rattle.std.specs.Prelude.{unwrap_or}
use Rattle.std.proofs.lemmas.Bool.{false≢true}
use Rattle.aug_core.specs.Cuts.{opening_cut}
use Rattle.aug_core.specs.Faces.{face}
use Rattle.aug_core.specs.Layout.{IsLayout}
use Rattle.aug_core.specs.Opening.{Opening}
use Rattle.aug_core.specs.declared.view.SeatView.{SeatView}
use Rattle.aug_words.specs.Seats.{Known}
use Rattle.aug_trie.specs.inside.Knows.{knows}
use Rattle.aug_trie.specs.inside.RoundState.{round_of, past_rounds, facts_of}
use Rattle.aug_trie.specs.inside.CrewState.{HoldsCrew, crew_facts}
use Rattle.aug_trie.proofs.Crews.{begins_crew, begins_history}
use Rattle.aug_trie.proofs.rounds.round.Round.over.Goals as goal

pub invariant_of-crew : goal.invariant_of-crew
invariant_of-crew g c = let f = face g.A.Monoid.parts g.B.Monoid.parts in let e = c.in_ok-words.ensures in let o : Opening = record { shape = c.args.layout; members = c.args.members.now } in
    let laid : IsLayout o.shape = search rules in let room = c.requires.few in let is = e.lead in
    record { known = c.in_ok-words.lead; there = refl; holds = subst (λ (z : SeatView). HoldsCrew f z 0 0 0) (sym is) (begins_crew f o laid c.requires.keys c.requires.fit (omega arith) c.requires.keeps [] 0 0 [] [] _); opens = λ is. absurd (false≢true is) }

pub returns : goal.returns
returns g c = let f = face g.A.Monoid.parts g.B.Monoid.parts in let e = c.in_ok-words.ensures in let o : Opening = record { shape = c.args.layout; members = c.args.members.now } in
    let laid : IsLayout o.shape = search rules in let room = c.requires.few in let is = e.lead in
    let first = begins_history f o laid c.requires.keys c.requires.fit (omega arith) in let lead : Known = c.in_ok-words.lead in let tog = e.together in
    let opening : knows lead.view ≡ record { history = opening_cut o.shape.bits o.members ∷ []; accepted = [] } = ap knows is ∙ (λ j. record { history = first j; accepted = [] }) in
    let none_out : unwrap_or lead.view.spare 0 ≡ 0 = ap (λ (z : SeatView). unwrap_or z.spare 0) is in
    let none_before : past_rounds lead.view.shape lead.view.past ≡ [] = ap (λ (z : SeatView). past_rounds z.shape z.past) is in
    let none_back : length lead.view.held ≡ 0 = ap (λ (z : SeatView). length z.held) is in
    record {
      round_is = λ j. round_of (tog.one_table j) (is j);
      together = λ j. facts_of (record { table = tog.one_table j; shape = tog.one_shape j });
      crew_is = λ j. record { round = round_of lead.table lead.view; past = none_before j; knows = opening j; steps = lead.view.steps; handed = none_out j; back = none_back j; words = (crew_facts lead false).words; free = false };
    }
