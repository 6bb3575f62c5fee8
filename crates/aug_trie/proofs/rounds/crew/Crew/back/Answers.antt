use Rattle.std.proofs.Common.{Option, ap, subst, sym, refl, ◌∙◌, ◌≡◌, ◌+◌, ◌%◌, ℕ}
use Rattle.atomic_table.specs.Seated.{TableId}
use Rattle.aug_core.specs.Faces.{face}
use Rattle.aug_core.specs.Places.{shape_of}
use Rattle.aug_core.specs.Counts.{changes_of}
use Rattle.aug_core.specs.Effects.{own_lane_place}
use Rattle.aug_core.specs.declared.view.SeatView.{SeatView}
use Rattle.aug_words.specs.Seats.{Known}
use Rattle.aug_trie.specs.inside.Counted.{HasCounts}
use Rattle.aug_trie.specs.Round.{RoundFacts}
use Rattle.aug_trie.specs.Pass.{PassFacts}
use Rattle.aug_trie.specs.inside.RoundState.{round_of}
use Rattle.aug_trie.specs.inside.PassState.{pass_facts, known_in}
use Rattle.aug_trie.specs.Crew.{CrewFacts, TakesBack}
use Rattle.aug_trie.specs.inside.CrewState.{crew_facts}
use Rattle.aug_trie.proofs.Passing.{pass_told}
use Rattle.aug_trie.proofs.Crews.{back_crew, takes_back_is}
use Rattle.aug_trie.proofs.Freeing.{places_of, back_opens}
use Rattle.aug_trie.proofs.RoundLemmas.{same_shapes, crew_told}
use Rattle.aug_trie.proofs.rounds.crew.Crew.back.Goals as goal

pub invariant_of-self : goal.invariant_of-self
invariant_of-self g c = let f = face g.A.Monoid.parts g.B.Monoid.parts in let i = c.self.inside in let k : Known = c.in-Some-lead.lead in let crew = crew_told c.self.invariant c.in-Some-lead.is c.self.view_is in let v : SeatView = k.view in let j = c.pass.inside in let pk : Known = c.in-Some.words in let p : SeatView = pk.view in let new : Known = c.join.new.self in let w : SeatView = new.view in
    let h = c.join.ensures.view in let holds = crew.0 in let place : ℕ = own_lane_place p in
    let told = pass_told f j.words pk j.account.leaves j.account.bits j.account.next j.account.left c.args.pass c.pass.invariant.pass c.in-Some.is c.pass.view_is in let is = told.0 in let facts = told.1 in let one = is.room.holds in
    let round : round_of pk.table p ≡ round_of k.table v = ap (λ (z : PassFacts). z.round) facts ∙ c.requires.of_crew ∙ ap (λ (z : CrewFacts). z.round) (sym crew.1) in
    let shape : p.shape ≡ v.shape = same_shapes p.shape v.shape is.room.keeps_records holds.is_crew.keeps_records (ap (λ (z : RoundFacts). shape_of z.bits z.workers z.updates z.room) round) in
    let counts : HasCounts (changes_of p.held) j.account.inserts j.account.removals = subst (λ (z : Option Known). HasCounts (changes_of (known_in z).view.held) j.account.inserts j.account.removals) c.in-Some.is c.pass.invariant.counts in
    record {
      known = new;
      there = refl;
      holds = back_crew f v p w place h.found i.back i.inserts i.removals j.account.inserts j.account.removals holds one.0 one.1 shape is.knows_table is.knowledge counts h.loaded
          ((i.back + 1) % 4294967296) ((i.inserts + j.account.inserts) % 4294967296) ((i.removals + j.account.removals) % 4294967296) refl refl refl;
      opens = λ is. back_opens k new c.join.ensures.table p.lent (ap places_of h.loaded.stepped) (crew.2 is);
    }

pub returns : goal.returns
returns g c = let f = face g.A.Monoid.parts g.B.Monoid.parts in let i = c.self.inside in let k : Known = c.in-Some-lead.lead in let crew = crew_told c.self.invariant c.in-Some-lead.is c.self.view_is in let v : SeatView = k.view in let j = c.pass.inside in let pk : Known = c.in-Some.words in let p : SeatView = pk.view in let new : Known = c.join.new.self in let w : SeatView = new.view in
    let h = c.join.ensures.view in let holds = crew.0 in let place : ℕ = own_lane_place p in
    let told = pass_told f j.words pk j.account.leaves j.account.bits j.account.next j.account.left c.args.pass c.pass.invariant.pass c.in-Some.is c.pass.view_is in let is = told.0 in let facts = told.1 in let one = is.room.holds in
    let round : round_of pk.table p ≡ round_of k.table v = ap (λ (z : PassFacts). z.round) facts ∙ c.requires.of_crew ∙ ap (λ (z : CrewFacts). z.round) (sym crew.1) in
    let shape : p.shape ≡ v.shape = same_shapes p.shape v.shape is.room.keeps_records holds.is_crew.keeps_records (ap (λ (z : RoundFacts). shape_of z.bits z.workers z.updates z.room) round) in
    let counts : HasCounts (changes_of p.held) j.account.inserts j.account.removals = subst (λ (z : Option Known). HasCounts (changes_of (known_in z).view.held) j.account.inserts j.account.removals) c.in-Some.is c.pass.invariant.counts in
    let back = takes_back_is f v p w place h.found i.back i.inserts i.removals j.account.inserts j.account.removals holds one.0 one.1 shape is.knows_table is.knowledge counts h.loaded k.table pk.table i.free j.account.left in
    let joined : TakesBack (crew_facts k i.free) (crew_facts new i.free) (pass_facts pk j.account.left) = subst (λ (z : TableId). TakesBack (crew_facts k i.free) (crew_facts (record { table = z; view = w }) i.free) (pass_facts pk j.account.left)) (sym c.join.ensures.table) back in
    subst (λ (z : CrewFacts). TakesBack z (crew_facts new i.free) c.args.pass) crew.1 (subst (λ (z : PassFacts). TakesBack (crew_facts k i.free) (crew_facts new i.free) z) facts joined)
