-- How the crew of a table that lasts takes a pass back, and what it knows at a look.
use Rattle.std.proofs.Common.{◌≡◌, ℕ, ◌-◌, Option, Some, false, List, [], length, sym, ap, ◌∙◌, subst, arith}
use Rattle.std.specs.Prelude.{unwrap_or}
use Rattle.atomic_table.specs.Seated.{TableId}
use Rattle.aug_core.specs.Addresses.{root_place}
use Rattle.aug_core.specs.Effects.{LoadsNode, own_lane, own_lane_place, opening_of}
use Rattle.aug_core.specs.Places.{Shape}
use Rattle.aug_core.specs.Renewals.{EndWith}
use Rattle.aug_core.specs.declared.view.SeatView.{SeatView}
use Rattle.aug_core.proofs.PrefixLemmas.{prefix_refl}
use Rattle.aug_words.specs.Leads.{TakesLaneBack}
use Rattle.aug_words.specs.Seats.{Known, IsOfLead}
use Rattle.aug_words.specs.Stocks.{StockFacts, Stocks}
use Rattle.aug_trie.specs.Crew.{CrewFacts, TakesBack, CrewLooks}
use Rattle.aug_trie.specs.Knowledge.{Knowledge}
use Rattle.aug_trie.specs.LastingAccounts.{LastingAccount}
use Rattle.aug_trie.specs.LastingTable.{LastingFacts}
use Rattle.aug_trie.specs.Pass.{PassFacts}
use Rattle.aug_trie.specs.Passes.{HandedBack}
use Rattle.aug_trie.specs.Round.{RoundFacts}
use Rattle.aug_trie.specs.declared.queries.snapshot.Snapshot.{Snapshot}
use Rattle.aug_trie.specs.inside.CrewState.{crew_facts}
use Rattle.aug_trie.specs.inside.Knows.{knows, KnowsRound}
use Rattle.aug_trie.specs.inside.Lasting.{WorksBy}
use Rattle.aug_trie.specs.inside.LastingState.{IsLasting, IsLastingCrew, HasLastingPass, ReservesNothing, lasting_facts}
use Rattle.aug_trie.specs.inside.PassState.{known_in, pass_facts}
use Rattle.aug_trie.specs.inside.RoundState.{round_of}
use Rattle.aug_trie.proofs.Crews.{took_back_is}
use Rattle.aug_trie.proofs.Handing.{back_table, back_knowledge, loaded_table, loaded_knowledge}
use Rattle.aug_trie.proofs.Keeping.{weighs_later}
use Rattle.aug_trie.proofs.LastingCalls.{same_lasting}
use Rattle.aug_trie.proofs.LastingUpdates.{is_pass, now_is, known_still}
use Rattle.aug_trie.proofs.Risen.{opening-at_most}
use Rattle.aug_trie.proofs.RollingOver.{root_looks}
use Rattle.aug_trie.proofs.Tallying.{held_few, accounts_so_far}

module _ (face : ℕ → ℕ → List (ℕ × ℕ) → List ℕ) where
  -- the crew took a pass back
  pub record LastingBack (now : CrewFacts) (lead : Known) (pass : PassFacts) (handed : ℕ) : Type 0 where
    pub crew : IsLastingCrew face lead.view handed
    pub takes_back : TakesBack now (crew_facts lead false) pass

  -- a pass that let go of what it reserved, and its crew
  module _ (words : Option Known) (stock : StockFacts) (leaves bits : ℕ) (look : Option Snapshot) (its : LastingFacts) (k : Known) (holds : HasLastingPass face words stock leaves bits look) (facts : lasting_facts (known_in words) stock look ≡ its) (there : words ≡ Some k)
      (lead : Known) (now : CrewFacts) (handed : ℕ) (c : IsLastingCrew face lead.view handed) (is : crew_facts lead false ≡ now) (of_crew : its.pass.round ≡ now.round)
      (w : Known) (after : StockFacts) (table : w.table ≡ k.table) (s : Stocks w.view after) (o : WorksBy face 1 [] k.view w.view) where
    was : lasting_facts k stock look ≡ its
    was = now_is face words stock leaves bits look its k holds facts there

    one_round : round_of k.table k.view ≡ round_of lead.table lead.view
    one_round = ap (λ (z : LastingFacts). z.pass.round) was ∙ of_crew ∙ ap (λ (z : CrewFacts). z.round) (sym is)

    one_shape : w.view.shape ≡ lead.view.shape
    one_shape = o.goes.shaped ∙ same_lasting k.view.shape lead.view.shape (is_pass face words stock leaves bits look its k holds facts there).lasts c.lasts (ap (λ (z : RoundFacts). (z.bits, z.workers, z.updates)) one_round)

    pub of_lead : IsOfLead lead w
    of_lead = record { one_table = table ∙ ap (λ (z : RoundFacts). z.table) one_round; one_shape = one_shape }

    pub reserves_nothing : after ≡ record stock { era = 0 } → ReservesNothing w.view
    reserves_nothing same x listed at = let one = s.era.one x listed (at ∙ ap own_lane s.only) in let low = one.1 in let e : after.era ≡ 0 = ap (λ (z : StockFacts). z.era) same in absurd (omega arith)

    known : KnowsRound w.view
    known = known_still face words stock leaves bits look its k holds facts there w after table o

    pub lasting_back : knows w.view ≡ knows k.view → (new : Known) → new.table ≡ lead.table → TakesLaneBack face lead.view w.view new.view → LastingBack now new its.pass handed
    lasting_back same new stays h = let old : SeatView = lead.view in let p : SeatView = w.view in let place : ℕ = own_lane_place p in
        let later = back_knowledge face old p new.view place h.found s.lane c.knows_table o.goes.knows_table one_shape s.only h.loaded c.knowledge known in
        let shaped : new.view.shape ≡ old.shape = ap (λ (z : SeatView). z.shape) h.loaded.stepped in
        let b = took_back_is face old p new.view place h.found s.lane c.knows_table o.goes.knows_table one_shape s.only h.loaded c.knowledge known lead.table w.table false p.shape.updates in
        let joined : TakesBack (crew_facts lead false) (crew_facts (record { table = lead.table; view = new.view }) false) (pass_facts k k.view.shape.updates) = record {
          knows = subst (λ (z : Knowledge). HandedBack (knows old) z (knows new.view)) same b.knows;
          crew_is = b.crew_is;
          weights = b.weights;
          weights_of_pass = λ key serial weight has. b.weights_of_pass key serial weight (weighs_later k.view.seen p.seen key serial weight o.goes.later has);
          knowledge = b.knowledge;
          loads = b.loads;
        } in record {
          crew = record {
            lasts = subst IsLasting (sym shaped) c.lasts;
            knows_table = back_table face old p new.view place h.found s.lane c.knows_table o.goes.knows_table one_shape s.only h.loaded;
            hands_out = ap (λ (z : SeatView). z.spare) h.loaded.stepped ∙ c.hands_out;
            few = let e : new.view.shape.workers ≡ old.shape.workers = ap (λ (z : Shape). z.workers) shaped in let few = c.few in omega arith;
            knowledge = record { is_history = later.is_history; stands = later.stands };
          };
          takes_back = subst (λ (z : CrewFacts × TableId × LastingFacts). TakesBack z.0 (crew_facts (record { table = z.1; view = new.view }) false) z.2.pass) (λ j. (is j, sym stays j, was j)) joined;
        }

  -- a crew that loaded the root
  module _ (lead : Known) (now : CrewFacts) (handed found : ℕ) (last : SeatView) (c : IsLastingCrew face lead.view handed) (is : crew_facts lead false ≡ now) (l : LoadsNode face lead.view (root_place lead.view.shape) found last) where
    shaped : last.shape ≡ lead.view.shape
    shaped = ap (λ (z : SeatView). z.shape) l.stepped

    -- is a crew still
    pub looks_on : IsLastingCrew face last handed
    looks_on = let k = loaded_knowledge face lead.view last found c.knows_table l c.knowledge in record {
      lasts = subst IsLasting (sym shaped) c.lasts;
      knows_table = loaded_table face lead.view last found c.knows_table l;
      hands_out = ap (λ (z : SeatView). z.spare) l.stepped ∙ c.hands_out;
      few = let e : last.shape.workers ≡ lead.view.shape.workers = ap (λ (z : Shape). z.workers) shaped in let few = c.few in omega arith;
      knowledge = record { is_history = k.is_history; stands = k.stands };
    }

    pub lasting_looks : (new : Known) → new.table ≡ lead.table → new.view ≡ last → CrewLooks now (crew_facts new false)
    lasting_looks new stays view_is = subst (λ (z : Known). CrewLooks now (crew_facts z false)) (λ j. record { table = sym stays j; view = sym view_is j }) (root_looks face lead now found last is c.knows_table l c.knowledge)

    -- and knows all that happened
    pub knows_all : (words : List ℕ) → EndWith face (opening_of last) last words → (new : Known) → new.view ≡ last → LastingAccount (crew_facts new false)
    knows_all words e new view_is = let d = looks_on in let known = d.knowledge in
        let few = held_few face e.state e.seat handed last e.kept e.view_is d.hands_out d.knows_table known.stands in
        let both = accounts_so_far face e.state e.seat handed last e.kept e.view_is d.hands_out d.knows_table known.stands
        (opening-at_most last.shape.bits last.members (knows last).history known.is_history (knows last).history known.is_history.opens (prefix_refl (knows last).history)) in
        subst (λ (z : SeatView). LastingAccount (crew_facts (record { table = new.table; view = z }) false)) (sym view_is) record {
          out = handed - length last.held;
          others = let spare : unwrap_or last.spare 0 ≡ handed = ap (λ (z : Option ℕ). unwrap_or z 0) d.hands_out in omega arith;
          is_history = known.is_history;
          tallies = both.0;
          ledger = both.1;
        }
