-- What an update of a table that lasts comes to, from the pass as it was and from what the calls over its words say.
use Rattle.std.proofs.lemmas.Option.{none-some}
use Rattle.std.proofs.Common.{◌≡◌, Option, Some, None, ℕ, ◌+◌, ◌-◌, ◌*◌, ◌^◌, ◌<◌, ◌≤◌, List, [], ◌++◌, length, slice_index, length-append, sym, refl, ap, ◌∙◌, subst, arith}
use Rattle.std.proofs.lemmas.List.Elements.{All-nil}
use Rattle.aug_core.specs.Places.{Shape}
use Rattle.aug_core.specs.declared.step.StepTaken.{StepTaken}
use Rattle.aug_core.specs.declared.view.Change.{Change}
use Rattle.aug_core.specs.declared.view.SeatView.{SeatView}
use Rattle.aug_words.specs.Seats.{Known, Store}
use Rattle.aug_words.specs.Stocks.{StockFacts, Stocks, IsHeld, birth_in_word, scan_steps}
use Rattle.aug_trie.specs.History.{last_cut}
use Rattle.aug_trie.specs.Knowledge.{StandsIn}
use Rattle.aug_trie.specs.LastingTable.{LastingFacts, IsFull, IsShort, most_lasting_steps}
use Rattle.aug_trie.specs.Pass.{PassFacts, GoesOn}
use Rattle.aug_trie.specs.Round.{table_of}
use Rattle.aug_trie.specs.Updates.{ComesTo, Tells}
use Rattle.aug_trie.specs.declared.updates.told.LeafUpdate.{LeafUpdate}
use Rattle.aug_trie.specs.declared.updates.request.Request.{Request}
use Rattle.aug_trie.specs.inside.Climbing.{CameBy, ChangesLeaf, Settled, told_by}
use Rattle.aug_trie.specs.inside.Goes.{Goes, HasLeaves, part_words}
use Rattle.aug_trie.specs.inside.Knows.{knows, root_history, KnowsRound}
use Rattle.aug_trie.specs.inside.Lasting.{all_records, most_try_steps, KeepsStock, WorksBy, UpdatedHeld, IsScanned}
use Rattle.aug_trie.specs.declared.queries.snapshot.Snapshot.{Snapshot}
use Rattle.aug_trie.specs.inside.LastingState.{IsLasting, LastsBy, lasting_facts, IsHeldLook, IsLastingPass, HasLastingPass}
use Rattle.aug_trie.specs.inside.PassState.{known_in, pass_facts}
use Rattle.aug_trie.specs.inside.RoundState.{round_of, past_rounds, facts_of}
use Rattle.aug_trie.proofs.Accepting.{comes_to, knowledge_on, updated_knowledge}
use Rattle.aug_trie.proofs.LastingCalls.{at_lasting}
use Rattle.aug_trie.proofs.Histories.{numbers_long}
use Rattle.aug_trie.proofs.Passing.{tells_by}
use Rattle.aug_core.proofs.PrefixLemmas.{book_refl}
use Rattle.aug_trie.proofs.Stocked.{works_on}
use Rattle.aug_trie.proofs.WholeWords.{goes_whole}
use Rattle.aug_words.proofs.Stocking.{no_try_none}

-- an update after steps that gained nothing
pub record UpdatedAfter (f : ℕ → ℕ → List (ℕ × ℕ) → List ℕ) (v : SeatView) (key : ℕ) (request : Request) (made : LeafUpdate) (w : SeatView) : Type 0 where
  pub gained : List Change
  pub works : WorksBy f (v.shape.reservations + v.shape.bits * (2 * most_try_steps part_words) + 9) gained v w
  pub at_leaf : ChangesLeaf request key made
  pub came : CameBy f all_records v key request w made.found made.outcome

pub updated_after : (f : ℕ → ℕ → List (ℕ × ℕ) → List ℕ) {v u w : SeatView} {key : ℕ} {request : Request} {made : LeafUpdate} → WorksBy f (v.shape.reservations + 2) [] v u → UpdatedHeld f u key request made w → UpdatedAfter f v key request made w
updated_after f {v} {u} {w} first o = let shaped = first.goes.shaped in let bits = ap (λ (z : Shape). z.bits) shaped in
    let works : WorksBy f (v.shape.reservations + v.shape.bits * (2 * most_try_steps part_words) + 9) o.gained v w = works_on f (v.shape.reservations + 2) (u.shape.bits * (2 * most_try_steps part_words) + 7) _ (omega arith) refl first o.works in record {
      gained = o.gained;
      works = works;
      at_leaf = o.at_leaf;
      came = o.came v w (sym shaped) first.goes.later (book_refl w.seen) works.goes;
    }

module _ (f : ℕ → ℕ → List (ℕ × ℕ) → List ℕ) (words : Option Known) (stock : StockFacts) (leaves bits : ℕ) (look : Option Snapshot) (now : LastingFacts) (k : Known) (holds : HasLastingPass f words stock leaves bits look) (facts : lasting_facts (known_in words) stock look ≡ now) (there : words ≡ Some k) where
  same : holds.known ≡ k
  same = ap known_in (sym holds.there ∙ there)

  pub is_pass : IsLastingPass f k.view stock leaves bits look
  is_pass = subst (λ (z : Known). IsLastingPass f z.view stock leaves bits look) same holds.is_pass

  pub now_is : lasting_facts k stock look ≡ now
  now_is = ap (λ (z : Option Known). lasting_facts (known_in z) stock look) (sym there) ∙ facts

  pub no_look : now.look ≡ None → look ≡ None
  no_look none = ap (λ (z : LastingFacts). z.look) now_is ∙ none

  pub slots : (s : Shape) → IsLasting s → s.reservations ≡ s.workers
  slots s l = ap (λ (z : Shape). z.reservations) l.is

  -- the pass is one of the table
  pub keeps : {store : Store} {layout : Shape} → LastsBy layout store → table_of now.pass.round ≡ facts_of store → KeepsStock f store k stock
  keeps {store} {layout} l together = let p = is_pass in record {
    together = at_lasting store k (facts_of store) l.lasts p.lasts (ap (λ (z : LastingFacts). table_of z.pass.round) now_is ∙ together) refl;
    slots = let e = slots k.view.shape p.lasts in omega arith;
    knows_table = p.knows_table;
    stocks = p.stocks;
  }

  -- what goes on from it
  module _ (w : Known) (after : StockFacts) (table : w.table ≡ k.table) where
    pub goes_on_by : {most : ℕ} {gained : List Change} → WorksBy f most gained k.view w.view → KnowsRound w.view → (steps : ℕ) × (steps ≤ most) × GoesOn 0 steps now.pass (pass_facts w w.view.shape.updates)
    goes_on_by {most} {gained} o known = let g = o.goes in let facts_now : PassFacts = pass_facts w w.view.shape.updates in (
      length o.more,
      o.few,
      subst (λ (z : LastingFacts). GoesOn 0 (length o.more) z.pass (pass_facts w w.view.shape.updates)) now_is record {
        same = let spent : w.view.shape.updates - w.view.shape.updates ≡ k.view.shape.updates - k.view.shape.updates + 0 = omega arith in
            λ i. record facts_now { round = round_of (table i) (record w.view { era = (g.same_eras i).0; shape = g.shaped i; members = g.same_members i }); past = past_rounds (g.shaped i) (g.same_eras i).1; lane = g.lane i; spent = spent i };
        step_count = ap (λ (z : List StepTaken). length z) o.steps ∙ length-append k.view.steps o.more;
        steps_stay = (o.more, o.steps);
        knowledge = known;
        named = numbers_long w.view.shape w.view.seen;
      },
    )

    pub is_pass_on : {used : ℕ} {gained : List Change} (holds : Option Snapshot) → Goes f used gained k.view w.view → Stocks w.view after → after.replaced ≡ 0 → (holds ≡ None → after.era ≡ 0) → ((s : Snapshot) → holds ≡ Some s → IsHeldLook f w.view s bits) → KnowsRound w.view
        → IsLastingPass f w.view after leaves bits holds
    is_pass_on holds g s none rests looks known = let p = is_pass in record {
      lasts = subst IsLasting (sym g.shaped) p.lasts;
      leaves_are = subst (λ (z : Shape). HasLeaves z leaves) (sym g.shaped) p.leaves_are;
      bits_are = p.bits_are ∙ ap (λ (z : Shape). z.bits) (sym g.shaped);
      knows_table = g.knows_table;
      stocks = s;
      none = none;
      rests = rests;
      looks = looks;
      knowledge = known;
    }

    -- with what it knew, where nothing was gained
    pub known_still : {most : ℕ} → WorksBy f most [] k.view w.view → KnowsRound w.view
    known_still o = knowledge_on f all_records [] k.view w.view is_pass.knows_table o.goes (All-nil (StandsIn (last_cut (knows w.view).history))) is_pass.knowledge

    pub still_steps : WorksBy f (k.view.shape.reservations + 2) [] k.view w.view → (steps : ℕ) × (steps ≤ most_lasting_steps now.pass.round.bits now.pass.round.workers) × GoesOn 0 steps now.pass (pass_facts w w.view.shape.updates)
    still_steps o = let x = goes_on_by o (known_still o) in (x.0, (let le = x.1 in let e = slots k.view.shape is_pass.lasts in let n = ap (λ (z : LastingFacts). z.pass.round.workers) now_is in omega arith), x.2)

    -- too few records were there
    pub short_by : (steps : List StepTaken) (eras : ℕ → ℕ) → after.free < bits → w.view.shape ≡ k.view.shape → w.view.steps ≡ k.view.steps ++ steps ++ scan_steps k.view.shape eras k.view.shape.reservations
        → ((i : ℕ) → after.free ≤ i → i < length after.words → (slot : ℕ) × (slot < k.view.shape.reservations) × IsHeld (eras slot) (birth_in_word (slice_index after.words i)) (slice_index after.deaths i)) → IsShort now (lasting_facts w after look)
    short_by steps eras few shaped scans held = let e = slots k.view.shape is_pass.lasts in let same_workers : w.view.shape.workers ≡ k.view.shape.workers = ap (λ (y : Shape). y.workers) shaped in
        subst (λ (y : LastingFacts). IsShort y (lasting_facts w after look)) now_is record {
          few = let b = is_pass.bits_are ∙ ap (λ (y : Shape). y.bits) (sym shaped) in omega arith;
          eras = eras;
          more = steps;
          steps = scans ∙ (λ i. k.view.steps ++ steps ++ scan_steps (sym shaped i) eras ((e ∙ sym same_workers) i));
          held = λ i past low. let x = held i past low in let inside = x.1 in (x.0, omega arith, x.2);
        }

    pub full : after.free < bits → IsScanned f k.view stock w.view after → IsFull now (lasting_facts w after look)
    full few z = let g = z.works.goes in record {
      short = short_by z.before z.eras few g.shaped z.scans z.held;
      same_size = z.size ∙ ap (λ (y : LastingFacts). length y.stock.words) now_is;
      same_knowledge = (λ i. record { history = root_history (g.shaped i) (z.same.0 i); accepted = z.same.1 i }) ∙ ap (λ (y : LastingFacts). y.pass.knows) now_is;
    }

    -- an update
    module _ {key : ℕ} {request : Request} {made : LeafUpdate} (low : key < 2 ^ now.pass.round.bits) (o : UpdatedAfter f k.view key request made w.view) where
      low_key : key < 2 ^ k.view.shape.bits
      low_key = subst (λ (z : LastingFacts). key < 2 ^ z.pass.round.bits) (sym now_is) low

      settles : Settled f all_records k.view key request w.view made.outcome
      settles = record {
        loaded = o.came.whole;
        more = [];
        refusing = λ stopped. (o.at_leaf.stops (sym (goes_whole _ _ o.came.is_whole.last_bits request) ∙ stopped), no_try_none);
        came_to = o.came.came_to;
      }

      pub came_to : ComesTo request key made.outcome now.pass.knows (knows w.view)
      came_to = subst (λ (z : LastingFacts). ComesTo request key made.outcome z.pass.knows (knows w.view)) now_is (comes_to f all_records k.view key request w.view is_pass.knows_table low_key made.outcome settles)

      pub told_after : Tells request key (told_by made) now.pass.knows (knows w.view)
      told_after = subst (λ (z : LastingFacts). Tells request key (told_by made) z.pass.knows (knows w.view)) now_is (tells_by f all_records k.view w.view key request is_pass.knows_table low_key o.works.goes.shaped made o.at_leaf o.came)

      known_after : KnowsRound w.view
      known_after = updated_knowledge f all_records k.view key request w.view is_pass.knows_table low_key made.outcome settles is_pass.knowledge

      pub holds_after : now.look ≡ None → Stocks w.view after → after.replaced ≡ 0 → after.era ≡ 0 → HasLastingPass f (Some w) after leaves bits look
      holds_after closed s none rests = record { known = w; there = refl; is_pass = is_pass_on look o.works.goes s none (λ _. rests) (λ x is. absurd (none-some x (sym (no_look closed) ∙ is))) known_after }

      pub update_steps : (steps : ℕ) × (steps ≤ most_lasting_steps now.pass.round.bits now.pass.round.workers) × GoesOn 0 steps now.pass (pass_facts w w.view.shape.updates)
      update_steps = let x = goes_on_by o.works known_after in (x.0, (let le = x.1 in let e = slots k.view.shape is_pass.lasts in let b = ap (λ (z : LastingFacts). z.pass.round.bits) now_is in let n = ap (λ (z : LastingFacts). z.pass.round.workers) now_is in omega arith), x.2)
