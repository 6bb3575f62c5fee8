-- What a batch of updates of a table that lasts comes to, from the pass as it was and from what its runs say.
use Rattle.std.proofs.lemmas.Option.{none-some}
use Rattle.std.proofs.Common.{◌≡◌, Option, Some, None, ℕ, suc, ◌*◌, ◌^◌, ◌<◌, ◌≤◌, List, [], ◌∷◌, All, length, get_or, sym, refl, ap, ◌∙◌, subst, arith}
use Rattle.std.proofs.lemmas.List.Elements.{All-append, All-get_or, All-nil}
use Rattle.aug_core.specs.declared.view.Change.{Change}
use Rattle.aug_core.specs.declared.view.SeatView.{SeatView}
use Rattle.aug_model.specs.declared.outcome.Outcome.{Outcome}
use Rattle.aug_words.specs.Seats.{Known}
use Rattle.aug_words.specs.Stocks.{StockFacts, Stocks}
use Rattle.aug_trie.specs.History.{last_cut}
use Rattle.aug_trie.specs.Knowledge.{StandsIn}
use Rattle.aug_trie.specs.LastingBatches.{LastingBatch, all_made}
use Rattle.aug_trie.specs.LastingTable.{LastingFacts, IsShort, most_lasting_steps}
use Rattle.aug_trie.specs.Pass.{GoesOn}
use Rattle.aug_trie.specs.declared.queries.snapshot.Snapshot.{Snapshot}
use Rattle.aug_trie.specs.declared.updates.request.Request.{Request}
use Rattle.aug_trie.specs.inside.Goes.{HasLeaves}
use Rattle.aug_trie.specs.inside.Knows.{knows, KnowsRound}
use Rattle.aug_trie.specs.inside.Lasting.{all_records}
use Rattle.aug_trie.specs.inside.LastingRuns.{EndsScanned, MakesRun, each_steps}
use Rattle.aug_trie.specs.inside.LastingState.{lasting_facts, HasLastingPass}
use Rattle.aug_trie.specs.inside.PassState.{known_in, pass_facts}
use Rattle.aug_trie.proofs.Accepting.{knowledge_on}
use Rattle.aug_trie.proofs.BatchCalls.{does_alone, own_stands}
use Rattle.aug_trie.proofs.LastingRuns.{first_made}
use Rattle.aug_trie.proofs.LastingUpdates.{goes_on_by, is_pass, is_pass_on, no_look, now_is, short_by, slots}

-- what holds of the changes of each update holds of all
all_own : (P : Change → Type 0) (made : List (List Change)) → ((i : ℕ) → i < length made → All P (get_or made i [])) → All P (all_made made)
all_own P [] each = All-nil P
all_own P (own ∷ made) each = All-append P own (all_made made) (each 0 (omega arith)) (all_own P made (λ i low. each (suc i) (omega (arith, low))))

-- what the runs of a batch want
pub record MayRun (keys : List ℕ) (v : SeatView) (k : StockFacts) (leaves bits : ℕ) : Type 0 where
  pub leaves_are : HasLeaves v.shape leaves
  pub bits_are : bits ≡ v.shape.bits
  pub some : 1 ≤ bits
  pub low : All (λ (key : ℕ). key < 2 ^ v.shape.bits) keys
  pub none : k.replaced ≡ 0
  pub rests : k.era ≡ 0

pub may_run : (f : ℕ → ℕ → List (ℕ × ℕ) → List ℕ) (words : Option Known) (stock : StockFacts) (leaves bits : ℕ) (look : Option Snapshot) (now : LastingFacts) (k : Known) (holds : HasLastingPass f words stock leaves bits look) (facts : lasting_facts (known_in words) stock look ≡ now) (there : words ≡ Some k)
    {keys : List ℕ} → All (λ (key : ℕ). key < 2 ^ now.pass.round.bits) keys → now.look ≡ None → MayRun keys k.view stock leaves bits
may_run f words stock leaves bits look now k holds facts there {keys} low closed = let p = is_pass f words stock leaves bits look now k holds facts there in record {
  leaves_are = p.leaves_are;
  bits_are = p.bits_are;
  some = (let some = p.knows_table.laid_out.bits.0 in let are = p.bits_are in omega (arith, some, are));
  low = subst (λ (z : LastingFacts). All (λ (key : ℕ). key < 2 ^ z.pass.round.bits) keys) (sym (now_is f words stock leaves bits look now k holds facts there)) low;
  none = p.none;
  rests = p.rests (no_look f words stock leaves bits look now k holds facts there closed);
}

module _ (f : ℕ → ℕ → List (ℕ × ℕ) → List ℕ) (words : Option Known) (stock : StockFacts) (leaves bits : ℕ) (look : Option Snapshot) (now : LastingFacts) (k : Known) (holds : HasLastingPass f words stock leaves bits look) (facts : lasting_facts (known_in words) stock look ≡ now) (there : words ≡ Some k)
    (w : Known) (after : StockFacts) (table : w.table ≡ k.table) {keys : List ℕ} {requests : List Request} {outcomes : List Outcome} {n : ℕ} (low : All (λ (key : ℕ). key < 2 ^ now.pass.round.bits) keys) (few : n ≤ length keys)
    (m : MakesRun f keys requests outcomes 0 n (length keys * each_steps k.view.shape) k.view w.view) where
  key_low : (i : ℕ) → i < length m.made → get_or keys i 0 < 2 ^ k.view.shape.bits
  key_low i below = let all = m.all in subst (λ (z : LastingFacts). get_or keys i 0 < 2 ^ z.pass.round.bits) (sym (now_is f words stock leaves bits look now k holds facts there)) (All-get_or (λ (key : ℕ). key < 2 ^ now.pass.round.bits) keys i 0 (omega (arith, below, all, few)) low)

  known_batch : KnowsRound w.view
  known_batch = let p = is_pass f words stock leaves bits look now k holds facts there in
      knowledge_on f all_records (all_made m.made) k.view w.view p.knows_table m.works.goes (all_own (StandsIn (last_cut (knows w.view).history)) m.made (λ i below. own_stands f p.knows_table (key_low i below) m.works.goes (first_made f m i below) p.knowledge)) p.knowledge

  pub does_batch : LastingBatch requests keys outcomes n now.pass.knows (knows w.view)
  does_batch = let p = is_pass f words stock leaves bits look now k holds facts there in
      subst (λ (z : LastingFacts). LastingBatch requests keys outcomes n z.pass.knows (knows w.view)) (now_is f words stock leaves bits look now k holds facts there) record {
        made = m.made;
        one_each = (let all = m.all in omega (arith, all));
        each = λ i below. let all = m.all in let less : i < length m.made = omega (arith, below, all) in does_alone f p.knows_table (key_low i less) m.works.goes (first_made f m i less);
        accepted = m.works.goes.changes;
      }

  pub holds_batch : now.look ≡ None → Stocks w.view after → after.replaced ≡ 0 → after.era ≡ 0 → HasLastingPass f (Some w) after leaves bits look
  holds_batch closed s none rests = record { known = w; there = refl; is_pass = is_pass_on f words stock leaves bits look now k holds facts there w after table look m.works.goes s none (λ _. rests) (λ x is. absurd (none-some x (sym (no_look f words stock leaves bits look now k holds facts there closed) ∙ is))) known_batch }

  pub batch_steps : (steps : ℕ) × (steps ≤ length keys * most_lasting_steps now.pass.round.bits now.pass.round.workers) × GoesOn 0 steps now.pass (pass_facts w w.view.shape.updates)
  batch_steps = let x = goes_on_by f words stock leaves bits look now k holds facts there w after table m.works known_batch in
      let e = slots f words stock leaves bits look now k holds facts there k.view.shape (is_pass f words stock leaves bits look now k holds facts there).lasts in
      let b = ap (λ (z : LastingFacts). z.pass.round.bits) (now_is f words stock leaves bits look now k holds facts there) in let u = ap (λ (z : LastingFacts). z.pass.round.workers) (now_is f words stock leaves bits look now k holds facts there) in
      let one : each_steps k.view.shape ≡ most_lasting_steps now.pass.round.bits now.pass.round.workers = omega arith in let all = ap (λ (z : ℕ). length keys * z) one in
      (x.0, (let le = x.1 in omega (arith, le, all)), x.2)

  pub batch_stops : after.free < bits → EndsScanned k.view w.view after → IsShort now (lasting_facts w after look)
  batch_stops short z = short_by f words stock leaves bits look now k holds facts there w after table z.before z.eras short m.works.goes.shaped z.scans z.held
