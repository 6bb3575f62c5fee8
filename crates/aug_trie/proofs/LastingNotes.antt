-- What a note of a pass of a table that lasts says, and what such a pass learns of one.
use Rattle.std.proofs.Common.{◌≡◌, ℕ, ◌≤◌, Option, Some, None, List, [], refl, sym, ap, ◌∙◌, subst}
use Rattle.std.proofs.lemmas.List.{append-nil}
use Rattle.std.proofs.lemmas.Option.{none-some}
use Rattle.aug_core.specs.Addresses.{root_place}
use Rattle.aug_core.specs.Counts.{changes_of}
use Rattle.aug_core.specs.Effects.{KnowsBook, noted, own_lane}
use Rattle.aug_core.specs.Kinds.{load_node}
use Rattle.aug_core.specs.declared.view.SeatView.{SeatView}
use Rattle.aug_words.specs.Notes.{LearnsNote}
use Rattle.aug_words.specs.Seats.{Known}
use Rattle.aug_words.specs.Stocks.{StockFacts}
use Rattle.aug_words.proofs.Stocking.{stocks_same}
use Rattle.aug_trie.specs.LastingTable.{LastingFacts}
use Rattle.aug_trie.specs.Note.{NoteFacts}
use Rattle.aug_trie.specs.Pass.{GoesOn, chain_of}
use Rattle.aug_trie.specs.Passes.{HasLearnt}
use Rattle.aug_trie.specs.declared.queries.snapshot.Snapshot.{Snapshot}
use Rattle.aug_trie.specs.inside.Knows.{knows, KnowsRound}
use Rattle.aug_trie.specs.inside.Lasting.{WorksBy}
use Rattle.aug_trie.specs.inside.LastingState.{lasting_facts, IsLastingPass, HasLastingPass}
use Rattle.aug_trie.specs.inside.NoteState.{note_facts}
use Rattle.aug_trie.specs.inside.PassState.{known_in, pass_facts}
use Rattle.aug_trie.specs.inside.RoundState.{eras_of}
use Rattle.aug_trie.proofs.LastingUpdates.{is_pass, now_is, no_look, goes_on_by, is_pass_on}
use Rattle.aug_trie.proofs.Noting.{view_chain, of_pass, noted_table, learnt_table, learns_both, learnt_knowledge}
use Rattle.aug_trie.proofs.Stocked.{goes_quiet, works_one}

module _ (f : ℕ → ℕ → List (ℕ × ℕ) → List ℕ) (words : Option Known) (stock : StockFacts) (leaves bits : ℕ) (look : Option Snapshot) (now : LastingFacts) (k : Known) (holds : HasLastingPass f words stock leaves bits look) (facts : lasting_facts (known_in words) stock look ≡ now) (there : words ≡ Some k) where
  p : IsLastingPass f k.view stock leaves bits look
  p = is_pass f words stock leaves bits look now k holds facts there

  here : lasting_facts k stock look ≡ now
  here = now_is f words stock leaves bits look now k holds facts there

  -- a note was made, and the pass is what it was
  pub record LastingNoted (note w : Known) : Type 0 where
    pub still : HasLastingPass f (Some w) stock leaves bits look
    pub same : lasting_facts w stock look ≡ now
    pub knows_table : KnowsBook f note.view
    pub note_is : note_facts note ≡ record { round = now.pass.round; past = now.pass.past; history = now.pass.knows.history }

  pub lasting_noted : (note w : Known) → w ≡ k → note.table ≡ k.table → note.view ≡ noted k.view → LastingNoted note w
  lasting_noted note w same table is = record {
    still = subst (λ (z : Option Known). HasLastingPass f z stock leaves bits look) (there ∙ ap (λ (z : Known). Some z) (sym same)) holds;
    same = ap (λ (z : Known). lasting_facts z stock look) same ∙ here;
    knows_table = subst (KnowsBook f) (sym is) (noted_table f k.view p.knows_table);
    note_is = (λ i. note_facts (record { table = table i; view = is i })) ∙ ap (λ (z : LastingFacts). of_pass z.pass) here;
  }

  -- a note of the pass's table sits at it
  pub lasting_here : (n : Known) (note : NoteFacts) → note_facts n ≡ note → note.round.table ≡ now.pass.round.table → n.table ≡ k.table
  lasting_here n note note_is one_table = ap (λ (z : NoteFacts). z.round.table) note_is ∙ one_table ∙ ap (λ (z : LastingFacts). z.pass.round.table) (sym here)

  -- a note was learnt
  module _ (n w : Known) (note : NoteFacts) (found : ℕ) (note_is : note_facts n ≡ note) (kn : KnowsBook f n.view) (l : LearnsNote f k.view n.view found w.view) (table : w.table ≡ k.table) where
    abbrev v : SeatView
    v = k.view

    works : WorksBy f 1 [] v w.view
    works = let is = l.loaded.stepped in let held : w.view.held ≡ v.held = ap (λ (z : SeatView). z.held) is in
        works_one f (load_node (root_place v.shape) found) (goes_quiet f p.stocks.numbers l.loaded.sees.later l.loaded.sees.fresh (learnt_table f v n.view w.view found p.knows_table kn l) (ap (λ (z : SeatView). z.shape) is) (ap (λ (z : SeatView). z.members) is) (ap eras_of is) (ap own_lane held)
        (ap changes_of held ∙ sym (append-nil (changes_of v.held))) (λ one. (one.0, held ∙ one.1))) (ap (λ (z : SeatView). z.steps) is)

    known : KnowsRound w.view
    known = learnt_knowledge f v n.view w.view found p.knows_table kn l p.knowledge

    pub lasting_learnt : now.look ≡ None → HasLastingPass f (Some w) stock leaves bits look
    lasting_learnt closed = record {
      known = w;
      there = refl;
      is_pass = is_pass_on f words stock leaves bits look now k holds facts there w stock table look works.goes
          (stocks_same v w.view stock p.stocks works.goes.shaped (ap (λ (z : SeatView). z.held) l.loaded.stepped) (ap (λ (z : SeatView). z.reserved) l.loaded.stepped))
          p.none p.rests (λ x is. absurd (none-some x (sym (no_look f words stock leaves bits look now k holds facts there closed) ∙ is))) known;
    }

    pub lasting_learns : HasLearnt now.pass.round.era (chain_of now.pass) now.pass.knows note (view_chain w.view) (knows w.view)
    lasting_learns = subst (λ (z : LastingFacts × NoteFacts). HasLearnt z.0.pass.round.era (chain_of z.0.pass) z.0.pass.knows z.1 (view_chain w.view) (knows w.view)) (λ j. (here j, note_is j)) (learns_both f v n.view w.view found p.knows_table kn l n.table)

    pub learnt_goes_on : (steps : ℕ) × (steps ≤ 1) × GoesOn 0 steps now.pass (pass_facts w w.view.shape.updates)
    learnt_goes_on = goes_on_by f words stock leaves bits look now k holds facts there w stock table works known
