-- A pass that lends a reader or takes one back is one still, and what a reader's queries come to.
use Rattle.std.proofs.Common.{◌*◌, ◌≡◌, ℕ, Option, Some, List, refl, sym, ap, ◌∙◌, subst}
use Rattle.aug_core.specs.Counts.{changes_of}
use Rattle.aug_core.specs.declared.view.SeatView.{SeatView}
use Rattle.aug_core.proofs.Fits.{book_as}
use Rattle.aug_words.specs.Seats.{Store, Known, AreTogether}
use Rattle.aug_trie.specs.Pass.{PassFacts}
use Rattle.aug_trie.specs.Round.{TableFacts, table_of}
use Rattle.aug_trie.specs.declared.rounds.account.Account.{Account}
use Rattle.aug_trie.specs.inside.Counted.{HasCounts}
use Rattle.aug_trie.specs.inside.CrewState.{HoldsCrew}
use Rattle.aug_trie.specs.inside.Goes.{KnowsRecords, Looks}
use Rattle.aug_trie.specs.inside.PassState.{pass_facts, known_in, IsPass, KeepsAccount}
use Rattle.aug_trie.specs.inside.ReaderState.{HoldsReader}
use Rattle.aug_trie.specs.inside.RoundState.{facts_of}
use Rattle.aug_trie.proofs.Passing.{pass_told}
use Rattle.aug_trie.proofs.RoundLemmas.{at_table}
use Rattle.aug_trie.proofs.SnapshotWalks.{knows_on}
use Rattle.aug_trie.proofs.Going.{room_same}

-- a view after which only those are others for whom it answers
pub lent_alone : (old new : SeatView) (lent : List ℕ) → new ≡ record old { lent = lent } → new ≡ record old { lent = new.lent }
lent_alone old new lent is = is ∙ (λ i. record old { lent = (sym is i).lent })

module _ (f : ℕ → ℕ → List (ℕ × ℕ) → List ℕ) where
  -- for whom a pass answers makes no other pass of it
  lent_pass : (v : SeatView) (lent : List ℕ) (leaves bits next left : ℕ) → IsPass f v leaves bits next left → IsPass f (record v { lent = lent }) leaves bits next left
  lent_pass v lent leaves bits next left p = record {
    leaves_are = record { are = p.leaves_are.are; few = p.leaves_are.few };
    bits_are = p.bits_are;
    knows_table = book_as f v refl refl refl p.knows_table;
    room = room_same v (record v { lent = lent }) next (left * bits) refl refl p.room;
    budget = p.budget;
    small = p.small;
    knowledge = record { is_history = p.knowledge.is_history; stands = p.knowledge.stands };
  }

  -- a pass that lent a reader, or took one back
  module _ (words : Option Known) (k w : Known) (a : Account) (now : PassFacts) (holds : KeepsAccount f words a) (there : words ≡ Some k) (facts : pass_facts (known_in words) a.left ≡ now) (lent : w.view ≡ record k.view { lent = w.view.lent }) where
    pub lent_holds : KeepsAccount f (Some w) a
    lent_holds = let told = pass_told f words k a.leaves a.bits a.next a.left now holds.pass there facts in record {
      pass = record { known = w; there = refl; is_pass = subst (λ (z : SeatView). IsPass f z a.leaves a.bits a.next a.left) (sym lent) (lent_pass k.view w.view.lent a.leaves a.bits a.next a.left told.0) };
      counts = subst (λ (z : SeatView). HasCounts (changes_of z.held) a.inserts a.removals) (sym lent) (subst (λ (z : Option Known). HasCounts (changes_of (known_in z).view.held) a.inserts a.removals) there holds.counts);
    }

  -- a crew that took a reader back is one still
  pub lent_crew : (v w : SeatView) (back inserts removals : ℕ) → w ≡ record v { lent = w.lent } → HoldsCrew f v back inserts removals → HoldsCrew f w back inserts removals
  lent_crew v w back inserts removals lent h = let c = h.is_crew in let k = c.knowledge in subst (λ (z : SeatView). HoldsCrew f z back inserts removals) (sym lent) record {
    handed = h.handed;
    is_crew = record {
      keeps_records = c.keeps_records;
      knows_table = book_as f v refl refl refl c.knows_table;
      hands_out = c.hands_out;
      took_back = c.took_back;
      knowledge = record { is_history = k.is_history; stands = k.stands };
    };
    few = h.few;
    back_is = h.back_is;
    inserts_are = h.inserts_are;
    removals_are = h.removals_are;
  }

  -- ---- readers

  -- what is known of a reader's words
  pub reader_told : (words : Option Known) (k : Known) (bits : ℕ) (now : PassFacts) → HoldsReader f words bits → words ≡ Some k → pass_facts (known_in words) 0 ≡ now → (bits ≡ k.view.shape.bits) × KnowsRecords f k.view × (pass_facts k 0 ≡ now)
  reader_told words k bits now h is facts = let same : h.known ≡ k = ap known_in (sym h.there ∙ is) in (
    h.bits_are ∙ ap (λ (z : Known). z.view.shape.bits) same,
    subst (λ (z : Known). KnowsRecords f z.view) same h.knows_records,
    ap (λ (z : Option Known). pass_facts (known_in z) 0) (sym is) ∙ facts,
  )

  -- they are those of its table
  pub reader_together : (store : Store) (words : Option Known) (k : Known) (now : PassFacts) (table : TableFacts) → store.shape.reservations ≡ 0 → k.view.shape.reservations ≡ 0 → words ≡ Some k → pass_facts (known_in words) 0 ≡ now → table_of now.round ≡ table → facts_of store ≡ table → AreTogether store k
  reader_together store words k now table off off' there facts one store_is = at_table store k table off off' (ap (λ (z : Option Known). table_of (pass_facts (known_in z) 0).round) (sym there) ∙ ap (λ (z : PassFacts). table_of z.round) facts ∙ one) store_is

  -- a reader that looked is one still
  pub still_reader : (n : ℕ) (words : Option Known) (k new : Known) (bits : ℕ) (now : PassFacts) → HoldsReader f words bits → words ≡ Some k → pass_facts (known_in words) 0 ≡ now → Looks n k.view new.view → HoldsReader f (Some new) bits
  still_reader n words k new bits now h there facts l = let told = reader_told words k bits now h there facts in record {
    known = new;
    there = refl;
    bits_are = told.0 ∙ ap (λ (z : SeatView). z.shape.bits) (sym l.is);
    knows_records = knows_on f n k.view new.view l told.1;
  }
