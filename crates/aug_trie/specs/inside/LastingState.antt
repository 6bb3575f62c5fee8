-- What the fields of a table that lasts keep, and those of its crew and of its passes.
use Rattle.std.specs.Prelude.{◌≡◌, ℕ, ◌^◌, ◌≤◌, Option, Some, None, List}
use Rattle.aug_core.specs.Places.{Shape, with_reservations}
use Rattle.aug_core.specs.Effects.{KnowsBook, own_lane}
use Rattle.aug_core.specs.Records.{Lists}
use Rattle.aug_core.specs.declared.view.Reserved.{Reserved}
use Rattle.aug_core.specs.declared.view.SeatView.{SeatView}
use Rattle.aug_words.specs.Seats.{Known, Store}
use Rattle.aug_words.specs.Stocks.{StockFacts, Stocks, number_in_word}
use Rattle.aug_trie.specs.inside.Goes.{HasLeaves}
use Rattle.aug_trie.specs.inside.Knows.{KnowsRound}
use Rattle.aug_trie.specs.inside.PassState.{pass_facts}
use Rattle.aug_trie.specs.inside.NamedCuts.{HasNamed}
use Rattle.aug_trie.specs.inside.SnapshotWalk.{IsWalk}
use Rattle.aug_trie.specs.declared.queries.snapshot.Snapshot.{Snapshot}
use Rattle.aug_trie.specs.LastingTable.{LastingFacts}

-- the table has room for all keys, and a reservation for each lane
pub record IsLasting (s : Shape) : Type 0 where
  pub is : s ≡ with_reservations s.bits s.workers s.updates (2 ^ s.bits) s.workers

-- and this layout
pub record LastsBy (layout : Shape) (store : Store) : Type 0 where
  pub laid_out : layout ≡ store.shape
  pub lasts : IsLasting store.shape

-- the pass whose seat knows this, with its stock and what it holds
abbrev pub lasting_facts : Known → StockFacts → Option Snapshot → LastingFacts
lasting_facts known stock look = record { pass = pass_facts known known.view.shape.updates; stock = stock; look = look }

-- nothing is reserved for the view's lane
abbrev pub ReservesNothing : SeatView → Type 0
ReservesNothing v = (x : Reserved) → Lists v.reserved x → x.slot ≡ own_lane v.held → ⊥

module _ (face : ℕ → ℕ → List (ℕ × ℕ) → List ℕ) where
  -- a crew that handed so many lanes out
  pub record IsLastingCrew (v : SeatView) (handed : ℕ) : Type 0 where
    pub lasts : IsLasting v.shape
    pub knows_table : KnowsBook face v
    pub hands_out : v.spare ≡ Some handed
    pub few : handed ≤ v.shape.workers
    pub knowledge : KnowsRound v

  abbrev pub HasLastingCrew : Known → Type 0
  HasLastingCrew known = (handed : ℕ) × IsLastingCrew known.view handed

  -- a snapshot that is held: what is reserved holds the records of its tree
  pub record IsHeldLook (v : SeatView) (s : Snapshot) (bits : ℕ) : Type 0 where
    pub named : HasNamed v.shape v.seen s
    pub walk : IsWalk face number_in_word v s bits

  -- a pass between two calls: all that was replaced is retired, and what is reserved holds the snapshot, if there is one
  pub record IsLastingPass (v : SeatView) (k : StockFacts) (leaves bits : ℕ) (look : Option Snapshot) : Type 0 where
    pub lasts : IsLasting v.shape
    pub leaves_are : HasLeaves v.shape leaves
    pub bits_are : bits ≡ v.shape.bits
    pub knows_table : KnowsBook face v
    pub stocks : Stocks v k
    pub none : k.replaced ≡ 0
    pub rests : look ≡ None → k.era ≡ 0
    pub looks : (s : Snapshot) → look ≡ Some s → IsHeldLook v s bits
    pub knowledge : KnowsRound v

  pub record HasLastingPass (words : Option Known) (k : StockFacts) (leaves bits : ℕ) (look : Option Snapshot) : Type 0 where
    pub known : Known
    pub there : words ≡ Some known
    pub is_pass : IsLastingPass known.view k leaves bits look
