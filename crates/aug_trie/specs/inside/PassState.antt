-- What the fields of a pass keep, and how the value that contracts see of it is made of them.
use Rattle.std.specs.Prelude.{◌≡◌, ℕ, ◌+◌, ◌-◌, ◌*◌, ◌^◌, ◌<◌, ◌≤◌, Option, Some, unwrap_or, List, [], length}
use Rattle.aug_core.specs.Counts.{changes_of}
use Rattle.aug_core.specs.Effects.{own_lane, spent, KnowsBook}
use Rattle.aug_words.specs.Seats.{Known}
use Rattle.aug_core.specs.declared.view.SeatView.{SeatView}
use Rattle.aug_trie.specs.declared.rounds.account.Account.{Account}
use Rattle.aug_trie.specs.inside.Counted.{HasCounts}
use Rattle.aug_trie.specs.inside.Goes.{HasLeaves, HasRoom}
use Rattle.aug_trie.specs.inside.Knows.{knows, root_numbers, KnowsRound}
use Rattle.aug_trie.specs.Pass.{PassFacts}
use Rattle.aug_trie.specs.inside.RoundState.{round_of, past_rounds}

-- what a seat knows, if it is there
abbrev pub known_in : Option Known → Known
known_in words = unwrap_or words (record { table = record { words = 0; slots = 0; views_name = 0; atom = 0; block = 0; offset = 0; slot_names = [] }; view = spent })

-- a pass with what its seat knows, and `left` updates left
abbrev pub pass_facts : Known → ℕ → PassFacts
pass_facts known left = record {
  round = round_of known.table known.view;
  past = past_rounds known.view.shape known.view.past;
  lane = own_lane known.view.held;
  knows = knows known.view;
  numbers = root_numbers known.view.shape known.view.seen;
  spent = known.view.shape.updates - left;
  steps = known.view.steps;
  words = record { shape = known.view.shape; book = known.view.seen };
}

module _ (face : ℕ → ℕ → List (ℕ × ℕ) → List ℕ) where
  -- the view of a pass with the records from `next` on, for `left` more updates
  pub record IsPass (v : SeatView) (leaves bits next left : ℕ) : Type 0 where
    pub leaves_are : HasLeaves v.shape leaves
    pub bits_are : bits ≡ v.shape.bits
    pub knows_table : KnowsBook face v
    pub room : HasRoom v next (left * bits)
    pub budget : length (changes_of v.held) + 2 * left ≤ 2 * v.shape.updates
    pub small : next + left * bits < 2 ^ 60
    pub knowledge : KnowsRound v

  -- and a pass that holds it
  pub record HoldsPass (words : Option Known) (leaves bits next left : ℕ) : Type 0 where
    pub known : Known
    pub there : words ≡ Some known
    pub is_pass : IsPass known.view leaves bits next left

  -- what a pass keeps, and its half: it holds its words, and its account says how many of its changes are insertions and how many removals
  pub record KeepsAccount (words : Option Known) (a : Account) : Type 0 where
    pub pass : HoldsPass words a.leaves a.bits a.next a.left
    pub counts : HasCounts (changes_of (known_in words).view.held) a.inserts a.removals
