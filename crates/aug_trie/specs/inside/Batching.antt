-- A batch of updates over a view: each at its leaf first, and then the ways to the root.
use Rattle.std.specs.Prelude.{◌≡◌, ◌≢◌, ◌⊎◌, ℕ, ◌+◌, ◌-◌, ◌*◌, ◌^◌, ◌<◌, ◌≤◌, true, false, List, ◌∷◌, [], ◌++◌, length, get_or, flat_map}
use Rattle.aug_core.specs.Places.{Shape}
use Rattle.aug_core.specs.Book.{Book, ArePrefixes}
use Rattle.aug_core.specs.Kinds.{load_leaf}
use Rattle.aug_core.specs.inside.Shows.{above, Lifts}
use Rattle.aug_core.specs.Effects.{HoldsOnly, with_changes}
use Rattle.aug_core.specs.declared.step.StepTaken.{StepTaken}
use Rattle.aug_core.specs.declared.view.Change.{Change}
use Rattle.aug_core.specs.declared.view.Held.{Held}
use Rattle.aug_core.specs.declared.view.SeatView.{SeatView}
use Rattle.aug_trie.specs.declared.rounds.account.Account.{Account}
use Rattle.aug_model.specs.declared.outcome.Outcome.{Outcome}
use Rattle.aug_model.specs.declared.outcome.Outcome.TheVariants.{Refused}
use Rattle.aug_trie.specs.declared.updates.request.Request.{Request}
use Rattle.aug_trie.specs.declared.updates.request.Request.TheVariants.{Insert}
use Rattle.aug_trie.specs.UpdateBatches.{BatchPart, no_part, most_rises}
use Rattle.aug_trie.specs.Pass.{TryNoLeaf, ExchangesOnce, most_rise_steps}
use Rattle.aug_trie.specs.Requests.{goes_from, outcome_at_once}
use Rattle.aug_trie.specs.inside.Climbing.{CameBy}
use Rattle.aug_trie.specs.inside.Counted.{HasCounts, insertions_by, removals_by}
use Rattle.aug_trie.specs.inside.Goes.{Goes, Took}

-- the way of a key shows what its leaf had reached at each level, but for those above this one at which it has joined the way of the next key
abbrev pub IsRaised : Shape → Book → Book → ℕ → ℕ → ℕ → Type 0
IsRaised s seen book key next level = (l : ℕ) → l ≤ s.bits → (l ≤ level) ⊎ (above s key l ≢ above s next l) → Lifts s seen book key l

-- going up the way of a key to a level raises all ways that it has joined
abbrev pub Raises : ℕ → SeatView → ℕ → SeatView → Type 0
Raises next v level w = (seen : Book) (key : ℕ) → key < 2 ^ v.shape.bits → IsRaised v.shape seen v.seen key next 0 → IsRaised v.shape seen w.seen key next level

-- the account once so many updates were made
abbrev pub IsAccountAfter : ℕ → Account → Account → Type 0
IsAccountAfter n a after = after ≡ record { leaves = a.leaves; bits = a.bits; next = a.next + n * a.bits; left = a.left - n; inserts = after.inserts; removals = after.removals }

-- the lane has these changes more, and what is reserved is the same
pub record GainsOnly (gained : List Change) (v w : SeatView) : Type 0 where
  pub held : (h : Held) → HoldsOnly v h → HoldsOnly w (with_changes gained h)
  pub reserved : w.reserved ≡ v.reserved

module _ (face : ℕ → ℕ → List (ℕ × ℕ) → List ℕ) where
  -- an update that was at its leaf: its steps there, the changes that it made, and what it comes to once a later view shows what the leaf had reached
  pub record LeftLeaf (v : SeatView) (key : ℕ) (request : Request) (done : Outcome) (w : SeatView) : Type 0 where
    pub word : ℕ
    pub more : List StepTaken
    pub steps : w.steps ≡ v.steps ++ load_leaf key word ∷ more
    pub few_steps : length more ≤ 1
    pub tried : goes_from request word ≡ true → ExchangesOnce request key word more done
    pub refusing : goes_from request word ≡ false → (done ≡ outcome_at_once request) × TryNoLeaf more
    pub gained : List Change
    pub few_gained : length gained ≤ 2
    pub counts : HasCounts gained (insertions_by request done) (removals_by request done)
    pub goes : Goes face 0 gained v w
    pub rest : GainsOnly gained v w
    pub came : (used : ℕ) (u z : SeatView) → u.shape ≡ v.shape → ArePrefixes u.seen v.seen → ArePrefixes w.seen z.seen → Lifts v.shape w.seen z.seen key v.shape.bits → Goes face used gained u z → CameBy face used u key request z word done

  -- and by this word, which it found
  abbrev pub LeftFrom : SeatView → ℕ → Request → SeatView → ℕ → Outcome → Type 0
  LeftFrom v key request w found done = (l : LeftLeaf v key request done w) × (l.word ≡ found)

  -- one update of a batch was at its leaf, between two views
  pub record LeftPart (v w : SeatView) (key : ℕ) (request : Request) (done : Outcome) (part : BatchPart) : Type 0 where
    pub before : SeatView
    pub after : SeatView
    pub from : ArePrefixes v.seen before.seen
    pub from_shape : before.shape ≡ v.shape
    pub left : LeftLeaf before key request done after
    pub to : ArePrefixes after.seen w.seen
    pub steps : part.steps ≡ load_leaf key left.word ∷ left.more
    pub made : part.made ≡ left.gained

  -- the first updates of a batch were at their leaves
  pub record LeftAll (keys : List ℕ) (requests : List Request) (outcomes : List Outcome) (v : SeatView) (n : ℕ) (w : SeatView) : Type 0 where
    pub parts : List BatchPart
    pub one_each : length parts ≡ n
    pub each : (i : ℕ) → i < n → LeftPart v w (get_or keys i 0) (get_or requests i Insert) (get_or outcomes i Refused) (get_or parts i no_part)
    pub steps : w.steps ≡ v.steps ++ flat_map (λ part. part.steps) parts
    pub few_steps : length (flat_map (λ part. part.steps) parts) ≤ 2 * n
    pub goes : Goes face 0 (flat_map (λ part. part.made) parts) v w
    pub few_made : length (flat_map (λ part. part.made) parts) ≤ 2 * n

  -- each way of some keys was gone up to the root
  pub record RaisedAll (keys : List ℕ) (number : ℕ) (v w : SeatView) : Type 0 where
    pub goes : Goes face (number + length keys * v.shape.bits) [] v w
    pub steps : ℕ
    pub few_steps : steps ≤ length keys * most_rise_steps v.shape.bits
    pub few_rises : steps ≤ most_rises v.shape.bits keys
    pub took : Took v w steps
    pub lifts : (i : ℕ) → i < length keys → Lifts v.shape v.seen w.seen (get_or keys i 0) v.shape.bits
