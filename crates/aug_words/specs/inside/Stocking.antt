-- What a stock's fields keep, and what sorting and loading do.
use Rattle.std.specs.Prelude.{◌≡◌, ◌&&◌, ◌||◌, Bool, nat_le, ℕ, suc, zero, ◌+◌, ◌^◌, ◌<◌, ◌≤◌, List, ◌++◌, length, map, slice_index}
use Rattle.aug_core.specs.Addresses.{IsInner, left_of, right_of}
use Rattle.aug_core.specs.Book.{IsBook}
use Rattle.aug_core.specs.inside.Refreshes.{HasNewest}
use Rattle.aug_core.specs.Effects.{on_first}
use Rattle.aug_core.specs.Records.{Lists, first_era, floor_of}
use Rattle.aug_core.specs.Reclaiming.{passed_record}
use Rattle.aug_core.specs.declared.view.Held.{Held}
use Rattle.aug_core.specs.declared.view.Owned.{Owned}
use Rattle.aug_core.specs.declared.view.Reserved.{Reserved}
use Rattle.aug_core.specs.declared.view.SeatView.{SeatView}
use Rattle.aug_words.specs.Stocks.{StockFacts, IsHeld, birth_in_word, scan_steps, GoesBy, LoadsThree}

-- the three kinds of records fill the stock, and there is room for the first era that is reserved in a word
pub record IsStock (words deaths : List ℕ) (free replaced era : ℕ) : Type 0 where
  pub few : free + replaced ≤ length words
  pub long : length deaths ≡ length words
  pub small : first_era era < 2 ^ 40

-- a record after so many reservations were loaded
abbrev pub passed_all : (ℕ → ℕ) → ℕ → Owned → Owned
passed_all eras zero x = x
passed_all eras (suc n) x = passed_record n (eras n) (passed_all eras n x)

abbrev pub passing_all : (ℕ → ℕ) → ℕ → Held → Held
passing_all eras n h = record h { owned = map (passed_all eras n) h.owned }

-- the first reservations were loaded
pub record HasLoaded (v : SeatView) (eras : ℕ → ℕ) (n : ℕ) (w : SeatView) : Type 0 where
  pub steps : w.steps ≡ v.steps ++ scan_steps v.shape eras n
  pub same : w ≡ record v { held = w.held; steps = w.steps }
  pub held : w.held ≡ on_first (passing_all eras n) v.held

-- of the records that wait those before an index were looked at: those that are free by now are held by none of these eras, and the others by some. Each
-- record is where it was, or changed its place with others that wait
pub record Sorts (eras : List ℕ) (k after : StockFacts) (index : ℕ) : Type 0 where
  pub frees : k.free ≤ after.free
  pub few : after.free ≤ length k.words
  pub long : length after.words ≡ length k.words
  pub long_deaths : length after.deaths ≡ length k.deaths
  pub replaced : after.replaced ≡ k.replaced
  pub era : after.era ≡ k.era
  pub was : ℕ → ℕ
  pub inside : (i : ℕ) → i < length k.words → was i < length k.words
  pub words : (i : ℕ) → i < length k.words → slice_index after.words i ≡ slice_index k.words (was i)
  pub deaths : (i : ℕ) → i < length k.words → slice_index after.deaths i ≡ slice_index k.deaths (was i)
  pub once : (i j : ℕ) → i < length k.words → j < length k.words → was i ≡ was j → i ≡ j
  pub first : (i : ℕ) → i < k.free → was i ≡ i
  pub past : (i : ℕ) → k.free ≤ i → k.free ≤ was i
  pub freed : (i : ℕ) → k.free ≤ i → i < after.free → (slot : ℕ) → slot < length eras → IsHeld (slice_index eras slot) (birth_in_word (slice_index after.words i)) (slice_index after.deaths i) → ⊥
  pub held : (i : ℕ) → after.free ≤ i → i < index → (slot : ℕ) × (slot < length eras) × IsHeld (slice_index eras slot) (birth_in_word (slice_index after.words i)) (slice_index after.deaths i)

-- whether the records that the words of a node and of its children name were born no later than this. A leaf's word names none
abbrev pub covers_three : ℕ → Bool → ℕ × ℕ × ℕ → Bool
covers_three era over_leaves found = nat_le (birth_in_word found.0) era && (over_leaves || (nat_le (birth_in_word found.1) era && nat_le (birth_in_word found.2) era))

-- the view made at most so many steps, and what it reserved is the same
pub record GoesStill (most : ℕ) (v w : SeatView) : Type 0 where
  pub goes : GoesBy most v w
  pub reserves : w.reserved ≡ v.reserved

module _ (face : ℕ → ℕ → List (ℕ × ℕ) → List ℕ) where
  -- the word of a leaf or of a node was loaded
  pub record LoadsWord (v : SeatView) (q r : ℕ) (w : SeatView) : Type 0 where
    pub still : GoesStill 1 v w
    pub book : IsBook face v.shape w.seen
    pub newest : HasNewest w.seen q r
    pub holds : IsInner v.shape q → (x : Reserved) → Lists v.reserved x → floor_of x q ≤ newest.index

  -- those of a node and of its children were loaded, by three steps after what is reserved was
  pub record LoadsWords (v : SeatView) (q : ℕ) (r : ℕ × ℕ × ℕ) (w : SeatView) : Type 0 where
    pub still : GoesStill 3 v w
    pub loads : LoadsThree face v.shape v q r w
    pub holds : (x : Reserved) → Lists v.reserved x → floor_of x q ≤ loads.is_loaded.index
    pub left_holds : IsInner v.shape (left_of v.shape q) → (x : Reserved) → Lists v.reserved x → floor_of x (left_of v.shape q) ≤ loads.is_loaded.left_index
    pub right_holds : IsInner v.shape (right_of v.shape q) → (x : Reserved) → Lists v.reserved x → floor_of x (right_of v.shape q) ≤ loads.is_loaded.right_index
