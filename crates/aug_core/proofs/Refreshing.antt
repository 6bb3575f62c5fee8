-- One try to bring a node up to its children: what was loaded, and what it left.
use Rattle.std.proofs.Common.{◌≡◌, ◌≢◌, ℕ, ◌+◌, ◌-◌, ◌^◌, ◌<◌, ◌≤◌, Bool, true, false, List, length, sym, refl, ap, ◌∙◌, subst, ⊎_elim, arith}
use Rattle.std.proofs.lemmas.Bool.{cases_lt}
use Rattle.aug_core.specs.Places.{Shape}
use Rattle.aug_core.specs.Addresses.{place_count, IsInner, left_of, right_of}
use Rattle.aug_core.specs.Book.{Book, history_of, At, ArePrefixes, IsFresh, IsBook, NamesOnce, IsLoaded}
use Rattle.aug_core.specs.inside.Refreshes.{HasEntry, HasNewest, NewestCovers, Published, Refreshed}
use Rattle.aug_core.specs.declared.view.Entry.{Entry}
use Rattle.aug_core.proofs.Fits.{HasFewSerials}
use Rattle.aug_core.proofs.Books.{at_below, no_shorter, one_entry, one_name, newest_is_last, there_is, second_covers}
use Rattle.aug_core.proofs.PrefixLemmas.{entry_stays}

module _ (face : ℕ → ℕ → List (ℕ × ℕ) → List ℕ) (s : Shape) where
  -- an entry's word names one entry of a history, where no serial is past the bits of a word
  pub same_word : (book : Book) → IsBook face s book → NamesOnce s book → HasFewSerials s book → (q i j : ℕ) (e f : Entry) → q < place_count s → At book q i e → At book q j f → e.word ≡ f.word → i ≡ j
  same_word book b once few q i j e f inside p p' same = ⊎_elim
      (λ (leaf : q < 2 ^ s.bits). let x = b.serials q i e leaf p in let y = b.serials q j f leaf p' in let nx = x.named in let ny = y.named in let fx = x.fits in let fy = y.fits in let l = few.few q leaf in let li = at_below (history_of book q) i e p in let lj = at_below (history_of book q) j f p' in omega arith)
      (λ (past : 2 ^ s.bits ≤ q). let inner : IsInner s q = record { past_leaves = past; inside = inside } in
      once.once q i j e f inner p p' (one_name face s book b q i j e f inner p p' same).0) (cases_lt q (2 ^ s.bits))

  -- what is newest is an entry of every later book
  pub has_entry : (book seen : Book) (q word : ℕ) → ArePrefixes seen book → HasNewest seen q word → HasEntry book q word
  has_entry book seen q word later h = record { index = h.index; entry = h.entry; at = entry_stays later q h.index h.entry h.newest.at; named = h.named }

  -- the books that were seen at a node's load, at that of its left child, and at that of its right, before the last
  module _ (book0 book1 book2 book : Book) (q old left_word right_word : ℕ) (inner : IsInner s q) (c01 : ArePrefixes book0 book1) (c12 : ArePrefixes book1 book2) (c23 : ArePrefixes book2 book)
      (at_node : HasNewest book0 q old) (at_left : HasNewest book1 (left_of s q) left_word) (at_right : HasNewest book2 (right_of s q) right_word) where
    abbrev e : Entry
    e = at_node.entry

    pub node_at : At book q at_node.index e
    node_at = entry_stays c23 q at_node.index e (entry_stays c12 q at_node.index e (entry_stays c01 q at_node.index e at_node.newest.at))

    pub left_at : At book (left_of s q) at_left.index at_left.entry
    left_at = entry_stays c23 (left_of s q) at_left.index at_left.entry (entry_stays c12 (left_of s q) at_left.index at_left.entry at_left.newest.at)

    pub right_at : At book (right_of s q) at_right.index at_right.entry
    right_at = entry_stays c23 (right_of s q) at_right.index at_right.entry at_right.newest.at

    -- then they were loaded in the order that a record of them may be published in
    abbrev pub is_loaded : IsBook face s book0 → IsLoaded s book q old
    is_loaded b = let o = b.over q at_node.index e inner at_node.newest.at in let fl = b.floors q at_node.index e inner at_node.newest.at in record {
      index = at_node.index;
      from = e;
      left_index = at_left.index;
      right_index = at_right.index;
      left = at_left.entry;
      right = at_right.entry;
      loaded = node_at;
      named = sym at_node.named;
      left_at = left_at;
      right_at = right_at;
      left_shown = at_left.shown;
      right_shown = at_right.shown;
      left_later = newest_is_last book1 (left_of s q) at_left.index e.left at_left.entry o.left_child at_left.newest (entry_stays c01 (left_of s q) e.left o.left_child o.left_at);
      right_later = newest_is_last book2 (right_of s q) at_right.index e.right at_right.entry o.right_child at_right.newest (entry_stays c12 (right_of s q) e.right o.right_child (entry_stays c01 (right_of s q) e.right o.right_child o.right_at));
      left_known = newest_is_last book1 (left_of s q) at_left.index e.left_floor at_left.entry fl.0.0 at_left.newest (entry_stays c01 (left_of s q) e.left_floor fl.0.0 fl.0.1);
      right_known = newest_is_last book2 (right_of s q) at_right.index e.right_floor at_right.entry fl.1.0 at_right.newest (entry_stays c12 (right_of s q) e.right_floor fl.1.0 (entry_stays c01 (right_of s q) e.right_floor fl.1.0 fl.1.1));
    }

    -- and the try covers what was seen before it, or the node has an entry more
    pub refreshed : (seen : Book) (done : Bool) → ArePrefixes seen book0 → Published s q old left_word right_word done book → Refreshed s seen q done book
    refreshed seen done c0 p = record {
      covers = λ yes. let left = (p.last yes).0.last at_left.index at_left.entry left_at at_left.shown (at_left.named ∙ sym (p.left_is yes)) in
          let right = (p.last yes).1.last at_right.index at_right.entry right_at at_right.shown (at_right.named ∙ sym (p.right_is yes)) in record {
            index = p.index;
            entry = p.entry;
            newest = p.newest;
            left = let long = at_left.newest.last in let a = no_shorter book0 seen c0 (left_of s q) in let c = no_shorter book1 book0 c01 (left_of s q) in omega arith;
            right = let long = at_right.newest.last in let a = no_shorter book0 seen c0 (right_of s q) in let c = no_shorter book1 book0 c01 (right_of s q) in let d = no_shorter book2 book1 c12 (right_of s q) in omega arith;
          };
      longer = λ no. let le = newest_is_last book q p.index at_node.index p.entry e p.newest node_at in
          let other : p.index ≢ at_node.index = λ same. p.missed no (sym at_node.named ∙ ap (λ (z : Entry). z.word) (one_entry book q p.index e p.entry (subst (λ (z : ℕ). At book q z e) (sym same) node_at) p.newest.at)) in
          let long = at_node.newest.last in let long' = p.newest.last in let a = no_shorter book0 seen c0 q in omega arith;
    }

  -- of two entries that a node had more, the second covers what was seen before both
  pub covers_twice : (seen between book : Book) (q : ℕ) → IsInner s q → IsBook face s book → IsFresh s book seen → length (history_of seen q) + 1 ≤ length (history_of between q) → length (history_of between q) + 1 ≤ length (history_of book q)
      → NewestCovers s seen book q
  covers_twice seen between book q inner b fresh one two = let i : ℕ = length (history_of book q) - 2 in let x = there_is (history_of book q) i (omega arith) in let y = there_is (history_of book q) (i + 1) (omega arith) in
      let c = second_covers face s book seen b fresh q i x.0 y.0 inner (omega arith) x.1 y.1 in record { index = i + 1; entry = y.0; newest = record { at = y.1; last = omega arith }; left = c.left; right = c.right }

  -- what covers a later book covers an earlier one
  pub covers_before : (seen later book : Book) (q : ℕ) → ArePrefixes seen later → NewestCovers s later book q → NewestCovers s seen book q
  covers_before seen later book q on c = let l = no_shorter later seen on (left_of s q) in let r = no_shorter later seen on (right_of s q) in let cl = c.left in let cr = c.right in
      record { index = c.index; entry = c.entry; newest = c.newest; left = omega arith; right = omega arith }

  -- so after a try that failed, a second one leaves the node covering what was seen before the first, whether it fails too or not
  pub covers_second : (seen between book : Book) (q : ℕ) (done : Bool) → IsInner s q → IsBook face s book → ArePrefixes seen between → IsFresh s book seen → length (history_of seen q) + 1 ≤ length (history_of between q)
      → Refreshed s between q done book → NewestCovers s seen book q
  covers_second seen between book q true inner b later fresh one r = covers_before seen between book q later (r.covers refl)
  covers_second seen between book q false inner b later fresh one r = covers_twice seen between book q inner b fresh one (r.longer refl)
