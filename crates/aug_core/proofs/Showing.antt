-- What the entries above a key show of it.
use Rattle.std.proofs.Common.{◌≡◌, ◌≢◌, ℕ, zero, suc, ◌+◌, ◌-◌, ◌*◌, ◌/◌, ◌%◌, ◌^◌, ◌<◌, ◌≤◌, Bool, true, false, eqb, eq-eqb, ne_eqb, if◌then◌else◌, List, length, sym, ap, subst, ⊎_elim, arith}
use Rattle.std.proofs.lemmas.Bool.{cases_eq}
use Rattle.std.proofs.Math.Nat.{two-pow-succ}
use Rattle.aug_core.specs.Places.{Shape}
use Rattle.aug_core.specs.Addresses.{IsInner, left_of, right_of}
use Rattle.aug_core.specs.Book.{Book, history_of, At, ArePrefixes, IsBook}
use Rattle.aug_core.specs.declared.view.Entry.{Entry}
use Rattle.aug_core.proofs.Sizes.{twice, some_leaf}
use Rattle.aug_core.specs.inside.Refreshes.{NewestCovers}
use Rattle.aug_core.specs.inside.Shows.{above, toward, Shows, NewestShows}
use Rattle.aug_core.proofs.PrefixLemmas.{entry_stays}

-- ---- where the places above a key lie

pub above_low : (s : Shape) (key j d : ℕ) → key < 2 ^ s.bits → j + d ≡ s.bits → above s key j < 2 ^ (s.bits + 1) - 2 ^ d
above_low s key zero d low total = let is : d ≡ s.bits = omega arith in let same : 2 ^ d ≡ 2 ^ s.bits = ap (λ (z : ℕ). 2 ^ z) is in let t = twice s.bits in omega arith
above_low s key (suc j) d low total = let h = above_low s key j (suc d) low (omega arith) in let t = twice s.bits in let two = two-pow-succ d in omega arith

pub above_high : (s : Shape) (key j d : ℕ) → key < 2 ^ s.bits → j + d ≡ s.bits → 2 ^ (s.bits + 1) ≤ above s key j + 2 ^ suc d
above_high s key zero d low total = let is : d + 1 ≡ s.bits + 1 = omega arith in let one : suc d ≡ s.bits + 1 = omega arith in let same : 2 ^ suc d ≡ 2 ^ (s.bits + 1) = ap (λ (z : ℕ). 2 ^ z) one in omega arith
above_high s key (suc j) d low total = let h = above_high s key j (suc d) low (omega arith) in let t = twice s.bits in let two = two-pow-succ (suc d) in omega arith

-- those above the leaves are inner nodes
pub above_inner : (s : Shape) (key j : ℕ) → key < 2 ^ s.bits → suc j ≤ s.bits → IsInner s (above s key (suc j))
above_inner s key j low up = let d : ℕ = s.bits - suc j in let h = above_low s key (suc j) d low (omega arith) in let some = some_leaf d in record { past_leaves = omega arith; inside = omega arith }

-- the place above all is the root
pub above_root : (s : Shape) (key : ℕ) → key < 2 ^ s.bits → above s key s.bits ≡ 2 ^ (s.bits + 1) - 2
above_root s key low = let h = above_low s key s.bits 0 low (omega arith) in let k = above_high s key s.bits 0 low (omega arith) in let t = twice s.bits in let some = some_leaf s.bits in omega arith

-- the children of the first node above a leaf are leaves, and those of the later ones are nodes
pub first_children : (s : Shape) (key : ℕ) → key < 2 ^ s.bits → 1 ≤ s.bits → left_of s (above s key 1) + 1 < 2 ^ s.bits
first_children s key low some = even s.bits key low some
  where
    even : (b c : ℕ) → c < 2 ^ b → 1 ≤ b → 2 * (2 ^ b + c / 2 - 2 ^ b) + 1 < 2 ^ b
    even zero c low some = absurd (omega arith)
    even (suc b) c low some = let t = two-pow-succ b in omega arith

pub later_children : (s : Shape) (key j : ℕ) → key < 2 ^ s.bits → suc (suc j) ≤ s.bits → 2 ^ s.bits ≤ left_of s (above s key (suc (suc j)))
later_children s key j low up = let past = (above_inner s key j low (omega arith)).past_leaves in even s.bits (above s key (suc j)) past (omega arith)
  where
    even : (b c : ℕ) → 2 ^ b ≤ c → 1 ≤ b → 2 ^ b ≤ 2 * (2 ^ b + c / 2 - 2 ^ b)
    even zero c past some = absurd (omega arith)
    even (suc b) c past some = let t = two-pow-succ b in omega arith

-- ---- what is shown

-- a later book shows it still
pub shows_later : (s : Shape) (book seen : Book) (key level i n : ℕ) → ArePrefixes seen book → Shows s seen key level i n → Shows s book key level i n
shows_later s book seen key zero i n later h = ((h.0.0, entry_stays later key i h.0.0 h.0.1), h.1)
shows_later s book seen key (suc level) i n later h = (h.0, entry_stays later (above s key (suc level)) i h.0 h.1, shows_later s book seen key level (toward h.0 (above s key level)) n later h.2)

-- the leaf has reached it
pub shows_leaf : (s : Shape) (book : Book) (key level i n : ℕ) → Shows s book key level i n → (j : ℕ) × (e : Entry) × At book key j e × (n ≤ j)
shows_leaf s book key zero i n h = (i, h.0.0, h.0.1, h.1)
shows_leaf s book key (suc level) i n h = shows_leaf s book key level (toward h.0 (above s key level)) n h.2

module _ (face : ℕ → ℕ → List (ℕ × ℕ) → List ℕ) (s : Shape) (book : Book) (b : IsBook face s book) (key : ℕ) (low : key < 2 ^ s.bits) where
  -- the child's entry on the way to the key
  abbrev Below : ℕ → Entry → Type 0
  Below level e = (f : Entry) × At book (above s key level) (toward e (above s key level)) f × (f.passed ≡ false)

  pub entry_below : (level i : ℕ) (e : Entry) → suc level ≤ s.bits → At book (above s key (suc level)) i e → Below level e
  entry_below level i e up p = let c : ℕ = above s key level in let q : ℕ = above s key (suc level) in let o = b.over q i e (above_inner s key level low up) p in ⊎_elim
      (λ (even : c % 2 ≡ 0). let place : left_of s q ≡ c = omega arith in
      (o.left_child, subst (λ (z : Bool). At book c (if z then e.left else e.right) o.left_child) (sym (eq-eqb (c % 2) 0 even)) (subst (λ (z : ℕ). At book z e.left o.left_child) place o.left_at), o.left_shown))
      (λ (odd : c % 2 ≢ 0). let place : right_of s q ≡ c = omega arith in
      (o.right_child, subst (λ (z : Bool). At book c (if z then e.left else e.right) o.right_child) (sym (ne_eqb (c % 2) 0 odd)) (subst (λ (z : ℕ). At book z e.right o.right_child) place o.right_at), o.right_shown)) (cases_eq (c % 2) 0)

  either_le : (b' : Bool) (x y x' y' : ℕ) → x ≤ x' → y ≤ y' → (if b' then x else y) ≤ (if b' then x' else y')
  either_le true x y x' y' p q = p
  either_le false x y x' y' p q = q

  -- a later entry shows it too
  pub shows_rises : (level i j n : ℕ) (f : Entry) → level ≤ s.bits → Shows s book key level i n → i ≤ j → At book (above s key level) j f → Shows s book key level j n
  shows_rises zero i j n f up h le p = let m = h.1 in ((f, p), omega arith)
  shows_rises (suc level) i j n f up h le p = let c : ℕ = above s key level in let r = b.rises (above s key (suc level)) i j h.0 f (above_inner s key level low up) h.1 p le in
      let below = entry_below level j f up p in
      (f, p, shows_rises level (toward h.0 c) (toward f c) n below.0 (omega arith) h.2 (either_le (eqb (c % 2) 0) h.0.left h.0.right f.left f.right r.0 r.1) below.1)

  -- a node that covers what was seen shows what its child's newest entry showed then
  pub shows_up : (seen : Book) (level n : ℕ) → suc level ≤ s.bits → ArePrefixes seen book → NewestCovers s seen book (above s key (suc level)) → NewestShows s seen key level n → NewestShows s book key (suc level) n
  shows_up seen level n up later c h = let child : ℕ = above s key level in let q : ℕ = above s key (suc level) in let below = entry_below level c.index c.entry up c.newest.at in
      let long = h.newest.last in let cl = c.left in let cr = c.right in
      let enough : h.index ≤ toward c.entry child = ⊎_elim
      (λ (even : child % 2 ≡ 0). let place : left_of s q ≡ child = omega arith in let l : length (history_of seen child) ≤ c.entry.left + 1 = subst (λ (z : ℕ). length (history_of seen z) ≤ c.entry.left + 1) place cl in
      subst (λ (z : Bool). h.index ≤ (if z then c.entry.left else c.entry.right)) (sym (eq-eqb (child % 2) 0 even)) (omega arith))
      (λ (odd : child % 2 ≢ 0). let place : right_of s q ≡ child = omega arith in let l : length (history_of seen child) ≤ c.entry.right + 1 = subst (λ (z : ℕ). length (history_of seen z) ≤ c.entry.right + 1) place cr in
      subst (λ (z : Bool). h.index ≤ (if z then c.entry.left else c.entry.right)) (sym (ne_eqb (child % 2) 0 odd)) (omega arith)) (cases_eq (child % 2) 0) in record {
        index = c.index;
        entry = c.entry;
        newest = c.newest;
        shows = (c.entry, c.newest.at, shows_rises level h.index (toward c.entry child) n below.0 (omega arith) (shows_later s book seen key level h.index n later h.shows) enough below.1);
      }
