-- The cuts of the root's entries are a history of the round.
use Rattle.std.proofs.Common.{◌≡◌, ℕ, ◌+◌, ◌-◌, ◌^◌, ◌<◌, ◌≤◌, List, [], ◌∷◌, length, get_or, sym, ap, ◌∙◌, subst, arith}
use Rattle.std.proofs.lemmas.List.FromFn.{length-map-range_with_len, get_or-map-range_with_len}
use Rattle.aug_core.specs.Places.{Shape}
use Rattle.aug_core.specs.Addresses.{root_place}
use Rattle.aug_core.specs.Book.{Book, history_of, ArePrefixes, IsBook}
use Rattle.aug_core.specs.Opening.{opening_book}
use Rattle.aug_core.specs.declared.view.Entry.{Entry}
use Rattle.aug_core.specs.declared.view.SeatView.{SeatView}
use Rattle.aug_model.specs.Keys.{keys_of}
use Rattle.aug_model.proofs.Pairs.{length-keys_of}
use Rattle.aug_model.proofs.Ranges.{rises_from}
use Rattle.aug_core.proofs.Books.{no_shorter}
use Rattle.aug_core.proofs.Openings.{is_book, inner_history}
use Rattle.aug_core.specs.inside.Shows.{above, NewestShows, ShowsAtMost}
use Rattle.aug_core.proofs.Showing.{above_root}
use Rattle.aug_core.specs.Cuts.{Cut, shown_of, serial_of, opening_cut, IsAtMost}
use Rattle.aug_core.specs.Prefixes.{IsPrefix}
use Rattle.aug_trie.specs.History.{IsHistory, last_cut}
use Rattle.aug_core.specs.inside.EntryCuts.{entry_of}
use Rattle.aug_core.specs.inside.RootCuts.{root_cut}
use Rattle.aug_core.specs.Effects.{opening_of, KnowsBook}
use Rattle.aug_trie.specs.inside.Knows.{root_history, root_numbers}
use Rattle.aug_core.proofs.PrefixLemmas.{prefix_at}
use Rattle.aug_core.proofs.Levels.{root_word}
use Rattle.aug_core.proofs.CutsUnder.{reached, shown_is, serial_is, shows_reached}
use Rattle.aug_core.proofs.EntryCuts.{Has, reached_shows, root_rises, cut_later}
use Rattle.aug_core.proofs.OpeningCuts.{root_inner, opening_first}
use Rattle.std.proofs.lemmas.List.{length-map}

pub history_long : (s : Shape) (book : Book) → length (root_history s book) ≡ length (history_of book (root_place s))
history_long s book = length-map-range_with_len (root_cut s book) 0 (length (history_of book (root_place s)))

-- each of its cuts has a name
pub numbers_long : (s : Shape) (book : Book) → length (root_numbers s book) ≡ length (root_history s book)
numbers_long s book = length-map (history_of book (root_place s)) (λ (e : Entry). e.word) ∙ sym (history_long s book)

pub cut_at : (s : Shape) (book : Book) (i : ℕ) → Has book (root_place s) i → get_or (root_history s book) i [] ≡ root_cut s book i
cut_at s book i h = get_or-map-range_with_len (root_cut s book) 0 (length (history_of book (root_place s))) i i [] h (omega arith)

-- the last cut is that of the root's newest entry
pub last_is : (s : Shape) (book : Book) (i : ℕ) → length (history_of book (root_place s)) ≡ i + 1 → last_cut (root_history s book) ≡ root_cut s book i
last_is s book i long = let h = history_long s book in let e : length (root_history s book) - 1 ≡ i = omega arith in ap (λ (z : ℕ). get_or (root_history s book) z []) e ∙ cut_at s book i (omega arith)

-- the serial of a key in a cut is the index that is reached
pub root_serial : (s : Shape) (book : Book) (key i : ℕ) → key < 2 ^ s.bits → serial_of (root_cut s book i) key ≡ reached s book key s.bits i
root_serial s book key i low = serial_is s book key s.bits 0 key (root_place s) i (root_word s) (omega arith) low

-- and its weight is that entry's
pub root_shows : (s : Shape) (book : Book) (key i : ℕ) → key < 2 ^ s.bits → shown_of (root_cut s book i) key ≡ (reached s book key s.bits i, (entry_of book key (reached s book key s.bits i)).weight)
root_shows s book key i low = shown_is s book key s.bits 0 key (root_place s) i (root_word s) (omega arith) low

-- what the root's newest entry shows of a key is no more than its serial in the last cut
pub shown_last : (s : Shape) (book : Book) (key n : ℕ) → key < 2 ^ s.bits → NewestShows s book key s.bits n → n ≤ serial_of (last_cut (root_history s book)) key
shown_last s book key n low h = let root = above_root s key low in
    let long : length (history_of book (root_place s)) ≡ h.index + 1 = ap (λ (z : ℕ). length (history_of book z)) (sym root) ∙ h.newest.last in
    let is = ap (λ (z : Cut). serial_of z key) (last_is s book h.index long) ∙ root_serial s book key h.index low in let le = shows_reached s book key s.bits h.index n h.shows in omega arith

module _ (face : ℕ → ℕ → List (ℕ × ℕ) → List ℕ) (s : Shape) (book : Book) (b : IsBook face s book) where
  -- and its serial there is shown
  pub last_shown : (key most : ℕ) → key < 2 ^ s.bits → 0 < length (history_of book (root_place s)) → ShowsAtMost s book key most → serial_of (last_cut (root_history s book)) key ≤ most
  last_shown key most low some h = let i : ℕ = length (history_of book (root_place s)) - 1 in let has : Has book (root_place s) i = omega arith in
      let at : Has book (above s key s.bits) i = subst (λ (z : ℕ). Has book z i) (sym (above_root s key low)) has in
      let shows = reached_shows face s book b key s.bits i low (omega arith) at in let le = h.at_most i (reached s book key s.bits i) shows in
      let is = ap (λ (z : Cut). serial_of z key) (last_is s book i (omega arith)) ∙ root_serial s book key i low in omega arith

  -- a later book's history begins with the earlier one's
  pub history_on : (later : Book) → ArePrefixes book later → IsPrefix (root_history s book) (root_history s later)
  history_on later grows = let l = history_long s book in let m = history_long s later in let le = no_shorter later book grows (root_place s) in
      prefix_at (root_history s book) (root_history s later) [] (omega arith)
      (λ i low. let h : Has book (root_place s) i = omega arith in let h' : Has later (root_place s) i = omega arith in
      cut_at s book i h ∙ sym (cut_later face s book b later s.bits 0 (root_place s) i grows (root_word s) h) ∙ sym (cut_at s later i h'))

-- the last cut rises
pub last_rises : (face : ℕ → ℕ → List (ℕ × ℕ) → List ℕ) (s : Shape) (seen book : Book) → IsBook face s seen → IsBook face s book → ArePrefixes seen book → 0 < length (history_of seen (root_place s)) → IsAtMost (last_cut (root_history s seen)) (last_cut (root_history s book))
last_rises face s seen book b b' later some = let le = no_shorter book seen later (root_place s) in let i : ℕ = length (history_of seen (root_place s)) - 1 in let j : ℕ = length (history_of book (root_place s)) - 1 in
    let x : root_cut s book i ≡ last_cut (root_history s seen) = cut_later face s seen b book s.bits 0 (root_place s) i later (root_word s) (omega arith) ∙ sym (last_is s seen i (omega arith)) in
    let y : root_cut s book j ≡ last_cut (root_history s book) = sym (last_is s book j (omega arith)) in
    subst (λ (z : Cut). IsAtMost z (last_cut (root_history s book))) x (subst (IsAtMost (root_cut s book i)) y (root_rises face s book b' i j (omega arith) (omega arith)))

module _ (face : ℕ → ℕ → List (ℕ × ℕ) → List ℕ) (v : SeatView) (kn : KnowsBook face v) where
  abbrev root : ℕ
  root = root_place v.shape

  abbrev opened : Book
  opened = opening_book face (opening_of v)

  pub some_bits : 1 ≤ v.shape.bits
  some_bits = kn.laid_out.bits.0

  first_has : Has opened root 0
  first_has = let e = ap (λ (z : List Entry). length z) (inner_history face (opening_of v) root (root_inner face (opening_of v) some_bits)) in omega arith

  -- the root was seen
  pub root_some : 0 < length (history_of v.seen root)
  root_some = let le = no_shorter v.seen opened kn.opened root in let f = first_has in omega arith

  -- its history begins with the opening cut
  pub first_cut : root_cut v.shape v.seen 0 ≡ opening_cut v.shape.bits v.members
  first_cut = cut_later face v.shape opened (is_book face (opening_of v) (rises_from (keys_of v.members) kn.key_set.rising) kn.members_fit (let few = kn.few_members in let long = length-keys_of v.members in omega arith) kn.book.numbers) v.seen v.shape.bits 0 root 0 kn.opened (root_word v.shape) first_has
      ∙ opening_first face (opening_of v) some_bits

  pub is_history : IsHistory v.shape.bits v.members (root_history v.shape v.seen)
  is_history = let long = history_long v.shape v.seen in let some_there = root_some in record {
    opens = prefix_at (opening_cut v.shape.bits v.members ∷ []) (root_history v.shape v.seen) [] (omega arith)
        (λ i low. let z : i ≡ 0 = omega arith in ap (λ (k : ℕ). get_or (opening_cut v.shape.bits v.members ∷ []) k []) z ∙ sym first_cut ∙ sym (cut_at v.shape v.seen 0 some_there) ∙ ap (λ (k : ℕ). get_or (root_history v.shape v.seen) k []) (sym z));
    rises = λ i low. let here : Has v.seen root i = omega arith in let next : Has v.seen root (i + 1) = omega arith in
        subst (λ (z : Cut). IsAtMost z (get_or (root_history v.shape v.seen) (i + 1) [])) (sym (cut_at v.shape v.seen i here))
        (subst (IsAtMost (root_cut v.shape v.seen i)) (sym (cut_at v.shape v.seen (i + 1) next)) (root_rises face v.shape v.seen kn.book i (i + 1) (omega arith) next));
  }
