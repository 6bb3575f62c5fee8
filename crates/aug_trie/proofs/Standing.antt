-- What stands in the cuts of a history: what was shown stands with its weight and goes on to stand, and what was passed over no cut shows.
use Rattle.std.proofs.Common.{◌≡◌, ◌≢◌, inl, inr, ℕ, suc, ◌+◌, ◌-◌, ◌^◌, ◌<◌, ◌≤◌, List, [], length, get_or, All, sym, ap, ◌∙◌, subst, ⊎_elim, arith}
use Rattle.std.proofs.lemmas.Bool.{cases_eq}
use Rattle.std.proofs.lemmas.List.Elements.{All-from_get_or}
use Rattle.aug_core.specs.Places.{Shape}
use Rattle.aug_core.specs.Addresses.{root_place}
use Rattle.aug_core.specs.Book.{Book, history_of, At, IsPassed, IsBook}
use Rattle.aug_core.specs.Counts.{change, Stands, AreCounted}
use Rattle.aug_core.specs.Opening.{Opening, opening_serial}
use Rattle.aug_core.specs.Cuts.{Cut, shown_of, serial_of, weight_at, IsAtMost}
use Rattle.aug_core.specs.inside.EntryCuts.{entry_of}
use Rattle.aug_core.specs.inside.RootCuts.{root_cut}
use Rattle.aug_core.specs.inside.Shows.{above, NewestShows}
use Rattle.aug_core.specs.declared.view.Change.{Change}
use Rattle.aug_core.specs.declared.view.SeatView.{SeatView}
use Rattle.aug_core.proofs.CutsUnder.{reached, shows_reached}
use Rattle.aug_core.proofs.EntryCuts.{Has, entry_is, reached_shown, not_passed}
use Rattle.aug_core.proofs.Showing.{above_root}
use Rattle.aug_trie.specs.inside.Weights.{WeighsAt}
use Rattle.aug_trie.specs.History.{last_cut}
use Rattle.aug_trie.specs.Knowledge.{StandsIn}
use Rattle.aug_trie.specs.inside.Knows.{root_history}
use Rattle.aug_trie.proofs.Histories.{history_long, cut_at, last_is, root_serial, root_shows}

-- a change that stands in a cut stands in a later one
pub stands_later : (earlier later : Cut) (c : Change) → IsAtMost earlier later → StandsIn earlier c → StandsIn later c
stands_later earlier later c rises (inl less) = ⊎_elim (λ (lt : serial_of earlier c.key < serial_of later c.key). inl (omega arith))
    (λ same. inl (subst (λ (z : ℕ × ℕ). c.serial < z.0) same less)) (rises.no_greater c.key)
stands_later earlier later c rises (inr is) = ⊎_elim (λ (lt : serial_of earlier c.key < serial_of later c.key). let e : serial_of earlier c.key ≡ c.serial = ap (λ (z : ℕ × ℕ). z.0) is in inl (omega arith))
    (λ same. inr (sym same ∙ is)) (rises.no_greater c.key)

-- what stands in a cut is no more than its serial there
pub at_least : (cut : Cut) (c : Change) → StandsIn cut c → c.serial ≤ serial_of cut c.key
at_least cut c (inl less) = omega arith
at_least cut c (inr is) = let e : serial_of cut c.key ≡ c.serial = ap (λ (z : ℕ × ℕ). z.0) is in omega (arith, e)

-- what the root's newest entry shows stands in the last cut with its weight
pub stands_last : (s : Shape) (book : Book) (key n weight : ℕ) → key < 2 ^ s.bits → NewestShows s book key s.bits n → WeighsAt book key n weight → StandsIn (last_cut (root_history s book)) (change key n weight)
stands_last s book key n weight low h weighs =
    let root = above_root s key low in
    let long : length (history_of book (root_place s)) ≡ h.index + 1 = ap (λ (z : ℕ). length (history_of book z)) (sym root) ∙ h.newest.last in
    let last = last_is s book h.index long in
    let is : shown_of (last_cut (root_history s book)) key ≡ (reached s book key s.bits h.index, (entry_of book key (reached s book key s.bits h.index)).weight) =
    ap (λ (z : Cut). shown_of z key) last ∙ root_shows s book key h.index low in
    let le = shows_reached s book key s.bits h.index n h.shows in ⊎_elim
    (λ (same : n ≡ reached s book key s.bits h.index).
    let weight_is : (entry_of book key (reached s book key s.bits h.index)).weight ≡ weight = ap (λ (z : ℕ). (entry_of book key z).weight) (sym same) ∙ ap (λ e. e.weight) (entry_is book key n weighs.entry weighs.at) ∙ weighs.weighs in
    inr (is ∙ (λ i. (sym same i, weight_is i))))
    (λ ne. let at : serial_of (last_cut (root_history s book)) key ≡ reached s book key s.bits h.index = ap (λ (z : ℕ × ℕ). z.0) is in inl (omega (arith, le, ne, at)))
    (cases_eq n (reached s book key s.bits h.index))

-- no cut of the history shows what was passed over
pub never_shows : (face : ℕ → ℕ → List (ℕ × ℕ) → List ℕ) (s : Shape) (book : Book) → IsBook face s book → (key n : ℕ) → key < 2 ^ s.bits → 1 ≤ s.bits → IsPassed book key n → All (λ cut. serial_of cut key ≢ n) (root_history s book)
never_shows face s book b key n low some passed =
    All-from_get_or (λ cut. serial_of cut key ≢ n) (root_history s book) [] (λ i within is.
    let long = history_long s book in
    let here : Has book (root_place s) i = omega arith in
    let root : above s key s.bits ≡ root_place s = above_root s key low in
    let level : s.bits ≡ suc (s.bits - 1) = omega arith in
    let at : Has book (above s key (suc (s.bits - 1))) i = subst (λ (z : ℕ). Has book (above s key z) i) level (subst (λ (z : ℕ). Has book z i) (sym root) here) in
    let serial : serial_of (get_or (root_history s book) i []) key ≡ reached s book key (suc (s.bits - 1)) i = ap (λ (z : Cut). serial_of z key) (cut_at s book i here) ∙ root_serial s book key i low ∙ ap (λ (z : ℕ). reached s book key z i) level in
    not_passed face s book b key (s.bits - 1) i n low (omega arith) at passed (sym serial ∙ is))

-- each cut of the history that shows a serial shows it with the weight of the leaf's entry
pub shows_weight : (s : Shape) (book : Book) (key n weight : ℕ) → key < 2 ^ s.bits → WeighsAt book key n weight → All (λ cut. serial_of cut key ≡ n → weight_at cut key ≡ weight) (root_history s book)
shows_weight s book key n weight low weighs =
    All-from_get_or (λ cut. serial_of cut key ≡ n → weight_at cut key ≡ weight) (root_history s book) [] (λ i within is.
    let long = history_long s book in
    let here : Has book (root_place s) i = omega arith in
    let shown : shown_of (get_or (root_history s book) i []) key ≡ (reached s book key s.bits i, (entry_of book key (reached s book key s.bits i)).weight) =
    ap (λ (z : Cut). shown_of z key) (cut_at s book i here) ∙ root_shows s book key i low in
    let same : reached s book key s.bits i ≡ n = ap (λ (z : ℕ × ℕ). z.0) (sym shown) ∙ is in
    ap (λ (z : ℕ × ℕ). z.1) shown ∙ ap (λ (z : ℕ). (entry_of book key z).weight) same ∙ ap (λ e. e.weight) (entry_is book key n weighs.entry weighs.at) ∙ weighs.weighs)

-- what a cut shows of a key is what an entry of its leaf says
pub shown_weighs : (face : ℕ → ℕ → List (ℕ × ℕ) → List ℕ) (s : Shape) (book : Book) → IsBook face s book → 1 ≤ s.bits → (key i : ℕ) → key < 2 ^ s.bits → Has book (root_place s) i → WeighsAt book key (serial_of (root_cut s book i) key) (weight_at (root_cut s book i) key)
shown_weighs face s book b some key i low here =
    let root : above s key s.bits ≡ root_place s = above_root s key low in
    let level : s.bits ≡ suc (s.bits - 1) = omega arith in
    let at : Has book (above s key (suc (s.bits - 1))) i = subst (λ (z : ℕ). Has book (above s key z) i) level (subst (λ (z : ℕ). Has book z i) (sym root) here) in
    let t = reached_shown face s book b key (s.bits - 1) i low (omega arith) at in
    let is : shown_of (root_cut s book i) key ≡ (reached s book key s.bits i, (entry_of book key (reached s book key s.bits i)).weight) = root_shows s book key i low in
    let back : reached s book key (suc (s.bits - 1)) i ≡ reached s book key s.bits i = ap (λ (z : ℕ). reached s book key z i) (sym level) in
    let there : At book key (reached s book key s.bits i) t.0 = subst (λ (z : ℕ). At book key z t.0) back t.1 in
    let serial : reached s book key s.bits i ≡ serial_of (root_cut s book i) key = ap (λ (z : ℕ × ℕ). z.0) (sym is) in record {
      entry = t.0;
      at = subst (λ (z : ℕ). At book key z t.0) serial there;
      weighs = ap (λ e. e.weight) (sym (entry_is book key (reached s book key s.bits i) t.0 there)) ∙ ap (λ (z : ℕ × ℕ). z.1) (sym is);
    }

-- where a cut shows a serial past the opening one, the change with that serial and that weight stands in the changes of one view
pub shown_stands : (face : ℕ → ℕ → List (ℕ × ℕ) → List ℕ) (o : Opening) (book : Book) (views : List SeatView) → IsBook face o.shape book → AreCounted o book views → 1 ≤ o.shape.bits → (key i : ℕ) → key < 2 ^ o.shape.bits → Has book (root_place o.shape) i
    → opening_serial o.members key < serial_of (root_cut o.shape book i) key → Stands views (change key (serial_of (root_cut o.shape book i) key) (weight_at (root_cut o.shape book i) key))
shown_stands face o book views b counted some key i low here past = let h = shown_weighs face o.shape book b some key i low here in
    counted.all (change key (serial_of (root_cut o.shape book i) key) (weight_at (root_cut o.shape book i) key)) record { exists = low; past_opening = past; entry = h.entry; reached = h.at; weighs = h.weighs }
