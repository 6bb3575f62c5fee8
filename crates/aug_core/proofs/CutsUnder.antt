-- The cut under an entry: how long it is, which serial it has at a key, how it rises, and which keys are there.
use Rattle.std.proofs.Common.{◌≡◌, ◌≢◌, ℕ, zero, suc, ◌+◌, ◌-◌, ◌*◌, ◌%◌, ◌^◌, ◌<◌, ◌≤◌, Bool, eq-eqb, ne_eqb, if◌then◌else◌, length, get_or, length-append, sym, refl, ap, ◌∙◌, subst, ⊎_elim, arith, suc-mul}
use Rattle.std.proofs.lemmas.Bool.{cases_lt}
use Rattle.std.proofs.lemmas.List.{get_or_append_left, get_or-append_right}
use Rattle.std.proofs.Math.Nat.{two-pow-succ, mul_assoc, mul_comm}
use Rattle.aug_core.specs.Places.{Shape}
use Rattle.aug_core.specs.Addresses.{left_of, right_of}
use Rattle.aug_core.specs.inside.WordPlaces.{IsWord}
use Rattle.aug_core.specs.Book.{Book, history_of}
use Rattle.aug_core.specs.Opening.{serial_entry}
use Rattle.aug_core.specs.declared.view.Entry.{Entry}
use Rattle.aug_core.specs.inside.Shows.{above, toward, Shows}
use Rattle.aug_core.specs.Cuts.{Cut}
use Rattle.aug_core.specs.inside.EntryCuts.{entry_of, cut_under}
use Rattle.aug_core.proofs.CutLists.{read}
use Rattle.aug_core.proofs.Levels.{inner_word, left_word, right_word, leaf_word}

-- where the keys of a node's children begin
pub halves : (level place : ℕ) → (2 * place * 2 ^ level ≡ place * 2 ^ suc level) × ((2 * place + 1) * 2 ^ level ≡ place * 2 ^ suc level + 2 ^ level) × (2 ^ suc level ≡ 2 ^ level + 2 ^ level)
halves level place = let n : ℕ = 2 ^ level in let t = two-pow-succ level in
    let a : 2 * place * n ≡ place * (2 * n) = ap (λ (z : ℕ). z * n) (mul_comm 2 place) ∙ mul_assoc place 2 n in
    let two : 2 * n ≡ 2 ^ suc level = omega arith in
    let b : 2 * place * n ≡ place * 2 ^ suc level = a ∙ ap (λ (z : ℕ). place * z) two in
    let e : 2 * place + 1 ≡ suc (2 * place) = omega arith in
    let c : (2 * place + 1) * n ≡ 2 * place * n + n = ap (λ (z : ℕ). z * n) e ∙ suc-mul (2 * place) n in
    (b, c ∙ ap (λ (z : ℕ). z + n) b, omega arith)

-- ---- lengths

pub cut_long : (s : Shape) (book : Book) (level q i : ℕ) → length (cut_under s book level q i) ≡ 2 ^ level
cut_long s book zero q i = refl
cut_long s book (suc level) q i = let e = entry_of book q i in let l = cut_long s book level (left_of s q) e.left in let r = cut_long s book level (right_of s q) e.right in
    let t = two-pow-succ level in length-append (cut_under s book level (left_of s q) e.left) (cut_under s book level (right_of s q) e.right) ∙ (let x : length (cut_under s book level (left_of s q) e.left) + length (cut_under s book level (right_of s q) e.right) ≡ 2 ^ suc level = omega arith in x)

-- ---- what is shown of a key is the serial, by its index, and the weight of the entry that is found by walking down

-- the place above a key whose number on its level and the key's on its place are these
pub above_is : (s : Shape) (key level place k q : ℕ) → IsWord s level place q → key ≡ place * 2 ^ level + k → k < 2 ^ level → above s key level ≡ q
above_is s key zero place k q w is low = let l = leaf_word s place q w in let l0 = l.0 in omega arith
above_is s key (suc level) place k q w is low = let h = halves level place in let h0 = h.0 in let h1 = h.1 in let h2 = h.2 in let inner = inner_word s level place q w in let past = inner.past_leaves in ⊎_elim
    (λ (lt : k < 2 ^ level). let c = above_is s key level (2 * place) k (left_of s q) (left_word s level place q w) (omega arith) lt in omega arith)
    (λ (ge : 2 ^ level ≤ k). let c = above_is s key level (2 * place + 1) (k - 2 ^ level) (right_of s q) (right_word s level place q w) (omega arith) (omega arith) in omega arith)
    (cases_lt k (2 ^ level))

-- the index of the entry that is reached from the entry i of the place above a key, step by step down to the key's leaf
abbrev pub reached : Shape → Book → ℕ → ℕ → ℕ → ℕ
reached s book key zero i = i
reached s book key (suc level) i = reached s book key level (toward (entry_of book (above s key (suc level)) i) (above s key level))

toward_even : (e : Entry) (c : ℕ) → c % 2 ≡ 0 → toward e c ≡ e.left
toward_even e c even = ap (λ (z : Bool). if z then e.left else e.right) (eq-eqb (c % 2) 0 even)

toward_odd : (e : Entry) (c : ℕ) → c % 2 ≢ 0 → toward e c ≡ e.right
toward_odd e c odd = ap (λ (z : Bool). if z then e.left else e.right) (ne_eqb (c % 2) 0 odd)

pub shown_is : (s : Shape) (book : Book) (key level place k q i : ℕ) → IsWord s level place q → key ≡ place * 2 ^ level + k → k < 2 ^ level
    → get_or (cut_under s book level q i) k (0, 0) ≡ (reached s book key level i, (entry_of book key (reached s book key level i)).weight)
shown_is s book key zero place k q i w is low = let z : k ≡ 0 = omega arith in let l = leaf_word s place q w in let same : q ≡ key = let l0 = l.0 in omega arith in
    ap (λ (j : ℕ). get_or (cut_under s book zero q i) j (0, 0)) z ∙ ap (λ (j : ℕ). (i, (entry_of book j i).weight)) same
shown_is s book key (suc level) place k q i w is low =
    let h = halves level place in let h0 = h.0 in let h1 = h.1 in let h2 = h.2 in let e : Entry = entry_of book q i in
    let lc : Cut = cut_under s book level (left_of s q) e.left in let rc : Cut = cut_under s book level (right_of s q) e.right in let long = cut_long s book level (left_of s q) e.left in
    let here = above_is s key (suc level) place k q w is low in ⊎_elim
    (λ (lt : k < 2 ^ level). let c = above_is s key level (2 * place) k (left_of s q) (left_word s level place q w) (omega arith) lt in
    let way : e.left ≡ toward (entry_of book (above s key (suc level)) i) (above s key level) = sym (toward_even e (above s key level) (omega arith)) ∙ ap (λ (z : ℕ). toward (entry_of book z i) (above s key level)) (sym here) in
    get_or_append_left lc rc (0, 0) k (omega arith) ∙ shown_is s book key level (2 * place) k (left_of s q) e.left (left_word s level place q w) (omega arith) lt
    ∙ ap (λ (z : ℕ). (reached s book key level z, (entry_of book key (reached s book key level z)).weight)) way)
    (λ (ge : 2 ^ level ≤ k). let c = above_is s key level (2 * place + 1) (k - 2 ^ level) (right_of s q) (right_word s level place q w) (omega arith) (omega arith) in
    let way : e.right ≡ toward (entry_of book (above s key (suc level)) i) (above s key level) = sym (toward_odd e (above s key level) (omega arith)) ∙ ap (λ (z : ℕ). toward (entry_of book z i) (above s key level)) (sym here) in
    get_or-append_right lc rc (2 ^ level) k (0, 0) long ge ∙ shown_is s book key level (2 * place + 1) (k - 2 ^ level) (right_of s q) e.right (right_word s level place q w) (omega arith) (omega arith)
    ∙ ap (λ (z : ℕ). (reached s book key level z, (entry_of book key (reached s book key level z)).weight)) way)
    (cases_lt k (2 ^ level))

pub serial_is : (s : Shape) (book : Book) (key level place k q i : ℕ) → IsWord s level place q → key ≡ place * 2 ^ level + k → k < 2 ^ level → (get_or (cut_under s book level q i) k (0, 0)).0 ≡ reached s book key level i
serial_is s book key level place k q i w is low = ap (λ (z : ℕ × ℕ). z.0) (shown_is s book key level place k q i w is low)

-- what is shown is at most what is reached
pub shows_reached : (s : Shape) (book : Book) (key level i n : ℕ) → Shows s book key level i n → n ≤ reached s book key level i
shows_reached s book key zero i n h = h.1
shows_reached s book key (suc level) i n h = let q : ℕ = above s key (suc level) in let c : ℕ = above s key level in
    let is : toward (entry_of book q i) c ≡ toward h.0 c = ap (λ (z : Entry). toward z c) (read (history_of book q) i (serial_entry 0 0 0) h.0 h.1) in
    shows_reached s book key level (toward (entry_of book q i) c) n (subst (λ (z : ℕ). Shows s book key level z n) (sym is) h.2)
