-- What a leaf's word says, by its whole serial, of which the word has the last 32 bits: an update does to the one what it does to the other.
use Rattle.std.proofs.Common.{◌≡◌, ◌==◌, ◌&&◌, ℕ, ◌+◌, ◌-◌, ◌*◌, ◌%◌, ◌^◌, ◌<◌, ltb, leb, Bool, true, false, if◌then◌else◌, List, Some, None, sym, ap, ◌∙◌, refl, arith}
use Rattle.aug_core.specs.Places.{Shape}
use Rattle.aug_core.specs.Book.{Book, history_of, At, SerialsFit, IsBook, word_of_leaf}
use Rattle.aug_core.specs.Effects.{going_from}
use Rattle.aug_core.specs.Layout.{IsLayout}
use Rattle.aug_core.specs.declared.view.Entry.{Entry}
use Rattle.aug_core.proofs.Books.{at_below}
use Rattle.aug_core.proofs.Fits.{few_serials}
use Rattle.aug_model.specs.declared.outcome.Outcome.{Outcome}
use Rattle.aug_model.specs.declared.outcome.Outcome.TheVariants.{Accepted, Replaced}
use Rattle.aug_trie.specs.LeafWords.{serial_in_word, weight_in_word}
use Rattle.aug_trie.specs.Requests.{goes_from, outcome_at_once, outcome_by, outcome_from, stores_nothing, weight_told, word_after, word_left}
use Rattle.aug_trie.specs.inside.Climbing.{IsWholeWord, advance_from}
use Rattle.aug_trie.specs.declared.updates.request.Request.{Request}
use Rattle.aug_trie.specs.declared.updates.request.Request.TheVariants.{Insert, Remove, Put, Add, Sub, Take}

module _ (whole word : ℕ) (same : whole % 2 ^ 64 ≡ word) where
  same_weight : weight_in_word whole ≡ weight_in_word word
  same_weight = omega (arith, same)

  same_parity : serial_in_word whole % 2 ≡ serial_in_word word % 2
  same_parity = omega (arith, same)

  same_bits : (n : ℕ) → (serial_in_word whole + n) % 2 ^ 32 ≡ (serial_in_word word + n) % 2 ^ 32
  same_bits n = omega (arith, same)

  next_word : (n weight : ℕ) → word_of_leaf (serial_in_word whole + n) weight ≡ word_of_leaf (serial_in_word word + n) weight
  next_word n weight = ap (λ (z : ℕ). z * 2 ^ 32 + weight) (same_bits n)

  either_word : (b : Bool) (weight : ℕ) → word_of_leaf (if b then serial_in_word whole + 2 else serial_in_word whole + 1) weight ≡ word_of_leaf (if b then serial_in_word word + 2 else serial_in_word word + 1) weight
  either_word true weight = next_word 2 weight
  either_word false weight = next_word 1 weight

  -- whether it continues
  pub goes_whole : (request : Request) → goes_from request whole ≡ goes_from request word
  goes_whole Insert = ap (λ (z : ℕ). z == 0) same_parity
  goes_whole Remove = ap (λ (z : ℕ). z == 1) same_parity
  goes_whole (Put weight) = refl
  goes_whole (Add amount) = ap (λ (z : ℕ). ltb 0 amount && ltb (z + amount) (2 ^ 32)) same_weight
  goes_whole (Sub amount) = λ i. ltb 0 amount && ((same_parity i == 1) && leb amount (same_weight i))
  goes_whole (Take weight) = λ i. (same_parity i == 1) && (same_weight i == weight)

  -- the word that it makes
  pub after_whole : (request : Request) (key : ℕ) → word_after request key whole ≡ word_after request key word
  after_whole Insert key = next_word 1 key
  after_whole Remove key = next_word 1 0
  after_whole (Put weight) key = (λ i. word_of_leaf (if same_parity i == 1 then serial_in_word whole + 2 else serial_in_word whole + 1) weight) ∙ either_word (serial_in_word word % 2 == 1) weight
  after_whole (Add amount) key = (λ i. word_of_leaf (if same_parity i == 1 then serial_in_word whole + 2 else serial_in_word whole + 1) (same_weight i + amount)) ∙ either_word (serial_in_word word % 2 == 1) (weight_in_word word + amount)
  after_whole (Sub amount) key = (λ i. word_of_leaf (if ltb amount (same_weight i) then serial_in_word whole + 2 else serial_in_word whole + 1) (same_weight i - amount)) ∙ either_word (ltb amount (weight_in_word word)) (weight_in_word word - amount)
  after_whole (Take weight) key = next_word 1 0

  -- what it comes to
  pub outcome_whole : (request : Request) → outcome_by request whole ≡ outcome_by request word
  outcome_whole Insert = refl
  outcome_whole Remove = refl
  outcome_whole (Put weight) = ap (λ (z : ℕ). if z == 1 then Replaced else Accepted) same_parity
  outcome_whole (Add amount) = ap (λ (z : ℕ). if z == 1 then Replaced else Accepted) same_parity
  outcome_whole (Sub amount) = ap (λ (z : ℕ). if ltb amount z then Replaced else Accepted) same_weight
  outcome_whole (Take weight) = refl

  pub from_whole : (request : Request) → outcome_from request whole ≡ outcome_from request word
  from_whole request = λ i. if goes_whole request i then outcome_whole request i else outcome_at_once request

  -- and what it tells of the key's weight, before and after
  pub told_whole : weight_told whole ≡ weight_told word
  told_whole = λ i. if same_parity i == 1 then Some (same_weight i) else None

  pub left_whole : (request : Request) (key : ℕ) (done : Outcome) → weight_told (word_left request key whole done) ≡ weight_told (word_left request key word done)
  left_whole request key done = either (stores_nothing done)
    where
      either : (b : Bool) → weight_told (if b then whole else word_after request key whole) ≡ weight_told (if b then word else word_after request key word)
      either true = told_whole
      either false = ap weight_told (after_whole request key)

-- a leaf's word with its whole serial
abbrev pub whole_word : ℕ → ℕ → ℕ
whole_word serial weight = serial * 2 ^ 32 + weight

pub whole_serial : (serial weight : ℕ) → weight < 2 ^ 32 → serial_in_word (whole_word serial weight) ≡ serial
whole_serial serial weight fits = omega (arith, fits)

pub whole_weight : (serial weight : ℕ) → weight < 2 ^ 32 → weight_in_word (whole_word serial weight) ≡ weight
whole_weight serial weight fits = omega (arith, fits)

whole_bits : (serial weight : ℕ) → weight < 2 ^ 32 → whole_word serial weight % 2 ^ 64 ≡ word_of_leaf serial weight
whole_bits serial weight fits = omega (arith, fits)

whole_alone : (serial weight : ℕ) → serial < 2 ^ 32 → whole_word serial weight ≡ word_of_leaf serial weight
whole_alone serial weight few = omega (arith, few)

-- so it is that of an entry of the leaf with this word
pub entry_whole : (face : ℕ → ℕ → List (ℕ × ℕ) → List ℕ) (s : Shape) (book : Book) (key i word : ℕ) (e : Entry) → IsLayout s → IsBook face s book → (s.reservations ≡ 0 → SerialsFit s book) → key < 2 ^ s.bits → At book key i e → word ≡ e.word → IsWholeWord s word (whole_word i e.weight)
entry_whole face s book key i word e laid b fits low at is = let serial = b.serials key i e low at in let named = is ∙ serial.named in record {
  last_bits = whole_bits i e.weight serial.fits ∙ sym named;
  in_round = λ off. let few = (few_serials s book laid (fits off)).few key low in let there = at_below (history_of book key) i e at in whole_alone i e.weight (omega (arith, few, there)) ∙ sym named;
}

-- from another serial that is odd if this one is, the request makes the same change
pub advance_at : (request : Request) (key whole serial : ℕ) → serial % 2 ≡ serial_in_word whole % 2 → advance_from request key (whole_word serial (weight_in_word whole)) ≡ going_from serial (advance_from request key whole)
advance_at request key whole serial parity = by_kind request
  where
    weight : weight_in_word (whole_word serial (weight_in_word whole)) ≡ weight_in_word whole
    weight = whole_weight serial (weight_in_word whole) (omega arith)

    is : serial_in_word (whole_word serial (weight_in_word whole)) ≡ serial
    is = whole_serial serial (weight_in_word whole) (omega arith)

    odd : serial_in_word (whole_word serial (weight_in_word whole)) % 2 ≡ serial_in_word whole % 2
    odd = ap (λ (z : ℕ). z % 2) is ∙ parity

    by_kind : (request : Request) → advance_from request key (whole_word serial (weight_in_word whole)) ≡ going_from serial (advance_from request key whole)
    by_kind Insert = λ i. record { serial = is i; weight = weight i; replaces = false; new_weight = key }
    by_kind Remove = λ i. record { serial = is i; weight = weight i; replaces = false; new_weight = 0 }
    by_kind (Put new) = λ i. record { serial = is i; weight = weight i; replaces = odd i == 1; new_weight = new }
    by_kind (Add amount) = λ i. record { serial = is i; weight = weight i; replaces = odd i == 1; new_weight = weight i + amount }
    by_kind (Sub amount) = λ i. record { serial = is i; weight = weight i; replaces = ltb amount (weight i); new_weight = weight i - amount }
    by_kind (Take had) = λ i. record { serial = is i; weight = weight i; replaces = false; new_weight = 0 }
