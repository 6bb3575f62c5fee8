-- An update: a load of the leaf, an exchange unless the serial refuses it, and a propagation.
use Rattle.std.proofs.Common.{◌≡◌, ◌≢◌, ℕ, ◌+◌, ◌*◌, ◌^◌, ◌<◌, ◌≤◌, Bool, true, false, if◌then◌else◌, List, [], ◌∷◌, ◌++◌, append_assoc, sym, refl, ap, ◌∙◌, subst, ⊎_elim, inl, inr, arith, ◌==◌}
use Rattle.std.proofs.lemmas.List.{append-nil}
use Rattle.std.proofs.lemmas.Bool.{cases_eq, cases_Bool, eqb-false, eqb-true, false≢true}
use Rattle.aug_core.specs.Places.{Shape}
use Rattle.aug_core.specs.Book.{Book, ArePrefixes, At, IsNewest, IsSerial, word_of_leaf}
use Rattle.aug_core.specs.Kinds.{load_leaf, try_leaf}
use Rattle.aug_core.specs.inside.Shows.{NewestShows, ShowsAtMost, Lifts}
use Rattle.aug_core.specs.Effects.{HoldsOnly, BeginsAtLeaf, HitsLeaf, TriesLeaf, IsAdvance, going_from, old_word, new_word, new_serial, made_by, on_first, with_changes, KnowsSerial, KnowsBook}
use Rattle.aug_core.specs.declared.step.StepTaken.{StepTaken}
use Rattle.aug_core.specs.declared.view.Advance.{Advance}
use Rattle.aug_core.specs.declared.view.Change.{Change}
use Rattle.aug_core.specs.declared.view.Entry.{Entry}
use Rattle.aug_core.specs.declared.view.Held.{Held}
use Rattle.aug_core.specs.declared.view.SeatView.{SeatView}
use Rattle.aug_core.proofs.Books.{newest_is_last}
use Rattle.aug_core.proofs.PlaceLemmas.{keys-within}
use Rattle.aug_core.proofs.Showing.{shows_leaf, shows_later}
use Rattle.aug_model.specs.declared.outcome.Outcome.{Outcome}
use Rattle.aug_model.specs.declared.outcome.Outcome.TheVariants.{Accepted, Replaced, Refused, Unchanged, TooGreat, TooLittle}
use Rattle.aug_words.specs.Seats.{MayAdvance, TriedLeaf}
use Rattle.aug_trie.specs.inside.Goes.{Goes, HasRoom}
use Rattle.aug_trie.specs.inside.Batching.{GainsOnly}
use Rattle.aug_trie.specs.inside.Climbing.{WentUp, Stayed, CameTo, CameBy, UpdatedFrom, IsWholeWord, FitsRequest, advance_from}
use Rattle.aug_trie.specs.inside.Weights.{WeighsAt}
use Rattle.aug_trie.specs.LeafWords.{serial_in_word, weight_in_word}
use Rattle.aug_trie.specs.Requests.{goes_from, word_after, outcome_by, outcome_at_once}
use Rattle.aug_trie.specs.inside.Stages.{MayRise, HasRisen}
use Rattle.aug_trie.specs.declared.updates.request.Request.{Request}
use Rattle.aug_trie.specs.declared.updates.request.Request.TheVariants.{Insert, Remove, Put, Add, Sub, Take}
use Rattle.aug_trie.proofs.Going.{room_on, goes_on, goes_after, goes_beginning, goes_seeing, goes_changing}
use Rattle.aug_trie.proofs.Requesting.{is_advance, to_word, outcome_is, serial_is, weight_is, way_found, way_next}
use Rattle.aug_trie.proofs.WholeWords.{whole_word, whole_serial, whole_weight, entry_whole, goes_whole, after_whole, outcome_whole, advance_at}
use Rattle.aug_core.proofs.PrefixLemmas.{entry_stays, book_refl, book_trans}

-- a number of bits is that of a view's shape
pub bits_in : {bits : ℕ} {s t : Shape} (P : ℕ → Type 0) → bits ≡ t.bits → s ≡ t → P bits → P s.bits
bits_in P is same h = subst P (is ∙ ap (λ (z : Shape). z.bits) (sym same)) h

pub bits_out : {bits : ℕ} {s t : Shape} (P : ℕ → Type 0) → bits ≡ t.bits → s ≡ t → P s.bits → P bits
bits_out P is same h = subst P (sym (is ∙ ap (λ (z : Shape). z.bits) (sym same))) h

keeps_none : {v w : SeatView} → w.held ≡ v.held → w.reserved ≡ v.reserved → GainsOnly [] v w
keeps_none {v} {w} held reserved = record { held = λ h one. held ∙ one ∙ ap (λ (z : List Change). record h { changes = z } ∷ []) (sym (append-nil h.changes)); reserved = reserved }

newest_shows : (s : Shape) (book : Book) (key index n : ℕ) (e : Entry) → IsNewest book key index e → n ≤ index → NewestShows s book key 0 n
newest_shows s book key index n e newest le = record { index = index; entry = e; newest = newest; shows = ((e, newest.at), le) }

module _ (f : ℕ → ℕ → List (ℕ × ℕ) → List ℕ) where
  -- what an update comes to that the word of its leaf prevents
  came_at_once : (used : ℕ) (v : SeatView) (key : ℕ) (w : SeatView) (word : ℕ) (request : Request) → goes_from request word ≡ false → Stayed f used v key request w word → CameTo f used v key request w word (outcome_at_once request)
  came_at_once used v key w word Insert stops stayed = stayed
  came_at_once used v key w word Remove stops stayed = stayed
  came_at_once used v key w word (Put weight) stops stayed = stayed
  came_at_once used v key w word (Take weight) stops stayed = stayed
  came_at_once used v key w word (Add amount) stops stayed = by_nothing (amount == 0) refl
    where
      by_nothing : (b : Bool) → (amount == 0) ≡ b → CameTo f used v key (Add amount) w word (if b then Unchanged else TooGreat)
      by_nothing true e = record { stayed = stayed; stops = stops; says = ap (λ (z : Bool). if z then Unchanged else TooGreat) (sym e) }
      by_nothing false e = record { stayed = stayed; stops = stops; says = ap (λ (z : Bool). if z then Unchanged else TooGreat) (sym e) }
  came_at_once used v key w word (Sub amount) stops stayed = by_nothing (amount == 0) refl
    where
      by_nothing : (b : Bool) → (amount == 0) ≡ b → CameTo f used v key (Sub amount) w word (if b then Unchanged else TooLittle)
      by_nothing true e = record { stayed = stayed; stops = stops; says = ap (λ (z : Bool). if z then Unchanged else TooLittle) (sym e) }
      by_nothing false e = record { stayed = stayed; stops = stops; says = ap (λ (z : Bool). if z then Unchanged else TooLittle) (sym e) }

  pub goes_begun : (v w : SeatView) (key word : ℕ) → KnowsBook f v → BeginsAtLeaf f v key word w → Goes f 0 [] v w
  goes_begun v w key word kn l = goes_beginning f v w _ l.stepped kn l.sees

  -- a try of a leaf gains changes or none
  pub goes_leaf : (v w : SeatView) (key found : ℕ) (a : Advance) (h : Held) → HoldsOnly v h → KnowsBook f v → TriesLeaf f v key a found w → (gained : List Change) × Goes f 0 gained v w
  goes_leaf v w key found a h only kn told = ⊎_elim
      (λ (hit : found ≡ old_word a). (_, goes_changing f v w _ _ h only (told.hit hit).0.changed kn told.sees))
      (λ miss. ([], goes_seeing f v w _ (told.miss miss).0 kn told.sees)) (cases_eq found (old_word a))

  small_key : (v : SeatView) (key : ℕ) → KnowsBook f v → key < 2 ^ v.shape.bits → key < 2 ^ 32
  small_key v key kn low = let few = (keys-within v.shape.bits kn.laid_out.bits.0 kn.laid_out.bits.1).1 in omega arith

  -- after steps that published nothing the way to the root may begin
  pub may_rise : (bits number key : ℕ) (gained : List Change) (v w : SeatView) → key < 2 ^ v.shape.bits → bits ≡ v.shape.bits → HasRoom v number bits → Goes f 0 gained v w → MayRise f bits number key w
  may_rise bits number key gained v w low is room g = record {
    low = subst (λ (z : Shape). key < 2 ^ z.bits) (sym g.shaped) low;
    bits_are = is ∙ ap (λ (z : Shape). z.bits) (sym g.shaped);
    knows_table = g.knows_table;
    room = room_on f gained v w number bits g room;
  }

  module _ (v w0 : SeatView) (key word : ℕ) (request : Request) (low : key < 2 ^ v.shape.bits) (kn : KnowsBook f v) (loaded : BeginsAtLeaf f v key word w0) where
    -- the word that was loaded, with the leaf's whole serial
    abbrev whole : ℕ
    whole = whole_word loaded.index loaded.entry.weight

    is_serial : IsSerial key loaded.index loaded.entry
    is_serial = loaded.sees.book.serials key loaded.index loaded.entry low loaded.newest.at

    is_whole : IsWholeWord v.shape word whole
    is_whole = entry_whole f v.shape w0.seen key loaded.index word loaded.entry kn.laid_out loaded.sees.book loaded.sees.fits low loaded.newest.at loaded.found

    at_leaf : serial_in_word whole ≡ loaded.index
    at_leaf = whole_serial loaded.index loaded.entry.weight is_serial.fits

    at_weight : weight_in_word whole ≡ loaded.entry.weight
    at_weight = whole_weight loaded.index loaded.entry.weight is_serial.fits

    -- what the request makes of it
    abbrev pub asked : Advance
    asked = advance_from request key whole

    pub from : word ≡ old_word asked
    from = loaded.found ∙ is_serial.named ∙ (λ i. word_of_leaf (sym (serial_is request key whole ∙ at_leaf) i) (sym (weight_is request key whole ∙ at_weight) i))

    pub to : word_after request key word ≡ new_word asked
    to = sym (after_whole _ _ is_whole.last_bits request key) ∙ to_word request key whole

    -- the leaf is known to have had the serial and the weight that the request goes from
    knows_serial : KnowsSerial w0 key asked
    knows_serial = record { entry = loaded.entry; at = subst (λ (z : ℕ). At w0.seen key z loaded.entry) (sym (serial_is request key whole ∙ at_leaf)) loaded.newest.at; weighs = sym (weight_is request key whole ∙ at_weight) }

    is_asked : FitsRequest request → goes_from request word ≡ true → IsAdvance asked
    is_asked fits lets = is_advance request key whole fits (small_key v key kn low) (goes_whole _ _ is_whole.last_bits request ∙ lets)

    -- and may be exchanged as it says
    pub advances : FitsRequest request → goes_from request word ≡ true → MayAdvance w0 key word (word_after request key word)
    advances fits lets = record { advance = asked; is_advance = is_asked fits lets; from = from; to = to; known = knows_serial }

    shaped0 : w0.shape ≡ v.shape
    shaped0 = ap (λ (z : SeatView). z.shape) loaded.stepped

    pub steps0 : w0.steps ≡ v.steps ++ load_leaf key word ∷ []
    steps0 = ap (λ (z : SeatView). z.steps) loaded.stepped

    pub first : Goes f 0 [] v w0
    first = goes_begun v w0 key word kn loaded

    pub rest_first : GainsOnly [] v w0
    rest_first = keeps_none (ap (λ (z : SeatView). z.held) loaded.stepped) (ap (λ (z : SeatView). z.reserved) loaded.stepped)

    -- the leaf's entry with the serial that was loaded has the weight that was loaded, now and later
    weighed_on : (book : Book) → ArePrefixes w0.seen book → WeighsAt book key (serial_in_word whole) (weight_in_word whole)
    weighed_on book later = record {
      entry = loaded.entry;
      at = entry_stays later key (serial_in_word whole) loaded.entry (subst (λ (z : ℕ). At w0.seen key z loaded.entry) (sym at_leaf) loaded.newest.at);
      weighs = sym at_weight;
    }

    -- no earlier view was shown a serial past the one that was loaded
    at_most_from : (u : SeatView) (most : ℕ) → u.shape ≡ v.shape → ArePrefixes u.seen v.seen → loaded.index ≤ most → ShowsAtMost u.shape u.seen key most
    at_most_from u most same before up = subst (λ (z : Shape). ShowsAtMost z u.seen key most) (sym same) (record {
      at_most = λ i n h. let t = shows_leaf v.shape v.seen key v.shape.bits i n (shows_later v.shape v.seen u.seen key v.shape.bits i n before h) in
          let le = newest_is_last w0.seen key loaded.index t.0 loaded.entry t.1 loaded.newest (entry_stays loaded.sees.later key t.0 t.1 t.2) in let e = t.3 in omega (arith, up, le, e);
    })

    came_by : (used : ℕ) (u z : SeatView) (done : Outcome) (with_whole : ℕ) → u.shape ≡ v.shape → IsWholeWord v.shape word with_whole → CameTo f used u key request z with_whole done → CameBy f used u key request z word done
    came_by used u z done with_whole same is came = record { whole = with_whole; is_whole = subst (λ (s : Shape). IsWholeWord s word with_whole) (sym same) is; came_to = came }

    -- the word that was loaded refuses the update. What it comes to from an earlier view to a later one, which shows what the leaf had reached
    pub came_back : (used : ℕ) (u z : SeatView) → u.shape ≡ v.shape → ArePrefixes u.seen v.seen → ArePrefixes w0.seen z.seen → goes_from request word ≡ false → Lifts v.shape w0.seen z.seen key v.shape.bits → Goes f used [] u z → CameBy f used u key request z word (outcome_at_once request)
    came_back used u z same before later stops lifts goes = let other = goes_whole _ _ is_whole.last_bits request ∙ stops in
        came_by used u z (outcome_at_once request) whole same is_whole (came_at_once used u key z whole request other (record {
          goes = goes;
          before = at_most_from u (serial_in_word whole) same before (omega (arith, at_leaf));
          shown = subst (λ (s : Shape × ℕ). NewestShows s.0 z.seen key s.0.bits s.1) (λ i. (sym same i, sym (way_found request whole other) i))
              (lifts.lifted (serial_in_word whole) (newest_shows v.shape w0.seen key loaded.index (serial_in_word whole) loaded.entry loaded.newest (omega (arith, at_leaf))));
          weighed = weighed_on z.seen later;
        }))

    -- the leaf was tried
    module _ (fits : FitsRequest request) (lets : goes_from request word ≡ true) (w1 : SeatView) (ok : Bool) (h : Held) (only : HoldsOnly w0 h) (tried : TriedLeaf f w0 key word (word_after request key word) ok w1) where
      pub told : TriesLeaf f w0 key asked tried.found w1
      told = tried.told asked (is_asked fits lets) knows_serial from to

      missed : tried.found ≢ word → tried.found ≢ old_word asked
      missed other same = other (same ∙ sym from)

      -- its exchange gained changes or none
      pub tried_goes : (gained : List Change) × Goes f 0 gained w0 w1
      tried_goes = goes_leaf w0 w1 key tried.found asked h only first.knows_table told

      pub goes_miss : tried.found ≢ word → Goes f 0 [] v w1
      goes_miss other = goes_on f 0 0 0 [] v w0 w1 (omega arith) (omega arith) first (goes_seeing f w0 w1 _ (told.miss (missed other)).0 first.knows_table told.sees)

      pub rest_miss : tried.found ≢ word → GainsOnly [] v w1
      rest_miss other = let is = (told.miss (missed other)).0 in keeps_none (ap (λ (z : SeatView). z.held) is ∙ ap (λ (z : SeatView). z.held) loaded.stepped) (ap (λ (z : SeatView). z.reserved) is ∙ ap (λ (z : SeatView). z.reserved) loaded.stepped)

      shaped1 : w1.shape ≡ v.shape
      shaped1 = told.shaped ∙ shaped0

      abbrev pub taken : StepTaken
      taken = try_leaf key word (word_after request key word) tried.found

      pub step_at_leaf : w1.steps ≡ w0.steps ++ taken ∷ []
      step_at_leaf = subst (λ (z : ℕ × ℕ). w1.steps ≡ w0.steps ++ try_leaf key z.0 z.1 tried.found ∷ []) (λ i. (sym from i, sym to i)) told.stepped

      pub steps1 : w1.steps ≡ v.steps ++ load_leaf key word ∷ taken ∷ []
      steps1 = step_at_leaf ∙ ap (λ (z : List StepTaken). z ++ taken ∷ []) steps0 ∙ append_assoc v.steps (load_leaf key word ∷ []) (taken ∷ [])

      -- what the exchange came to says the outcome
      module _ (done : Outcome) (comes : done ≡ (if ok then outcome_by request word else Refused)) where
        pub done_hit : tried.found ≡ word → done ≡ outcome_by request word
        done_hit same = comes ∙ ap (λ (z : Bool). if z then outcome_by request word else Refused) (tried.decided.1 same)

        pub done_miss : tried.found ≢ word → done ≡ Refused
        done_miss other = elim (cases_Bool ok) [
          | inl t ↦ absurd (other (tried.decided.0 t))
          | inr n ↦ comes ∙ ap (λ (z : Bool). if z then outcome_by request word else Refused) n
        ]

        pub done_by : done ≡ (if tried.found == word then outcome_by request word else Refused)
        done_by = elim (cases_Bool (tried.found == word)) [
          | inl t ↦ done_hit (eqb-true tried.found word t) ∙ ap (λ (z : Bool). if z then outcome_by request word else Refused) (sym t)
          | inr n ↦ done_miss (eqb-false tried.found word n) ∙ ap (λ (z : Bool). if z then outcome_by request word else Refused) (sym n)
        ]

      -- the leaf had the serial that was loaded or, where records are used again, a later one that ends in the same bits
      module _ (same : tried.found ≡ word) where
        pub hit : HitsLeaf f w0 key asked tried.found w1 told.index
        hit = (told.hit (same ∙ from)).0

        abbrev whole_there : ℕ
        whole_there = whole_word hit.serial (weight_in_word whole)

        serial_there : asked.serial ≡ serial_in_word whole
        serial_there = serial_is request key whole

        is_whole_there : IsWholeWord v.shape word whole_there
        is_whole_there = let e = hit.was.entry in let low0 : key < 2 ^ w0.shape.bits = subst (λ (z : Shape). key < 2 ^ z.bits) (sym shaped0) low in
            let named = (told.sees.book.serials key hit.serial e low0 hit.was.at).named in
            let is : word ≡ e.word = from ∙ (λ i. sym hit.same_bits i * 2 ^ 32 + sym hit.was.weighs i) ∙ sym named in
            let there = entry_whole f w0.shape w1.seen key hit.serial word e first.knows_table.laid_out told.sees.book told.sees.fits low0 hit.was.at is in
            subst (λ (z : Shape × ℕ). IsWholeWord z.0 word (whole_word hit.serial z.1)) (λ i. (shaped0 i, (hit.was.weighs ∙ weight_is request key whole) i)) there

        -- what it went from, and to where
        abbrev pub gone : Advance
        gone = advance_from request key whole_there

        is_gone : gone ≡ going_from hit.serial asked
        is_gone = advance_at request key whole hit.serial (let bits = hit.same_bits in let is = serial_there in omega (arith, bits, is))

        pub goes_hit : Goes f 0 (made_by key gone) v w1
        goes_hit = let gained : List Change = made_by key (going_from hit.serial asked) in
            subst (λ (z : Advance). Goes f 0 (made_by key z) v w1) (sym is_gone) (goes_after f 0 0 0 [] gained gained v w0 w1 (omega arith) (omega arith) refl first (goes_changing f w0 w1 gained _ h only hit.changed first.knows_table told.sees))

        pub rest_hit : GainsOnly (made_by key gone) v w1
        rest_hit = let gained : List Change = made_by key (going_from hit.serial asked) in subst (λ (z : Advance). GainsOnly (made_by key z) v w1) (sym is_gone) record {
          held = λ x one. ap (λ (z : SeatView). z.held) hit.changed ∙ ap (on_first (with_changes gained)) (ap (λ (z : SeatView). z.held) loaded.stepped ∙ one);
          reserved = ap (λ (z : SeatView). z.reserved) hit.changed ∙ ap (λ (z : SeatView). z.reserved) loaded.stepped;
        }

        pub lets_there : goes_from request whole_there ≡ true
        lets_there = goes_whole _ _ is_whole_there.last_bits request ∙ lets

        pub outcome_there : outcome_by request word ≡ (if gone.replaces then Replaced else Accepted)
        outcome_there = sym (outcome_whole _ _ is_whole_there.last_bits request) ∙ outcome_is request key whole_there

        -- what it comes to from an earlier view to a later one, which shows what the leaf had reached
        module _ (used : ℕ) (u z : SeatView) (same_shape : u.shape ≡ v.shape) (before : ArePrefixes u.seen v.seen) (later : ArePrefixes w1.seen z.seen) (lifts : Lifts v.shape w1.seen z.seen key v.shape.bits) where
          went_up : Goes f used (made_by key gone) u z → WentUp f used u key request z gone
          went_up goes = let there : Advance = going_from hit.serial asked in let reached = hit.reached in let was = hit.was in let le = hit.no_less in let is = serial_there in
              subst (WentUp f used u key request z) (sym is_gone) record {
                weighed = record { entry = was.entry; at = entry_stays later key hit.serial was.entry was.at; weighs = was.weighs };
                goes = subst (λ (a : Advance). Goes f used (made_by key a) u z) is_gone goes;
                before = at_most_from u hit.serial same_shape before (omega (arith, le, is, at_leaf));
                shown = subst (λ (s : Shape). NewestShows s z.seen key s.bits (new_serial there)) (sym same_shape) (lifts.lifted (new_serial there) (newest_shows v.shape w1.seen key told.index (new_serial there) told.entry told.newest (omega (arith, reached))));
                weighs = record { entry = told.entry; at = entry_stays later key (new_serial there) told.entry (subst (λ (s : ℕ). At w1.seen key s told.entry) reached told.newest.at); weighs = (told.hit (same ∙ from)).1 };
                passes = λ e. let p = hit.passes e in record { entry = p.entry; at = entry_stays later key (hit.serial + 1) p.entry p.at; passed = p.passed };
              }

          by_replaces : (b : Bool) → gone.replaces ≡ b → WentUp f used u key request z gone → CameTo f used u key request z whole_there (if b then Replaced else Accepted)
          by_replaces true e up = (up, e, lets_there)
          by_replaces false e up = (up, e, lets_there)

          pub came_up : Goes f used (made_by key gone) u z → CameBy f used u key request z word (outcome_by request word)
          came_up goes = subst (CameBy f used u key request z word) (sym outcome_there) (came_by used u z _ whole_there same_shape is_whole_there (by_replaces gone.replaces refl (went_up goes)))

      -- another change of the leaf came first
      pub came_late : (used : ℕ) (u z : SeatView) → u.shape ≡ v.shape → ArePrefixes u.seen v.seen → ArePrefixes w1.seen z.seen → Lifts v.shape w1.seen z.seen key v.shape.bits → tried.found ≢ word → Goes f used [] u z → CameBy f used u key request z word Refused
      came_late used u z same_shape before later lifts other goes = let past = (told.miss (missed other)).1 in let serial = serial_is request key whole in let next : ℕ = serial_in_word whole + 1 in
          came_by used u z Refused whole same_shape is_whole record {
            goes = goes;
            before = at_most_from u (serial_in_word whole) same_shape before (omega (arith, at_leaf));
            shown = subst (λ (s : Shape × ℕ). NewestShows s.0 z.seen key s.0.bits s.1) (λ i. (sym same_shape i, sym (way_next request whole (goes_whole _ _ is_whole.last_bits request ∙ lets)) i))
                (lifts.lifted next (newest_shows v.shape w1.seen key told.index next told.entry told.newest (omega (arith, past, serial))));
            weighed = weighed_on z.seen (book_trans told.sees.later later);
          }

    -- ---- up to the root at once

    module _ (bits number : ℕ) (is : bits ≡ v.shape.bits) (some : 1 ≤ bits) where
      abbrev used : ℕ
      used = number + bits

      -- a way from a view of the same table lifts what was reached
      lifts_whole : (leaf w : SeatView) → leaf.shape ≡ v.shape → HasRisen f bits number key leaf bits w → Lifts v.shape leaf.seen w.seen key v.shape.bits
      lifts_whole leaf w shaped r = subst (λ (z : Shape × ℕ). Lifts z.0 leaf.seen w.seen key z.1) (λ i. (shaped i, is i)) r.lifts

      pub refused_at_once : (w : SeatView) → goes_from request word ≡ false → HasRisen f bits number key w0 bits w → UpdatedFrom f (number + bits) v key request w word (outcome_at_once request)
      refused_at_once w other h = let goes = h.goes in let between = h.took in let least = between.least_steps in let most = between.most_steps in let count = between.took.count in (
        record {
          loaded = word;
          more = between.took.more;
          steps = between.took.steps ∙ ap (λ (z : List StepTaken). z ++ between.took.more) steps0 ∙ append_assoc v.steps (load_leaf key word ∷ []) between.took.more;
          least_steps = omega arith;
          most_steps = omega arith;
          tried = λ lets. absurd (false≢true (sym other ∙ lets));
          refusing = λ _. (refl, between.took.no_try);
          came = came_back used v w refl (book_refl v.seen) goes.later other (lifts_whole w0 w shaped0 h) (goes_on f 0 used used [] v w0 w (omega arith) (omega arith) first goes);
        },
        refl,
      )

      -- an update that tried its leaf
      module _ (fits : FitsRequest request) (lets : goes_from request word ≡ true) (w1 : SeatView) (ok : Bool) (h : Held) (only : HoldsOnly w0 h) (tried : TriedLeaf f w0 key word (word_after request key word) ok w1) where
        pub updated : (w : SeatView) → HasRisen f bits number key w1 bits w → (done : Outcome) → done ≡ (if ok then outcome_by request word else Refused) → UpdatedFrom f (number + bits) v key request w word done
        updated w r done comes = let between = r.took in let least = between.least_steps in let most = between.most_steps in let count = between.took.count in
            let one : StepTaken = taken fits lets w1 ok h only tried in let lifts = lifts_whole w1 w (shaped1 fits lets w1 ok h only tried) r in (
              record {
                loaded = word;
                more = one ∷ between.took.more;
                steps = between.took.steps ∙ ap (λ (z : List StepTaken). z ++ between.took.more) (steps1 fits lets w1 ok h only tried) ∙ append_assoc v.steps (load_leaf key word ∷ one ∷ []) between.took.more;
                least_steps = omega arith;
                most_steps = omega arith;
                tried = λ _. record { found = tried.found; rest = between.took.more; second = refl; says = done_by fits lets w1 ok h only tried done comes; no_other = between.took.no_try };
                refusing = λ other. absurd (false≢true (sym other ∙ lets));
                came = ⊎_elim
                    (λ (same : tried.found ≡ word). subst (CameBy f (number + bits) v key request w word) (sym (done_hit fits lets w1 ok h only tried done comes same))
                    (came_up fits lets w1 ok h only tried same used v w refl (book_refl v.seen) r.goes.later lifts (goes_on f 0 used used (made_by key (gone fits lets w1 ok h only tried same)) v w1 w (omega arith) (omega arith) (goes_hit fits lets w1 ok h only tried same) r.goes)))
                    (λ other. subst (CameBy f (number + bits) v key request w word) (sym (done_miss fits lets w1 ok h only tried done comes other))
                    (came_late fits lets w1 ok h only tried used v w refl (book_refl v.seen) r.goes.later lifts other (goes_on f 0 used used [] v w1 w (omega arith) (omega arith) (goes_miss fits lets w1 ok h only tried other) r.goes))) (cases_eq tried.found word);
              },
              refl,
            )

  -- a pass with room for the records of the way exchanged its leaf, or failed to: it may go up the way, and that ends the update
  pub record LeafTried (v w1 : SeatView) (key word bits number : ℕ) (request : Request) (ok : Bool) : Type 0 where
    pub same_shape : w1.shape ≡ v.shape
    pub rises : MayRise f bits number key w1
    pub updated : (w : SeatView) (done : Outcome) → HasRisen f bits number key w1 bits w → done ≡ (if ok then outcome_by request word else Refused) → UpdatedFrom f (number + bits) v key request w word done

  pub leaf_tried : {v w0 w1 : SeatView} {key word bits number new : ℕ} {ok : Bool} (request : Request) → key < 2 ^ v.shape.bits → bits ≡ v.shape.bits → KnowsBook f v → HasRoom v number bits → BeginsAtLeaf f v key word w0
      → FitsRequest request → goes_from request word ≡ true → new ≡ word_after request key word → TriedLeaf f w0 key word new ok w1 → LeafTried v w1 key word bits number request ok
  leaf_tried {v} {w0} {w1} {key} {word} {bits} {number} {new} {ok} request low is kn room l fits lets is_new tries = let some = kn.laid_out.bits.0 in let few : 1 ≤ bits = omega arith in
      let g0 = goes_begun v w0 key word kn l in let one = g0.holds room.holds in let t = subst (λ (z : ℕ). TriedLeaf f w0 key word z ok w1) is_new tries in
      let g1 = tried_goes v w0 key word request low kn l fits lets w1 ok one.0 one.1 t in let g = goes_after f 0 0 0 [] g1.0 g1.0 v w0 w1 (omega arith) (omega arith) refl g0 g1.1 in record {
        same_shape = g.shaped;
        rises = may_rise bits number key g1.0 v w1 low is room g;
        updated = λ w done risen comes. updated v w0 key word request low kn l bits number is few fits lets w1 ok one.0 one.1 t w risen done comes;
      }
