-- The changes that a lead holds, and those of the lanes that it does not hold, are all that happened.
use Rattle.std.proofs.Common.{◌≡◌, ◌≢◌, ℕ, suc, ◌+◌, ◌%◌, ◌-◌, ◌*◌, ◌^◌, ◌<◌, ◌≤◌, Bool, true, false, eqb, eq-eqb, ne_eqb, leb, ltb, lt-ltb, le-ltb, ◌&&◌, if◌then◌else◌, List, [], ◌∷◌, ◌++◌, length, filter, map, flat_map, All, sym, refl, ap, ◌∙◌, subst, ⊎_elim, arith, Some}
use Rattle.std.proofs.lemmas.Bool.{cases_eq, cases_lt, eqb-true, le-leb, lt-leb}
use Rattle.std.proofs.lemmas.List.{length-map, append-nil}
use Rattle.std.proofs.lemmas.List.Elements.{All-nil, All-cons, All-append, All-filter, All-from_get_or}
use Rattle.std.specs.List.{sum_by}
use mathlib.Core.Option.{some, some-injective}
use lib.ListN.{get_elem?}
use Rattle.aug_core.specs.Addresses.{root_place}
use Rattle.aug_core.specs.Book.{history_of}
use Rattle.aug_core.specs.Counts.{change, changes_of, StandsAt, Stands}
use Rattle.aug_core.specs.Rule.{Kept}
use Rattle.aug_core.specs.declared.view.Change.{Change}
use Rattle.aug_core.specs.declared.view.Entry.{Entry}
use Rattle.aug_core.specs.declared.view.Held.{Held}
use Rattle.aug_core.specs.declared.view.SeatView.{SeatView}
use Rattle.aug_core.proofs.Books.{at_below, no_shorter}
use Rattle.aug_core.proofs.Moves.{St}
use Rattle.aug_core.specs.inside.Shows.{above}
use Rattle.aug_core.proofs.Showing.{shows_leaf, above_root}
use Rattle.aug_core.specs.Cuts.{Cut, serial_of, weight_at, pairs_of_cut, opening_cut, IsAtMost}
use Rattle.aug_trie.specs.History.{last_cut}
use Rattle.aug_trie.specs.Knowledge.{StandsIn}
use Rattle.aug_trie.specs.Tallies.{times, Tallies, Weighs, TalliesWithOthers, TalliesWithLost}
use Rattle.aug_core.specs.inside.EntryCuts.{entry_of}
use Rattle.aug_core.specs.inside.RootCuts.{root_cut}
use Rattle.aug_core.specs.Effects.{opening_of, KnowsBook}
use Rattle.aug_trie.specs.inside.Knows.{knows}
use Rattle.aug_core.proofs.Levels.{root_word}
use Rattle.aug_core.proofs.CutsUnder.{cut_long, reached}
use Rattle.aug_core.proofs.EntryCuts.{Has, entry_at, entry_is, reached_shows, root_rises, cut_later}
use Rattle.aug_core.proofs.CutLists.{read}
use Rattle.aug_trie.proofs.CutLemmas.{serial_past, serial_rises, serial-opening, pairs_of_cut-opening}
use Rattle.aug_trie.proofs.LedgerSums.{summed, sum_same, total_below, balance, members_weigh}
use Rattle.aug_trie.specs.Ledger.{IsLedger, total_weight}
use Rattle.aug_trie.specs.inside.Weights.{WeighsAt}
use Rattle.aug_trie.proofs.Histories.{history_long, cut_at, last_is, first_cut, root_serial, root_some}
use Rattle.aug_trie.proofs.Standing.{at_least, shown_weighs, shown_stands}
use Rattle.aug_core.proofs.Counting.{and_left, and_right, hits-append, hits_none, hits_one, hits_all, filter_shorter, flat_none, flat_one, twice_same, twice_none, twice_less, filter_place, at_longer, at_after, flat_place, IsIn, all_at, all_map, map_at, at_map}
use Rattle.aug_core.proofs.Missing.{HeldIn, search_views, Missing, missing}
use Rattle.aug_core.proofs.PrefixLemmas.{entry_stays}

-- what holds of each item holds of all
all_listed : {A : Type 0} (P : A → Type 0) (xs : List A) → ((k : ℕ) (x : A) → get_elem? xs k ≡ some x → P x) → All P xs
all_listed P [] each = All-nil P
all_listed P (x ∷ xs) each = All-cons P x xs (each 0 x refl) (all_listed P xs (λ k y p. each (suc k) y p))

all_flat : {A B : Type 0} (P : B → Type 0) (f : A → List B) (xs : List A) → ((k : ℕ) (x : A) → get_elem? xs k ≡ some x → All P (f x)) → All P (flat_map f xs)
all_flat P f [] each = All-nil P
all_flat P f (x ∷ xs) each = All-append P (f x) (flat_map f xs) (each 0 x refl) (all_flat P f xs (λ k y p. each (suc k) y p))

abbrev test : ℕ → ℕ → Change → Bool
test key number c = eqb c.key key && eqb c.serial number

same_key : (key number : ℕ) (c : Change) → test key number c ≡ true → c.key ≡ key
same_key key number c is = eqb-true c.key key (and_left (eqb c.key key) (eqb c.serial number) is)

same_number : (key number : ℕ) (c : Change) → test key number c ≡ true → c.serial ≡ number
same_number key number c is = eqb-true c.serial number (and_right (eqb c.key key) (eqb c.serial number) is)

test_same : (key number weight : ℕ) → test key number (change key number weight) ≡ true
test_same key number weight = λ j. eq-eqb key key refl j && eq-eqb number number refl j

same_held : (views : List SeatView) (i j a b : ℕ) (v w : SeatView) (h g : Held) → i ≡ j → a ≡ b → get_elem? views i ≡ some v → get_elem? views j ≡ some w → get_elem? v.held a ≡ some h → get_elem? w.held b ≡ some g → h ≡ g
same_held views i j a b v w h g ij ab pv pw ph pg = let here : get_elem? views j ≡ some v = subst (λ (z : ℕ). get_elem? views z ≡ some v) ij pv in let same : v ≡ w = some-injective v w (sym here ∙ pw) in
    let there : get_elem? v.held b ≡ some h = subst (λ (z : ℕ). get_elem? v.held z ≡ some h) ab ph in some-injective h g (sym (subst (λ (z : SeatView). get_elem? z.held b ≡ some h) same there) ∙ pg)

module _ (face : ℕ → ℕ → List (ℕ × ℕ) → List ℕ) (s : St) (id n : ℕ) (v : SeatView) (r : Kept face (opening_of v) s) (at : get_elem? s.views id ≡ some v) (spare : v.spare ≡ Some n) (kn : KnowsBook face v) where
  abbrev last : Cut
  last = last_cut (knows v).history

  abbrev first : Cut
  first = opening_cut v.shape.bits v.members

  last_cut_is : (i : ℕ) → length (history_of v.seen (root_place v.shape)) ≡ i + 1 → last ≡ root_cut v.shape v.seen i
  last_cut_is i long = last_is v.shape v.seen i long

  past_keys : (key : ℕ) → 2 ^ v.shape.bits ≤ key → serial_of last key ≡ 0
  past_keys key past = let some_there = root_some face v kn in let i : ℕ = length (history_of v.seen (root_place v.shape)) - 1 in
      let long : length last ≡ 2 ^ v.shape.bits = ap (λ (z : Cut). length z) (last_cut_is i (omega arith)) ∙ cut_long v.shape v.seen v.shape.bits (root_place v.shape) i in
      serial_past last key (omega arith)

  -- the last cut shows what the leaf has reached
  reaches : (key number : ℕ) → key < 2 ^ v.shape.bits → number ≤ serial_of last key → number < length (history_of r.book key)
  reaches key number low le = let some_there = root_some face v kn in let i : ℕ = length (history_of v.seen (root_place v.shape)) - 1 in
      let is = ap (λ (z : Cut). serial_of z key) (last_cut_is i (omega arith)) ∙ root_serial v.shape v.seen key i low in
      let has : Has v.seen (above v.shape key v.shape.bits) i = subst (λ (z : ℕ). Has v.seen z i) (sym (above_root v.shape key low)) (omega arith) in
      let t = shows_leaf v.shape v.seen key v.shape.bits i (reached v.shape v.seen key v.shape.bits i) (reached_shows face v.shape v.seen kn.book key v.shape.bits i low (omega arith) has) in
      let up = t.3 in let below = at_below (history_of r.book key) t.0 t.1 (entry_stays (r.each_view id v at).saw key t.0 t.1 t.2) in omega arith

  -- what a key weighs with a serial
  abbrev weight_of : ℕ → ℕ → ℕ
  weight_of key number = (entry_of r.book key number).weight

  -- that is what the view's words tell
  weighed_is : (key serial weight : ℕ) → WeighsAt v.seen key serial weight → weight_of key serial ≡ weight
  weighed_is key serial weight h = ap (λ (z : Entry). z.weight) (entry_is r.book key serial h.entry (entry_stays (r.each_view id v at).saw key serial h.entry h.at)) ∙ h.weighs

  -- and what a change stored
  abbrev IsStored : Change → Type 0
  IsStored c = weight_of c.key c.serial ≡ c.weight

  stored_is : (i a k : ℕ) (c : Change) → StandsAt s.views i a k c → IsStored c
  stored_is i a k c t = let was = r.changes.counted.none_else i a k c t in ap (λ (z : Entry). z.weight) (entry_is r.book c.key c.serial was.entry was.reached) ∙ was.weighs

  -- the change of a key with a serial that its leaf has reached: it has the weight of its entry
  abbrev made : ℕ → ℕ → Change
  made key number = change key number (entry_of r.book key number).weight

  same_change : (key number i a k : ℕ) (c : Change) → StandsAt s.views i a k c → test key number c ≡ true → c ≡ made key number
  same_change key number i a k c t is = let was = r.changes.counted.none_else i a k c t in let x = same_key key number c is in let y = same_number key number c is in
      let weighs : c.weight ≡ (entry_of r.book key number).weight = sym was.weighs ∙ ap (λ (z : Entry). z.weight) (sym (entry_is r.book c.key c.serial was.entry was.reached)) ∙ (λ j. (entry_of r.book (x j) (y j)).weight) in
      λ j. record { key = x j; serial = y j; weight = weighs j }

  -- a change of a lane stands somewhere
  abbrev HasChange : ℕ → Change → Type 0
  HasChange lane c = (i : ℕ) × (a : ℕ) × (k : ℕ) × (t : StandsAt s.views i a k c) × (t.lane.lane ≡ lane)

  -- the changes of a lane that stand in the last cut
  record Lost (lane : ℕ) : Type 0 where
    list : List Change
    few : v.shape.reservations ≡ 0 → length list ≤ 2 * v.shape.updates
    none : (key number : ℕ) → (HasChange lane (made key number) → ⊥) → times key number list ≡ 0
    past : (key number : ℕ) → serial_of last key < number → times key number list ≡ 0
    one : (key number : ℕ) → HasChange lane (made key number) → number ≤ serial_of last key → times key number list ≡ 1
    has : (c : Change) → HasChange lane c → c.serial ≤ serial_of last c.key → IsIn list c
    stored : All IsStored list

  abbrev stays : Change → Bool
  stays c = leb c.serial (serial_of last c.key)

  module _ (lane i a : ℕ) (w : SeatView) (g : Held) (sits : get_elem? s.views i ≡ some w) (ga : get_elem? w.held a ≡ some g) (named : g.lane ≡ lane) where
    abbrev here : (k : ℕ) (c : Change) → get_elem? g.changes k ≡ some c → StandsAt s.views i a k c
    here k c p = record { view = w; lane = g; sits = sits; held = ga; listed = p }

    named_so : (key number k : ℕ) (c : Change) → get_elem? g.changes k ≡ some c → test key number c ≡ true → get_elem? g.changes k ≡ some (made key number)
    named_so key number k c p is = subst (λ (z : Change). get_elem? g.changes k ≡ some z) (same_change key number i a k c (here k c p) is) p

    -- a change of the lane is one of these
    listed_here : (c : Change) → HasChange lane c → (k : ℕ) × (get_elem? g.changes k ≡ some c)
    listed_here c (i', a', k', t, is) = let one = r.apart.one_holder i' i a' a t.view w t.lane g t.sits sits t.held ga (is ∙ sym named) in
        let same = same_held s.views i' i a' a t.view w t.lane g one.0 one.1 t.sits sits t.held ga in (k', subst (λ (z : Held). get_elem? z.changes k' ≡ some c) same t.listed)

    none_here : (key number : ℕ) → (HasChange lane (made key number) → ⊥) → times key number g.changes ≡ 0
    none_here key number f = hits_none (test key number) g.changes (λ k c p is. f (i, a, k, here k (made key number) (named_so key number k c p is), named))

    one_here : (key number : ℕ) → HasChange lane (made key number) → times key number g.changes ≡ 1
    one_here key number f = let c : Change = made key number in let l = listed_here c f in
        hits_one (test key number) g.changes l.0 c l.1 (test_same key number c.weight) (λ k d p q. (r.changes.counted.once i i a a k l.0 c (here k c (named_so key number k d p q)) (here l.0 c l.1)).2)

    lost_here : Lost lane
    lost_here = record {
      list = filter stays g.changes;
      few = λ off. let short = filter_shorter stays g.changes in let t = r.changes.tallied off in let is = t.each i a w g sits ga in let le = t.few g.lane ((r.each_view i w sits).holds a g ga).exists in omega arith;
      none = λ key number f. let z = none_here key number f in let le = twice_less (test key number) stays g.changes in omega arith;
      past = λ key number lt. twice_none (test key number) stays
          (λ c is. let e1 = same_number key number c is in let e2 : serial_of last c.key ≡ serial_of last key = ap (serial_of last) (same_key key number c is) in
          lt-leb c.serial (serial_of last c.key) (omega arith)) g.changes;
      one = λ key number f le. twice_same (test key number) stays
          (λ c is. let e1 = same_number key number c is in let e2 : serial_of last c.key ≡ serial_of last key = ap (serial_of last) (same_key key number c is) in
          le-leb c.serial (serial_of last c.key) (omega arith)) g.changes ∙ one_here key number f;
      has = λ c f le. let l = listed_here c f in filter_place stays g.changes l.0 c l.1 (le-leb c.serial (serial_of last c.key) le);
      stored = All-filter stays IsStored g.changes (all_listed IsStored g.changes (λ k c p. stored_is i a k c (here k c p)));
    }

  lost_of : (lane : ℕ) → Lost lane
  lost_of lane = ⊎_elim (λ t. lost_here lane t.0 t.3.0 t.1 t.3.1 t.2 t.3.2 t.3.3)
      (λ nobody. record {
        list = [];
        few = λ _. omega arith;
        none = λ key number f. refl;
        past = λ key number lt. refl;
        one = λ key number f le. absurd (nobody (f.0, f.3.view, f.3.sits, (f.1, f.3.lane, f.3.held, f.4)));
        has = λ c f le. absurd (nobody (f.0, f.3.view, f.3.sits, (f.1, f.3.lane, f.3.held, f.4)));
        stored = All-nil IsStored;
      }) (search_views s.views lane)

  module _ (stand : All (StandsIn last) (changes_of v.held)) where
    stood : (a k : ℕ) (g : Held) (c : Change) → get_elem? v.held a ≡ some g → get_elem? g.changes k ≡ some c → c.serial ≤ serial_of last c.key
    stood a k g c pa pk = let j = flat_place (λ (z : Held). z.changes) v.held a k g c pa pk in at_least last c (all_at (StandsIn last) (changes_of v.held) j.0 c stand j.1)

    away : Missing v.held n
    away = missing v.held (λ a b x y pa pb same. (r.apart.one_holder id id a b v v x y at at pa pb same).1) n

    abbrev lists : List (List Change)
    lists = map (λ lane. (lost_of lane).list) away.list

    -- no change of the lead's is this one
    none_held : (key number : ℕ) → ((a k : ℕ) (t : StandsAt s.views id a k (made key number)) → ⊥) → times key number (changes_of v.held) ≡ 0
    none_held key number f = flat_none (test key number) (λ (z : Held). z.changes) v.held
        (λ a g pa. hits_none (test key number) g.changes (λ k c pk is. f a k record { view = v; lane = g; sits = at; held = pa; listed = named_so g.lane id a v g at pa refl key number k c pk is }))

    none_lost : (key number : ℕ) → ((j lane : ℕ) → get_elem? away.list j ≡ some lane → times key number (lost_of lane).list ≡ 0) → times key number (flat_map (λ list. list) lists) ≡ 0
    none_lost key number f = flat_none (test key number) (λ (z : List Change). z) lists
        (λ k z p. let t = map_at (λ lane. (lost_of lane).list) away.list k z p in subst (λ (x : List Change). times key number x ≡ 0) t.2 (f k t.0 t.1))

    abbrev Total : ℕ → ℕ → ℕ → Type 0
    Total key number count = times key number (changes_of v.held) + times key number (flat_map (λ list. list) lists) ≡ count

    -- a change that stands at the lead stands in one of its lanes
    held_place : (c : Change) (st : Stands s.views c) → st.seat ≡ id → get_elem? v.held st.index ≡ some st.at.lane
    held_place c st mine = let t = st.at in let this : t.view ≡ v = some-injective t.view v (sym (subst (λ (z : ℕ). get_elem? s.views z ≡ some t.view) mine t.sits) ∙ at) in
        subst (λ (z : SeatView). get_elem? z.held st.index ≡ some t.lane) this t.held

    -- and any other in one of the lanes that it does not hold
    away_place : (c : Change) (st : Stands s.views c) → st.seat ≢ id → (j : ℕ) × (get_elem? away.list j ≡ some st.at.lane.lane)
    away_place c st other = let t = st.at in let lane : ℕ = t.lane.lane in let below = r.apart.handed_out id st.seat st.index n v t.view t.lane at t.sits spare t.held in ⊎_elim
        (λ (u : HeldIn v.held lane). absurd (other (r.apart.one_holder st.seat id st.index u.0 t.view v t.lane u.1 t.sits at t.held u.2 (sym u.3)).0)) (λ (x : (j : ℕ) × (get_elem? away.list j ≡ some lane)). x) (away.complete lane below)

    in_range : (key number : ℕ) → serial_of first key < number → number ≤ serial_of last key → Total key number 1
    in_range key number lt le =
        let low : key < 2 ^ v.shape.bits = ⊎_elim (λ (x : key < 2 ^ v.shape.bits). x) (λ (past : 2 ^ v.shape.bits ≤ key). let z = past_keys key past in absurd (omega arith)) (cases_lt key (2 ^ v.shape.bits)) in
        let c : Change = made key number in let e = serial-opening v.shape.bits v.members key low in
        let st = r.changes.counted.all c record { exists = low; past_opening = omega arith; entry = entry_of r.book key number; reached = entry_at r.book key number (reaches key number low le); weighs = refl } in let t = st.at in ⊎_elim
        (λ (mine : st.seat ≡ id).
        let held = held_place c st mine in
        let one = one_here t.lane.lane id st.index v t.lane at held refl key number (st.seat, st.index, st.place, t, refl) in
        let a = flat_one (test key number) (λ (z : Held). z.changes) v.held st.index t.lane held one
        (λ b g pb ne. hits_none (test key number) g.changes (λ k d pk is. ne (r.changes.counted.once id st.seat b st.index k st.place c (here g.lane id b v g at pb refl k c (named_so g.lane id b v g at pb refl key number k d pk is)) t).1)) in
        let b = none_lost key number (λ j lane p. (lost_of lane).none key number (λ f. let same = r.changes.counted.once f.0 st.seat f.1 st.index f.2 st.place c f.3 t in
        let is = same_held s.views f.0 st.seat f.1 st.index f.3.view t.view f.3.lane t.lane same.0 same.1 f.3.sits t.sits f.3.held t.held in
        away.away j lane p (st.index, t.lane, held, ap (λ (z : Held). z.lane) (sym is) ∙ f.4))) in omega arith)
        (λ (other : st.seat ≢ id).
        let a = none_held key number (λ b k u. other (r.changes.counted.once st.seat id st.index b st.place k c t u).0) in
        let lane : ℕ = t.lane.lane in let place = away_place c st other in
        let b = flat_one (test key number) (λ (z : List Change). z) lists place.0 ((lost_of lane).list) (at_map (λ l. (lost_of l).list) away.list place.0 lane place.1)
        ((lost_of lane).one key number (st.seat, st.index, st.place, t, refl) le)
        (λ k z p ne. let u = map_at (λ l. (lost_of l).list) away.list k z p in subst (λ (x : List Change). times key number x ≡ 0) u.2 ((lost_of u.0).none key number
        (λ f. let same = r.changes.counted.once f.0 st.seat f.1 st.index f.2 st.place c f.3 t in
        let is = same_held s.views f.0 st.seat f.1 st.index f.3.view t.view f.3.lane t.lane same.0 same.1 f.3.sits t.sits f.3.held t.held in
        let name : u.0 ≡ lane = sym f.4 ∙ ap (λ (z : Held). z.lane) is in
        ne (away.distinct k place.0 lane (subst (λ (y : ℕ). get_elem? away.list k ≡ some y) name u.1) place.1)))) in omega arith)
        (cases_eq st.seat id)

    below_range : (key number : ℕ) → number ≤ serial_of first key → Total key number 0
    below_range key number le =
        let never : (i a k : ℕ) → StandsAt s.views i a k (made key number) → ⊥ = λ i a k t. let m = r.changes.counted.none_else i a k (made key number) t in let p = m.past_opening in let e = serial-opening v.shape.bits v.members key m.exists in absurd (omega arith) in
        let a = none_held key number (λ b k t. never id b k t) in let b = none_lost key number (λ j lane p. (lost_of lane).none key number (λ f. never f.0 f.1 f.2 f.3)) in omega arith

    above_range : (key number : ℕ) → serial_of last key < number → Total key number 0
    above_range key number lt =
        let a = flat_none (test key number) (λ (z : Held). z.changes) v.held (λ i g pa. hits_none (test key number) g.changes
        (λ k c pk is. let le = stood i k g (made key number) pa (named_so g.lane id i v g at pa refl key number k c pk is) in absurd (omega arith))) in
        let b = none_lost key number (λ j lane p. (lost_of lane).past key number lt) in omega arith

    tallies : Tallies first last (changes_of v.held ++ flat_map (λ list. list) lists)
    tallies key number = let whole = hits-append (test key number) (changes_of v.held) (flat_map (λ list. list) lists) in ⊎_elim
        (λ (lt : serial_of first key < number). ⊎_elim
        (λ (over : serial_of last key < number). whole ∙ above_range key number over ∙ sym (ap (λ (z : Bool). if ltb (serial_of first key) number && z then 1 else 0) (lt-leb number (serial_of last key) over) ∙ ap (λ (z : Bool). if z && false then 1 else 0) (lt-ltb (serial_of first key) number lt)))
        (λ (le : number ≤ serial_of last key). whole ∙ in_range key number lt le ∙ sym (λ j. if lt-ltb (serial_of first key) number lt j && le-leb number (serial_of last key) le j then 1 else 0)) (cases_lt (serial_of last key) number))
        (λ (le : number ≤ serial_of first key). whole ∙ below_range key number le ∙ sym (ap (λ (z : Bool). if z && leb number (serial_of last key) then 1 else 0) (le-ltb (serial_of first key) number le))) (cases_lt (serial_of first key) number)

    abbrev all : List Change
    all = changes_of v.held ++ flat_map (λ list. list) lists

    -- a change that the last cut shows or is past is one of them
    is_in : (c : Change) → Stands s.views c → c.serial ≤ serial_of last c.key → IsIn all c
    is_in c st le = let t = st.at in ⊎_elim
        (λ (mine : st.seat ≡ id). let j = flat_place (λ (z : Held). z.changes) v.held st.index st.place t.lane c (held_place c st mine) t.listed in
        (j.0, at_longer (changes_of v.held) (flat_map (λ list. list) lists) j.0 c j.1))
        (λ (other : st.seat ≢ id). let lane : ℕ = t.lane.lane in let place = away_place c st other in let k = (lost_of lane).has c (st.seat, st.index, st.place, t, refl) le in
        let j = flat_place (λ (z : List Change). z) lists place.0 k.0 (lost_of lane).list c (at_map (λ l. (lost_of l).list) away.list place.0 lane place.1) k.1 in
        (length (changes_of v.held) + j.0, at_after (changes_of v.held) (flat_map (λ list. list) lists) j.0 c j.1))
        (cases_eq st.seat id)

    -- what a cut of the history shows of a key comes from one of them
    weighs_at : (i : ℕ) → Has v.seen (root_place v.shape) i → Weighs first all (root_cut v.shape v.seen i)
    weighs_at i here key past =
        let cut : Cut = root_cut v.shape v.seen i in let some_there = root_some face v kn in let j : ℕ = length (history_of v.seen (root_place v.shape)) - 1 in
        let long = cut_long v.shape v.seen v.shape.bits (root_place v.shape) i in
        let low : key < 2 ^ v.shape.bits = ⊎_elim (λ (x : key < 2 ^ v.shape.bits). x) (λ (over : 2 ^ v.shape.bits ≤ key). let z = serial_past cut key (omega arith) in absurd (omega arith)) (cases_lt key (2 ^ v.shape.bits)) in
        let opened = serial-opening v.shape.bits v.members key low in
        let saw = (r.each_view id v at).saw in
        let same : root_cut v.shape r.book i ≡ cut = cut_later face v.shape v.seen kn.book r.book v.shape.bits 0 (root_place v.shape) i saw (root_word v.shape) here in
        let le = no_shorter r.book v.seen saw (root_place v.shape) in
        let up : IsAtMost cut last = subst (IsAtMost cut) (sym (last_cut_is j (omega arith))) (root_rises face v.shape v.seen kn.book i j (omega arith) (omega arith)) in
        let e : serial_of (root_cut v.shape r.book i) key ≡ serial_of cut key = ap (λ (z : Cut). serial_of z key) same in
        let stands = shown_stands face (opening_of v) r.book s.views r.tree.is_book r.changes.counted kn.laid_out.bits.0 key i low (omega arith) (omega arith) in
        let c : Change = change key (serial_of cut key) (weight_at cut key) in
        let found = is_in c (subst (λ (z : Cut). Stands s.views (change key (serial_of z key) (weight_at z key))) same stands) (serial_rises cut last key up) in
        (found.0, at_below all found.0 c found.1, read all found.0 c c found.1)

    weigh : All (Weighs first all) (knows v).history
    weigh = let long = history_long v.shape v.seen in All-from_get_or (Weighs first all) (knows v).history []
        (λ i within. let here : Has v.seen (root_place v.shape) i = omega arith in subst (Weighs first all) (sym (cut_at v.shape v.seen i here)) (weighs_at i here))

    -- ---- the ledger

    held_stored : All IsStored (changes_of v.held)
    held_stored = all_flat IsStored (λ (z : Held). z.changes) v.held (λ a g pa. all_listed IsStored g.changes (λ k c pk. stored_is id a k c record { view = v; lane = g; sits = at; held = pa; listed = pk }))

    lost_stored : All IsStored (flat_map (λ list. list) lists)
    lost_stored = all_flat IsStored (λ (z : List Change). z) lists (λ k z p. let u = map_at (λ l. (lost_of l).list) away.list k z p in subst (All IsStored) u.2 (lost_of u.0).stored)

    all_stored : All IsStored all
    all_stored = All-append IsStored (changes_of v.held) (flat_map (λ list. list) lists) held_stored lost_stored

    -- what a cut shows of a key
    shown_at : (i key : ℕ) → Has v.seen (root_place v.shape) i → key < 2 ^ v.shape.bits → WeighsAt v.seen key (serial_of (root_cut v.shape v.seen i) key) (weight_at (root_cut v.shape v.seen i) key)
    shown_at i key here low = shown_weighs face v.shape v.seen kn.book kn.laid_out.bits.0 key i low here

    abbrev Shows : Cut → Type 0
    Shows cut = (key : ℕ) → key < 2 ^ v.shape.bits → weight_of key (serial_of cut key) ≡ weight_at cut key

    shown : All Shows (knows v).history
    shown = let long = history_long v.shape v.seen in All-from_get_or Shows (knows v).history [] (λ i within. let here : Has v.seen (root_place v.shape) i = omega arith in
        subst Shows (sym (cut_at v.shape v.seen i here)) (λ key low. weighed_is key (serial_of (root_cut v.shape v.seen i) key) (weight_at (root_cut v.shape v.seen i) key) (shown_at i key here low)))

    -- a key that is no member weighs nothing
    weighs_in : (i : ℕ) → Has v.seen (root_place v.shape) i → (k : ℕ) → k < length (root_cut v.shape v.seen i) → weight_of k (serial_of (root_cut v.shape v.seen i) k) ≡ (if eqb (serial_of (root_cut v.shape v.seen i) k % 2) 1 then weight_at (root_cut v.shape v.seen i) k else 0)
    weighs_in i here k within =
        let cut : Cut = root_cut v.shape v.seen i in let long = cut_long v.shape v.seen v.shape.bits (root_place v.shape) i in let low : k < 2 ^ v.shape.bits = omega arith in
        let h = shown_at i k here low in let is = weighed_is k (serial_of cut k) (weight_at cut k) h in ⊎_elim
        (λ (odd : serial_of cut k % 2 ≡ 1). is ∙ ap (λ (z : Bool). if z then weight_at cut k else 0) (sym (eq-eqb (serial_of cut k % 2) 1 odd)))
        (λ (other : serial_of cut k % 2 ≢ 1). let none = (kn.book.serials k (serial_of cut k) h.entry low h.at).none_if_even (omega (arith, other)) in
        is ∙ sym h.weighs ∙ none ∙ ap (λ (z : Bool). if z then weight_at cut k else 0) (sym (ne_eqb (serial_of cut k % 2) 1 other))) (cases_eq (serial_of cut k % 2) 1)

    total_at : (cut : Cut) (i : ℕ) → Has v.seen (root_place v.shape) i → root_cut v.shape v.seen i ≡ cut → total_weight (pairs_of_cut cut) ≡ total_below weight_of cut (length cut)
    total_at cut i here is = subst (λ (z : Cut). total_weight (pairs_of_cut z) ≡ total_below weight_of z (length z)) is (members_weigh weight_of (root_cut v.shape v.seen i) (weighs_in i here))

    sums : IsAtMost first last → total_weight (pairs_of_cut last) + summed (λ k m. weight_of k (m - 1)) all ≡ total_weight v.members + sum_by (λ (c : Change). c.weight) all
    sums le =
        let some_there = root_some face v kn in let j : ℕ = length (history_of v.seen (root_place v.shape)) - 1 in
        let now = total_at last j (omega arith) (sym (last_cut_is j (omega arith))) in let early = total_at first 0 (omega arith) (first_cut face v kn) in
        let opened : total_weight (pairs_of_cut first) ≡ total_weight v.members = ap total_weight (pairs_of_cut-opening v.shape.bits v.members kn.key_set) in
        let is = balance first last all tallies weight_of le in let same = sum_same (λ (c : Change). weight_of c.key c.serial) (λ (c : Change). c.weight) all all_stored in omega (arith, now, early, opened, is, same)

    ledger : IsAtMost first last → IsLedger (record { shape = v.shape; book = v.seen }) v.shape.bits v.members (knows v).history all
    ledger le = record { weight_of = weight_of; told = weighed_is; stored = all_stored; shown = shown; sums = sums le }

    -- the changes that the lead holds tally with the last cut that it knows, once those of the lanes that it does not hold are added
    abbrev tallies_with_others : (gone : ℕ) → gone + length v.held ≡ n → TalliesWithOthers gone first last (knows v).history (changes_of v.held)
    tallies_with_others gone total = record {
      lists = lists;
      one_each = let all = hits_all (λ (z : Held). ltb z.lane n) v.held (λ a g pa. lt-ltb g.lane n (r.apart.handed_out id id a n v v g at at spare pa)) in let c = away.counted in
          length-map away.list (λ lane. (lost_of lane).list) ∙ (let e : length away.list ≡ gone = omega arith in e);
      together = tallies;
      weigh = weigh;
    }

    -- which are few where no record is used again
    abbrev tallies_with_lost : v.shape.reservations ≡ 0 → (gone : ℕ) → gone + length v.held ≡ n → TalliesWithLost v.shape.updates gone first last (knows v).history (changes_of v.held)
    tallies_with_lost off gone total = record {
      all = tallies_with_others gone total;
      few = all_map (λ (z : List Change). length z ≤ 2 * v.shape.updates) (λ lane. (lost_of lane).list) away.list (λ k lane p. (lost_of lane).few off);
    }

    pub held_few : length v.held ≤ n
    held_few = let all = hits_all (λ (z : Held). ltb z.lane n) v.held (λ a g pa. lt-ltb g.lane n (r.apart.handed_out id id a n v v g at at spare pa)) in let c = away.counted in omega arith

    -- and all of them keep one ledger
    pub accounts_so_far : IsAtMost first last
        → (t : TalliesWithOthers (n - length v.held) first last (knows v).history (changes_of v.held)) × IsLedger (record { shape = v.shape; book = v.seen }) v.shape.bits v.members (knows v).history (changes_of v.held ++ flat_map (λ list. list) t.lists)
    accounts_so_far le = let few = held_few in (tallies_with_others (n - length v.held) (omega arith), ledger le)

    pub accounts_at_end : v.shape.reservations ≡ 0 → IsAtMost first last
        → (t : TalliesWithLost v.shape.updates (n - length v.held) first last (knows v).history (changes_of v.held)) × IsLedger (record { shape = v.shape; book = v.seen }) v.shape.bits v.members (knows v).history (changes_of v.held ++ flat_map (λ list. list) t.all.lists)
    accounts_at_end off le = let few = held_few in (tallies_with_lost off (n - length v.held) (omega arith), ledger le)

-- where nothing is lost, the changes tally
pub none_lost_tallies : (updates : ℕ) (first last : Cut) (history : List Cut) (changes : List Change) → TalliesWithLost updates 0 first last history changes → Tallies first last changes
none_lost_tallies updates first last history changes t = subst (λ (z : List Change). Tallies first last z) (ap (λ (z : List Change). changes ++ z) (gone t.all.lists t.all.one_each) ∙ append-nil changes) t.all.together
  where
    gone : (lost : List (List Change)) → length lost ≡ 0 → flat_map (λ list. list) lost ≡ []
    gone [] e = refl
    gone (x ∷ xs) e = absurd (omega arith)
