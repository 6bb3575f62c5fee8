-- The seat of a pass after a step.
use Rattle.std.proofs.Common.{arith, Bool, ◌≡◌, ℕ, ◌+◌, ◌*◌, ◌<◌, ◌≤◌, List, [], ◌∷◌, ◌++◌, refl, sym, ap, ◌∙◌, subst, ⊎_elim}
use Rattle.std.proofs.Math.Nat.{mod-eq_of_lt}
use Rattle.aug_words.specs.Reservations.{HasReservations}
use Rattle.aug_core.specs.inside.Reclaims.{MayReserve}
use Rattle.aug_core.specs.declared.view.Reserved.{Reserved}
use Rattle.aug_core.specs.Reclaiming.{but_slot, reaching, Reserves, releasing, retiring, retiring_in, scanning, scanning_in}
use Rattle.atomic_table.specs.Seated.{TableId}
use Rattle.aug_core.specs.Places.{Shape, lane_place, record_start, record_count, record_words, reservation_place, word_count}
use Rattle.aug_core.specs.Book.{Book}
use Rattle.std.proofs.lemmas.Bool.{cases_eq}
use Rattle.aug_core.specs.Effects.{Sat, stepping, old_word, new_word, made_by, with_changes, last_replaced, publishing_from, Sees, LoadsLeaf, BeginsAtLeaf, LoadsNode, TriesLeaf, TriesNode, GuardsRecord, KnowsBook, MayStore, ReadsRecord, IsFilled, on_first, storing_in, going_from, storing, beginning, own_lane}
use Rattle.aug_core.specs.Eras.{IsAtWork}
use Rattle.aug_core.specs.inside.LaneStates.{HasTakenLane}
use Rattle.aug_core.specs.Kinds.{load_leaf, try_leaf, load_node, try_node, load_record_word, store_record_word, store_reservation}
use Rattle.aug_core.specs.declared.step.StepTaken.{StepTaken}
use Rattle.aug_core.specs.declared.view.Beginning.{Beginning}
use Rattle.aug_core.specs.declared.view.Advance.{Advance}
use Rattle.aug_core.specs.declared.view.Held.{Held}
use Rattle.aug_core.specs.declared.view.LaneState.TheVariants.{Taken}
use Rattle.aug_core.specs.declared.view.SeatView.{SeatView}
use Rattle.aug_core.proofs.Books.{plain_word}
use Rattle.aug_core.proofs.Fits.{book_shown, book_as}
use Rattle.aug_core.proofs.Eras.{holds_lane}
use Rattle.aug_words.specs.inside.SeatState.{IsPlaced, SitsAt, IsPassSeat, HasPassSeat, LendsHere}
use Rattle.aug_words.specs.Seats.{AreTogether, Known, MayLoad, NamesOwn, TriedNode, LoadsRecordWord, Store}

-- a seat that stayed in its part
pub placed_on : (t : TableId) (b : ℕ) (v w : SeatView) → IsPlaced t b v → w.shape ≡ v.shape → w.base ≡ v.base → IsPlaced t b w
placed_on t b v w p shape base = record {
  base_is = p.base_is ∙ sym base;
  wide = subst (λ (z : ℕ × Shape). z.0 + word_count z.1 ≤ t.words) (λ i. (sym base i, sym shape i)) p.wide;
  few = p.few;
  part = p.part;
  starts = base ∙ p.starts ∙ ap (λ (z : Shape). p.part * word_count z) (sym shape);
}

-- a seat that belongs to a table has its shape
pub one_shape : (k now : Known) (store words : Store) → k ≡ now → store ≡ words → AreTogether words now → store.shape ≡ k.view.shape
one_shape k now store words is stored together = ap (λ (s : Store). s.shape) stored ∙ sym together.one_shape ∙ sym (ap (λ (z : Known). z.view.shape) is)

-- and sits there
pub sits_at : (k now : Known) (store words : Store) (base lanes records : ℕ) → k ≡ now → store ≡ words → AreTogether words now → IsPlaced k.table base k.view → lanes ≡ lane_place store.shape 0 → records ≡ record_start store.shape 0
    → SitsAt k.table store.table base (base + lanes) (base + records) k.view
sits_at k now store words base lanes records is stored together placed l r =
    let shape = one_shape k now store words is stored together in
    let seated : k.table ≡ store.table = ap (λ (z : Known). z.table) is ∙ together.one_table ∙ sym (ap (λ (s : Store). s.table) stored) in
    record {
      seated = seated;
      placed = subst (λ (z : TableId). IsPlaced z base k.view) seated placed;
      lanes_are = λ i. placed.base_is i + (l ∙ ap (λ (s : Shape). lane_place s 0) shape) i;
      records_are = λ i. placed.base_is i + (r ∙ ap (λ (s : Shape). record_start s 0) shape) i;
    }

-- in a round a record is named by its number, and what a try tells of its name it tells of the number
pub names_plainly : {face : ℕ → ℕ → List (ℕ × ℕ) → List ℕ} {v : SeatView} {q old number : ℕ} → v.shape.reservations ≡ 0 → MayStore v number → IsFilled face v q old 0 number → NamesOwn face v q old number
names_plainly {face} {v} {q} {old} {number} off own filled = record { birth = 0; number = number; named = sym (plain_word v.shape 0 number off); own = own; filled = filled }

pub told_plainly : {face : ℕ → ℕ → List (ℕ × ℕ) → List ℕ} {v w : SeatView} {q old number : ℕ} {done : Bool} → v.shape.reservations ≡ 0 → MayStore v number → (t : TriedNode face v q old number done w) → TriesNode face v q old number number t.found w
told_plainly {face} {v} {w} {q} {old} {number} off may t = t.told 0 number (subst (λ (z : ℕ). z < record_count v.shape) may.numbered may.exists) (sym (plain_word v.shape 0 number off))

-- a record that a view guards is one of the table, and so is one that it may store
pub guarded_inside : (face : ℕ → ℕ → List (ℕ × ℕ) → List ℕ) (v : SeatView) (number : ℕ) → KnowsBook face v → GuardsRecord v number → number < record_count v.shape
guarded_inside face v number knows g = subst (λ (z : ℕ). z < record_count v.shape) g.numbered (knows.book.below g.place g.index g.entry g.guards.inner g.guards.at)

pub stores_inside : (v : SeatView) (number : ℕ) → MayStore v number → number < record_count v.shape
stores_inside v number may = subst (λ (z : ℕ). z < record_count v.shape) may.numbered may.exists

-- a seat that stayed at its table and in its part
pub sits_on : (a a' t : TableId) (b l r : ℕ) (v w : SeatView) → SitsAt a t b l r v → a' ≡ a → w.shape ≡ v.shape → w.base ≡ v.base → SitsAt a' t b l r w
sits_on a a' t b l r v w sits one shape base = record {
  seated = one ∙ sits.seated;
  placed = placed_on t b v w sits.placed shape base;
  lanes_are = sits.lanes_are ∙ (λ i. sym base i + lane_place (sym shape i) 0);
  records_are = sits.records_are ∙ (λ i. sym base i + record_start (sym shape i) 0);
}

module _ (face : ℕ → ℕ → List (ℕ × ℕ) → List ℕ) (a a' t : TableId) (b l r lane lent : ℕ) (me me' : Sat) (is_pass : HasPassSeat face a t b l r lane lent me) (one : a' ≡ a) where
  -- a pass that was shown the whole book, and whose lane is the one that it was
  shown : (h : Held) (held : List Held) (book : Book) (began : Beginning) (steps : List StepTaken) → held ≡ h ∷ [] → h.lane ≡ lane → h.state ≡ Taken → me'.1 ≡ []
      → me'.0 ≡ record me.0 { seen = book; held = held; began = began; steps = steps } → Sees face me.0 me'.0 → HasPassSeat face a' t b l r lane lent me'
  shown h held book began steps only named taken empty is sees = let seat = is_pass.seat in let same : me'.0.shape ≡ me.0.shape = ap (λ (z : SeatView). z.shape) is in record {
    sits = sits_on a a' t b l r me.0 me'.0 is_pass.sits one same (ap (λ (z : SeatView). z.base) is);
    seat = record {
      live = ap (λ (z : SeatView). z.live) is ∙ seat.live;
      no_slot = empty;
      held = h;
      only = ap (λ (z : SeatView). z.held) is ∙ only;
      named = named;
      taken = taken;
      exists = subst (λ (z : Shape). lane < z.workers) (sym same) seat.exists;
      follows = ap (λ (z : SeatView). z.spare) is ∙ seat.follows;
      lends = subst (λ (z : SeatView). LendsHere lent z.base z.lent) (sym is) seat.lends;
      knows = book_shown face me.0 me'.0 seat.knows sees same (ap (λ (z : SeatView). z.members) is);
    };
  }

  -- the lane is as it was
  watched : (began : Beginning) (steps : List StepTaken) → me'.1 ≡ [] → me'.0 ≡ record me.0 { seen = me'.0.seen; began = began; steps = steps } → Sees face me.0 me'.0 → HasPassSeat face a' t b l r lane lent me'
  watched began steps empty is sees = let seat = is_pass.seat in shown seat.held me.0.held me'.0.seen began steps seat.only seat.named seat.taken empty is sees

  pub pass_loaded_leaf : (key word : ℕ) → me'.1 ≡ [] → LoadsLeaf face me.0 key word me'.0 → HasPassSeat face a' t b l r lane lent me'
  pass_loaded_leaf key word empty did = watched me.0.began (me.0.steps ++ load_leaf key word ∷ []) empty did.stepped did.sees

  pub pass_began_at_leaf : (key word : ℕ) → me'.1 ≡ [] → BeginsAtLeaf face me.0 key word me'.0 → HasPassSeat face a' t b l r lane lent me'
  pass_began_at_leaf key word empty did = watched (beginning me.0 me'.0.seen (load_leaf key word)).began (me.0.steps ++ load_leaf key word ∷ []) empty did.stepped did.sees

  pub pass_loaded_node : (q word : ℕ) → me'.1 ≡ [] → LoadsNode face me.0 q word me'.0 → HasPassSeat face a' t b l r lane lent me'
  pass_loaded_node q word empty did = watched me.0.began (me.0.steps ++ load_node q word ∷ []) empty did.stepped did.sees

  pub pass_tried_leaf : (key : ℕ) (a : Advance) (found : ℕ) → me'.1 ≡ [] → TriesLeaf face me.0 key a found me'.0 → HasPassSeat face a' t b l r lane lent me'
  pass_tried_leaf key a found empty did = let seat = is_pass.seat in let taken : StepTaken = try_leaf key (old_word a) (new_word a) found in ⊎_elim
      (λ (hit : found ≡ old_word a). let made = made_by key (going_from (did.hit hit).0.serial a) in shown (with_changes made seat.held) (on_first (with_changes made) me.0.held) me'.0.seen me.0.began (me.0.steps ++ taken ∷ [])
      (ap (on_first (with_changes made)) seat.only) seat.named seat.taken empty (did.hit hit).0.changed did.sees)
      (λ miss. watched me.0.began (me.0.steps ++ taken ∷ []) empty (did.miss miss).0 did.sees) (cases_eq found (old_word a))

  pub pass_tried_node : (q old number new found : ℕ) → me'.1 ≡ [] → TriesNode face me.0 q old number new found me'.0 → HasPassSeat face a' t b l r lane lent me'
  pass_tried_node q old number new found empty did = let seat = is_pass.seat in let taken : StepTaken = try_node q old new found in ⊎_elim
      (λ (hit : found ≡ old). let mark = last_replaced me'.0.seen q in shown (publishing_from number mark seat.held) (on_first (publishing_from number mark) me.0.held) me'.0.seen me.0.began (me.0.steps ++ taken ∷ [])
      (ap (on_first (publishing_from number mark)) seat.only) seat.named seat.taken empty (did.hit hit).0 did.sees)
      (λ miss. watched me.0.began (me.0.steps ++ taken ∷ []) empty (did.miss miss).0 did.sees) (cases_eq found old)

  -- a pass that was shown nothing of the book
  kept : (h : Held) (held : List Held) (reserved : List Reserved) (reached : ℕ) (steps : List StepTaken) → held ≡ h ∷ [] → h.lane ≡ lane → h.state ≡ Taken → me'.1 ≡ [] → me'.0 ≡ record me.0 { held = held; reserved = reserved; reached = reached; steps = steps }
      → HasPassSeat face a' t b l r lane lent me'
  kept h held reserved reached steps only named taken empty is = let seat = is_pass.seat in record {
    sits = sits_on a a' t b l r me.0 me'.0 is_pass.sits one (ap (λ (z : SeatView). z.shape) is) (ap (λ (z : SeatView). z.base) is);
    seat = subst (IsPassSeat face lane lent) (λ i. (sym is i, sym empty i)) record {
      live = seat.live;
      no_slot = refl;
      held = h;
      only = only;
      named = named;
      taken = taken;
      exists = seat.exists;
      follows = seat.follows;
      lends = seat.lends;
      knows = book_as face me.0 refl refl refl seat.knows;
    };
  }

  pub pass_loaded : (place word : ℕ) → (me'.1 ≡ []) × ReadsRecord me.0 place word me'.0 → HasPassSeat face a' t b l r lane lent me'
  pass_loaded place word did = let seat = is_pass.seat in kept seat.held me.0.held me.0.reserved me.0.reached (me.0.steps ++ load_record_word place word ∷ []) seat.only seat.named seat.taken did.0 did.1.stepped

  pub pass_stored : (place value : ℕ) → (me'.1 ≡ []) × (me'.0 ≡ storing me.0 place value) → HasPassSeat face a' t b l r lane lent me'
  pass_stored place value did = let seat = is_pass.seat in
      kept (storing_in me.0.shape place value seat.held) (on_first (storing_in me.0.shape place value) me.0.held) me.0.reserved me.0.reached (me.0.steps ++ store_record_word place value ∷ []) (ap (on_first (storing_in me.0.shape place value)) seat.only) seat.named seat.taken did.0 did.1

  -- ---- at a table that uses records again

  pub pass_reached : (era : ℕ) (taken : StepTaken) → me'.1 ≡ [] → me'.0 ≡ reaching me.0 era taken → HasPassSeat face a' t b l r lane lent me'
  pass_reached era taken empty is = let seat = is_pass.seat in kept seat.held me.0.held me.0.reserved era (me.0.steps ++ taken ∷ []) seat.only seat.named seat.taken empty is

  pub pass_reserved : (slot era : ℕ) → (me'.1 ≡ []) × Reserves me.0 slot era me'.0 → HasPassSeat face a' t b l r lane lent me'
  pass_reserved slot era did = let seat = is_pass.seat in kept seat.held me.0.held (did.1.now ∷ but_slot slot me.0.reserved) me.0.reached (me.0.steps ++ store_reservation (reservation_place me.0.shape slot) era ∷ []) seat.only seat.named seat.taken did.0 did.1.stepped

  pub pass_released : (slot : ℕ) → (me'.1 ≡ []) × (me'.0 ≡ releasing me.0 slot) → HasPassSeat face a' t b l r lane lent me'
  pass_released slot did = let seat = is_pass.seat in kept seat.held me.0.held (but_slot slot me.0.reserved) me.0.reached (me.0.steps ++ store_reservation (reservation_place me.0.shape slot) 0 ∷ []) seat.only seat.named seat.taken did.0 did.1

  pub pass_retired : (era : ℕ) (taken : StepTaken) → me'.1 ≡ [] → me'.0 ≡ retiring me.0 era taken → HasPassSeat face a' t b l r lane lent me'
  pass_retired era taken empty is = let seat = is_pass.seat in
      kept (retiring_in era seat.held) (on_first (retiring_in era) me.0.held) me.0.reserved era (me.0.steps ++ taken ∷ []) (ap (on_first (retiring_in era)) seat.only) seat.named seat.taken empty is

  pub pass_scanned : (slot era : ℕ) (taken : StepTaken) → me'.1 ≡ [] → me'.0 ≡ scanning me.0 slot era taken → HasPassSeat face a' t b l r lane lent me'
  pass_scanned slot era taken empty is = let seat = is_pass.seat in
      kept (scanning_in slot era seat.held) (on_first (scanning_in slot era) me.0.held) me.0.reserved me.0.reached (me.0.steps ++ taken ∷ []) (ap (on_first (scanning_in slot era)) seat.only) seat.named seat.taken empty is

module _ (face : ℕ → ℕ → List (ℕ × ℕ) → List ℕ) (lane lent : ℕ) (me : Sat) (seat : IsPassSeat face lane lent me) where
  -- a pass's lane is taken
  pub has_taken : HasTakenLane me.0
  has_taken = record { lane = seat.held; only = seat.only; taken = seat.taken }

  pub own_lane_is : lane ≡ own_lane me.0.held
  own_lane_is = sym seat.named ∙ ap own_lane (sym seat.only)

  -- and has a reservation, where each lane has one
  pub has_reservation : HasReservations me.0 → MayReserve me.0 lane
  has_reservation slots = record { lane = seat.held; only = seat.only; own = mod-eq_of_lt seat.exists ∙ sym seat.named; exists = let low = seat.exists in omega arith }

  -- so that it is at work
  pub works_on : IsAtWork me.0
  works_on = holds_lane me.0 seat.held seat.only

  -- a record that a pass guards or owns is one of the table
  pub loads_inside : (number : ℕ) → MayLoad me.0 number → number < record_count me.0.shape
  loads_inside number may = ⊎_elim (guarded_inside face me.0 number seat.knows) (stores_inside me.0 number) may

-- what a load at a record's word tells of the record
pub tells : (v w : SeatView) (place number field r : ℕ) → field < record_words → place ≡ record_start v.shape number + field → ReadsRecord v place r w → LoadsRecordWord v number field r w
tells v w place number field r small is reads = record {
  stepped = subst (λ (z : ℕ). w ≡ stepping v (load_record_word z r)) is reads.stepped;
  known = reads.known number field small is;
  own = reads.own number field small is;
}
