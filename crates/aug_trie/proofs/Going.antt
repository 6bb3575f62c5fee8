-- How the steps of a pass go together.
use Rattle.std.proofs.Common.{◌≡◌, ℕ, ◌+◌, ◌*◌, ◌≤◌, false, List, [], ◌∷◌, ◌++◌, length, append_assoc, length-append, sym, refl, ap, ◌∙◌, subst, arith}
use Rattle.std.proofs.lemmas.List.{append-nil}
use Rattle.std.proofs.lemmas.List.Elements.{All-append}
use Rattle.aug_core.specs.Places.{Shape}
use Rattle.aug_core.specs.Book.{ArePrefixes, IsFresh}
use Rattle.aug_core.specs.Counts.{changes_of}
use Rattle.aug_core.specs.Kinds.{store_record_word}
use Rattle.aug_core.specs.Effects.{HoldsOnly, own_lane, on_first, storing_in, last_replaced, publishing_from, with_changes, stepping, storing, seeing, beginning, publishing, changing, MayStore, MayChange, Sees, KnowsBook}
use Rattle.aug_core.specs.declared.step.StepTaken.{StepTaken}
use Rattle.aug_core.specs.declared.view.Change.{Change}
use Rattle.aug_core.specs.declared.view.Held.{Held}
use Rattle.aug_core.specs.declared.view.Replaced.{Replaced}
use Rattle.aug_core.specs.declared.view.SeatView.{SeatView}
use Rattle.aug_core.proofs.Books.{fresh_now, fresh_on}
use Rattle.aug_core.proofs.Clients.{may_store_same, may_store_on, may_store_changing, may_store_publishing}
use Rattle.aug_core.proofs.Fits.{book_shown, book_as}
use Rattle.aug_words.proofs.Stocking.{tries_leaf, quiet, no_try_none, no_try_one}
use Rattle.aug_trie.specs.inside.RoundState.{eras_of}
use Rattle.aug_trie.specs.inside.Points.{QuietStep}
use Rattle.aug_trie.specs.inside.Goes.{HasRoom, Took, TookBetween, Goes}
use Rattle.aug_core.proofs.PrefixLemmas.{book_refl, book_trans}

-- ---- steps, one after another

pub took_none : (v w : SeatView) → w.steps ≡ v.steps → Took v w 0
took_none v w is = record { more = []; steps = is ∙ sym (append-nil v.steps); count = refl; no_try = no_try_none }

pub took_one : (v w : SeatView) (taken : StepTaken) → tries_leaf taken.kind ≡ false → w.steps ≡ v.steps ++ taken ∷ [] → Took v w 1
took_one v w taken other is = record { more = taken ∷ []; steps = is; count = refl; no_try = no_try_one taken other }

pub took_on : (u v w : SeatView) (m n k : ℕ) → m + n ≡ k → Took u v m → Took v w n → Took u w k
took_on u v w m n k total a b = let x = a.count in let y = b.count in record {
  more = a.more ++ b.more;
  steps = b.steps ∙ ap (λ (z : List StepTaken). z ++ b.more) a.steps ∙ append_assoc u.steps a.more b.more;
  count = length-append a.more b.more ∙ (let e : length a.more + length b.more ≡ k = omega arith in e);
  no_try = All-append quiet a.more b.more a.no_try b.no_try;
}

pub between_on : (u v w : SeatView) (a b c d m n : ℕ) → m ≤ a + c → b + d ≤ n → TookBetween u v a b → TookBetween v w c d → TookBetween u w m n
between_on u v w a b c d m n le ge x y = let xl = x.least_steps in let xm = x.most_steps in let yl = y.least_steps in let ym = y.most_steps in
    record { steps = x.steps + y.steps; least_steps = omega arith; most_steps = omega arith; took = took_on u v w x.steps y.steps (x.steps + y.steps) refl x.took y.took }

-- ---- the first lane, and the changes of all

own_lane_on : (f : Held → Held) (held : List Held) → ((h : Held) → (f h).lane ≡ h.lane) → own_lane (on_first f held) ≡ own_lane held
own_lane_on f [] keeps = refl
own_lane_on f (h ∷ hs) keeps = keeps h

changes_on : (f : Held → Held) (held : List Held) → ((h : Held) → (f h).changes ≡ h.changes) → changes_of (on_first f held) ≡ changes_of held
changes_on f [] keeps = refl
changes_on f (h ∷ hs) keeps = ap (λ (z : List Change). z ++ changes_of hs) (keeps h)

pub only_changes : (v : SeatView) (h : Held) → HoldsOnly v h → changes_of v.held ≡ h.changes
only_changes v h only = ap changes_of only ∙ append-nil h.changes

-- what there is room for may be stored
pub may_store_room : (v : SeatView) (number : ℕ) → HasRoom v number 1 → MayStore v number
may_store_room v number room = room.owns number (omega arith) (omega arith)

-- the pass may try a leaf, while it has updates left
pub may_change : (v : SeatView) (next records : ℕ) → HasRoom v next records → length (changes_of v.held) + 2 ≤ 2 * v.shape.updates → MayChange v
may_change v next records room few = let h = room.holds in record { lane = h.0; only = h.1; room = λ _. subst (λ (z : List Change). length z + 2 ≤ 2 * v.shape.updates) (only_changes v h.0 h.1) few }

-- a load that showed the book is one step, in which no update began
pub quiet_seeing : (v w : SeatView) (taken : StepTaken) → w ≡ seeing v w.seen taken → ArePrefixes v.seen w.seen → QuietStep v w
quiet_seeing v w taken is later = (
  record {
    taken = taken;
    steps = ap (λ (z : SeatView). z.steps) is;
    later = later;
    shaped = ap (λ (z : SeatView). z.shape) is;
    same_members = ap (λ (z : SeatView). z.members) is;
    same_eras = ap eras_of is;
    lane = ap (λ (z : SeatView). own_lane z.held) is;
  },
  ap (λ (z : SeatView). z.began) is,
)

-- so is one that showed nothing of the book, and a store
pub quiet_stepping : (v w : SeatView) (taken : StepTaken) → w ≡ stepping v taken → QuietStep v w
quiet_stepping v w taken is = subst (QuietStep v) (sym is) (record { taken = taken; steps = refl; later = book_refl v.seen; shaped = refl; same_members = refl; same_eras = refl; lane = refl }, refl)

pub quiet_storing : (v w : SeatView) (place value : ℕ) → w ≡ storing v place value → QuietStep v w
quiet_storing v w place value is = subst (QuietStep v) (sym is) (
  record { taken = store_record_word place value; steps = refl; later = book_refl v.seen; shaped = refl; same_members = refl; same_eras = refl; lane = own_lane_on (storing_in v.shape place value) v.held (λ h. refl) },
  refl,
)

-- and one by which a record was published
pub quiet_publishing : (v w : SeatView) (number : ℕ) (taken : StepTaken) → w ≡ publishing v w.seen number taken → ArePrefixes v.seen w.seen → QuietStep v w
quiet_publishing v w number taken is later = (
  record {
    taken = taken;
    steps = ap (λ (z : SeatView). z.steps) is;
    later = later;
    shaped = ap (λ (z : SeatView). z.shape) is;
    same_members = ap (λ (z : SeatView). z.members) is;
    same_eras = ap eras_of is;
    lane = ap (λ (z : SeatView). own_lane z.held) is ∙ own_lane_on (publishing_from number (last_replaced w.seen taken.place)) v.held (λ h. refl);
  },
  ap (λ (z : SeatView). z.began) is,
)

module _ (face : ℕ → ℕ → List (ℕ × ℕ) → List ℕ) where
  pub goes_self : (v : SeatView) → KnowsBook face v → Goes face 0 [] v v
  goes_self v kn = record {
    later = book_refl v.seen;
    fresh = fresh_now v.shape v.seen;
    knows_table = kn;
    shaped = refl;
    same_members = refl;
    same_eras = refl;
    lane = refl;
    changes = sym (append-nil (changes_of v.held));
    holds = λ one. one;
    still_owned = λ n _ may. may;
  }

  -- steps after steps
  pub goes_after : (a b c : ℕ) (gained more all : List Change) (u v w : SeatView) → a ≤ c → b ≤ c → gained ++ more ≡ all → Goes face a gained u v → Goes face b more v w → Goes face c all u w
  goes_after a b c gained more all u v w ac bc total x y = record {
    later = book_trans x.later y.later;
    fresh = fresh_on u.shape u.seen v.seen w.seen x.later y.later x.fresh (subst (λ (z : Shape). IsFresh z w.seen v.seen) x.shaped y.fresh);
    knows_table = y.knows_table;
    shaped = y.shaped ∙ x.shaped;
    same_members = y.same_members ∙ x.same_members;
    same_eras = y.same_eras ∙ x.same_eras;
    lane = y.lane ∙ x.lane;
    changes = y.changes ∙ ap (λ (z : List Change). z ++ more) x.changes ∙ append_assoc (changes_of u.held) gained more ∙ ap (λ (z : List Change). changes_of u.held ++ z) total;
    holds = λ one. y.holds (x.holds one);
    still_owned = λ n past may. y.still_owned n (omega arith) (x.still_owned n (omega arith) may);
  }

  -- steps that gain no change, after others
  pub goes_on : (a b c : ℕ) (gained : List Change) (u v w : SeatView) → a ≤ c → b ≤ c → Goes face a gained u v → Goes face b [] v w → Goes face c gained u w
  goes_on a b c gained u v w ac bc x y = goes_after a b c gained [] gained u v w ac bc (append-nil gained) x y

  pub goes_more : (a c : ℕ) (gained : List Change) (v w : SeatView) → a ≤ c → Goes face a gained v w → Goes face c gained v w
  goes_more a c gained v w le g = record { later = g.later; fresh = g.fresh; knows_table = g.knows_table; shaped = g.shaped; same_members = g.same_members; same_eras = g.same_eras; lane = g.lane; changes = g.changes; holds = g.holds; still_owned = λ n past may. g.still_owned n (omega arith) may }

  -- a view that only made a step
  pub goes_stepping : (v w : SeatView) (taken : StepTaken) → w ≡ stepping v taken → KnowsBook face v → Goes face 0 [] v w
  goes_stepping v w taken is kn = subst (Goes face 0 [] v) (sym is) record {
    later = book_refl v.seen;
    fresh = fresh_now v.shape v.seen;
    knows_table = book_as face v refl refl refl kn;
    shaped = refl;
    same_members = refl;
    same_eras = refl;
    lane = refl;
    changes = sym (append-nil (changes_of v.held));
    holds = λ one. one;
    still_owned = λ n _ may. may_store_same v (stepping v taken) n refl refl may;
  }

  -- one that stored a word of its lane
  pub goes_storing : (v w : SeatView) (place value : ℕ) → w ≡ storing v place value → KnowsBook face v → Goes face 0 [] v w
  goes_storing v w place value is kn = let f' : Held → Held = storing_in v.shape place value in subst (Goes face 0 [] v) (sym is) record {
    later = book_refl v.seen;
    fresh = fresh_now v.shape v.seen;
    knows_table = book_as face v refl refl refl kn;
    shaped = refl;
    same_members = refl;
    same_eras = refl;
    lane = own_lane_on (storing_in v.shape place value) v.held (λ h. refl);
    changes = changes_on (storing_in v.shape place value) v.held (λ h. refl) ∙ sym (append-nil (changes_of v.held));
    holds = λ one. (f' one.0, ap (on_first f') one.1);
    still_owned = λ n _ may. may_store_on v (storing v place value) place value n may refl;
  }

  goes_shown : (v w : SeatView) → w.shape ≡ v.shape → w.members ≡ v.members → eras_of w ≡ eras_of v → w.held ≡ v.held → KnowsBook face v → Sees face v w → Goes face 0 [] v w
  goes_shown v w shaped same era held kn sees = record {
    later = sees.later;
    fresh = sees.fresh;
    knows_table = book_shown face v w kn sees shaped same;
    shaped = shaped;
    same_members = same;
    same_eras = era;
    lane = ap own_lane held;
    changes = ap changes_of held ∙ sym (append-nil (changes_of v.held));
    holds = λ one. (one.0, held ∙ one.1);
    still_owned = λ n _ may. may_store_same v w n shaped held may;
  }

  -- a view that was shown the whole book
  pub goes_seeing : (v w : SeatView) (taken : StepTaken) → w ≡ seeing v w.seen taken → KnowsBook face v → Sees face v w → Goes face 0 [] v w
  goes_seeing v w taken is kn sees = goes_shown v w (ap (λ (z : SeatView). z.shape) is) (ap (λ (z : SeatView). z.members) is) (ap eras_of is) (ap (λ (z : SeatView). z.held) is) kn sees

  -- and one that began an update with it
  pub goes_beginning : (v w : SeatView) (taken : StepTaken) → w ≡ beginning v w.seen taken → KnowsBook face v → Sees face v w → Goes face 0 [] v w
  goes_beginning v w taken is kn sees = goes_shown v w (ap (λ (z : SeatView). z.shape) is) (ap (λ (z : SeatView). z.members) is) (ap eras_of is) (ap (λ (z : SeatView). z.held) is) kn sees

  -- a view that published a record
  pub goes_publishing : (v w : SeatView) (number : ℕ) (taken : StepTaken) → w ≡ publishing v w.seen number taken → KnowsBook face v → Sees face v w → Goes face (number + 1) [] v w
  goes_publishing v w number taken is kn sees = let shaped : w.shape ≡ v.shape = ap (λ (z : SeatView). z.shape) is in let same : w.members ≡ v.members = ap (λ (z : SeatView). z.members) is in let era : eras_of w ≡ eras_of v = ap eras_of is in
      let mark : Replaced = last_replaced w.seen taken.place in let held : w.held ≡ on_first (publishing_from number mark) v.held = ap (λ (z : SeatView). z.held) is in record {
        later = sees.later;
        fresh = sees.fresh;
        knows_table = book_shown face v w kn sees shaped same;
        shaped = shaped;
        same_members = same;
        same_eras = era;
        lane = ap own_lane held ∙ own_lane_on (publishing_from number mark) v.held (λ h. refl);
        changes = ap changes_of held ∙ changes_on (publishing_from number mark) v.held (λ h. refl) ∙ sym (append-nil (changes_of v.held));
        holds = λ one. (publishing_from number mark one.0, held ∙ ap (on_first (publishing_from number mark)) one.1);
        still_owned = λ n past may. may_store_publishing v w w.seen number n taken is (λ same. omega arith) may;
      }

  -- a view whose changes were accepted
  pub goes_changing : (v w : SeatView) (more : List Change) (taken : StepTaken) (h : Held) → HoldsOnly v h → w ≡ changing v w.seen more taken → KnowsBook face v → Sees face v w → Goes face 0 more v w
  goes_changing v w more taken h only is kn sees = let shaped : w.shape ≡ v.shape = ap (λ (z : SeatView). z.shape) is in let same : w.members ≡ v.members = ap (λ (z : SeatView). z.members) is in let era : eras_of w ≡ eras_of v = ap eras_of is in
      let held : w.held ≡ on_first (with_changes more) v.held = ap (λ (z : SeatView). z.held) is in
      let new : HoldsOnly w (with_changes more h) = held ∙ ap (on_first (with_changes more)) only in record {
        later = sees.later;
        fresh = sees.fresh;
        knows_table = book_shown face v w kn sees shaped same;
        shaped = shaped;
        same_members = same;
        same_eras = era;
        lane = ap own_lane held ∙ own_lane_on (with_changes more) v.held (λ h. refl);
        changes = only_changes w (with_changes more h) new ∙ ap (λ (z : List Change). z ++ more) (sym (only_changes v h only));
        holds = λ one. (with_changes more one.0, held ∙ ap (on_first (with_changes more)) one.1);
        still_owned = λ n past may. may_store_changing v w w.seen more n taken is may;
      }

  -- ---- records that are left

  -- the room that is left after some records were used
  pub room_left : (v w : SeatView) (number done all more : ℕ) (gained : List Change) → done + more ≤ all → Goes face (number + done) gained v w → HasRoom v number all → HasRoom w (number + done) more
  room_left v w number done all more gained enough g r = record { keeps_records = ap (λ (z : Shape). z.reservations) g.shaped ∙ r.keeps_records; holds = g.holds r.holds; owns = λ n past below. g.still_owned n past (r.owns n (omega arith) (omega arith)) }

  -- the room of a record that was not published
  pub room_again : (v w : SeatView) (number used : ℕ) → Goes face used [] v w → MayStore w number → HasRoom v number 1 → HasRoom w number 1
  room_again v w number used g may r = record { keeps_records = ap (λ (z : Shape). z.reservations) g.shaped ∙ r.keeps_records; holds = g.holds r.holds; owns = λ n past below. let is : number ≡ n = omega arith in subst (MayStore w) is may }

  -- steps that published nothing leave all the room
  pub room_on : (gained : List Change) (v w : SeatView) (next records : ℕ) → Goes face 0 gained v w → HasRoom v next records → HasRoom w next records
  room_on gained v w next records g r = record { keeps_records = ap (λ (z : Shape). z.reservations) g.shaped ∙ r.keeps_records; holds = g.holds r.holds; owns = λ n past below. g.still_owned n (omega arith) (r.owns n past below) }

-- some of the room
pub room_within : (v : SeatView) (next all more : ℕ) → more ≤ all → HasRoom v next all → HasRoom v next more
room_within v next all more le r = record { keeps_records = r.keeps_records; holds = r.holds; owns = λ n past below. r.owns n past (omega arith) }

-- a view that holds the same lanes has the same room
pub room_same : (v w : SeatView) (next records : ℕ) → w.shape ≡ v.shape → w.held ≡ v.held → HasRoom v next records → HasRoom w next records
room_same v w next records shaped held r = record { keeps_records = ap (λ (z : Shape). z.reservations) shaped ∙ r.keeps_records; holds = (r.holds.0, held ∙ r.holds.1); owns = λ n past below. may_store_same v w n shaped held (r.owns n past below) }
