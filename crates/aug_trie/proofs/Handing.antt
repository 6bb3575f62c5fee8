-- What a lead knows as it hands a lane out and takes a pass back.
use Rattle.std.proofs.Common.{◌≡◌, ℕ, ◌+◌, ◌-◌, ◌*◌, ◌^◌, ◌<◌, List, [], ◌∷◌, ◌++◌, append_assoc, length, length-append, All, sym, refl, ap, ◌∙◌, subst, arith}
use Rattle.std.specs.Prelude.{unwrap_or, Some}
use Rattle.std.proofs.lemmas.List.Elements.{All-nil, All-append}
use Rattle.aug_core.specs.Places.{Shape}
use Rattle.aug_core.specs.Addresses.{root_place}
use Rattle.aug_core.specs.Lanes.{first_record, lane_records, new_lane}
use Rattle.aug_core.specs.Counts.{changes_of}
use Rattle.aug_core.specs.Effects.{HoldsOnly, LoadsNode, in_state, on_first, handing_out, handed_out, taking, finishing, taking_back, MayStore, KnowsBook}
use Rattle.aug_core.specs.declared.view.Change.{Change}
use Rattle.aug_core.specs.declared.view.Held.{Held}
use Rattle.aug_core.specs.declared.view.LaneState.TheVariants.{Taken, Ended}
use Rattle.aug_core.specs.declared.view.SeatView.{SeatView}
use Rattle.aug_core.proofs.Fits.{book_shown, book_as}
use Rattle.aug_core.proofs.Clients.{new_lane_owns}
use Rattle.aug_trie.specs.inside.Goes.{HasRoom, HasLeaves}
use Rattle.aug_trie.specs.History.{last_cut}
use Rattle.aug_trie.specs.Knowledge.{StandsIn}
use Rattle.aug_trie.specs.Passes.{HandedOut, HandedBack}
use Rattle.aug_trie.specs.inside.Knows.{knows, KnowsRound}
use Rattle.aug_trie.specs.inside.PassState.{IsPass}
use Rattle.aug_trie.specs.inside.CrewState.{IsCrew}
use Rattle.aug_trie.proofs.Histories.{is_history}
use Rattle.aug_trie.proofs.Accepting.{knows_on, stands_on}
use Rattle.aug_core.proofs.PrefixLemmas.{either_prefix}

changes-append : (a b : List Held) → changes_of (a ++ b) ≡ changes_of a ++ changes_of b
changes-append [] b = refl
changes-append (h ∷ hs) b = ap (λ (z : List Change). h.changes ++ z) (changes-append hs b) ∙ sym (append_assoc h.changes (changes_of hs) (changes_of b))

module _ (face : ℕ → ℕ → List (ℕ × ℕ) → List ℕ) where
  -- the lead of a new table is a crew
  pub crew_begins : (v : SeatView) → v.shape.reservations ≡ 0 → KnowsBook face v → v.held ≡ [] → v.spare ≡ Some 0 → IsCrew face v 0 0
  crew_begins v off kn none first = record {
    keeps_records = off;
    knows_table = kn;
    hands_out = first;
    took_back = ap length none;
    knowledge = record { is_history = is_history face v kn; stands = subst (All (StandsIn (last_cut (knows v).history))) (ap changes_of (sym none)) (All-nil (StandsIn (last_cut (knows v).history))) };
  }

  -- a lead that loads the root knows what it shows
  module _ (v w : SeatView) (r : ℕ) (kn : KnowsBook face v) (t : LoadsNode face v (root_place v.shape) r w) where
    same_shape : w.shape ≡ v.shape
    same_shape = ap (λ (z : SeatView). z.shape) t.stepped

    pub loaded_table : KnowsBook face w
    loaded_table = book_shown face v w kn t.sees same_shape (ap (λ (z : SeatView). z.members) t.stepped)

    loaded_changes : changes_of w.held ≡ changes_of v.held
    loaded_changes = ap (λ (z : SeatView). changes_of z.held) t.stepped

    pub loaded_knowledge : KnowsRound v → KnowsRound w
    loaded_knowledge k = record {
      is_history = is_history face w loaded_table;
      stands = subst (All (StandsIn (last_cut (knows w).history))) (sym loaded_changes) (stands_on face v w (changes_of v.held) kn loaded_table same_shape t.sees.later k.stands);
    }

    -- then it hands a lane out: the new pass knows what its lead then knows, and no change
    pub handed_out_is : (place : ℕ) → HandedOut (knows v) (knows (handing_out w)) (knows (taking (handed_out w) place))
    handed_out_is place = record { goes_on = knows_on face v w kn same_shape t.sees.later; same_changes = loaded_changes; pass_knows = refl }

    pub pass_table : (place : ℕ) → KnowsBook face (taking (handed_out w) place)
    pass_table place = book_as face w refl refl refl loaded_table

    pub crew_out : (handed back : ℕ) → IsCrew face v handed back → IsCrew face (handing_out w) (handed + 1) back
    crew_out handed back c = let p : SeatView = handing_out w in record {
      keeps_records = ap (λ (z : Shape). z.reservations) same_shape ∙ c.keeps_records;
      knows_table = book_as face w refl refl refl loaded_table;
      hands_out = ap (λ (z : SeatView). (handing_out z).spare) t.stepped ∙ ap (λ z. (handing_out record v { spare = z }).spare) c.hands_out;
      took_back = ap (λ (z : SeatView). length z.held) t.stepped ∙ c.took_back;
      knowledge = let k = loaded_knowledge c.knowledge in record { is_history = k.is_history; stands = k.stands };
    }

  -- the new pass owns all records of its lane
  pub pass_room : (v : SeatView) (place : ℕ) → v.shape.reservations ≡ 0 → unwrap_or v.spare 0 < v.shape.workers → HasRoom (taking (handed_out v) place) (first_record v.shape (unwrap_or v.spare 0)) (lane_records v.shape)
  pass_room v place off inside = let first : ℕ = first_record v.shape (unwrap_or v.spare 0) in record {
    keeps_records = off;
    holds = (in_state Taken (new_lane v.shape v.words (unwrap_or v.spare 0)), refl);
    owns = λ n past below. let is : first + (n - first) ≡ n = omega arith in subst (MayStore (taking (handed_out v) place)) is (new_lane_owns v place (n - first) inside (omega arith));
  }

  -- so it is a pass, with all its updates
  pub pass_begins : (v : SeatView) (place leaves : ℕ) → v.shape.reservations ≡ 0 → unwrap_or v.spare 0 < v.shape.workers → KnowsBook face (taking (handed_out v) place) → HasLeaves v.shape leaves → first_record v.shape (unwrap_or v.spare 0) + v.shape.updates * v.shape.bits < 2 ^ 60 → IsPass face (taking (handed_out v) place) leaves v.shape.bits (first_record v.shape (unwrap_or v.spare 0)) v.shape.updates
  pass_begins v place leaves off inside kn l small = let p : SeatView = taking (handed_out v) place in record {
    leaves_are = record { are = l.are; few = l.few };
    bits_are = refl;
    knows_table = kn;
    room = pass_room v place off inside;
    budget = omega arith;
    small = small;
    knowledge = record { is_history = is_history face p kn; stands = All-nil (StandsIn (last_cut (knows p).history)) };
  }

  finished_changes : (p : SeatView) (h : Held) → HoldsOnly p h → changes_of (on_first (in_state Ended) p.held) ≡ changes_of p.held
  finished_changes p h only = ap (λ (z : List Held). changes_of (on_first (in_state Ended) z)) only ∙ sym (ap changes_of only)

  -- a pass that was taken back, and the load of the root after it
  module _ (v p w : SeatView) (place r : ℕ) (lane : Held) (kv : KnowsBook face v) (kp : KnowsBook face p) (one_shape : p.shape ≡ v.shape) (only : HoldsOnly p lane)
      (t : LoadsNode face (taking_back v (finishing p place)) (root_place v.shape) r w) where
    back_shape : w.shape ≡ v.shape
    back_shape = ap (λ (z : SeatView). z.shape) t.stepped

    pass_shape : w.shape ≡ p.shape
    pass_shape = back_shape ∙ sym one_shape

    pub back_table : KnowsBook face w
    back_table = book_shown face (taking_back v (finishing p place)) w (book_as face v refl refl refl kv) t.sees back_shape (ap (λ (z : SeatView). z.members) t.stepped)

    all_changes : changes_of w.held ≡ changes_of v.held ++ changes_of p.held
    all_changes = ap (λ (z : SeatView). changes_of z.held) t.stepped ∙ changes-append v.held (on_first (in_state Ended) p.held) ∙ ap (λ (z : List Change). changes_of v.held ++ z) (finished_changes p lane only)

    -- the lead knows what both knew
    pub handed_back_is : HandedBack (knows v) (knows p) (knows w)
    handed_back_is = let a = knows_on face v w kv back_shape t.sees.later in let b = knows_on face p w kp pass_shape t.sees.also_later in
        record { one_piece = either_prefix (knows v).history (knows p).history (knows w).history a b; goes_on = a; takes_up = b; changes_of_both = all_changes }

    -- and it is knowledge
    pub back_knowledge : KnowsRound v → KnowsRound p → KnowsRound w
    back_knowledge k k' = record {
      is_history = is_history face w back_table;
      stands = subst (All (StandsIn (last_cut (knows w).history))) (sym all_changes) (All-append (StandsIn (last_cut (knows w).history)) (changes_of v.held) (changes_of p.held)
          (stands_on face v w (changes_of v.held) kv back_table back_shape t.sees.later k.stands)
          (stands_on face p w (changes_of p.held) kp back_table pass_shape t.sees.also_later k'.stands));
    }

    -- it holds one lane more
    pub one_more : length w.held ≡ length v.held + 1
    one_more = let e : length w.held ≡ length v.held + length (on_first (in_state Ended) p.held) = ap (λ (z : SeatView). length z.held) t.stepped ∙ length-append v.held (on_first (in_state Ended) p.held) in
        let one : length (on_first (in_state Ended) p.held) ≡ 1 = ap (λ (z : List Held). length (on_first (in_state Ended) z)) only in omega arith

    -- it took one more back
    pub crew_after : (handed back : ℕ) → IsCrew face v handed back → KnowsRound p → IsCrew face w handed (back + 1)
    crew_after handed back c k = record {
      keeps_records = ap (λ (z : Shape). z.reservations) back_shape ∙ c.keeps_records;
      knows_table = back_table;
      hands_out = ap (λ (z : SeatView). z.spare) t.stepped ∙ c.hands_out;
      took_back = let e = one_more in let b = c.took_back in omega arith;
      knowledge = back_knowledge c.knowledge k;
    }
