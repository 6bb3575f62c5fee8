-- What was replaced from a lane is older than what the nodes show, and so in the end than what the root shows.
use Rattle.std.proofs.Common.{◌≡◌, ◌≢◌, ◌⊎◌, inl, inr, ◌∙◌, ℕ, suc, ◌+◌, ◌-◌, ◌*◌, ◌/◌, ◌^◌, ◌<◌, ◌≤◌, Bool, if◌then◌else◌, eq-eqb, ne_eqb, List, [], length, sym, refl, ap, subst, ⊎_elim, arith}
use Rattle.std.specs.Prelude.{◌==◌}
use Rattle.std.proofs.lemmas.Bool.{cases_eq, cases_lt}
use mathlib.Core.Option.{some, some-ne-none}
use lib.ListN.{get_elem?}
use Rattle.aug_core.specs.Places.{Shape}
use Rattle.aug_core.specs.Addresses.{place_count, root_place, IsInner, left_of, right_of}
use Rattle.aug_core.specs.Book.{history_of, At, ArePrefixes}
use Rattle.aug_core.specs.Opening.{opening_book}
use Rattle.aug_core.specs.Records.{Lists}
use Rattle.aug_core.specs.Effects.{HoldsOnly, KnowsBook, opening_of}
use Rattle.aug_core.specs.inside.Refreshes.{NewestCovers}
use Rattle.aug_core.specs.inside.Shows.{above}
use Rattle.aug_core.specs.declared.view.Entry.{Entry}
use Rattle.aug_core.specs.declared.view.Held.{Held}
use Rattle.aug_core.specs.declared.view.Replaced.{Replaced}
use Rattle.aug_core.specs.declared.view.SeatView.{SeatView}
use Rattle.aug_core.proofs.PlaceLemmas.{double_pow}
use Rattle.aug_core.proofs.PrefixLemmas.{entry_stays}
use Rattle.aug_core.proofs.Books.{snoc_at, there_is, no_shorter}
use Rattle.aug_core.proofs.Openings.{inner_history, leaf_long}
use Rattle.aug_core.proofs.Showing.{above_root}
use Rattle.aug_words.specs.Reservations.{MayRetire}
use Rattle.aug_trie.specs.inside.Lasting.{IsOff, ShowsBelow, ReplacesAt}

-- a table opens with an entry of each leaf and each inner node
some_first : (f : ℕ → ℕ → List (ℕ × ℕ) → List ℕ) (v : SeatView) → KnowsBook f v → (q : ℕ) → q < place_count v.shape → 0 < length (history_of v.seen q)
some_first f v knows q low = let le = no_shorter v.seen (opening_book f (opening_of v)) knows.opened q in ⊎_elim
    (λ (leaf : q < 2 ^ v.shape.bits). let long = leaf_long f (opening_of v) q leaf in omega arith)
    (λ (past : 2 ^ v.shape.bits ≤ q). let long = ap (λ (z : List Entry). length z) (inner_history f (opening_of v) q record { past_leaves = past; inside = low }) in omega arith) (cases_lt q (2 ^ v.shape.bits))

-- where nothing was replaced, from the first entries
pub shows_none : (f : ℕ → ℕ → List (ℕ × ℕ) → List ℕ) (v : SeatView) (lane : Held) (key : ℕ) → KnowsBook f v → HoldsOnly v lane → lane.replaced ≡ [] → ShowsBelow v key 0
shows_none f v lane key knows only none = record {
  lane = lane;
  only = only;
  from = λ _. 0;
  reached = λ q low. some_first f v knows q low;
  over = λ q inner other. let x = there_is (history_of v.seen q) 0 (some_first f v knows q inner.inside) in (x.0, x.1, omega arith, omega arith);
  past = λ c l. absurd (some-ne-none c (sym (subst (λ (z : List Replaced). get_elem? z l.0 ≡ some c) none l.1)));
}

-- the same indices, but for one at one place
abbrev put_at : ℕ → ℕ → (ℕ → ℕ) → ℕ → ℕ
put_at q i from x = if x == q then i else from x

put_here : (q i : ℕ) (from : ℕ → ℕ) (x : ℕ) → x ≡ q → put_at q i from x ≡ i
put_here q i from x is = ap (λ (z : Bool). if z then i else from x) (eq-eqb x q is)

put_there : (q i : ℕ) (from : ℕ → ℕ) (x : ℕ) → x ≢ q → put_at q i from x ≡ from x
put_there q i from x ne = ap (λ (z : Bool). if z then i else from x) (ne_eqb x q ne)

-- the children of a node are before it, and no other node's
children_before : (bits q : ℕ) → 2 ^ bits ≤ q → q < 2 ^ (bits + 1) - 1 → (2 * (q - 2 ^ bits) < q) × (2 * (q - 2 ^ bits) + 1 < q)
children_before bits q past inside = let t = double_pow bits in (omega arith, omega arith)

no_child : (bits q p : ℕ) → 2 ^ bits ≤ p → p ≢ 2 ^ bits + q / 2 → (2 * (p - 2 ^ bits) ≢ q) × (2 * (p - 2 ^ bits) + 1 ≢ q)
no_child bits q p past other = (λ is. other (omega arith), λ is. other (omega arith))

up_or_top : (m n : ℕ) → (m ≤ n) ⊎ (n < m)
up_or_top m n = ⊎_elim (λ (lt : n < m). inr lt) (λ (le : m ≤ n). inl le) (cases_lt n m)

module _ (v w : SeatView) (key level q : ℕ) (low_key : key < 2 ^ v.shape.bits) (fits : suc level ≤ v.shape.bits) (is : q ≡ above v.shape key (suc level)) (inner : IsInner v.shape q) (later : ArePrefixes v.seen w.seen) (covers : NewestCovers v.shape v.seen w.seen q) (below : ShowsBelow v key level) where
  abbrev from_now : ℕ → ℕ
  from_now = put_at q covers.index below.from

  -- what the node shows is no older than what it showed
  no_older : below.from q ≤ covers.index
  no_older = let low = below.reached q inner.inside in let le = no_shorter w.seen v.seen later q in let long = covers.newest.last in omega arith

  reached_now : (p : ℕ) → p < place_count v.shape → from_now p < length (history_of w.seen p)
  reached_now p low = ⊎_elim
      (λ (is : p ≡ q). let here = put_here q covers.index below.from p is in let long = covers.newest.last in let same = ap (λ (z : ℕ). length (history_of w.seen z)) is in omega arith)
      (λ (ne : p ≢ q). let there = put_there q covers.index below.from p ne in let old = below.reached p low in let le = no_shorter w.seen v.seen later p in omega arith) (cases_eq p q)

  abbrev Over : Shape → ℕ → Type 0
  Over s p = (e : Entry) × At w.seen p (from_now p) e × (from_now (left_of s p) ≤ e.left) × (from_now (right_of s p) ≤ e.right)

  over_here : Over v.shape q
  over_here = let before = children_before v.shape.bits q inner.past_leaves inner.inside in let l0 = before.0 in let r0 = before.1 in let inside = inner.inside in
      let l1 = below.reached (left_of v.shape q) (omega arith) in let r1 = below.reached (right_of v.shape q) (omega arith) in
      let l2 = covers.left in let r2 = covers.right in
      let l3 = put_there q covers.index below.from (left_of v.shape q) (λ is. absurd (omega arith)) in
      let r3 = put_there q covers.index below.from (right_of v.shape q) (λ is. absurd (omega arith)) in
      (covers.entry, subst (λ (z : ℕ). At w.seen q z covers.entry) (sym (put_here q covers.index below.from q refl)) covers.newest.at, omega arith, omega arith)

  -- a node that is off the way above this level is off it above the one below, but for this node
  off_below : (p : ℕ) → p ≢ q → IsOff v.shape key (suc level) p → IsOff v.shape key level p
  off_below p ne off l past up = ⊎_elim (λ (here : suc level ≡ l). λ same. ne (same ∙ ap (above v.shape key) (sym here) ∙ sym is)) (λ other. off l (omega arith) up) (cases_eq (suc level) l)

  -- and is not the node above this one
  no_parent : (p : ℕ) → IsInner v.shape p → IsOff v.shape key (suc level) p → p ≢ 2 ^ v.shape.bits + q / 2
  no_parent p low off same = ⊎_elim (λ (up : suc (suc level) ≤ v.shape.bits). off (suc (suc level)) (omega arith) up (same ∙ ap (λ (z : ℕ). 2 ^ v.shape.bits + z / 2) is))
      (λ (top : v.shape.bits < suc (suc level)). let here : suc level ≡ v.shape.bits = omega arith in let root : q ≡ root_place v.shape = is ∙ ap (above v.shape key) here ∙ above_root v.shape key low_key in
      let d = double_pow v.shape.bits in let inside = low.inside in absurd (omega arith)) (up_or_top (suc (suc level)) v.shape.bits)

  over_there : (p : ℕ) → IsInner v.shape p → p ≢ q → IsOff v.shape key (suc level) p → Over v.shape p
  over_there p low ne off = let apart = no_child v.shape.bits q p low.past_leaves (no_parent p low off) in let x = below.over p low (off_below p ne off) in let l0 = x.2 in let r0 = x.3 in
      let l1 = put_there q covers.index below.from (left_of v.shape p) apart.0 in
      let r1 = put_there q covers.index below.from (right_of v.shape p) apart.1 in
      (x.0, subst (λ (z : ℕ). At w.seen p z x.0) (sym (put_there q covers.index below.from p ne)) (entry_stays later p (below.from p) x.0 x.1), omega arith, omega arith)

  over_now : (p : ℕ) → IsInner v.shape p → IsOff v.shape key (suc level) p → Over v.shape p
  over_now p low off = ⊎_elim (λ (here : p ≡ q). subst (Over v.shape) (sym here) over_here) (λ (ne : p ≢ q). over_there p low ne off) (cases_eq p q)

  old_past : (c : Replaced) → Lists below.lane.replaced c → c.index < from_now c.place
  old_past c l = let old = below.past c l in ⊎_elim
      (λ (is : c.place ≡ q). let here = put_here q covers.index below.from c.place is in let same = ap below.from is in let le = no_older in omega arith)
      (λ (ne : c.place ≢ q). let there = put_there q covers.index below.from c.place ne in omega arith) (cases_eq c.place q)

  new_past : (c : Replaced) → c.place ≡ q → c.index + 1 < length (history_of w.seen q) → c.index < from_now c.place
  new_past c is low = let here = put_here q covers.index below.from c.place is in let long = covers.newest.last in omega arith

  past_now : (h : Held) → ReplacesAt below.lane q w h → (c : Replaced) → Lists h.replaced c → c.index < from_now c.place
  past_now h at c l = ⊎_elim
      (λ same. old_past c (l.0, subst (λ (z : List Replaced). get_elem? z l.0 ≡ some c) same l.1))
      (λ more. ⊎_elim (λ old. old_past c (l.0, old)) (λ new. subst (λ (z : Replaced). z.index < from_now z.place) new.1 (new_past more.0 more.2 more.3))
      (snoc_at below.lane.replaced more.0 c l.0 (subst (λ (z : List Replaced). get_elem? z l.0 ≡ some c) more.1 l.1))) at

  -- once the next node on the way was covered, only those above it may stand over older ones
  pub shows_on : w.shape ≡ v.shape → ((h : Held) → HoldsOnly v h → (h' : Held) × HoldsOnly w h' × ReplacesAt h q w h') → ShowsBelow w key (suc level)
  shows_on shaped replaces = let r = replaces below.lane below.only in record {
    lane = r.0;
    only = r.1;
    from = from_now;
    reached = subst (λ (z : Shape). (p : ℕ) → p < place_count z → from_now p < length (history_of w.seen p)) (sym shaped) reached_now;
    over = subst (λ (z : Shape). (p : ℕ) → IsInner z p → IsOff z key (suc level) p → Over z p) (sym shaped) over_now;
    past = past_now r.0 r.2;
  }

-- at the root there is none
pub shows_all : (v : SeatView) (key level : ℕ) → v.shape.bits ≤ level → ShowsBelow v key level → MayRetire v
shows_all v key level top below = record {
  lane = below.lane;
  only = below.only;
  later = record {
    from = below.from;
    reached = below.reached;
    over = λ q inner. below.over q inner (λ l past up. absurd (omega arith));
    past = below.past;
  };
}

-- where the way of the next key joins, all that may stand over older ones is on that
pub shows_next : (v : SeatView) (key next level : ℕ) → ((l : ℕ) → level < l → l ≤ v.shape.bits → above v.shape key l ≡ above v.shape next l) → ShowsBelow v key level → ShowsBelow v next 0
shows_next v key next level one below = record {
  lane = below.lane;
  only = below.only;
  from = below.from;
  reached = below.reached;
  over = λ q inner off. below.over q inner (λ l past up same. off l (omega arith) up (same ∙ one l past up));
  past = below.past;
}
