-- The members of a look's snapshot, written a page after the other.
use Rattle.std.proofs.Common.{◌≡◌, ◌⊎◌, ℕ, zero, suc, ◌+◌, ◌-◌, ◌^◌, ◌<◌, ◌≤◌, min, List, [], ◌∷◌, ◌++◌, length, take, drop, reverse, map, get_or, set, slice_index, pos, refl, sym, ap, ◌∙◌, subst, inl, inr, arith, append_assoc}
use Rattle.std.specs.Prelude.{ℤ, ◌==◌, if◌then◌else◌, slice_index_or, Option, Some, None, IfSome, IfNone}
use Rattle.std.specs.List.Sorted.{IsStrictlyIncreasing}
use Rattle.std.proofs.Math.Nat.{min-eq_left, min-eq_right}
use Rattle.std.proofs.Math.Seq.{take-add, take-append_seam}
use Rattle.std.proofs.lemmas.Bool.{cases_lt, cases_eq, ne_eqb, eq-eqb}
use Rattle.std.proofs.lemmas.List.{append-nil, take_all, take_min, take-append-le, take-append-drop, take-map, drop-map, drop_all, drop_at, drop-drop, drop-take, length-append, length-take, length-take-le, length-drop, length-map, length-reverse, reverse-append, map-append, take_more, get_or-take, get_or-drop, get_or-reverse}
use Rattle.std.proofs.lemmas.Slice.{drop-append-drop}
use Rattle.aug_model.specs.Keys.{SetFacts, keys_of, list_of}
use Rattle.aug_model.specs.inside.Boundary.{IsBoundary}
use Rattle.aug_model.proofs.Boundaries.{range-at_boundaries, member-IsBoundary}
use Rattle.aug_model.proofs.Pairs.{key_at, length-keys_of}
use Rattle.aug_query.specs.Yields.{members_from, members_below}
use Rattle.aug_query.proofs.Boundaries.{before_middle, from_middle, member_moves}
use Rattle.aug_query.proofs.Pages.{take_both}
use Rattle.aug_trie.specs.Snapshot.{snapshot_cut}
use Rattle.aug_trie.proofs.Rising.{members_rise}
use Rattle.aug_live.specs.LiveHandles.{LookFacts, IsAsked, set_of_look}
use Rattle.aug_c.specs.ArrayCalls.{ListsBoth, ListsKeys, ListsMembers, weights_of}
use Rattle.aug_c.specs.UserCalls.{span_of}
use Rattle.aug_c.proofs.Reading.{asked_on, written_more}

-- the place of a key among members that rise, where those before this one are below it
place_from : (k : ℕ) (keys : List ℕ) → IsStrictlyIncreasing keys → (left place : ℕ) → place + left ≡ length keys → ((i : ℕ) → i < place → slice_index keys i < k) → (at : ℕ) × IsBoundary keys k at
place_from k keys up zero place all front = (place, record { within = omega (arith, all); front = front; back = λ i from l. absurd (omega (arith, all, from, l)) })
place_from k keys up (suc left) place all front =
    elim (cases_lt (slice_index keys place) k) [
      | inl low ↦ place_from k keys up left (suc place) (omega (arith, all)) (λ i less. before_middle keys k place up (omega (arith, all)) low i (omega (arith, less)))
      | inr high ↦ (place, record { within = omega (arith, all); front = front; back = from_middle keys k place up (omega (arith, all)) high })
    ]

boundary_of : (k : ℕ) (keys : List ℕ) → IsStrictlyIncreasing keys → (at : ℕ) × IsBoundary keys k at
boundary_of k keys up = place_from k keys up (length keys) 0 (omega arith) (λ i h. absurd (omega (arith, h)))

-- the members behind one of those from a key on are the rest of these
pub from_behind : (set : SetFacts) (at k n : ℕ) → IsStrictlyIncreasing (list_of set) → n < length (members_from set at) → (get_or (members_from set at) n (0, 0)).0 ≡ k → members_from set (k + 1) ≡ drop (n + 1) (members_from set at)
from_behind set at k n up within is =
    let keys = list_of set in
    let first = boundary_of at keys up in
    let last = boundary_of (2 ^ set.bits) keys up in
    let a = first.0 in
    let end = last.0 in
    let whole : members_from set at ≡ take (end - a) (drop a set.pairs) = range-at_boundaries set.pairs at (2 ^ set.bits) a end first.1 last.1 in
    let long = ap length whole ∙ length-take (end - a) (drop a set.pairs) in
    let few = length-drop a set.pairs in
    let stands : (get_or set.pairs (a + n) (0, 0)).0 ≡ k =
    ap (λ (p : ℕ × ℕ). p.0) (sym (get_or-drop a set.pairs n (0, 0)) ∙ sym (get_or-take (end - a) (drop a set.pairs) n (0, 0) (omega (arith, within, long))) ∙ ap (λ (ps : List (ℕ × ℕ)). get_or ps n (0, 0)) (sym whole)) ∙ is in
    let inside : a + n < length set.pairs = omega (arith, within, long, few) in
    let here : slice_index keys (a + n) ≡ k = key_at set.pairs (a + n) (0, 0) inside ∙ stands in
    let stand = subst (λ (z : ℕ). IsBoundary keys z (a + n)) here (member-IsBoundary keys up (a + n) (omega (arith, inside, length-keys_of set.pairs))) in
    let next = member_moves set.pairs k (a + n) up stand inside stands in
    let rest : members_from set (k + 1) ≡ take (end - (a + n + 1)) (drop (a + n + 1) set.pairs) = range-at_boundaries set.pairs (k + 1) (2 ^ set.bits) (a + n + 1) end next last.1 in
    let split : end - a ≡ n + 1 + (end - (a + n + 1)) = omega (arith, within, long) in
    let place : a + (n + 1) ≡ a + n + 1 = omega arith in
    rest ∙ ap (λ (m : ℕ). take (end - (a + n + 1)) (drop m set.pairs)) (sym place) ∙ ap (take (end - (a + n + 1))) (sym (drop-drop (n + 1) a set.pairs))
    ∙ sym (drop-take (n + 1) (end - (a + n + 1)) (drop a set.pairs)) ∙ ap (λ (m : ℕ). drop (n + 1) (take m (drop a set.pairs))) (sym split) ∙ ap (drop (n + 1)) (sym whole)

minus_none : (n : ℕ) → n - 0 ≡ n
minus_none n = omega arith

-- the first of the first ones
take-take : {X : Type 0} (m n : ℕ) (xs : List X) → m ≤ n → take m (take n xs) ≡ take m xs
take-take m n xs h = let both : n ≡ m + (n - m) = omega (arith, h) in
    elim (cases_lt m (length xs)) [
      | inl less ↦ ap (λ (k : ℕ). take m (take k xs)) both ∙ ap (take m) (take-add m (n - m) xs) ∙ take-append-le m (take m xs) (take (n - m) (drop m xs)) (omega (arith, length-take m xs, less)) ∙ take_all m (take m xs) (omega (arith, length-take m xs))
      | inr all ↦ ap (take m) (take_all n xs (omega (arith, all, h)))
    ]

-- what is left of a list the other way round
drop-reverse : {X : Type 0} (n m : ℕ) (xs : List X) → n + m ≡ length xs → drop n (reverse xs) ≡ reverse (take m xs)
drop-reverse n m xs all =
    let long : length (reverse (drop m xs)) ≡ n = length-reverse (drop m xs) ∙ length-drop m xs ∙ omega (arith, all) in
    ap (λ ys. drop n (reverse ys)) (sym (take-append-drop m xs)) ∙ ap (drop n) (reverse-append (take m xs) (drop m xs)) ∙ drop_at (reverse (drop m xs)) (reverse (take m xs)) n long

-- the members below one of those below a key are the rest of these, the other way round
pub below_behind : (set : SetFacts) (at k n : ℕ) → IsStrictlyIncreasing (list_of set) → n < length (members_below set at) → (get_or (reverse (members_below set at)) n (0, 0)).0 ≡ k → reverse (members_below set k) ≡ drop (n + 1) (reverse (members_below set at))
below_behind set at k n up within is =
    let keys = list_of set in
    let last = boundary_of at keys up in
    let end = last.0 in
    let start : IsBoundary keys 0 0 = record { within = omega arith; front = λ i h. absurd (omega (arith, h)); back = λ i h l. omega arith } in
    let whole : members_below set at ≡ take end set.pairs = range-at_boundaries set.pairs 0 at 0 end start last.1 ∙ ap (λ (m : ℕ). take m set.pairs) (minus_none end) in
    let long = ap length whole ∙ length-take end set.pairs in
    let m = length (members_below set at) - 1 - n in
    let stands : (get_or set.pairs m (0, 0)).0 ≡ k =
    ap (λ (p : ℕ × ℕ). p.0) (sym (get_or-take end set.pairs m (0, 0) (omega (arith, within, long))) ∙ ap (λ (ps : List (ℕ × ℕ)). get_or ps m (0, 0)) (sym whole) ∙ sym (get_or-reverse (members_below set at) n (0, 0) within)) ∙ is in
    let inside : m < length set.pairs = omega (arith, within, long) in
    let here : slice_index keys m ≡ k = key_at set.pairs m (0, 0) inside ∙ stands in
    let next = subst (λ (z : ℕ). IsBoundary keys z m) here (member-IsBoundary keys up m (omega (arith, inside, length-keys_of set.pairs))) in
    let rest : members_below set k ≡ take m set.pairs = range-at_boundaries set.pairs 0 k 0 m start next ∙ ap (λ (n : ℕ). take n set.pairs) (minus_none m) in
    let both : take m (members_below set at) ≡ take m set.pairs = ap (take m) whole ∙ take-take m end set.pairs (omega (arith, within, long)) in
    ap reverse (rest ∙ sym both) ∙ sym (drop-reverse (n + 1) m (members_below set at) (omega (arith, within)))

-- the members of a look's snapshot rise
pub rises_in : (look : LookFacts) → IsStrictlyIncreasing (list_of (set_of_look look))
rises_in look = members_rise (snapshot_cut look.reader look.snapshot)

-- what was written of some values, after so many of them were listed: no more than there is room for
pub record Wrote {X : Type 0} (xs before now : List X) (listed : ℕ) : Type 0 where
  pub are : now ≡ take (length before) (take listed xs) ++ drop listed before

pub wrote_none : {X : Type 0} (xs before : List X) → Wrote xs before before 0
wrote_none {X} xs before = record { are = sym (ap (λ (ys : List X). ys ++ before) (take_all (length before) [] (omega arith))) }

wrote_long : {X : Type 0} (xs before now : List X) (listed : ℕ) → listed ≤ length xs → Wrote xs before now listed → length now ≡ length before
wrote_long xs before now listed few w =
    let head = length-take (length before) (take listed xs) in
    let tail = length-drop listed before in
    omega (arith, ap length w.are, length-append (take (length before) (take listed xs)) (drop listed before), head, tail, length-take listed xs, few)

-- some more of them are written
pub wrote_more : {X : Type 0} (xs before now next ps : List X) (listed n : ℕ) → listed ≤ length xs → ps ≡ take n (drop listed xs) → length ps ≡ n → Wrote xs before now listed → next ≡ take listed now ++ (take (length now - listed) ps ++ drop (listed + n) now) → Wrote xs before next (listed + n)
wrote_more {X} xs before now next ps listed n few some long w is =
    let len = length before in
    let same = wrote_long xs before now listed few w in
    let room : length now - listed ≡ len - listed = ap (λ (m : ℕ). m - listed) same in
    let front = take listed xs in
    let front_long : length front ≡ listed = length-take-le listed xs few in
    let more : take (listed + n) xs ≡ front ++ ps = take-add listed n xs ∙ ap (λ (zs : List X). front ++ zs) (sym some) in
    elim (cases_lt len listed) [
      | inr within ↦
          let whole : now ≡ front ++ drop listed before = w.are ∙ ap (λ (zs : List X). zs ++ drop listed before) (take_all len front (omega (arith, within, front_long))) in
          let head : take listed now ≡ front = ap (take listed) whole ∙ ap (λ (m : ℕ). take m (front ++ drop listed before)) (sym front_long) ∙ take-append_seam front (drop listed before) in
          let tail : drop (listed + n) now ≡ drop (listed + n) before = ap (drop (listed + n)) whole ∙ drop-append-drop listed before front (listed + n) (omega arith) front_long in
          let both : take len (front ++ ps) ≡ front ++ take (len - listed) ps = take_both len front ps ∙ ap (λ (zs : List X). zs ++ take (len - length front) ps) (take_all len front (omega (arith, within, front_long))) ∙ ap (λ (m : ℕ). front ++ take (len - m) ps) front_long in
          record {
            are = is ∙ ap (λ (zs : List X). zs ++ (take (length now - listed) ps ++ drop (listed + n) now)) head ∙ ap (λ (m : ℕ). front ++ (take m ps ++ drop (listed + n) now)) room ∙ ap (λ (zs : List X). front ++ (take (len - listed) ps ++ zs)) tail
                ∙ sym (append_assoc front (take (len - listed) ps) (drop (listed + n) before)) ∙ ap (λ (zs : List X). zs ++ drop (listed + n) before) (sym both ∙ ap (take len) (sym more));
          }
      | inl past ↦
          let full : length now - listed ≡ 0 = omega (arith, same, past) in
          let none : take (length now - listed) ps ≡ [] = ap (λ (m : ℕ). take m ps) full in
          let gone : drop (listed + n) now ≡ drop (listed + n) before = drop_all (listed + n) now (omega (arith, same, past)) ∙ sym (drop_all (listed + n) before (omega (arith, past))) in
          let old : take listed now ≡ take len front = take_all listed now (omega (arith, same, past)) ∙ w.are ∙ ap (λ (zs : List X). take len front ++ zs) (drop_all listed before (omega (arith, past))) ∙ append-nil (take len front) in
          let kept : take len (front ++ ps) ≡ take len front = take-append-le len front ps (omega (arith, past, front_long)) in
          record {
            are = is ∙ ap (λ (zs : List X). zs ++ (take (length now - listed) ps ++ drop (listed + n) now)) old ∙ ap (λ (zs : List X). take len front ++ (zs ++ drop (listed + n) now)) none ∙ ap (λ (zs : List X). take len front ++ zs) gone
                ∙ ap (λ (zs : List X). zs ++ drop (listed + n) before) (sym kept ∙ ap (take len) (sym more));
          }
    ]

-- all are written, or as many as there is room for
pub wrote_all : {X : Type 0} (xs before now : List X) (listed : ℕ) → listed ≤ length xs → Wrote xs before now listed → (length before ≤ listed) ⊎ (listed ≡ length xs) → ListsMembers xs before now (min (length before) (length xs))
wrote_all {X} xs before now listed few w end =
    let len = length before in
    elim (cases_lt listed len) [
      | inl less ↦
          let whole : listed ≡ length xs = elim end [ inl full ↦ absurd (omega (arith, full, less)) | inr all ↦ all ] in
          let count : min len (length xs) ≡ listed = min-eq_right {n = length xs} {m = len} (omega (arith, whole, less)) ∙ sym whole in
          record { counts = refl; written = w.are ∙ ap (λ (zs : List X). zs ++ drop listed before) (take_all len (take listed xs) (omega (arith, length-take listed xs, less))) ∙ ap (λ (m : ℕ). take m xs ++ drop m before) (sym count) }
      | inr full ↦
          let count : min len (length xs) ≡ len = min-eq_left {n = len} {m = length xs} (omega (arith, full, few)) in
          let gone : drop listed before ≡ drop len before = drop_all listed before full ∙ sym (drop_all len before (omega arith)) in
          record { counts = refl; written = w.are ∙ ap (λ (zs : List X). zs ++ drop listed before) (take-take len listed xs full) ∙ ap (λ (zs : List X). take len xs ++ zs) gone ∙ ap (λ (m : ℕ). take m xs ++ drop m before) (sym count) }
    ]

-- a page has so many of the values as it is long
pub as_many : {X : Type 0} (xs items : List X) → items ≡ take 32 xs → items ≡ take (length items) xs
as_many xs items is = is ∙ sym (take_min 32 xs) ∙ ap (λ (m : ℕ). take m xs) (sym (ap length is ∙ length-take 32 xs))

-- the part that is written of each
pub parts_are : {X Y : Type 0} (part : X → Y) (listed : ℕ) (xs items : List X) → items ≡ take (length items) (drop listed xs) → map part items ≡ take (length items) (drop listed (map part xs))
parts_are part listed xs items is = ap (map part) is ∙ sym (take-map part (length items) (drop listed xs)) ∙ ap (take (length items)) (sym (drop-map part listed xs))

-- so many members were written, with their weights
module _ (members : SetFacts → ℕ → List (ℕ × ℕ)) (first : LookFacts) (key : ℕ) (keys weights : List ℕ) where
  abbrev all : List (ℕ × ℕ)
  all = members (set_of_look first) key

  pub record Written (listed : ℕ) (now : LookFacts) (ks ws : List ℕ) : Type 0 where
    pub few : listed ≤ length (members (set_of_look first) key)
    pub wrote_keys : Wrote (keys_of (members (set_of_look first) key)) keys ks listed
    pub wrote_weights : Wrote (weights_of (members (set_of_look first) key)) weights ws listed
    pub most : ℕ
    pub asked : IsAsked span_of most first now

  -- a page of those from a key on, which are the ones that are left
  page_is : (listed from : ℕ) (now : LookFacts) (ks ws : List ℕ) (items : List (ℕ × ℕ)) → Written listed now ks ws → members (set_of_look first) from ≡ drop listed (members (set_of_look first) key) → items ≡ take 32 (members (set_of_look now) from) → items ≡ take 32 (drop listed (members (set_of_look first) key))
  page_is listed from now ks ws items w rest is = is ∙ ap (λ (s : SetFacts). take 32 (members s from)) w.asked.same_set ∙ ap (take 32) rest

  pub page_written : (listed from most : ℕ) (now next : LookFacts) (ks ws keys_after weights_after : List ℕ) (items : List (ℕ × ℕ)) → Written listed now ks ws → members (set_of_look first) from ≡ drop listed (members (set_of_look first) key)
      → items ≡ take 32 (members (set_of_look now) from) → IsAsked span_of most now next
      → keys_after ≡ take listed ks ++ (take (length ks - listed) (map (λ (p : ℕ × ℕ). p.0) items) ++ drop (listed + length items) ks) → weights_after ≡ take listed ws ++ (take (length ws - listed) (map (λ (p : ℕ × ℕ). p.1) items) ++ drop (listed + length items) ws)
      → Written (listed + length items) next keys_after weights_after
  page_written listed from most now next ks ws keys_after weights_after items w rest is asked k e =
      let mine = page_is listed from now ks ws items w rest is in
      let some = as_many (drop listed all) items mine in
      let long : length items ≤ length all - listed = omega (arith, ap length mine, length-take 32 (drop listed all), length-drop listed all) in
      let many = w.few in
      record {
        few = omega (arith, long, many);
        wrote_keys = wrote_more (keys_of all) keys ks keys_after (map (λ (p : ℕ × ℕ). p.0) items) listed (length items) (omega (arith, many, length-map all (λ (p : ℕ × ℕ). p.0))) (parts_are (λ (p : ℕ × ℕ). p.0) listed all items some) (length-map items (λ (p : ℕ × ℕ). p.0)) w.wrote_keys k;
        wrote_weights = wrote_more (weights_of all) weights ws weights_after (map (λ (p : ℕ × ℕ). p.1) items) listed (length items) (omega (arith, many, length-map all (λ (p : ℕ × ℕ). p.1))) (parts_are (λ (p : ℕ × ℕ). p.1) listed all items some) (length-map items (λ (p : ℕ × ℕ). p.1)) w.wrote_weights e;
        most = w.most + most;
        asked = asked_on span_of w.most most first now next w.asked asked;
      }

  -- the next page has those behind it
  pub more_left : (listed from next n : ℕ) (now : LookFacts) (ks ws : List ℕ) → Written listed now ks ws → members (set_of_look first) from ≡ drop listed (members (set_of_look first) key) → n ≡ 32 → members (set_of_look now) next ≡ drop 32 (members (set_of_look now) from) → members (set_of_look first) next ≡ drop (listed + n) (members (set_of_look first) key)
  more_left listed from next n now ks ws w rest full is =
      ap (λ (s : SetFacts). members s next) (sym w.asked.same_set) ∙ is ∙ ap (λ (s : SetFacts). drop 32 (members s from)) w.asked.same_set ∙ ap (drop 32) rest ∙ drop-drop 32 listed all ∙ ap (λ (m : ℕ). drop (listed + m) all) (sym full)

  -- and after a page that is not full all were listed
  pub all_listed : (listed from : ℕ) (now : LookFacts) (ks ws : List ℕ) (items : List (ℕ × ℕ)) → Written listed now ks ws → members (set_of_look first) from ≡ drop listed (members (set_of_look first) key) → items ≡ take 32 (members (set_of_look now) from) → length items < 32 → listed + length items ≡ length (members (set_of_look first) key)
  all_listed listed from now ks ws items w rest is few =
      let many = w.few in
      omega (arith, ap length (page_is listed from now ks ws items w rest is), length-take 32 (drop listed all), length-drop listed all, few, many)

  -- what the call has done then
  pub listed_keys : (listed : ℕ) (now : LookFacts) (ks ws : List ℕ) (code : ℤ) → Written listed now ks ws → (length keys ≤ listed) ⊎ (listed ≡ length (members (set_of_look first) key)) → code ≡ pos (min listed (length keys)) → ListsKeys (λ set. members set key) keys ks first now code
  listed_keys listed now ks ws code w end is =
      let long = length-map all (λ (p : ℕ × ℕ). p.0) in
      let many = w.few in
      let count : min listed (length keys) ≡ min (length keys) (length (keys_of all)) = elim end [ inl full ↦ omega (arith, full, many, long) | inr whole ↦ omega (arith, whole, long) ] in
      record {
        count = min (length keys) (length (keys_of all));
        says = is ∙ ap pos count;
        lists = wrote_all (keys_of all) keys ks listed (omega (arith, many, long)) w.wrote_keys (elim end [ inl full ↦ inl full | inr whole ↦ inr (whole ∙ sym long) ]);
        most = w.most;
        asked = w.asked;
      }

  pub listed_weights : (listed : ℕ) (now : LookFacts) (ks ws : List ℕ) → Written listed now ks ws → length weights ≤ length keys → (length keys ≤ listed) ⊎ (listed ≡ length (members (set_of_look first) key)) → ListsMembers (weights_of (members (set_of_look first) key)) weights ws (min (length weights) (length (members (set_of_look first) key)))
  listed_weights listed now ks ws w few end =
      let long = length-map all (λ (p : ℕ × ℕ). p.1) in
      let many = w.few in
      subst (λ (n : ℕ). ListsMembers (weights_of all) weights ws (min (length weights) n)) long (wrote_all (weights_of all) weights ws listed (omega (arith, many, long)) w.wrote_weights (elim end [ inl full ↦ inl (omega (arith, full, few)) | inr whole ↦ inr (whole ∙ sym long) ]))

-- the last member of a page that is full
last_is : (items : List (ℕ × ℕ)) (last : ℕ) → Some last ≡ (if length items == 32 then Some (slice_index_or items 31 (0, 0)).0 else None) → (length items ≡ 32) × ((get_or items 31 (0, 0)).0 ≡ last)
last_is items last is =
    elim (cases_eq (length items) 32) [
      | inl full ↦ (full, (let there : Some last ≡ Some (get_or items 31 (0, 0)).0 = is ∙ ap (λ b. if b then Some (get_or items 31 (0, 0)).0 else None) (eq-eqb (length items) 32 full) in cc))
      | inr few ↦ absurd (let none : Some last ≡ None = is ∙ ap (λ b. if b then Some (get_or items 31 (0, 0)).0 else None) (ne_eqb (length items) 32 few) in cc)
    ]

-- is a member of the list
last_of_page : (ys items : List (ℕ × ℕ)) (last : ℕ) → items ≡ take 32 ys → (length items ≡ 32) × ((get_or items 31 (0, 0)).0 ≡ last) → (31 < length ys) × ((get_or ys 31 (0, 0)).0 ≡ last)
last_of_page ys items last is full =
    (omega (arith, ap length is, length-take 32 ys, full.0), ap (λ (p : ℕ × ℕ). p.0) (sym (get_or-take 32 ys 31 (0, 0) (omega arith)) ∙ ap (λ (ps : List (ℕ × ℕ)). get_or ps 31 (0, 0)) (sym is)) ∙ full.1)

-- what is behind it, rising and falling
pub rising_more : (look : LookFacts) (at last : ℕ) (items : List (ℕ × ℕ)) → items ≡ take 32 (members_from (set_of_look look) at) → Some last ≡ (if length items == 32 then Some (slice_index_or items 31 (0, 0)).0 else None) → members_from (set_of_look look) (last + 1) ≡ drop 32 (members_from (set_of_look look) at)
rising_more look at last items is full =
    let there = last_of_page (members_from (set_of_look look) at) items last is (last_is items last full) in
    from_behind (set_of_look look) at last 31 (rises_in look) there.0 there.1

pub falling_more : (look : LookFacts) (at : ℕ) (items : List (ℕ × ℕ)) (next : Option ℕ) → items ≡ take 32 (reverse (members_below (set_of_look look) at)) → next ≡ (if length items == 32 then Some (slice_index_or items 31 (0, 0)).0 else None)
    → IfSome next (λ k. reverse (members_below (set_of_look look) k) ≡ drop 32 (reverse (members_below (set_of_look look) at)))
falling_more look at items None is full = tt
falling_more look at items (Some last) is full =
    let there = last_of_page (reverse (members_below (set_of_look look) at)) items last is (last_is items last full) in
    below_behind (set_of_look look) at last 31 (rises_in look) (omega (arith, there.0, length-reverse (members_below (set_of_look look) at))) there.1

-- what holds of a page behind which there is none
pub at_none : (next : Option ℕ) (P : Type 0) → next ≡ None → IfNone next P → P
at_none None P is h = h
at_none (Some k) P is h = absurd cc

pub at_some : (next : Option ℕ) (k : ℕ) (P : ℕ → Type 0) → next ≡ Some k → IfSome next P → P k
at_some None k P is h = absurd cc
at_some (Some n) k P is h = let same : n ≡ k = cc in subst P same h

-- lists of keys and of weights
pub both_listed : (members : SetFacts → List (ℕ × ℕ)) (keys keys_after weights weights_after : List ℕ) (old new : LookFacts) (code said : ℤ) → length weights ≡ length keys → said ≡ code → ListsKeys members keys keys_after old new code
    → ListsMembers (weights_of (members (set_of_look old))) weights weights_after (min (length weights) (length (members (set_of_look old)))) → ListsBoth members keys keys_after weights weights_after old new said
both_listed members keys keys_after weights weights_after old new code said same says listed rest =
    let list = members (set_of_look old) in
    let counts = listed.lists.counts in
    let count : min (length weights) (length list) ≡ listed.count = ap (λ (n : ℕ). min n (length list)) same ∙ ap (min (length keys)) (sym (length-map list (λ (p : ℕ × ℕ). p.0))) ∙ sym counts in
    record {
      bad_length = λ other. absurd (other same);
      lists = λ _. (record { count = listed.count; says = says ∙ listed.says; lists = listed.lists; most = listed.most; asked = listed.asked }, subst (ListsMembers (weights_of list) weights weights_after) count rest);
    }

min_comm : (a b : ℕ) → min a b ≡ min b a
min_comm a b = omega arith

pub page_more : {X Y : Type 0} (f : X → Y) (none : X) (page : List X) (before now : List Y) (at i : ℕ) (answer : Y) → i < length page → at + i < length before → now ≡ (take at before ++ map f (take i page)) ++ drop (at + i) before → answer ≡ f (get_or page i none)
    → set now (at + i) answer ≡ (take at before ++ map f (take (i + 1) page)) ++ drop (at + (i + 1)) before
page_more {X} {Y} f none page before now at i answer inside room is value =
    let front = take at before ++ map f (take i page) in
    let long : length front ≡ at + i = length-append (take at before) (map f (take i page)) ∙ omega (arith, length-take-le at before (omega (arith, room)), length-map (take i page) f, length-take-le i page (omega (arith, inside))) in
    let next : at + i + 1 ≡ at + (i + 1) = omega arith in
    let one : map f (take (i + 1) page) ≡ map f (take i page) ++ f (get_or page i none) ∷ [] = ap (map f) (take_more page i none inside) ∙ map-append f (take i page) (get_or page i none ∷ []) in
    ap (λ (xs : List Y). set xs (at + i) answer) is ∙ written_more front before (at + i) answer long room ∙ ap (λ (n : ℕ). (front ++ answer ∷ []) ++ drop n before) next
    ∙ ap (λ (xs : List Y). xs ++ drop (at + (i + 1)) before) (ap (λ (x : Y). front ++ x ∷ []) value ∙ append_assoc (take at before) (map f (take i page)) (f (get_or page i none) ∷ []) ∙ ap (λ (xs : List Y). take at before ++ xs) (sym one))

pub page_all : {X Y : Type 0} (f : X → Y) (page : List X) (before now : List Y) (at i : ℕ) → at < length before → i ≡ min (length page) (length before - at) → now ≡ (take at before ++ map f (take i page)) ++ drop (at + i) before
    → now ≡ take at before ++ (take (length before - at) (map f page) ++ drop (at + length page) before)
page_all {X} {Y} f page before now at i room is written =
    let left = length before - at in
    let some : map f (take i page) ≡ take left (map f page) = ap (λ (n : ℕ). map f (take n page)) (is ∙ min_comm (length page) left) ∙ sym (take-map f (min left (length page)) page) ∙ ap (λ (n : ℕ). take (min left n) (map f page)) (sym (length-map page f)) ∙ take_min left (map f page) in
    let rest : drop (at + i) before ≡ drop (at + length page) before = elim (cases_lt (length page) left) [
      | inl less ↦ let same : i ≡ length page = omega (arith, is, less) in ap (λ (n : ℕ). drop (at + n) before) same
      | inr full ↦ drop_all (at + i) before (omega (arith, is, full, room)) ∙ sym (drop_all (at + length page) before (omega (arith, full, room)))
    ] in
    written ∙ append_assoc (take at before) (map f (take i page)) (drop (at + i) before) ∙ ap (λ (xs : List Y). take at before ++ (xs ++ drop (at + i) before)) some ∙ ap (λ (xs : List Y). take at before ++ (take left (map f page) ++ xs)) rest
