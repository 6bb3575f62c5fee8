-- Each step of a lock keeps its rule.
use Rattle.std.proofs.Common.{◌≡◌, ◌≢◌, ℕ, zero, suc, ◌+◌, ◌<◌, List, [], ◌∷◌, ◌++◌, map, get_or, set, sym, refl, ap, ◌∙◌, subst, eqb, ⊎_elim, arith, length-set, get_or-set_same}
use Rattle.std.specs.Prelude.{Option, Some, None, unwrap_or, IfSome}
use mathlib.Core.Logic.{dite}
use mathlib.Core.Option.{some, none, some-injective, some-ne-none}
use mathlib.Core.List.{map-append}
use native.Mathlib.Decide.{ℕ_discrete}
use lib.ListN.{get_elem?}
use lib.Seq.{map-set}
use Rattle.atomic_table.specs.Table.{State, step, keeps, takes, gives, stepped, homes_after, Allows, Splits, Joins}
use Rattle.ruled_lock.specs.declared.holding.Holding.{Holding}
use Rattle.ruled_lock.specs.Locks.{Learns, TurnsAt, Forks, Meets}
use Rattle.ruled_lock.specs.inside.LockState.{KnowsValue, client, IsLocked, LockSeat, doing, idle, tried, gave}
use Rattle.atomic_table.proofs.Lists.{at_set, set_again, set_here, set_else, at_longer, at_snoc, at_map, exchanged}
use prog.Atomic.{either}

in_slot : {T : Type 0} → T → List (ℕ × Option T) → T
in_slot y [] = y
in_slot y (x ∷ xs) = unwrap_or x.1 y

-- what is put in the place of an element stands there
replaced : {A : Type 0} (l : List A) (i : ℕ) (a b : A) → get_elem? l i ≡ some a → get_elem? (set l i b) i ≡ some b
replaced [] i a b e = absurd (some-ne-none a (sym e))
replaced (x ∷ xs) zero a b e = refl
replaced (x ∷ xs) (suc i) a b e = replaced xs i a b e

-- an exchange of 0 for 1 leaves no 0
pub not_free : (n : ℕ) → 0 < either (eqb n 0) 1 n
not_free n = exchanged n 0 1 (λ k. 0 < k) (λ _. omega arith) (λ ne. omega arith)

module _ {T V : Type 0} (holds : T → List V → Type 0) where
  abbrev D : Type 0
  D = Holding T V

  abbrev St : Type 0
  St = State (Option T) D

  abbrev M : Type 0
  M = LockSeat T V

  abbrev Rule : St → Type 0
  Rule = IsLocked holds

  abbrev word : St → ℕ
  word s = get_or s.words 16 0

  same_clients : (x : T) (vs : List D) (me : ℕ) (v w : D) → get_elem? vs me ≡ some v → w.client ≡ v.client → holds x (map client vs) → holds x (map client (set vs me w))
  same_clients x vs me v w at e = subst (holds x) (sym (map-set client vs me w ∙ (ap (set (map client vs) me) e ∙ set_again (map client vs) me v.client (at_map client vs me v at))))

  seats_stay : (K : ℕ → Option T → Type 0) (vs : List D) (me : ℕ) (w : D) → K me w.taken → ((j : ℕ) (d : D) → j ≢ me → get_elem? vs j ≡ some d → K j d.taken)
      → (j : ℕ) (d : D) → get_elem? (set vs me w) j ≡ some d → K j d.taken
  seats_stay K vs me w mine others j d e = ⊎_elim (λ (t : (j ≡ me) × (w ≡ d)). subst (λ (x : ℕ × D). K x.0 x.1.taken) (λ i. (sym t.0 i, t.1 i)) mine)
      (λ (t : (j ≢ me) × (get_elem? vs j ≡ some d)). others j d t.0 t.1) (at_set vs me j w d e)

  -- where the word is 0 no seat has taken anything
  none_taken : (value : T) (holder j n : ℕ) → n ≡ 0 → (o : Option T) → KnowsValue n value holder j o → (n' : ℕ) (value' : T) (holder' : ℕ) → KnowsValue n' value' holder' j o
  none_taken value holder j n z None k n' value' holder' = tt
  none_taken value holder j n z (Some t) k n' value' holder' = let p = k.0 in absurd (omega arith)

  -- where another seat has it, no further one has taken anything
  others_none : (value : T) (holder j n : ℕ) → j ≢ holder → (o : Option T) → KnowsValue n value holder j o → (n' : ℕ) (value' : T) (holder' : ℕ) → KnowsValue n' value' holder' j o
  others_none value holder j n other None k n' value' holder' = tt
  others_none value holder j n other (Some t) k n' value' holder' = absurd (other k.1)

  still_out : (value : T) (holder j n n' : ℕ) → 0 < n' → (o : Option T) → KnowsValue n value holder j o → KnowsValue n' value holder j o
  still_out value holder j n n' p None k = tt
  still_out value holder j n n' p (Some t) k = (p, k.1, k.2)

  module _ (fact : V → T → Type 0) where
    hits : (s : St) (r : Rule s) (n id : ℕ) (v : V) (d : D) → get_elem? s.views id ≡ some d → d.client ≡ v → word s ≡ 0 → 0 < n → Rule (stepped s 16 n id [] (doing (Some r.value) d.missed v) (takes 8 (Some r.value)))
    hits s r n id v d at e z p = let wide = r.wide in let now : get_or (set s.words 16 n) 16 0 ≡ n = get_or-set_same s.words 16 n 0 (omega arith) in record {
      value = r.value;
      holder = id;
      wide = length-set s.words 16 n ∙ wide;
      at_home = λ free. absurd (omega arith);
      held = λ _. (doing (Some r.value) d.missed v, replaced s.views id d (doing (Some r.value) d.missed v) at, refl);
      each_seat = subst (λ (k : ℕ). (j : ℕ) (e : D) → get_elem? (set s.views id (doing (Some r.value) d.missed v)) j ≡ some e → KnowsValue k r.value id j e.taken) (sym now)
          (seats_stay (λ j o. KnowsValue n r.value id j o) s.views id (doing (Some r.value) d.missed v) (p, refl, refl) (λ j e other there. none_taken r.value r.holder j (word s) z e.taken (r.each_seat j e there) n r.value id));
      kept = same_clients r.value s.views id d (doing (Some r.value) d.missed v) at (sym e) r.kept;
    }

    -- the seat's view after a try that missed
    abbrev more : D → D
    more d = doing d.taken (d.missed + 1) d.client

    misses : (s : St) (r : Rule s) (n id : ℕ) (cs : List (ℕ × Option T)) (d : D) → get_elem? s.views id ≡ some d → word s ≢ 0 → 0 < n → Rule (stepped s 16 n id cs (more d) keeps)
    misses s r n id cs d at z p = let wide = r.wide in let now : get_or (set s.words 16 n) 16 0 ≡ n = get_or-set_same s.words 16 n 0 (omega arith) in record {
      value = r.value;
      holder = r.holder;
      wide = length-set s.words 16 n ∙ wide;
      at_home = λ free. absurd (omega arith);
      held = λ _. let h = r.held (omega arith) in dite (ℕ_discrete r.holder id)
          (λ same. (
            more d,
            subst (λ (k : ℕ). get_elem? (set s.views id (more d)) k ≡ some (more d)) (sym same) (replaced s.views id d (more d) at),
            ap (λ (z : D). z.taken) (some-injective d h.0 (sym at ∙ ap (λ (k : ℕ). get_elem? s.views k) (sym same) ∙ h.1)) ∙ h.2,
          ))
          (λ other. (h.0, set_else s.views id r.holder (more d) other ∙ h.1, h.2));
      each_seat = subst (λ (k : ℕ). (j : ℕ) (e : D) → get_elem? (set s.views id (more d)) j ≡ some e → KnowsValue k r.value r.holder j e.taken) (sym now)
          (seats_stay (λ j o. KnowsValue n r.value r.holder j o) s.views id (more d) (still_out r.value r.holder id (word s) n p d.taken (r.each_seat id d at))
          (λ j e other there. still_out r.value r.holder j (word s) n p e.taken (r.each_seat j e there)));
      kept = same_clients r.value s.views id d (more d) at refl r.kept;
    }

    -- a try: the word becomes some number but 0
    pub tries : (slots id : ℕ) (me : M) (f : ℕ → ℕ) (old new : ℕ) → ((n : ℕ) → 0 < f n) → me.0.taken ≡ None → me.1 ≡ [] → Learns holds id me.0.client fact
        → Allows Rule slots id me 16 f (tried fact (step slots 16 old new none) me)
    tries slots id me f old new up free empty learns s r _ at _ = dite (ℕ_discrete (word s) 0)
        (λ hit. let w : D = doing (Some r.value) me.0.missed me.0.client in (
          w,
          takes 8 (Some r.value),
          r.at_home hit,
          hits s r (f (word s)) id me.0.client me.0 at refl hit (up (word s)),
          ((λ _. (r.value, ap (λ (c : List (ℕ × Option T)). (w, (8, Some r.value) ∷ c)) empty, learns r.value (map client s.views) r.kept (at_map client s.views id me.0 at))), λ not. absurd (not hit)),
        ))
        (λ miss. (more me.0, keeps, tt, misses s r (f (word s)) id me.1 me.0 at miss (up (word s)), ((λ hit. absurd (miss hit)), λ _. refl)))

  module _ (then : V → T → T → V → Type 0) where
    -- the value is put back, and the word becomes 0
    pub puts : (slots id : ℕ) (me : M) (t y : T) → 8 < slots → me.0.taken ≡ Some t → me.1 ≡ (8, Some y) ∷ [] → TurnsAt holds id me.0.client t y then
        → Allows Rule slots id me 16 (λ _. 0) (gave then (step slots 16 0 0 none) me)
    unfolding in_slot
    puts slots id me t y room took has asked s r homes at _ = let known = subst (KnowsValue (word s) r.value r.holder id) took (r.each_seat id me.0 at) in
        let turn = asked (map client s.views) (subst (λ (x : T). holds x (map client s.views)) (sym known.2) r.kept) (at_map client s.views id me.0 at) in
        let w : D = doing None me.0.missed turn.0 in let wide = r.wide in let now : get_or (set s.words 16 0) 16 0 ≡ 0 = get_or-set_same s.words 16 0 0 (omega arith) in (
          w,
          gives,
          tt,
          record {
            value = y;
            holder = id;
            wide = length-set s.words 16 0 ∙ wide;
            at_home = λ _. subst (λ (c : List (ℕ × Option T)). get_elem? (homes_after s.homes c gives) 8 ≡ some (some (Some y))) (sym has) (set_here s.homes 8 (some (Some y)) (omega arith));
            held = λ out. absurd (omega arith);
            each_seat = seats_stay (λ j o. KnowsValue (get_or (set s.words 16 0) 16 0) y id j o) s.views id w tt
                (λ j d other there. others_none r.value r.holder j (word s) (λ same. other (same ∙ sym known.1)) d.taken (r.each_seat j d there) (get_or (set s.words 16 0) 16 0) y id);
            kept = subst (holds y) (sym (map-set client s.views id w)) turn.1;
          },
          (
            refl,
            refl,
            λ t' y' took' has'. let a = ap (λ o. unwrap_or o t) (sym took ∙ took') in let b = ap (in_slot y) (sym has ∙ has') in subst (λ (z : T × T). then me.0.client z.0 z.1 turn.0) (λ i. (a i, b i)) turn.2,
          ),
        )

  pub cuts : (id : ℕ) (d : D) (left right : V) → Forks holds id d.client left right → Splits Rule id d (doing d.taken d.missed left) (idle right)
  cuts id d left right asked s r at = let w : D = doing d.taken d.missed left in record {
    value = r.value;
    holder = r.holder;
    wide = r.wide;
    at_home = r.at_home;
    held = λ out. let h = r.held out in dite (ℕ_discrete r.holder id)
        (λ same. (
          w,
          at_longer (set s.views id w) (idle right ∷ []) r.holder w (subst (λ (k : ℕ). get_elem? (set s.views id w) k ≡ some w) (sym same) (replaced s.views id d w at)),
          ap (λ (z : D). z.taken) (some-injective d h.0 (sym at ∙ ap (λ (k : ℕ). get_elem? s.views k) (sym same) ∙ h.1)) ∙ h.2,
        ))
        (λ other. (h.0, at_longer (set s.views id w) (idle right ∷ []) r.holder h.0 (set_else s.views id r.holder w other ∙ h.1), h.2));
    each_seat = λ j e p. ⊎_elim (seats_stay (λ j o. KnowsValue (word s) r.value r.holder j o) s.views id w (r.each_seat id d at) (λ i x _. r.each_seat i x) j e)
        (λ (t : idle right ≡ e). subst (λ (z : D). KnowsValue (word s) r.value r.holder j z.taken) t tt) (at_snoc (set s.views id w) (idle right) e j p);
    kept = subst (holds r.value) (sym (map-append client (set s.views id w) (idle right ∷ []) ∙ ap (λ l. l ++ right ∷ []) (map-set client s.views id w)))
        (asked r.value (map client s.views) r.kept (at_map client s.views id d at));
  }

  -- a seat that has taken nothing is not the holder while the value is out
  not_holder : (s : St) (r : Rule s) (j : ℕ) (e : D) → get_elem? s.views j ≡ some e → e.taken ≡ None → 0 < word s → r.holder ≢ j
  not_holder s r j e there free out is = let h = r.held out in
      let same : e ≡ h.0 = some-injective e h.0 (sym there ∙ ap (λ (k : ℕ). get_elem? s.views k) (sym is) ∙ h.1) in
      subst (λ (o : Option T). IfSome o (λ _. ⊥)) (sym free ∙ ap (λ (z : D). z.taken) same ∙ h.2) tt

  -- a seat takes in the view of another, which has taken nothing and is spent then
  pub joins : (id : ℕ) (d : D) (other : ℕ) (e : D) (both spent : V) → Meets holds id d.client other e.client both spent → e.taken ≡ None
      → Joins Rule id d other e (doing d.taken d.missed both) (idle spent)
  joins id d other e both spent asked free s r at apart there = let w : D = doing d.taken d.missed both in let joined : List D = set s.views id w in
      let before : get_elem? s.views other ≡ some e = sym (set_else s.views id other w apart) ∙ there in record {
        value = r.value;
        holder = r.holder;
        wide = r.wide;
        at_home = r.at_home;
        held = λ out. let h = r.held out in let still = set_else joined other r.holder (idle spent) (not_holder s r other e before free out) in dite (ℕ_discrete r.holder id)
            (λ same. (
              w,
              still ∙ subst (λ (k : ℕ). get_elem? joined k ≡ some w) (sym same) (replaced s.views id d w at),
              ap (λ (z : D). z.taken) (some-injective d h.0 (sym at ∙ ap (λ (k : ℕ). get_elem? s.views k) (sym same) ∙ h.1)) ∙ h.2,
            ))
            (λ third. (h.0, still ∙ set_else s.views id r.holder w third ∙ h.1, h.2));
        each_seat = seats_stay (λ j o. KnowsValue (word s) r.value r.holder j o) joined other (idle spent) tt
            (λ j x _. seats_stay (λ i o. KnowsValue (word s) r.value r.holder i o) s.views id w (r.each_seat id d at) (λ i y _. r.each_seat i y) j x);
        kept = subst (holds r.value) (sym (map-set client joined other (idle spent) ∙ ap (λ l. set l other spent) (map-set client s.views id w)))
            (asked r.value (map client s.views) r.kept (at_map client s.views id d at) apart (at_map client s.views other e before));
      }
