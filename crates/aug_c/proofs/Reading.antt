-- What a look answers for one key after another.
use Rattle.std.proofs.Common.{◌≡◌, ◌+◌, ◌-◌, ◌<◌, ◌≤◌, ◌++◌, ◌∙◌, ℕ, List, [], ◌∷◌, length, map, take, drop, get_or, set, refl, sym, ap, subst, arith}
use Rattle.std.proofs.lemmas.List.{map-append, take_more, drop_more, append_assoc, set-append_right, length-map, length-set, length-take-le}
use Rattle.aug_c.specs.Codes as codes
use Rattle.aug_model.specs.declared.summary.Summary.{Summary}
use Rattle.aug_model.specs.Keys.{SetFacts}
use Rattle.aug_core.proofs.PrefixLemmas.{prefix_refl, prefix_trans}
use Rattle.aug_trie.specs.Pass.{PassFacts}
use Rattle.aug_trie.specs.Node.{Keeps, Reads}
use Rattle.aug_live.specs.LiveHandles.{LookFacts, IsAsked, set_of_look}
use Rattle.aug_c.specs.ArrayCalls.{AnswersArray}
use Rattle.aug_c.specs.UserCalls.{span_of}

module _ {A B : Type 0} (summary_of : List (ℕ × ℕ) → Summary A B) where
  keeps_self : (p : PassFacts) → Keeps summary_of p p
  keeps_self p = record { snapshots = λ s h. h; same_cuts = λ s h. refl; same_sets = λ s h. refl; nodes = λ n h. h; weights = λ k i w h. h }

  keeps_on : (p q r : PassFacts) → Keeps summary_of p q → Keeps summary_of q r → Keeps summary_of p r
  keeps_on p q r a b = record {
    snapshots = λ s h. b.snapshots s (a.snapshots s h);
    same_cuts = λ s h. b.same_cuts s (a.snapshots s h) ∙ a.same_cuts s h;
    same_sets = λ s h. b.same_sets s (a.snapshots s h) ∙ a.same_sets s h;
    nodes = λ n h. b.nodes n (a.nodes n h);
    weights = λ k i w h. b.weights k i w (a.weights k i w h);
  }

  reads_none : (p : PassFacts) → Reads summary_of 0 p p
  reads_none p = record {
    stays = record { same = refl; steps_stay = prefix_refl p.steps; keeps = keeps_self p };
    few_steps = omega arith;
  }

  reads_on : (few most : ℕ) (p q r : PassFacts) → Reads summary_of few p q → Reads summary_of most q r → Reads summary_of (few + most) p r
  reads_on few most p q r a b = let s = a.stays in let t = b.stays in let e = a.few_steps in let f = b.few_steps in record {
    stays = record {
      same = t.same ∙ ap (λ (z : PassFacts). record z { steps = r.steps; words = r.words }) s.same;
      steps_stay = prefix_trans p.steps q.steps r.steps s.steps_stay t.steps_stay;
      keeps = keeps_on p q r s.keeps t.keeps;
    };
    few_steps = omega (arith, e, f);
  }

  -- a look that was not asked, and one that was asked twice
  pub asked_none : (a : LookFacts) → IsAsked summary_of 0 a a
  asked_none a = record { same = refl; same_set = refl; same_before = refl; reads = reads_none a.reader }

  pub asked_on : (few most : ℕ) (a b c : LookFacts) → IsAsked summary_of few a b → IsAsked summary_of most b c → IsAsked summary_of (few + most) a c
  asked_on few most a b c x y = record {
    same = y.same ∙ ap (λ (z : LookFacts). record z { reader = c.reader }) x.same;
    same_set = y.same_set ∙ x.same_set;
    same_before = y.same_before ∙ x.same_before;
    reads = reads_on few most a.reader b.reader c.reader x.reads y.reads;
  }

-- one more place of a list is written, where the first ones were
pub written_more : {X : Type 0} (first before : List X) (i : ℕ) (answer : X) → length first ≡ i → i < length before
    → set (first ++ drop i before) i answer ≡ (first ++ answer ∷ []) ++ drop (i + 1) before
written_more {X} first before i answer long room =
    let place : i - i ≡ 0 = omega arith in
    set-append_right first (drop i before) i i answer long (omega arith)
    ∙ ap (λ (ys : List X). first ++ ys) (ap (λ (n : ℕ). set (drop i before) n answer) place ∙ ap (λ (ys : List X). set ys 0 answer) (drop_more before i answer room))
    ∙ sym (append_assoc first (answer ∷ []) (drop (i + 1) before))

-- where there is room for four answers there still is after some of them were written
module _ {X : Type 0} (out before : List X) (keys : List ℕ) (i : ℕ) (four : 4 ≤ length keys - i) (room : length keys ≤ length before) (long : length out ≡ length before) where
  pub second_place : (p : X) → i + 1 < length (set out i p)
  second_place p = omega (arith, four, room, long, length-set out i p)

module _ {X : Type 0} (told : SetFacts → ℕ → X) (keys : List ℕ) (before : List X) (first : LookFacts) where
  -- so many of the keys were asked for: the first places tell of them, and the others are as they were
  pub record Asked (i : ℕ) (now : LookFacts) (out : List X) : Type 0 where
    pub written : out ≡ map (told (set_of_look first)) (take i keys) ++ drop i before
    pub most : ℕ
    pub asked : IsAsked span_of most first now

  pub one_asked : (i most : ℕ) (now next : LookFacts) (out : List X) (answer : X) → i < length keys → length keys ≤ length before → Asked i now out → answer ≡ told (set_of_look now) (get_or keys i 0)
      → IsAsked span_of most now next → Asked (i + 1) next (set out i answer)
  one_asked i most now next out answer within room a is asked =
      let tells = told (set_of_look first) in
      let fresh : answer ≡ tells (get_or keys i 0) = is ∙ ap (λ (s : SetFacts). told s (get_or keys i 0)) a.asked.same_set in
      let long : length (map tells (take i keys)) ≡ i = length-map (take i keys) tells ∙ length-take-le i keys (omega (arith, within)) in
      let one : map tells (take (i + 1) keys) ≡ map tells (take i keys) ++ tells (get_or keys i 0) ∷ [] = ap (map tells) (take_more keys i 0 within) ∙ map-append tells (take i keys) (get_or keys i 0 ∷ []) in record {
        written = ap (λ (xs : List X). set xs i answer) a.written ∙ written_more (map tells (take i keys)) before i answer long (omega (arith, within, room))
            ∙ ap (λ (x : X). (map tells (take i keys) ++ x ∷ []) ++ drop (i + 1) before) fresh ∙ ap (λ (xs : List X). xs ++ drop (i + 1) before) (sym one);
        most = a.most + most;
        asked = asked_on span_of a.most most first now next a.asked asked;
      }

  -- four more, by one query
  pub four_asked : (i most : ℕ) (now next : LookFacts) (out : List X) (p q r s : X) → i + 4 ≤ length keys → length keys ≤ length before → Asked i now out
      → p ≡ told (set_of_look now) (get_or keys i 0) → q ≡ told (set_of_look now) (get_or keys (i + 1) 0) → r ≡ told (set_of_look now) (get_or keys (i + 2) 0) → s ≡ told (set_of_look now) (get_or keys (i + 3) 0)
      → IsAsked span_of most now next → Asked (i + 4) next (set (set (set (set out i p) (i + 1) q) (i + 2) r) (i + 3) s)
  four_asked i most now next out p q r s within room a ep eq er es asked =
      let first = one_asked i most now next out p (omega (arith, within)) room a ep asked in
      let stays = λ (k : ℕ). ap (λ (z : SetFacts). told z (get_or keys k 0)) (sym asked.same_set) in
      let second = one_asked (i + 1) 0 next next (set out i p) q (omega (arith, within)) room first (eq ∙ stays (i + 1)) (asked_none span_of next) in
      let two : i + 1 + 1 ≡ i + 2 = omega arith in let three : i + 2 + 1 ≡ i + 3 = omega arith in let four : i + 3 + 1 ≡ i + 4 = omega arith in
      let third = one_asked (i + 2) 0 next next (set (set out i p) (i + 1) q) r (omega (arith, within)) room (subst (λ (n : ℕ). Asked n next (set (set out i p) (i + 1) q)) two second) (er ∙ stays (i + 2)) (asked_none span_of next) in
      let fourth = one_asked (i + 3) 0 next next (set (set (set out i p) (i + 1) q) (i + 2) r) s (omega (arith, within)) room (subst (λ (n : ℕ). Asked n next (set (set (set out i p) (i + 1) q) (i + 2) r)) three third) (es ∙ stays (i + 3)) (asked_none span_of next) in
      subst (λ (n : ℕ). Asked n next (set (set (set (set out i p) (i + 1) q) (i + 2) r) (i + 3) s)) four fourth

  -- there is no room for the answers
  pub no_room : length before < length keys → AnswersArray told keys before before first first codes.bad_length
  no_room less = record { bad_length = λ _. (refl, refl, refl); answers = λ room. absurd (omega (arith, less, room)) }
