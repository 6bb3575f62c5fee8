-- Each step on the lock of a lane keeps its rule.
use Rattle.std.proofs.Common.{◌≡◌, ◌≢◌, ◌⊎◌, inl, inr, ℕ, suc, ◌<◌, List, [], ◌∷◌, ◌++◌, length, set, true, false, sym, refl, ap, ◌∙◌, subst, ⊎_elim, arith, zero, append_assoc}
use Rattle.std.specs.Prelude.{Option, Some, None, IfSome, IsSome, unwrap_or, drop}
use Rattle.std.proofs.lemmas.Bool.{false≢true}
use Rattle.std.proofs.lemmas.List.{append-nil}
use mathlib.Core.Option.{some, some-injective, some-ne-none}
use lib.ListN.{get_elem?}
use Rattle.atomic_table.proofs.Lists.{at_set}
use Rattle.atomic_table.specs.Seated.{TableId}
use Rattle.ruled_lock.specs.Locks.{Learns, Forks, Meets, TurnsAt}
use Rattle.aug_trie.specs.Round.{table_of}
use Rattle.aug_live.specs.Ledgers.{Made, dated}
use Rattle.aug_live.specs.LiveHandles.{HandleFacts, Follows, added}
use Rattle.aug_live.specs.LiveTries.{Done, made_through}
use Rattle.aug_live.specs.inside.LaneKnowledge.{LaneFacts, KnownFacts, Beside, IsWhole, KnowsLane, Learnt, OutFacts, Rolls, Ties, Worked, dealt, done_if, done_with, given_out, handed, knows_nothing, left, made_at, passed_by, renumbered, rolls, settled, taken_by, taken_in, worked}
use Rattle.aug_live.specs.declared.known.Whose.{Whose}
use Rattle.aug_live.specs.declared.known.Whose.TheVariants.{Alone, Roller, Free, Idle, Handle, Gone}
use Rattle.aug_live.proofs.Carries.{follows_self, follows_on}
use Rattle.aug_live.proofs.Adding.{made_through-one, more_made, none_made}
use Rattle.aug_live.proofs.Ledgers.{drop-front}

-- an element of a list with one more at its end, with its place
pub snoc_at : {A : Type 0} (l : List A) (a b : A) (j : ℕ) → get_elem? (l ++ a ∷ []) j ≡ some b → (get_elem? l j ≡ some b) ⊎ ((j ≡ length l) × (a ≡ b))
snoc_at [] a b zero e = inr (refl, some-injective a b e)
snoc_at [] a b (suc j) e = absurd (some-ne-none b (sym e))
snoc_at (x ∷ xs) a b zero e = inl e
snoc_at (x ∷ xs) a b (suc j) e = ⊎_elim (λ h. inl h) (λ h. inr (ap suc h.0, h.1)) (snoc_at xs a b j e)

-- a pass is not the roller's and a handle's
two_ways : (x : Whose) → x ≡ Handle → rolls x ≡ true → ⊥
two_ways x handle roller = false≢true (sym (ap rolls handle) ∙ roller)

only : (j : ℕ) (v w : KnownFacts) → get_elem? (w ∷ []) j ≡ some v → (j ≡ 0) × (w ≡ v)
only zero v w at = (refl, some-injective w v at)
only (suc j) v w at = absurd (some-ne-none v (sym at))

-- a pass that knows nothing
module _ (before : List Made) (lane : LaneFacts) where
  alone_knows : lane.number ≡ 0 → KnowsLane (knows_nothing Alone) before lane
  alone_knows none = record {
    as_roller = λ _ more. absurd (omega arith);
    as_handle = λ e. let clash : Alone ≡ Handle = e in cc;
    not_newer = λ e. let clash : Alone ≡ Handle = e in cc;
    unopened = λ _ _. none;
  }

  gone_knows : KnowsLane (knows_nothing Gone) before lane
  gone_knows = record {
    as_roller = λ e. let clash : false ≡ true = e in cc;
    as_handle = λ e. let clash : Gone ≡ Handle = e in cc;
    not_newer = λ e. let clash : Gone ≡ Handle = e in cc;
    unopened = λ e. let clash : Gone ≡ Alone = e in cc;
  }

beside_gone : (x : KnownFacts) → Beside x (knows_nothing Gone) × Beside (knows_nothing Gone) x
beside_gone x = (
  record { one_roller = λ _ e. let clash : false ≡ true = e in cc; out = λ _ e. let clash : Gone ≡ Handle = e in cc; apart = λ _ e. let clash : Gone ≡ Handle = e in cc },
  record { one_roller = λ e. let clash : false ≡ true = e in cc; out = λ e. let clash : false ≡ true = e in cc; apart = λ e. let clash : Gone ≡ Handle = e in cc },
)

-- the lane at the start, of which its first pass knows nothing
pub opens : (lane : LaneFacts) → lane.number ≡ 0 → Ties lane (knows_nothing Alone ∷ [])
opens lane none = record {
  before = [];
  pairs = λ i j v w apart a b. absurd (apart ((only i v (knows_nothing Alone) a).0 ∙ sym (only j w (knows_nothing Alone) b).0));
  known = λ j v at. subst (λ (z : KnownFacts). KnowsLane z [] lane) (only j v (knows_nothing Alone) at).1 (alone_knows [] lane none);
}

pub learns : (id : ℕ) (v : KnownFacts) → Learns Ties id v Learnt
learns id v lane views t at = record { before = t.before; knows = t.known id v at }

-- the roller learns that the lane is as it knows, and what was made with the passes that are back
pub rolls_on : (v : KnownFacts) (lane : LaneFacts) → Learnt v lane → rolls v.whose ≡ true → 0 < v.at.era → Rolls v v.before lane
rolls_on v lane learnt roller begun = let r = learnt.knows.as_roller roller begun in subst (λ (z : List Made). Rolls v z lane) r.before_is r

-- what a pass knows that put a lane back
pub put_back : (w : KnownFacts) (f : LaneFacts → KnownFacts) (o : Option LaneFacts) (old : LaneFacts) → o ≡ Some old → IfSome o (λ t. w ≡ f t) → w ≡ f old
put_back w f o old is then = subst (λ (z : Option LaneFacts). IfSome z (λ t. w ≡ f t)) is then

-- all handles of a lane are done, with its last one
whole_if : (x : Whose) (done : List Done) (all own : List Made) → (x ≢ Roller → own ≡ []) → all ≡ made_through done ++ own → all ≡ made_through (done_if x done (drop (length (made_through done)) all))
whole_if Roller done all own none is = is ∙ ap (λ (z : List Made). made_through done ++ z) (sym (ap (drop (length (made_through done))) is ∙ drop-front (made_through done) own)) ∙ sym (made_through-one done (false, drop (length (made_through done)) all))
whole_if Alone done all own none is = is ∙ ap (λ (z : List Made). made_through done ++ z) (none (λ e. let clash : Alone ≡ Roller = e in cc)) ∙ append-nil (made_through done)
whole_if Free done all own none is = is ∙ ap (λ (z : List Made). made_through done ++ z) (none (λ e. let clash : Free ≡ Roller = e in cc)) ∙ append-nil (made_through done)
whole_if Idle done all own none is = is ∙ ap (λ (z : List Made). made_through done ++ z) (none (λ e. let clash : Idle ≡ Roller = e in cc)) ∙ append-nil (made_through done)
whole_if Handle done all own none is = is ∙ ap (λ (z : List Made). made_through done ++ z) (none (λ e. let clash : Handle ≡ Roller = e in cc)) ∙ append-nil (made_through done)
whole_if Gone done all own none is = is ∙ ap (λ (z : List Made). made_through done ++ z) (none (λ e. let clash : Gone ≡ Roller = e in cc)) ∙ append-nil (made_through done)

pub done_whole : (v : KnownFacts) (at : HandleFacts) → IsWhole v at → made_at v.before at ≡ made_through (done_with v at)
done_whole v at is = whole_if v.whose v.done (made_at v.before at) is.own is.none_out is.whole

module _ (id : ℕ) (v : KnownFacts) (old new : LaneFacts) (views : List KnownFacts) (t : Ties old views) (at : get_elem? views id ≡ some v) where
  -- a pass puts a lane back, and knows w then: it is beside each other pass, which goes on to know the lane
  turns : (before : List Made) (w : KnownFacts) → KnowsLane w before new
      → ((x : KnownFacts) → Beside x v → Beside v x → KnowsLane x t.before old → KnowsLane x before new × Beside x w × Beside w x) → Ties new (set views id w)
  turns before w mine others =
      let cases = λ (j : ℕ) (x : KnownFacts) (there : get_elem? (set views id w) j ≡ some x). at_set views id j w x there in
      let other = λ (j : ℕ) (x : KnownFacts) (ne : j ≢ id) (there : get_elem? views j ≡ some x). others x (t.pairs j id x v ne there at) (t.pairs id j v x (λ e. ne (sym e)) at there) (t.known j x there) in record {
        before = before;
        pairs = λ i j x y apart a b. ⊎_elim
            (λ h. ⊎_elim (λ k. absurd (apart (h.0 ∙ sym k.0))) (λ k. subst (λ (z : KnownFacts). Beside z y) h.1 (other j y k.0 k.1).2) (cases j y b))
            (λ h. ⊎_elim (λ k. subst (λ (z : KnownFacts). Beside x z) k.1 (other i x h.0 h.1).1) (λ k. t.pairs i j x y apart h.1 k.1) (cases j y b))
            (cases i x a);
        known = λ j x there. ⊎_elim (λ h. subst (λ (z : KnownFacts). KnowsLane z before new) h.1 mine) (λ h. (other j x h.0 h.1).0) (cases j x there);
      }

  abbrev Goal : (KnownFacts → Type 0) → Type 0
  Goal then = (w : KnownFacts) × Ties new (set views id w) × then w

  -- the lane is put back as it was
  pub keeps : new ≡ old → Goal (λ w. w ≡ v)
  keeps same = (v, turns t.before v (subst (KnowsLane v t.before) (sym same) (t.known id v at)) (λ x one two k. (subst (KnowsLane x t.before) (sym same) k, one, two)), refl)

  -- a handle puts it back so that found a newer one there
  pub passes_by : v.whose ≡ Handle → v.number ≢ old.number → new ≡ old → Goal (λ w. w ≡ passed_by v)
  passes_by handle other same = (
    passed_by v,
    turns t.before (passed_by v)
        (subst (KnowsLane (passed_by v) t.before) (sym same) (let k = t.known id v at in record {
          as_roller = λ roller. absurd (two_ways v.whose handle roller);
          as_handle = λ h s. let o = k.as_handle h s in record { follows = o.follows; table = o.table; whole = o.whole; replaced = λ _. other };
          not_newer = k.not_newer;
          unopened = λ a. let clash : Handle ≡ Alone = sym handle ∙ a in cc;
        }))
        (λ x one two k. (
          subst (KnowsLane x t.before) (sym same) k,
          record { one_roller = one.one_roller; out = one.out; apart = one.apart },
          record { one_roller = two.one_roller; out = two.out; apart = two.apart },
        )),
    refl,
  )

  module _ (handle : v.whose ≡ Handle) (begun : 0 < v.at.era) (number : old.number ≡ v.number) (did : Worked old new) where
    -- a handle puts back what it worked on: what the roller goes on to know, and a handle that is no more
    roller_on : (x : KnownFacts) → Beside x v → rolls x.whose ≡ true → Rolls x t.before old → Rolls x t.before new
    roller_on x beside roller o = let both = beside.out roller handle (sym number ∙ o.number) in let more = dated new.at.era (added old.at.half new.at.half) in record {
      era = did.era ∙ o.era;
      number = did.number ∙ o.number;
      round = did.round ∙ o.round;
      works = did.works ∙ o.works;
      half = λ rests. did.at_rest (sym did.works ∙ rests) ∙ o.half (sym did.works ∙ rests);
      idle = λ i. did.is_out ∙ o.idle i;
      out = λ i. did.is_out ∙ o.out i;
      before_is = o.before_is;
      whole = record {
        own = o.whole.own ++ more;
        whole = more_made x.before old.at new.at did.era did.accepts ∙ ap (λ (z : List Made). z ++ more) o.whole.whole ∙ append_assoc (made_through x.done) o.whole.own more;
        none_out = λ other. absurd (other both.0);
      };
      alone = λ a. let clash : Alone ≡ Roller = sym a ∙ both.0 in cc;
    }

    not_mine : (x : KnownFacts) → Beside x v → x.whose ≡ Handle → x.number ≡ new.number → ⊥
    not_mine x beside h same = beside.apart h handle (same ∙ did.number ∙ number)

    mine_on : KnowsLane (worked v old new) t.before new
    mine_on = let k = (t.known id v at).as_handle handle begun in let more = dated new.at.era (added old.at.half new.at.half) in record {
      as_roller = λ roller. absurd (two_ways v.whose handle roller);
      as_handle = λ _ _. record {
        follows = λ _. follows_self new.at;
        table = λ _. refl;
        whole = λ _. more_made t.before old.at new.at did.era did.accepts ∙ ap (λ (z : List Made). z ++ more) (k.whole (sym number)) ∙ append_assoc (made_through v.done) v.made more;
        replaced = λ seen. absurd (k.replaced seen (sym number));
      };
      not_newer = λ _. let is = did.number in omega arith;
      unopened = λ a. let clash : Handle ≡ Alone = sym handle ∙ a in cc;
    }

    pub handle_turns : Goal (λ w. w ≡ worked v old new)
    handle_turns = (
      worked v old new,
      turns t.before (worked v old new) mine_on (λ x one two k. (
        record {
          as_roller = λ r s. roller_on x one r (k.as_roller r s);
          as_handle = λ h s. record { follows = λ n. absurd (not_mine x one h n); table = λ n. absurd (not_mine x one h n); whole = λ n. absurd (not_mine x one h n); replaced = λ _. not_mine x one h };
          not_newer = λ h. let is = did.number in let low = k.not_newer h in omega arith;
          unopened = λ a z. did.number ∙ k.unopened a z;
        },
        record { one_roller = one.one_roller; out = one.out; apart = one.apart },
        record { one_roller = two.one_roller; out = two.out; apart = two.apart },
      )),
      refl,
    )

  module _ (roller : rolls v.whose ≡ true) where
    -- what a handle goes on to know if the lane has the same number
    handle_on : (before : List Made) → new.number ≡ old.number → Follows old.at new.at → table_of new.at.half.round ≡ table_of old.at.half.round → made_at before new.at ≡ made_at t.before old.at → (x : KnownFacts) → Beside x v → KnowsLane x t.before old → KnowsLane x before new
    handle_on before number follows table whole x beside k = record {
      as_roller = λ r. absurd (beside.one_roller r roller);
      as_handle = λ h s. let o = k.as_handle h s in record {
        follows = λ n. follows_on x.at old.at new.at (o.follows (n ∙ number)) follows;
        table = λ n. table ∙ o.table (n ∙ number);
        whole = λ n. whole ∙ o.whole (n ∙ number);
        replaced = λ seen n. o.replaced seen (n ∙ number);
      };
      not_newer = λ h. let low = k.not_newer h in omega arith;
      unopened = λ a. absurd (beside.one_roller (ap rolls a) roller);
    }

    -- what the roller's pass never knows
    no_handle : {X : Type 0} → v.whose ≡ Handle → X
    no_handle h = absurd (two_ways v.whose h roller)

    module _ (begun : 0 < v.at.era) (number : new.number ≡ old.number) (out : new.is_out ≡ old.is_out) where
      -- the roller puts a lane back with the pass that it took, or with none
      pub roller_leaves : new.at ≡ old.at → Goal (λ w. w ≡ left v new)
      roller_leaves same =
          let was = (t.known id v at).as_roller roller begun in
          let follows : Follows old.at new.at = subst (Follows old.at) (sym same) (follows_self old.at) in (
            left v new,
            turns t.before (left v new)
                record {
                  as_roller = λ _ _. record {
                    era = refl;
                    number = number ∙ was.number;
                    round = refl;
                    works = refl;
                    half = λ _. refl;
                    idle = λ i. out ∙ was.idle i;
                    out = λ i. out ∙ was.out i;
                    before_is = was.before_is;
                    whole = record { own = was.whole.own; whole = ap (made_at v.before) same ∙ was.whole.whole; none_out = was.whole.none_out };
                    alone = λ _. refl;
                  };
                  as_handle = λ h. no_handle h;
                  not_newer = λ h. no_handle h;
                  unopened = λ _ none. let era : new.at.era ≡ v.at.era = ap (λ (z : HandleFacts). z.era) same ∙ was.era in absurd (omega arith);
                }
                (λ x one two k. (
                  handle_on t.before number follows (ap (λ (z : HandleFacts). table_of z.half.round) same) (ap (made_at t.before) same) x one k,
                  record { one_roller = one.one_roller; out = one.out; apart = one.apart },
                  record { one_roller = two.one_roller; out = two.out; apart = two.apart },
                )),
            refl,
          )

      -- the roller puts a lane back with a new pass
      pub roller_deals : Follows old.at new.at → table_of new.at.half.round ≡ table_of old.at.half.round → new.at.half.knows.accepted ≡ [] → Goal (λ w. w ≡ dealt v old new)
      roller_deals follows table none =
          let was = (t.known id v at).as_roller roller begun in let before : List Made = made_at t.before old.at in
          let whole : made_at before new.at ≡ made_at t.before old.at = none_made before new.at none in
          let mine : before ≡ made_at v.before old.at = ap (λ (z : List Made). made_at z old.at) was.before_is in (
            dealt v old new,
            turns before (dealt v old new)
                record {
                  as_roller = λ _ _. record {
                    era = refl;
                    number = number ∙ was.number;
                    round = refl;
                    works = refl;
                    half = λ _. refl;
                    idle = λ i. out ∙ was.idle i;
                    out = λ i. out ∙ was.out i;
                    before_is = mine;
                    whole = record { own = was.whole.own; whole = none_made (made_at v.before old.at) new.at none ∙ was.whole.whole; none_out = was.whole.none_out };
                    alone = λ _. refl;
                  };
                  as_handle = λ h. no_handle h;
                  not_newer = λ h. no_handle h;
                  unopened = λ _ zero_era. let later = follows.not_later in let era = was.era in absurd (omega arith);
                }
                (λ x one two k. (
                  handle_on before number follows table whole x one k,
                  record { one_roller = one.one_roller; out = one.out; apart = one.apart },
                  record { one_roller = two.one_roller; out = two.out; apart = two.apart },
                )),
            refl,
          )

    -- the roller gives the lane a number that no handle has
    pub roller_renumbers : old.number < new.number → new.is_out ≡ true → 0 < new.at.era → IsWhole v new.at → Goal (λ w. w ≡ renumbered v new)
    roller_renumbers newer out begun whole =
        let newest = λ (x : KnownFacts) (k : KnowsLane x t.before old) (h : x.whose ≡ Handle) (n : x.number ≡ new.number). let low = k.not_newer h in let never : ⊥ = omega arith in never in (
          renumbered v new,
          turns v.before (renumbered v new)
              record {
                as_roller = λ _ _. record {
                  era = refl;
                  number = refl;
                  round = refl;
                  works = refl;
                  half = λ _. refl;
                  idle = λ e. let clash : Alone ≡ Idle = e in cc;
                  out = λ _. out;
                  before_is = refl;
                  whole = record { own = []; whole = done_whole v new.at whole ∙ sym (append-nil (made_through (done_with v new.at))); none_out = λ _. refl };
                  alone = λ _. refl;
                };
                as_handle = λ e. let clash : Alone ≡ Handle = e in cc;
                not_newer = λ e. let clash : Alone ≡ Handle = e in cc;
                unopened = λ _ none. absurd (omega arith);
              }
              (λ x one two k. (
                record {
                  as_roller = λ r. absurd (one.one_roller r roller);
                  as_handle = λ h s. record { follows = λ n. absurd (newest x k h n); table = λ n. absurd (newest x k h n); whole = λ n. absurd (newest x k h n); replaced = λ _. newest x k h };
                  not_newer = λ h. let low = k.not_newer h in omega arith;
                  unopened = λ a. absurd (one.one_roller (ap rolls a) roller);
                },
                record { one_roller = λ r _. one.one_roller r roller; out = λ _ e. let clash : Alone ≡ Handle = e in cc; apart = λ _ e. let clash : Alone ≡ Handle = e in cc },
                record { one_roller = λ _ r. two.one_roller roller r; out = λ _ h n. absurd (newest x k h n); apart = λ e. let clash : Alone ≡ Handle = e in cc },
              )),
          refl,
        )

  -- the roller marks a lane whose handle's pass it took in
  pub roller_settles : v.whose ≡ Free → 0 < v.at.era → new ≡ record old { is_out = false } → Goal (λ w. w ≡ settled v new)
  roller_settles free begun is =
      let roller : rolls v.whose ≡ true = ap rolls free in let was = (t.known id v at).as_roller roller begun in
      let same : new.at ≡ old.at = ap (λ (z : LaneFacts). z.at) is in let number : new.number ≡ old.number = ap (λ (z : LaneFacts). z.number) is in
      let none : was.whole.own ≡ [] = was.whole.none_out (λ e. let clash : Free ≡ Roller = sym free ∙ e in cc) in
      let follows : Follows old.at new.at = subst (Follows old.at) (sym same) (follows_self old.at) in (
        settled v new,
        turns t.before (settled v new)
            record {
              as_roller = λ _ _. record {
                era = refl;
                number = number ∙ was.number;
                round = refl;
                works = refl;
                half = λ _. refl;
                idle = λ _. ap (λ (z : LaneFacts). z.is_out) is;
                out = λ other. absurd (other refl);
                before_is = was.before_is;
                whole = record { own = was.whole.own; whole = ap (made_at v.before) same ∙ was.whole.whole; none_out = λ _. none };
                alone = λ e. let clash : Idle ≡ Alone = e in cc;
              };
              as_handle = λ e. let clash : Idle ≡ Handle = e in cc;
              not_newer = λ e. let clash : Idle ≡ Handle = e in cc;
              unopened = λ e. let clash : Idle ≡ Alone = e in cc;
            }
            (λ x one two k. (
              handle_on roller t.before number follows (ap (λ (z : HandleFacts). table_of z.half.round) same) (ap (made_at t.before) same) x one k,
              record { one_roller = λ r _. one.one_roller r roller; out = λ _ e. let clash : Idle ≡ Handle = e in cc; apart = λ _ e. let clash : Idle ≡ Handle = e in cc },
              record { one_roller = λ _ r. two.one_roller roller r; out = λ _ h n. let clash : Free ≡ Roller = sym free ∙ (two.out roller h n).0 in cc; apart = λ e. let clash : Idle ≡ Handle = e in cc },
            )),
        refl,
      )

-- the pass that is alone makes a handle's, and becomes the roller's beside that
pub forks : (id : ℕ) (v : KnownFacts) → v.whose ≡ Alone → 0 < v.at.era → Forks Ties id v (given_out v) (handed v)
forks id v first begun lane views t at =
    let l : KnownFacts = given_out v in let r : KnownFacts = handed v in let roller : rolls v.whose ≡ true = ap rolls first in
    let was = (t.known id v at).as_roller roller begun in let none : was.whole.own ≡ [] = was.whole.none_out (λ e. let clash : Alone ≡ Roller = sym first ∙ e in cc) in
    let no_other = λ (x : KnownFacts) (beside : Beside v x) (h : x.whose ≡ Handle) (n : x.number ≡ v.number). let clash : Alone ≡ Roller = sym first ∙ (beside.out roller h n).0 in let never : ⊥ = cc in never in
    let mine : KnowsLane l t.before lane = record {
      as_roller = λ _ _. record {
        era = was.era;
        number = was.number;
        round = was.round;
        works = was.works;
        half = was.half;
        idle = λ e. let clash : Roller ≡ Idle = e in cc;
        out = λ _. was.out (λ e. let clash : Alone ≡ Idle = sym first ∙ e in cc);
        before_is = was.before_is;
        whole = record { own = was.whole.own; whole = was.whole.whole; none_out = λ other. absurd (other refl) };
        alone = λ e. let clash : Roller ≡ Alone = e in cc;
      };
      as_handle = λ e. let clash : Roller ≡ Handle = e in cc;
      not_newer = λ e. let clash : Roller ≡ Handle = e in cc;
      unopened = λ e. let clash : Roller ≡ Alone = e in cc;
    } in
    let theirs : KnowsLane r t.before lane = record {
      as_roller = λ e. let clash : false ≡ true = e in cc;
      as_handle = λ _ _. record {
        follows = λ _. subst (Follows v.at) (sym (was.alone first)) (follows_self v.at);
        table = λ _. ap (λ (z : HandleFacts). table_of z.half.round) (was.alone first);
        whole = λ _. ap (λ (z : List Made). made_at z lane.at) was.before_is ∙ was.whole.whole ∙ ap (λ (z : List Made). made_through v.done ++ z) none;
        replaced = λ e. absurd (false≢true e);
      };
      not_newer = λ _. let is = was.number in omega arith;
      unopened = λ e. let clash : Handle ≡ Alone = e in cc;
    } in
    let at_l = λ (x : KnownFacts) (one : Beside x v) (two : Beside v x). let both : Beside x l × Beside l x = (
      record { one_roller = λ rx _. one.one_roller rx roller; out = λ _ e. let clash : Roller ≡ Handle = e in cc; apart = λ _ e. let clash : Roller ≡ Handle = e in cc },
      record { one_roller = λ _ rx. two.one_roller roller rx; out = λ _ h n. absurd (no_other x two h n); apart = λ e. let clash : Roller ≡ Handle = e in cc },
    ) in both in
    let at_r = λ (x : KnownFacts) (one : Beside x v) (two : Beside v x). let both : Beside x r × Beside r x = (
      record { one_roller = λ _ e. let clash : false ≡ true = e in cc; out = λ rx _ _. absurd (one.one_roller rx roller); apart = λ h _ n. no_other x two h n },
      record { one_roller = λ e. let clash : false ≡ true = e in cc; out = λ e. let clash : false ≡ true = e in cc; apart = λ _ h n. no_other x two h (sym n) },
    ) in both in
    let l_r : Beside l r = record { one_roller = λ _ e. let clash : false ≡ true = e in cc; out = λ _ _ _. (refl, refl); apart = λ e. let clash : Roller ≡ Handle = e in cc } in
    let r_l : Beside r l = record { one_roller = λ e. let clash : false ≡ true = e in cc; out = λ e. let clash : false ≡ true = e in cc; apart = λ _ e. let clash : Roller ≡ Handle = e in cc } in
    let cases = λ (j : ℕ) (x : KnownFacts) (there : get_elem? (set views id l ++ r ∷ []) j ≡ some x). snoc_at (set views id l) r x j there in
    let inner = λ (j : ℕ) (x : KnownFacts) (there : get_elem? (set views id l) j ≡ some x). at_set views id j l x there in
    let pair = λ (j : ℕ) (x : KnownFacts) (ne : j ≢ id) (there : get_elem? views j ≡ some x). let both : Beside x v × Beside v x = (t.pairs j id x v ne there at, t.pairs id j v x (λ e. ne (sym e)) at there) in both in record {
      before = t.before;
      pairs = λ i j x y apart a b. ⊎_elim
          (λ h. ⊎_elim
          (λ k. ⊎_elim
          (λ p. ⊎_elim (λ q. absurd (apart (p.0 ∙ sym q.0))) (λ q. let z = pair j y q.0 q.1 in subst (λ (w : KnownFacts). Beside w y) p.1 (at_l y z.0 z.1).1) (inner j y k))
          (λ p. ⊎_elim (λ q. let z = pair i x p.0 p.1 in subst (λ (w : KnownFacts). Beside x w) q.1 (at_l x z.0 z.1).0) (λ q. t.pairs i j x y apart p.1 q.1) (inner j y k))
          (inner i x h))
          (λ k. ⊎_elim
          (λ p. subst (λ (w : KnownFacts). Beside w y) p.1 (subst (λ (w : KnownFacts). Beside l w) k.1 l_r))
          (λ p. let z = pair i x p.0 p.1 in subst (λ (w : KnownFacts). Beside x w) k.1 (at_r x z.0 z.1).0)
          (inner i x h))
          (cases j y b))
          (λ h. ⊎_elim
          (λ k. ⊎_elim
          (λ q. subst (λ (w : KnownFacts). Beside w y) h.1 (subst (λ (w : KnownFacts). Beside r w) q.1 r_l))
          (λ q. let z = pair j y q.0 q.1 in subst (λ (w : KnownFacts). Beside w y) h.1 (at_r y z.0 z.1).1)
          (inner j y k))
          (λ k. absurd (apart (h.0 ∙ sym k.0)))
          (cases j y b))
          (cases i x a);
      known = λ j x there. ⊎_elim
          (λ h. ⊎_elim (λ p. subst (λ (w : KnownFacts). KnowsLane w t.before lane) p.1 mine) (λ p. t.known j x p.1) (inner j x h))
          (λ h. subst (λ (w : KnownFacts). KnowsLane w t.before lane) h.1 theirs)
          (cases j x there);
    }

-- the roller's pass takes in the handle's
pub meets : (id : ℕ) (v : KnownFacts) (other : ℕ) (w : KnownFacts) → v.whose ≡ Roller → 0 < v.at.era → w.whose ≡ Handle → 0 < w.at.era → w.number ≡ v.number → Meets Ties id v other w (taken_in v w) (knows_nothing Gone)
meets id v other w out begun handle begun' number lane views t at ne at' =
    let u : KnownFacts = taken_in v w in let spent : KnownFacts = knows_nothing Gone in let roller : rolls v.whose ≡ true = ap rolls out in
    let was = (t.known id v at).as_roller roller begun in let k = (t.known other w at').as_handle handle begun' in
    let done : w.done ≡ v.done = ((t.pairs id other v w (λ e. ne (sym e)) at at').out roller handle number).1 in
    let whole : made_at v.before lane.at ≡ made_through (v.done ++ (true, w.made) ∷ []) ++ [] =
    ap (λ (z : List Made). made_at z lane.at) (sym was.before_is) ∙ k.whole (number ∙ sym was.number) ∙ ap (λ (z : List Done). made_through z ++ w.made) done ∙ sym (made_through-one v.done (true, w.made)) ∙ sym (append-nil (made_through (v.done ++ (true, w.made) ∷ []))) in
    let mine : KnowsLane u t.before lane = record {
      as_roller = λ _ _. record {
        era = was.era;
        number = was.number;
        round = was.round;
        works = was.works;
        half = was.half;
        idle = λ e. let clash : Free ≡ Idle = e in cc;
        out = λ _. was.out (λ e. let clash : Roller ≡ Idle = sym out ∙ e in cc);
        before_is = was.before_is;
        whole = record { own = []; whole = whole; none_out = λ _. refl };
        alone = λ e. let clash : Free ≡ Alone = e in cc;
      };
      as_handle = λ e. let clash : Free ≡ Handle = e in cc;
      not_newer = λ e. let clash : Free ≡ Handle = e in cc;
      unopened = λ e. let clash : Free ≡ Alone = e in cc;
    } in
    let at_u = λ (j : ℕ) (x : KnownFacts) (off : j ≢ other) (off' : j ≢ id) (there : get_elem? views j ≡ some x). let both : Beside x u × Beside u x = (
      record { one_roller = λ rx _. (t.pairs j id x v off' there at).one_roller rx roller; out = λ _ e. let clash : Free ≡ Handle = e in cc; apart = λ _ e. let clash : Free ≡ Handle = e in cc },
      record {
        one_roller = λ _ rx. (t.pairs id j v x (λ e. off' (sym e)) at there).one_roller roller rx;
        out = λ _ h n. absurd ((t.pairs j other x w off there at').apart h handle (n ∙ sym number));
        apart = λ e. let clash : Free ≡ Handle = e in cc;
      },
    ) in both in
    let cases = λ (j : ℕ) (x : KnownFacts) (there : get_elem? (set (set views id u) other spent) j ≡ some x). at_set (set views id u) other j spent x there in
    let inner = λ (j : ℕ) (x : KnownFacts) (there : get_elem? (set views id u) j ≡ some x). at_set views id j u x there in record {
      before = t.before;
      pairs = λ i j x y apart a b. ⊎_elim
          (λ h. subst (λ (z : KnownFacts). Beside z y) h.1 (beside_gone y).1)
          (λ h. ⊎_elim
          (λ k. subst (λ (z : KnownFacts). Beside x z) k.1 (beside_gone x).0)
          (λ k. ⊎_elim
          (λ p. ⊎_elim (λ q. absurd (apart (p.0 ∙ sym q.0))) (λ q. subst (λ (z : KnownFacts). Beside z y) p.1 (at_u j y k.0 q.0 q.1).1) (inner j y k.1))
          (λ p. ⊎_elim (λ q. subst (λ (z : KnownFacts). Beside x z) q.1 (at_u i x h.0 p.0 p.1).0) (λ q. t.pairs i j x y apart p.1 q.1) (inner j y k.1))
          (inner i x h.1))
          (cases j y b))
          (cases i x a);
      known = λ j x there. ⊎_elim
          (λ h. subst (λ (z : KnownFacts). KnowsLane z t.before lane) h.1 (gone_knows t.before lane))
          (λ h. ⊎_elim (λ p. subst (λ (z : KnownFacts). KnowsLane z t.before lane) p.1 mine) (λ p. t.known j x p.1) (inner j x h.1))
          (cases j x there);
    }

-- what an option has
pub what_is : {T : Type 0} (o : Option T) (or : T) → IsSome o → o ≡ Some (unwrap_or o or)
what_is None or s = absurd (false≢true s)
what_is (Some x) or s = refl

-- a key that knows this may put this lane back in the place of that one, and knows then what f says
abbrev pub Turn : (KnownFacts → LaneFacts → LaneFacts → KnownFacts) → ℕ → KnownFacts → LaneFacts → LaneFacts → Type 0
Turn f id v old new = TurnsAt Ties id v old new (λ v old new w. w ≡ f v old new)

pub turn_by : (f : KnownFacts → LaneFacts → LaneFacts → KnownFacts) (id : ℕ) (v known : KnownFacts) (old new : LaneFacts) → v ≡ known → Turn f id known old new → Turn f id v old new
turn_by f id v known old new is turn = subst (λ (z : KnownFacts). Turn f id z old new) (sym is) turn

pub turn_out : (f : KnownFacts → LaneFacts → LaneFacts → KnownFacts) (out : OutFacts) (new : LaneFacts) {id : ℕ} {lock : TableId} {v : KnownFacts} {o : Option LaneFacts} {S : Type 0} → record { lock = lock; known = v; taken = taken_by o } ≡ out → IsSome o → S
    → Turn f id out.known out.taken new → (t : LaneFacts) × ((o ≡ Some t) × S) × Turn f id v t new
turn_out f out new {id} {lock} {v} {o} {S} is there slots turn = (taken_by o, (what_is o _ there, slots), subst (λ (z : OutFacts). Turn f id z.known z.taken new) (sym is) turn)
