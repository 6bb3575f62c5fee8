-- One update after another.
use Rattle.std.proofs.Common.{◌≡◌, ◌⊎◌, inl, inr, ◌+◌, ◌-◌, ◌<◌, ◌≤◌, min, ◌++◌, ◌∙◌, ℕ, List, [], ◌∷◌, All, length, take, drop, get_or, flat_map, refl, sym, ap, subst, arith}
use Rattle.std.specs.Prelude.{◌^◌}
use Rattle.std.proofs.lemmas.List.{append-nil, drop-drop, get_or-drop, get_or-take, length-append, length-drop, length-take, take-take}
use Rattle.std.proofs.lemmas.Grind.{flat_map-append}
use Rattle.aug_trie.specs.Pass.{PassFacts}
use Rattle.aug_trie.specs.UpdateBatches.{DoesBatch, DoesPart, no_part}
use Rattle.aug_model.specs.declared.outcome.Outcome.{Outcome}
use Rattle.aug_model.specs.declared.outcome.Outcome.TheVariants.{Refused}
use Rattle.aug_trie.specs.declared.updates.request.Request.{Request}
use Rattle.aug_trie.specs.declared.updates.request.Request.TheVariants.{Insert}
use Rattle.aug_live.specs.LiveErrors.{IfRefused, RefusesCall}
use Rattle.aug_live.specs.LiveHandles.{HandleFacts, IsSomeOf, Makes}
use Rattle.aug_live.specs.declared.error.Busy.{Busy}
use Rattle.aug_live.specs.declared.error.TryError.{TryError}
use Rattle.aug_live.specs.declared.error.TryError.TheVariants as tried
use Rattle.aug_c.specs.Codes as codes
use Rattle.aug_c.specs.ArrayCalls.{AsksFrom, InTurn, MakesSome, changes}
use Rattle.aug_c.specs.UserCalls.{ShowsClosed, refusal_code}
use Rattle.aug_c.specs.declared.array_updates.ArrayProgress.{ArrayProgress}
use Rattle.aug_c.specs.inside.Refusals.{refusal_of}

pub changes-append : (all more : List Outcome) → changes (all ++ more) ≡ changes all + changes more
changes-append [] more = omega arith
changes-append (first ∷ all) more = let e = changes-append all more in omega (arith, e)

abbrev pub outcomes_in : List (List Outcome) → List Outcome
outcomes_in batches = flat_map (λ done. done) batches

outcomes-more : (batches : List (List Outcome)) (done : List Outcome) → outcomes_in (batches ++ done ∷ []) ≡ outcomes_in batches ++ done
outcomes-more batches done = flat_map-append (λ (d : List Outcome). d) batches (done ∷ []) ∙ ap (λ (z : List Outcome). outcomes_in batches ++ z) (append-nil done)

-- one more step, of the next keys
pub in_turn-more : {S : Type 0} (does : ℕ → List ℕ → List Outcome → S → S → Type 0) (place : ℕ) (keys : List ℕ) (batches : List (List Outcome)) (done : List Outcome) (p q r : S) → length (outcomes_in batches) + length done ≤ length keys → InTurn does place keys batches p q
    → does (place + length (outcomes_in batches)) (take (length done) (drop (length (outcomes_in batches)) keys)) done q r → InTurn does place keys (batches ++ done ∷ []) p r
in_turn-more does place keys [] done p q r room same step =
    let here : place + 0 ≡ place = omega arith in (r, omega (arith, room), subst (λ z. does place (take (length done) keys) done z r) same (subst (λ (n : ℕ). does n (take (length done) keys) done q r) here step), refl)
in_turn-more does place keys (d ∷ ds) done p q r room went step =
    let long = length-append d (outcomes_in ds) in let rest = length-drop (length d) keys in let fits = went.1 in
    let next : place + length (outcomes_in (d ∷ ds)) ≡ place + length d + length (outcomes_in ds) = omega (arith, long) in
    let there : drop (length (outcomes_in (d ∷ ds))) keys ≡ drop (length (outcomes_in ds)) (drop (length d) keys) = ap (λ (n : ℕ). drop n keys) long ∙ sym (drop-drop (length (outcomes_in ds)) (length d) keys) in (
      went.0,
      went.1,
      went.2,
      in_turn-more does (place + length d) (drop (length d) keys) ds done went.0 q r (omega (arith, room, long, rest, fits)) went.3
          (subst (λ (z : ℕ × List ℕ). does z.0 (take (length done) z.1) done q r) (λ i. (next i, there i)) step),
    )

-- what a batch came to stands in the first places
first_outcomes : {requests : List Request} {keys : List ℕ} {outcomes : List Outcome} {now new : HandleFacts} (count : ℕ) → length keys ≡ count → Makes count (DoesBatch requests keys outcomes) now new → Makes count (DoesBatch requests keys (take count outcomes)) now new
first_outcomes {requests} {keys} {outcomes} {now} {new} count long m = record {
  start = m.start;
  follows = m.follows;
  same_era = m.same_era;
  done = let d = m.done.0 in (
    record {
      parts = d.parts;
      one_each = d.one_each;
      each = λ i within. subst (λ (z : Outcome). DoesPart (get_or requests i Insert) (get_or keys i 0) z (get_or d.parts i no_part) m.start.half new.half) (sym (get_or-take count outcomes i Refused (omega (arith, within, long)))) (d.each i within);
      accepted = d.accepted;
      rest = d.rest;
      steps = d.steps;
      no_other = d.no_other;
      few_rises = d.few_rises;
      few_steps = d.few_steps;
    },
    m.done.1,
    m.done.2,
  );
  who = m.who;
  made = m.made;
}

-- some keys in turn are below what all are below
pub part_below : (keys : List ℕ) (place n old now : ℕ) → All (λ k. k < 2 ^ old) keys → now ≡ old → All (λ k. k < 2 ^ now) (take n (drop place keys))
part_below keys place n old now all same k d below =
    let some = length-take n (drop place keys) in let rest = length-drop place keys in
    let here = get_or-take n (drop place keys) k d (omega (arith, below, some)) ∙ get_or-drop place keys k d in
    subst (λ (b : ℕ). get_or (take n (drop place keys)) k d < 2 ^ b) (sym same) (subst (λ (z : ℕ). z < 2 ^ old) (sym here) (all (place + k) d (omega (arith, below, some, rest))))

-- what a batch changes can be counted
pub changes_fit : (keys : List ℕ) (outcomes : List Outcome) (place made changed n count change : ℕ) → place ≤ made → made ≤ place → place < length keys → changed ≤ made → length keys ≤ 4294967295
    → count ≤ length (take n (drop place keys)) → change ≤ length (take count outcomes) → changed + change < 4294967296
changes_fit keys outcomes place made changed n count change le ge inside low few some less =
    let t = length-take n (drop place keys) in let d = length-drop place keys in let o = length-take count outcomes in omega (arith, le, ge, inside, low, few, some, less, t, d, o)

module _ (asked : ℕ → Request) (keys : List ℕ) (before : ArrayProgress) (old : HandleFacts) where
  -- updates were made in turn, as many as the progress says
  pub record Came (so_far : ArrayProgress) (now : HandleFacts) : Type 0 where
    pub batches : List (List Outcome)
    pub in_turn : InTurn (MakesSome asked) before.made (drop before.made keys) batches old now
    pub made : so_far.made ≡ before.made + length (outcomes_in batches)
    pub changed : so_far.changed ≡ before.changed + changes (outcomes_in batches)
    pub few : so_far.changed ≤ so_far.made
    pub within : so_far.made ≤ length keys
    pub bits : now.half.round.bits ≡ old.half.round.bits

  pub came_more : {requests : List Request} {outcomes : List Outcome} {now new : HandleFacts} (so_far : ArrayProgress) (count change : ℕ) → Came so_far now → so_far.made + count ≤ length keys → count ≤ length outcomes → AsksFrom asked so_far.made count requests
      → change ≡ changes (take count outcomes) → change ≤ count → Makes count (DoesBatch requests (take count (drop so_far.made keys)) outcomes) now new → Came (record { made = so_far.made + count; changed = so_far.changed + change }) new
  came_more {requests} {outcomes} {now} {new} so_far count change came room enough asks is few makes =
      let all = came.batches in let done : List Outcome = take count outcomes in let made = came.made in let counts = came.changed in let low = came.few in
      let long : length done ≡ count = (let e = length-take count outcomes in omega (arith, e, enough)) in
      let more = ap (λ (z : List Outcome). length z) (outcomes-more all done) ∙ length-append (outcomes_in all) done in
      let changed = ap changes (outcomes-more all done) ∙ changes-append (outcomes_in all) done in
      let rest = length-drop before.made keys in
      let there : drop so_far.made keys ≡ drop (length (outcomes_in all)) (drop before.made keys) = ap (λ (n : ℕ). drop n keys) made ∙ sym (drop-drop (length (outcomes_in all)) before.made keys) in
      let covered : length (take count (drop so_far.made keys)) ≡ count = (let e = length-take count (drop so_far.made keys) in let f = length-drop so_far.made keys in omega (arith, e, f, room)) in
      let step : MakesSome asked so_far.made (take count (drop so_far.made keys)) done now new = record {
        requests = requests;
        asks = subst (λ (z : ℕ). AsksFrom asked so_far.made z requests) (sym covered) asks;
        makes = subst (λ (z : ℕ). Makes z (DoesBatch requests (take count (drop so_far.made keys)) done) now new) (sym covered) (first_outcomes count covered makes);
      } in record {
        batches = all ++ done ∷ [];
        in_turn = in_turn-more (MakesSome asked) before.made (drop before.made keys) all done old now new (omega (arith, made, long, rest, room)) came.in_turn
            (subst (λ (z : ℕ × List ℕ × ℕ). MakesSome asked z.0 (take z.2 z.1) done now new) (λ i. (made i, there i, sym long i)) step);
        made = omega (arith, made, more, long);
        changed = omega (arith, counts, changed, is);
        few = omega (arith, low, few);
        within = room;
        bits = ap (λ (z : PassFacts). z.round.bits) makes.done.2.same ∙ makes.follows.bits ∙ came.bits;
      }

  -- a batch of the next keys was made
  pub came_next : {requests : List Request} {outcomes : List Outcome} {now new : HandleFacts} (so_far : ArrayProgress) (place end few count change : ℕ) → Came so_far now → place ≤ so_far.made → so_far.made ≤ place → place < length keys → end ≡ min (length keys) (place + 32)
      → few ≡ min 32 (length keys - place) → AsksFrom asked place few requests → length outcomes ≡ 32 → IsSomeOf (length (take (end - place) (drop place keys))) count → change ≡ changes (take count outcomes) → change ≤ length (take count outcomes)
      → Makes count (DoesBatch requests (take count (take (end - place) (drop place keys))) outcomes) now new → Came (record { made = so_far.made + count; changed = so_far.changed + change }) new × (place + 1 ≤ so_far.made + count)
  came_next {requests} {outcomes} {now} {new} so_far place end few count change came le ge inside ends fews asks long some is low makes =
      let here : place ≡ so_far.made = omega (arith, le, ge) in let t = length-take (end - place) (drop place keys) in let d = length-drop place keys in let all = some.0 in let first = length-take count outcomes in
      let enough : count ≤ end - place = omega (arith, t, d, all) in
      let one : 0 < count = some.1 (omega (arith, t, d, ends, inside)) in (
        came_more so_far count change came (omega (arith, here, t, d, all)) (omega (arith, long, enough, ends)) (λ i below. asks i (omega (arith, below, fews, enough, ends, inside)) ∙ ap (λ (z : ℕ). asked (z + i)) here) is (omega (arith, low, first))
            (subst (λ (z : List ℕ). Makes count (DoesBatch requests z outcomes) now new) (take-take count (end - place) (drop place keys) enough ∙ ap (λ (z : ℕ). take count (drop z keys)) here) makes),
        omega (arith, here, one),
      )
