-- An update at its leaf, and what it comes to once the leaf is shown.
use Rattle.std.proofs.Common.{◌≡◌, ◌==◌, inl, inr, ℕ, ◌^◌, ◌<◌, ◌≤◌, Bool, true, false, if◌then◌else◌, List, [], ◌∷◌, length, sym, refl, ap, ◌∙◌, subst, ⊎_elim, arith}
use Rattle.std.proofs.lemmas.Bool.{cases_eq, cases_Bool, false≢true}
use Rattle.aug_core.specs.Book.{ArePrefixes}
use Rattle.aug_core.specs.inside.Shows.{Lifts}
use Rattle.aug_core.specs.Effects.{HoldsOnly, BeginsAtLeaf, made_by, KnowsBook}
use Rattle.aug_core.specs.declared.view.Advance.{Advance}
use Rattle.aug_core.specs.declared.view.Change.{Change}
use Rattle.aug_core.specs.declared.view.Held.{Held}
use Rattle.aug_core.specs.declared.view.SeatView.{SeatView}
use Rattle.aug_words.specs.Seats.{TriedLeaf}
use Rattle.aug_model.specs.declared.outcome.Outcome.{Outcome}
use Rattle.aug_model.specs.declared.outcome.Outcome.TheVariants.{Refused, Unchanged, TooGreat, TooLittle}
use Rattle.aug_trie.specs.declared.updates.request.Request.{Request}
use Rattle.aug_trie.specs.declared.updates.request.Request.TheVariants.{Insert, Remove, Put, Add, Sub, Take}
use Rattle.aug_trie.specs.Requests.{goes_from, word_after, outcome_by, outcome_at_once, stores_nothing}
use Rattle.aug_trie.specs.inside.Batching.{GainsOnly, LeftFrom}
use Rattle.aug_trie.specs.inside.Climbing.{CameBy, FitsRequest}
use Rattle.aug_trie.specs.inside.Goes.{Goes}
use Rattle.aug_trie.specs.inside.Counted.{HasCounts, insertions_by, removals_by}
use Rattle.aug_trie.proofs.Counters.{counted_nothing, counted_made}
use Rattle.aug_words.proofs.Stocking.{no_try_none}
use Rattle.aug_trie.proofs.Requesting.{made_few}
use Rattle.aug_trie.proofs.Updating.{steps0, first, rest_first, rest_hit, rest_miss, came_back, gone, goes_hit, goes_miss, lets_there, outcome_there, steps1, taken, done_hit, done_miss, done_by, came_up, came_late}

-- what a word prevents at once stores nothing
pub nothing_at_once : (request : Request) → stores_nothing (outcome_at_once request) ≡ true
nothing_at_once Insert = refl
nothing_at_once Remove = refl
nothing_at_once (Put weight) = refl
nothing_at_once (Take weight) = refl
nothing_at_once (Add amount) = elim (cases_Bool (amount == 0)) [
  | inl t ↦ ap (λ (z : Bool). stores_nothing (if z then Unchanged else TooGreat)) t
  | inr n ↦ ap (λ (z : Bool). stores_nothing (if z then Unchanged else TooGreat)) n
]
nothing_at_once (Sub amount) = elim (cases_Bool (amount == 0)) [
  | inl t ↦ ap (λ (z : Bool). stores_nothing (if z then Unchanged else TooLittle)) t
  | inr n ↦ ap (λ (z : Bool). stores_nothing (if z then Unchanged else TooLittle)) n
]

module _ {f : ℕ → ℕ → List (ℕ × ℕ) → List ℕ} {v w0 : SeatView} {key word : ℕ} (request : Request) (low : key < 2 ^ v.shape.bits) (kn : KnowsBook f v) (l : BeginsAtLeaf f v key word w0) where
  pub left_at_once : {done : Outcome} → goes_from request word ≡ false → done ≡ outcome_at_once request → LeftFrom f v key request w0 word done
  left_at_once {done} other says = subst (λ (z : Outcome). LeftFrom f v key request w0 word z) (sym says) (
    record {
      word = word;
      more = [];
      steps = steps0 f v w0 key word request low kn l;
      few_steps = omega arith;
      tried = λ lets. absurd (false≢true (sym other ∙ lets));
      refusing = λ _. (refl, no_try_none);
      gained = [];
      few_gained = omega arith;
      counts = counted_nothing request (outcome_at_once request) (nothing_at_once request);
      goes = first f v w0 key word request low kn l;
      rest = rest_first f v w0 key word request low kn l;
      came = λ used u z same before later lifts goes. came_back f v w0 key word request low kn l used u z same before later other lifts goes;
    },
    refl,
  )

  module _ {w1 : SeatView} {new : ℕ} {ok : Bool} {done : Outcome} (fits : FitsRequest request) (lets : goes_from request word ≡ true) (is_new : new ≡ word_after request key word) (h : Held) (only : HoldsOnly w0 h) (tries : TriedLeaf f w0 key word new ok w1) (comes : done ≡ (if ok then outcome_by request word else Refused)) where
    t : TriedLeaf f w0 key word (word_after request key word) ok w1
    t = subst (λ (z : ℕ). TriedLeaf f w0 key word z ok w1) is_new tries

    left_with : (gained : List Change) → length gained ≤ 2 → HasCounts gained (insertions_by request done) (removals_by request done) → Goes f 0 gained v w1 → GainsOnly gained v w1
        → ((used : ℕ) (u z : SeatView) → u.shape ≡ v.shape → ArePrefixes u.seen v.seen → ArePrefixes w1.seen z.seen → Lifts v.shape w1.seen z.seen key v.shape.bits → Goes f used gained u z → CameBy f used u key request z word done) → LeftFrom f v key request w1 word done
    left_with gained few counts goes rest came = (
      record {
        word = word;
        more = taken f v w0 key word request low kn l fits lets w1 ok h only t ∷ [];
        steps = steps1 f v w0 key word request low kn l fits lets w1 ok h only t;
        few_steps = omega arith;
        tried = λ _. record { found = t.found; rest = []; second = refl; says = done_by f v w0 key word request low kn l fits lets w1 ok h only t done comes; no_other = no_try_none };
        refusing = λ other. absurd (false≢true (sym other ∙ lets));
        gained = gained;
        few_gained = few;
        counts = counts;
        goes = goes;
        rest = rest;
        came = came;
      },
      refl,
    )

    pub left_tried : LeftFrom f v key request w1 word done
    left_tried = ⊎_elim
        (λ (same : t.found ≡ word). let says = done_hit f v w0 key word request low kn l fits lets w1 ok h only t done comes same in
        let there : Advance = gone f v w0 key word request low kn l fits lets w1 ok h only t same in
        left_with (made_by key there) (made_few key there)
        (subst (λ (z : Outcome). HasCounts (made_by key there) (insertions_by request z) (removals_by request z)) (sym (says ∙ outcome_there f v w0 key word request low kn l fits lets w1 ok h only t same))
        (counted_made request key _ there.replaces refl (lets_there f v w0 key word request low kn l fits lets w1 ok h only t same)))
        (goes_hit f v w0 key word request low kn l fits lets w1 ok h only t same) (rest_hit f v w0 key word request low kn l fits lets w1 ok h only t same)
        (λ used u z shaped before later lifts goes. subst (CameBy f used u key request z word) (sym says) (came_up f v w0 key word request low kn l fits lets w1 ok h only t same used u z shaped before later lifts goes)))
        (λ other. let says = done_miss f v w0 key word request low kn l fits lets w1 ok h only t done comes other in
        left_with [] (omega arith) (subst (λ (z : Outcome). HasCounts [] (insertions_by request z) (removals_by request z)) (sym says) (counted_nothing request Refused refl))
        (goes_miss f v w0 key word request low kn l fits lets w1 ok h only t other) (rest_miss f v w0 key word request low kn l fits lets w1 ok h only t other)
        (λ used u z shaped before later lifts goes. subst (CameBy f used u key request z word) (sym says) (came_late f v w0 key word request low kn l fits lets w1 ok h only t used u z shaped before later lifts other goes))) (cases_eq t.found word)
