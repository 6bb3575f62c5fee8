-- The handles of a trie's lanes, one for each end.
use Rattle.std.proofs.Common.{◌≡◌, ℕ, zero, suc, ◌+◌, ◌<◌, List, [], ◌∷◌, ◌++◌, All, length, sym, refl, ap, ◌∙◌, arith}
use Rattle.std.specs.Prelude.{Some}
use mathlib.Core.Option.{some, some-injective, some-ne-none}
use lib.ListN.{get_elem?}
use Rattle.aug_live.specs.LiveHandles.{HandleFacts}
use Rattle.aug_live.specs.LiveTries.{TrieFacts}
use Rattle.aug_live.specs.inside.LaneKnowledge.{EndFacts, handle_by}
use Rattle.aug_live.specs.inside.Rolls.{handles_from}

-- one more
pub handles_more : (trie : TrieFacts) (k : ℕ) (front : List EndFacts) (e : EndFacts) → handles_from trie k (front ++ e ∷ []) ≡ handles_from trie k front ++ handle_by trie (k + length front) (Some e) ∷ []
handles_more trie k [] e = let same : k ≡ k + 0 = omega arith in λ i. handle_by trie (same i) (Some e) ∷ []
handles_more trie k (x ∷ front) e = let more = handles_more trie (k + 1) front e in let next : k + 1 + length front ≡ k + length (x ∷ front) = omega arith in
    ap (λ (z : List HandleFacts). handle_by trie k (Some x) ∷ z) (more ∙ ap (λ (n : ℕ). handles_from trie (k + 1) front ++ handle_by trie n (Some e) ∷ []) next)

pub handles_long : (trie : TrieFacts) (k : ℕ) (ends : List EndFacts) → length (handles_from trie k ends) ≡ length ends
handles_long trie k [] = refl
handles_long trie k (e ∷ es) = ap suc (handles_long trie (k + 1) es)

-- what is known of each end says something of its handle
pub handles_all : (P : EndFacts → Type 0) (Q : HandleFacts → Type 0) (trie : TrieFacts) (k : ℕ) (ends : List EndFacts) → ((e : EndFacts) (lane : ℕ) → P e → Q (handle_by trie lane (Some e))) → All P ends → All Q (handles_from trie k ends)
handles_all P Q trie k [] f all j d low = absurd (omega (arith, low))
handles_all P Q trie k (e ∷ es) f all zero d low = f e k (all 0 e (omega arith))
handles_all P Q trie k (e ∷ es) f all (suc j) d low = handles_all P Q trie (k + 1) es f (λ i c less. all (suc i) c (omega (arith, less))) j d (omega (arith, low))

-- each has the lane of its place
pub lanes_are : (trie : TrieFacts) (k : ℕ) (ends : List EndFacts) (j : ℕ) (h : HandleFacts) → get_elem? (handles_from trie k ends) j ≡ some h → h.who.lane ≡ k + j
lanes_are trie k [] j h at = absurd (some-ne-none h (sym at))
lanes_are trie k (e ∷ es) zero h at = let is : k ≡ h.who.lane = ap (λ (z : HandleFacts). z.who.lane) (some-injective (handle_by trie k (Some e)) h at) in omega (arith, is)
lanes_are trie k (e ∷ es) (suc j) h at = let is = lanes_are trie (k + 1) es j h at in omega (arith, is)

-- what stands at a place of a list
pub is_below : {A : Type 0} (xs : List A) (k : ℕ) (x : A) → get_elem? xs k ≡ some x → k < length xs
is_below [] k x at = absurd (some-ne-none x (sym at))
is_below (y ∷ xs) zero x at = omega arith
is_below (y ∷ xs) (suc k) x at = let less = is_below xs k x at in omega (arith, less)
