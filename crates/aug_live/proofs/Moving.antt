-- A fact of each element, from the list that is taken apart to the list that grows; and what went back to a crew.
use Rattle.std.proofs.Common.{◌≡◌, ℕ, zero, suc, ◌+◌, ◌<◌, ◌≤◌, List, [], ◌∷◌, ◌++◌, get_or, length, length-append, sym, ap, ◌∙◌, subst, arith}
use Rattle.std.proofs.Math.ListN.{get_or-append}
use Rattle.std.proofs.Math.Seq.{get_or-append_seam}
use Rattle.std.specs.Prelude.{All}
use Rattle.std.proofs.lemmas.List.Elements.{All-append}
use Rattle.aug_core.specs.Cuts.{Cut}
use Rattle.aug_core.specs.Prefixes.{IsPrefix}
use Rattle.aug_trie.specs.Chains.{Chapter, BeginsWith}
use Rattle.aug_trie.specs.History.{IsHistory}
use Rattle.aug_trie.specs.Pass.{PassFacts, chain_of}
use Rattle.aug_trie.specs.Round.{TableFacts, RoundFacts, table_of}
use Rattle.aug_trie.specs.Crew.{CrewFacts, RollsOver, crew_chain}
use Rattle.aug_trie.proofs.Chaining.{begins_alike}
use Rattle.aug_live.specs.Carrying.{Leads}
use Rattle.aug_core.proofs.PrefixLemmas.{prefix_trans}
use Rattle.aug_live.specs.inside.LaneKnowledge.{EndFacts}
use Rattle.aug_live.specs.inside.Rolls.{IsBackIn, HasEnded, rounds_in}
use Rattle.aug_live.proofs.Carries.{leads_on}

module _ {A : Type 0} (P : A → Type 0) where
  pub head_of : (m : ℕ) (x : A) (xs ys : List A) → xs ≡ x ∷ ys → 0 < m → ((k : ℕ) (d : A) → k < m → P (get_or xs k d)) → P x
  head_of m x xs ys e some all = subst (λ (l : List A). P (get_or l 0 x)) e (all 0 x some)

  pub tail_of : (m m' : ℕ) (x : A) (xs ys : List A) → xs ≡ x ∷ ys → m' + 1 ≡ m → ((k : ℕ) (d : A) → k < m → P (get_or xs k d)) → (k : ℕ) (d : A) → k < m' → P (get_or ys k d)
  tail_of m m' x xs ys e less all k d low = subst (λ (l : List A). P (get_or l (suc k) d)) e (all (suc k) d (omega arith))

  one : (x : A) → P x → All P (x ∷ [])
  one x p zero d low = p
  one x p (suc k) d low = absurd (omega arith)

  pub one_more : (xs ys : List A) (x : A) → ys ≡ xs ++ x ∷ [] → All P xs → P x → All P ys
  one_more xs ys x is all this = subst (All P) (sym is) (All-append P xs (x ∷ []) all (one x this))

  -- a fact of each element, from the list to what is left of it without its last one, and of that one
  pub all_but_last : (xs ys : List A) (x : A) → ys ≡ xs ++ x ∷ [] → All P ys → All P xs
  all_but_last xs ys x is all k d low = subst P (ap (λ (z : List A). get_or z k d) is ∙ get_or-append xs (x ∷ []) d k low) (all k d (let long = ap length is ∙ length-append xs (x ∷ []) in omega arith))

  pub last_one : (xs ys : List A) (x : A) → ys ≡ xs ++ x ∷ [] → All P ys → P x
  last_one xs ys x is all = subst P (ap (λ (z : List A). get_or z (length xs) x) is ∙ get_or-append_seam xs x [] x) (all (length xs) x (let long = ap length is ∙ length-append xs (x ∷ []) in omega arith))

-- how long two lists are, as elements go from one to the other; and how many went back
pub grown_len : (a a' b b' n : ℕ) → a + b ≡ n → a' ≡ a + 1 → b' + 1 ≡ b → a' + b' ≡ n
grown_len a a' b b' n was grown shrunk = omega arith

pub shrunk_len : (a a' b b' n : ℕ) → a + b ≡ n → b' ≡ b + 1 → a' + 1 ≡ a → a' + b' ≡ n
shrunk_len a a' b b' n was grown shrunk = omega arith

pub counted_on : (a a' l l' n : ℕ) → a' ≡ a + 1 → a ≡ n + l → l' ≡ l + 1 → a' ≡ n + l'
counted_on a a' l l' n on was grown = omega arith

pub none_more : (a b : ℕ) → b ≡ 0 → a ≡ a + b
none_more a b none = omega arith

-- a crew with a lane for each element has handed out one for each that went
pub lane_left : (a b b' n handed workers first : ℕ) → a + b ≡ n → handed ≡ a → b' + 1 ≡ b → workers ≡ first → n ≤ first → handed < workers
lane_left a b b' n handed workers first was out shrunk same few = omega arith

-- what is in a history is in each later one
back_on : (rounds : RoundFacts × List Chapter) (era : ℕ) (h h' : List Cut) (e : EndFacts) → IsPrefix h h' → IsBackIn rounds era h e → IsBackIn rounds era h' e
back_on rounds era h h' e on b = record { whose = b.whose; works = b.works; era_is = b.era_is; round_is = b.round_is; known = prefix_trans e.known.at.half.knows.history h h' b.known on; whole = b.whole }

pub all_back_on : (rounds : RoundFacts × List Chapter) (era : ℕ) (h h' : List Cut) (xs : List EndFacts) → IsPrefix h h' → All (IsBackIn rounds era h) xs → All (IsBackIn rounds era h') xs
all_back_on rounds era h h' xs on all k d low = back_on rounds era h h' (get_or xs k d) on (all k d low)

pub same_era : (rounds : RoundFacts × List Chapter) (era era' : ℕ) (h : List Cut) (e : EndFacts) → era ≡ era' → IsBackIn rounds era h e → IsBackIn rounds era' h e
same_era rounds era era' h e is = subst (λ (z : ℕ). IsBackIn rounds z h e) is

-- what went back to a crew is a part of the rounds before the next one, which its crew begins in the memory of this one
module _ (era : ℕ) (table : TableFacts) (crew first : CrewFacts) (inserts removals : ℕ) (r : RollsOver crew first inserts removals) (same : table_of crew.round ≡ table) where
  abbrev pub over : Chapter
  over = (crew_chain r.last).now

  -- those are the ones that were, and the one that ended
  pub next_past : first.past ≡ crew.past ++ over ∷ []
  next_past = ap (λ (z : CrewFacts). z.past) r.crew_is ∙ ap (λ (z : CrewFacts). z.past ++ over ∷ []) r.last_is

  ended : (e : EndFacts) → IsBackIn (rounds_in crew) era crew.knows.history e → HasEnded table first.past era e
  ended e b = let p : PassFacts = e.known.at.half in
      let was : table_of p.round ≡ table = ap (λ (z : RoundFacts × List Chapter). table_of z.0) b.round_is ∙ same in
      let before : p.past ≡ crew.past = ap (λ (z : RoundFacts × List Chapter). z.1) b.round_is in
      let members : over.members ≡ p.round.members = ap (λ (z : CrewFacts). z.round.members) r.last_is ∙ ap (λ (z : RoundFacts × List Chapter). z.0.members) (sym b.round_is) in record {
        whose = b.whose;
        works = b.works;
        era_is = b.era_is;
        table_is = was;
        part = subst (BeginsWith p.past (chain_of p).now) (ap (λ (z : List Chapter). z ++ over ∷ []) before ∙ sym next_past)
            (begins_alike p.past (chain_of p).now over [] record { members = members; goes_on = prefix_trans p.knows.history crew.knows.history r.last.knows.history b.known r.goes_on });
      }

  pub all_ended : (xs : List EndFacts) → All (IsBackIn (rounds_in crew) era crew.knows.history) xs → All (HasEnded table first.past era) xs
  all_ended xs all k d low = ended (get_or xs k d) (all k d low)

  -- and they lead to the set with which it begins
  pub next_led : Leads table.bits crew.past crew.round.members → Leads table.bits first.past first.round.members
  next_led led =
      let members : over.members ≡ crew.round.members = ap (λ (z : CrewFacts). z.round.members) r.last_is in
      let bits : r.last.round.bits ≡ table.bits = ap (λ (z : CrewFacts). z.round.bits) r.last_is ∙ ap (λ (z : TableFacts). z.bits) same in
      let is : IsHistory table.bits over.members over.history = subst (λ (z : ℕ). IsHistory z over.members over.history) bits r.ends.is_history in
      let on : Leads table.bits (crew.past ++ over ∷ []) r.ended.members = leads_on table.bits crew.past over r.ended.members (subst (Leads table.bits crew.past) (sym members) led) is r.ends.members in
      subst (λ (z : List Chapter × List (ℕ × ℕ)). Leads table.bits z.0 z.1) (λ i. (sym next_past i, ap (λ (z : RoundFacts). z.members) (sym r.round_is) i)) on
