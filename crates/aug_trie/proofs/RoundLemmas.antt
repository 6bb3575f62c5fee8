-- What was begun together.
use Rattle.std.proofs.Common.{◌≡◌, ◌∙◌, ℕ, Bool, true, Option, Some, List, sym, ap, subst}
use Rattle.aug_core.specs.Places.{Shape, shape_of}
use Rattle.aug_words.specs.Leads.{MayOpen}
use Rattle.aug_words.specs.Seats.{Store, Known, AreTogether}
use Rattle.aug_trie.specs.Round.{TableFacts, table_of}
use Rattle.aug_trie.specs.Crew.{CrewFacts}
use Rattle.aug_trie.specs.inside.CrewState.{crew_facts, HasCrew, HoldsCrew}
use Rattle.aug_trie.specs.inside.PassState.{known_in}
use Rattle.aug_trie.specs.inside.RoundState.{round_of, facts_of}

-- the numbers of a shape say it all, where no record is used again
pub same_shapes : (s t : Shape) → s.reservations ≡ 0 → t.reservations ≡ 0 → shape_of s.bits s.workers s.updates s.members ≡ shape_of t.bits t.workers t.updates t.members → s ≡ t
same_shapes s t off off' same = (λ i. record s { reservations = off i }) ∙ same ∙ (λ i. record t { reservations = sym off' i })

-- what knows a round of a table sits at it
pub at_table : (store : Store) (k : Known) (table : TableFacts) → store.shape.reservations ≡ 0 → k.view.shape.reservations ≡ 0 → table_of (round_of k.table k.view) ≡ table → facts_of store ≡ table → AreTogether store k
at_table store k table off off' one store_is = let same : table_of (round_of k.table k.view) ≡ facts_of store = one ∙ sym store_is in record {
  one_table = ap (λ (z : TableFacts). z.table) same;
  one_shape = same_shapes k.view.shape store.shape off' off (ap (λ (z : TableFacts). shape_of z.bits z.workers z.updates z.room) same);
}

-- the lead of a crew is one of its table
pub of_round : (store : Store) (lead : Known) (now : CrewFacts) (table : TableFacts) {free : Bool} → store.shape.reservations ≡ 0 → lead.view.shape.reservations ≡ 0 → crew_facts lead free ≡ now → table_of now.round ≡ table → facts_of store ≡ table → AreTogether store lead
of_round store lead now table off off' is one store_is = at_table store lead table off off' (ap (λ (z : CrewFacts). table_of z.round) is ∙ one) store_is

-- the lead that a crew has is its own
pub crew_told : {face : ℕ → ℕ → List (ℕ × ℕ) → List ℕ} {lead : Option Known} {k : Known} {back inserts removals : ℕ} {free : Bool} {now : CrewFacts} → HasCrew face lead back inserts removals free → lead ≡ Some k → crew_facts (known_in lead) free ≡ now
    → HoldsCrew face k.view back inserts removals × (crew_facts k free ≡ now) × (free ≡ true → MayOpen k)
crew_told {face} {lead} {k} {back} {inserts} {removals} {free} h is facts = let same : h.known ≡ k = ap known_in (sym h.there ∙ is) in
    (subst (λ (z : Known). HoldsCrew face z.view back inserts removals) same h.holds, ap (λ (z : Option Known). crew_facts (known_in z) free) (sym is) ∙ facts, λ opens. subst MayOpen same (h.opens opens))
