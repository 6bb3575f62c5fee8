-- Each step on the lock of the desk keeps its rule.
use Rattle.std.proofs.Common.{◌≡◌, ◌≢◌, inl, inr, ℕ, ◌<◌, List, set, true, false, sym, refl, ap, ◌∙◌, subst, ⊎_elim, arith}
use Rattle.std.specs.Prelude.{Option, Some, None, IfSome, IsSome}
use Rattle.std.specs.Option.{is_some}
use Rattle.std.proofs.lemmas.Bool.{false≢true, cases_Bool}
use mathlib.Core.Option.{some}
use lib.ListN.{get_elem?}
use Rattle.atomic_table.proofs.Lists.{at_set}
use Rattle.atomic_table.specs.declared.shared.Seat.{Seat}
use Rattle.ruled_lock.specs.Locks.{Forks, Holds, Learns, client_of}
use Rattle.ruled_lock.specs.declared.holding.Holding.{Holding}
use Rattle.aug_live.specs.LiveTries.{KeepsHandles, KnowsMore, TrieFacts}
use Rattle.aug_live.specs.declared.desk_end.Desk.{Desk}
use Rattle.aug_live.specs.inside.DeskKnowledge.{EndKnows, GoesOnFrom, KnowsDesk, KnowsOwn, Moves, OnDesk, DeskStays, is_known, known_after}
use Rattle.aug_live.proofs.Lanes.{more_on, more_self}
use Rattle.aug_live.proofs.Tied.{snoc_at}

-- what an end knows of what lies there, and what is there, after it was changed
module _ (id : ℕ) where
  knows_on : (o p : Option TrieFacts) (x : TrieFacts) → Moves id o p → IfSome o (KnowsMore x) → IfSome p (KnowsMore x)
  knows_on None None x m k = tt
  knows_on None (Some u) x m k = absurd m
  knows_on (Some t) None x m k = tt
  knows_on (Some t) (Some u) x m k = more_on x t u k m.0

  was_there : (o p : Option TrieFacts) → Moves id o p → IsSome p → IsSome o
  was_there None None m s = s
  was_there None (Some u) m s = absurd m
  was_there (Some t) None m s = refl
  was_there (Some t) (Some u) m s = refl

  -- nobody but the owner closes the trie or makes a handle
  module _ (j : ℕ) (other : j ≢ id) (first : j ≡ 0) where
    not_own : id ≡ 0 → ⊥
    not_own own = other (first ∙ sym own)

    stays_there : (o p : Option TrieFacts) → Moves id o p → IsSome o → IsSome p
    stays_there None p m s = absurd (false≢true s)
    stays_there (Some t) None m s = absurd (not_own m)
    stays_there (Some t) (Some u) m s = refl

    as_given : (o p : Option TrieFacts) (n : ℕ) → Moves id o p → IfSome o (λ t. t.given ≡ n) → IfSome p (λ t. t.given ≡ n)
    as_given None None n m g = tt
    as_given None (Some u) n m g = absurd m
    as_given (Some t) None n m g = tt
    as_given (Some t) (Some u) n m g = ⊎_elim (λ own. absurd (not_own own)) (λ same. same ∙ g) m.1

-- what is known of what was put there
bits_after : (o p : Option TrieFacts) (id : ℕ) (v : TrieFacts) → Moves id o p → IfSome o (KnowsMore v) → (known_after p v).bits ≡ v.bits
bits_after o None id v m k = refl
bits_after None (Some u) id v m k = absurd m
bits_after (Some t) (Some u) id v m k = m.0.bits ∙ k.bits

knows_after : (p : Option TrieFacts) (v : TrieFacts) → IfSome p (KnowsMore (known_after p v))
knows_after None v = tt
knows_after (Some u) v = more_self u

works_after : (p : Option TrieFacts) (v : TrieFacts) → (known_after p v).closed ≡ false → IsSome p
works_after None v so = absurd (false≢true (sym so))
works_after (Some u) v so = refl

given_after : (p : Option TrieFacts) (v : TrieFacts) → IfSome p (λ t. t.given ≡ (known_after p v).given)
given_after None v = tt
given_after (Some u) v = refl

-- where it goes on with as many handles
known_still : (o p : Option TrieFacts) (x : TrieFacts) → DeskStays o p → IfSome o (KnowsMore x) → IfSome p (KnowsMore x)
known_still None None x m k = tt
known_still None (Some u) x m k = absurd m
known_still (Some t) None x m k = absurd m
known_still (Some t) (Some u) x m k = more_on x t u k m.0

was_still : (o p : Option TrieFacts) → DeskStays o p → IsSome p → IsSome o
was_still None None m s = s
was_still None (Some u) m s = absurd m
was_still (Some t) None m s = refl
was_still (Some t) (Some u) m s = refl

is_still : (o p : Option TrieFacts) → DeskStays o p → IsSome o → IsSome p
is_still None None m s = s
is_still None (Some u) m s = absurd m
is_still (Some t) None m s = absurd m
is_still (Some t) (Some u) m s = refl

given_still : (o p : Option TrieFacts) (n : ℕ) → DeskStays o p → IfSome o (λ t. t.given ≡ n) → IfSome p (λ t. t.given ≡ n)
given_still None None n m g = tt
given_still None (Some u) n m g = absurd m
given_still (Some t) None n m g = absurd m
given_still (Some t) (Some u) n m g = m.1 ∙ g

module _ {A B : Type 0} where
  pub learns : (id : ℕ) (v : TrieFacts) → Learns {T = Desk A B} OnDesk id v KnowsDesk
  learns id v desk views on at = let k = on id v at in record {
    unopened = λ bare. ⊎_elim (λ (t : desk.opened ≡ true). absurd (let less = k.some t in omega (arith, less, bare))) (λ (f : desk.opened ≡ false). f) (cases_Bool desk.opened);
    opened = λ any. ⊎_elim (λ (t : desk.opened ≡ true). t) (λ (f : desk.opened ≡ false). absurd (let none = k.none f in omega (arith, any, none))) (cases_Bool desk.opened);
    there = k.there;
    knows = k.knows;
  }

  -- the owner's end
  pub learns_own : (id : ℕ) (v : TrieFacts) → id ≡ 0 → Learns {T = Desk A B} OnDesk id v KnowsOwn
  learns_own id v first desk views on at = record { knows = learns id v desk views on at; owner = (on id v at).owner first }

  -- one more end, of an open desk, by the owner's
  pub forks : (id : ℕ) (v : TrieFacts) → id ≡ 0 → 0 < v.bits → Forks {T = Desk A B} OnDesk id v v v
  forks id v first any desk views on at j w there =
      let mine = on id v at in
      let opened : desk.opened ≡ true = ⊎_elim (λ (t : desk.opened ≡ true). t) (λ (f : desk.opened ≡ false). absurd (let none = mine.none f in omega (arith, any, none))) (cases_Bool desk.opened) in
      let like : (i : ℕ) → EndKnows desk i v = λ i. record { alone = λ f. absurd (false≢true (sym f ∙ opened)); none = mine.none; some = mine.some; there = mine.there; knows = mine.knows; owner = λ _. mine.owner first } in
      ⊎_elim
      (λ h. ⊎_elim (λ k. subst (EndKnows desk j) k.1 (like j)) (λ k. on j w k.1) (at_set views id j v w h))
      (λ h. subst (EndKnows desk j) h.1 (like j))
      (snoc_at (set views id v) v w j there)

  module _ (id : ℕ) (v : TrieFacts) (old new : Desk A B) (views : List TrieFacts) (on : OnDesk old views) (at : get_elem? views id ≡ some v) where
    abbrev Goal : Type 0
    Goal = (w : TrieFacts) × OnDesk new (set views id w) × is_known v old new w

    -- what lies there goes on, or the owner takes it away
    pub turns : new.opened ≡ old.opened → Moves id old.working new.working → Goal
    turns same moves = let w : TrieFacts = known_after new.working v in let mine = on id v at in let bits = bits_after old.working new.working id v moves mine.knows in
        let there = λ (k : IsSome old.working → old.opened ≡ true) (some : IsSome new.working). same ∙ k (was_there id old.working new.working moves some) in (
          w,
          λ j x here. ⊎_elim
              (λ h. subst (EndKnows new j) h.1 record {
                alone = λ f. h.0 ∙ mine.alone (sym same ∙ f);
                none = λ f. bits ∙ mine.none (sym same ∙ f);
                some = λ t. subst (λ (n : ℕ). 0 < n) (sym bits) (mine.some (sym same ∙ t));
                there = there mine.there;
                knows = knows_after new.working v;
                owner = λ _. record { works = λ _. works_after new.working v; given = given_after new.working v };
              })
              (λ h. let k = on j x h.1 in record {
                alone = λ f. k.alone (sym same ∙ f);
                none = λ f. k.none (sym same ∙ f);
                some = λ t. k.some (sym same ∙ t);
                there = there k.there;
                knows = knows_on id old.working new.working x moves k.knows;
                owner = λ first. let own = k.owner first in record {
                  works = λ t so. stays_there id j h.0 first old.working new.working moves (own.works (sym same ∙ t) so);
                  given = as_given id j h.0 first old.working new.working x.given moves own.given;
                };
              })
              (at_set views id j w x here),
          refl,
        )

    -- what lies there goes on, and who put it there knows what it knew
    pub stays : new.opened ≡ old.opened → DeskStays old.working new.working → (w : TrieFacts) × OnDesk new (set views id w) × (w ≡ v)
    stays same moves = (
      v,
      λ j x here. let k : EndKnows old j x = ⊎_elim (λ h. subst (EndKnows old j) h.1 (subst (λ (n : ℕ). EndKnows old n v) (sym h.0) (on id v at))) (λ h. on j x h.1) (at_set views id j v x here) in record {
        alone = λ f. k.alone (sym same ∙ f);
        none = λ f. k.none (sym same ∙ f);
        some = λ t. k.some (sym same ∙ t);
        there = λ some. same ∙ k.there (was_still old.working new.working moves some);
        knows = known_still old.working new.working x moves k.knows;
        owner = λ first. let own = k.owner first in record {
          works = λ t so. is_still old.working new.working moves (own.works (sym same ∙ t) so);
          given = given_still old.working new.working x.given moves own.given;
        };
      },
      refl,
    )

    -- the first round is laid there
    pub places : (t : TrieFacts) → v.bits ≡ 0 → 0 < t.bits → new.working ≡ Some t → new.opened ≡ true → Goal
    places t bare_bits any is opened = let mine = on id v at in
        let bare : old.opened ≡ false = (learns id v old views on at).unopened bare_bits in let w : TrieFacts = known_after new.working v in let same : w ≡ t = ap (λ (z : Option TrieFacts). known_after z v) is in (
          w,
          λ j x there. ⊎_elim
              (λ h. subst (EndKnows new j) (sym same ∙ h.1) record {
                alone = λ f. absurd (false≢true (sym f ∙ opened));
                none = λ f. absurd (false≢true (sym f ∙ opened));
                some = λ _. any;
                there = λ _. opened;
                knows = subst (λ (z : Option TrieFacts). IfSome z (KnowsMore t)) (sym is) (more_self t);
                owner = λ _. record {
                  works = λ _ _. ap is_some is;
                  given = subst (λ (z : Option TrieFacts). IfSome z (λ u. u.given ≡ t.given)) (sym is) refl;
                };
              })
              (λ h. absurd (h.0 ((on j x h.1).alone bare ∙ sym (mine.alone bare))))
              (at_set views id j w x there),
          refl,
        )

-- what an end knows that put something there
pub put_known : {A B : Type 0} (taken : Option (Desk A B)) (old new : Desk A B) (v w : TrieFacts) → taken ≡ Some old → IfSome taken (λ t. is_known v t new w) → w ≡ known_after new.working v
put_known taken old new v w is then = subst (λ (z : Option (Desk _ _)). IfSome z (λ t. is_known v t new w)) is then

-- what an end knows that put something there and learnt nothing from it
pub kept_known : {A B : Type 0} (taken : Option (Desk A B)) (old : Desk A B) (v w : TrieFacts) → taken ≡ Some old → IfSome taken (λ _. w ≡ v) → w ≡ v
kept_known taken old v w is then = subst (λ (z : Option (Desk _ _)). IfSome z (λ _. w ≡ v)) is then

-- what is known of a trie that was found closed
pub closed_more : (v : TrieFacts) → KnowsMore v (record v { closed = true })
closed_more v = record { closed = λ _. refl; table = refl; bits = refl; lanes = (more_self v).lanes; part = (more_self v).part }

-- an end that took a round off the desk, and lays there what became of it
module _ {A B : Type 0} (pass : Seat (Option (Desk A B)) (Holding (Desk A B) TrieFacts)) where
  pub took_from : (v : TrieFacts) (desk : Desk A B) (was : TrieFacts) → client_of pass ≡ v → Holds desk None pass → desk.working ≡ Some was → KnowsDesk v desk → GoesOnFrom pass was
  took_from v desk was view holds is k = let there : desk.opened ≡ true = k.there (subst (λ (z : Option TrieFacts). IsSome z) (sym is) refl) in record {
    was = was;
    holds = subst (λ (z : Desk A B). Holds z None pass) (λ i. record { working = is i; opened = there i }) holds;
    knows = subst (λ (z : TrieFacts). KnowsMore z was) (sym view) (subst (λ (z : Option TrieFacts). IfSome z (KnowsMore v)) is k.knows);
    more = more_self was;
    given = inr refl;
  }

  module _ (was now : TrieFacts) (from : GoesOnFrom pass was) where
    pub keeps_from : KeepsHandles was now → GoesOnFrom pass now
    keeps_from k = record { was = from.was; holds = from.holds; knows = from.knows; more = more_on from.was was now from.more k.more; given = ⊎_elim (λ own. inl own) (λ same. inr (k.given ∙ same)) from.given }

    pub owner_from : pass.id ≡ 0 → KnowsMore was now → GoesOnFrom pass now
    owner_from own more = record { was = from.was; holds = from.holds; knows = from.knows; more = more_on from.was was now from.more more; given = inl own }

-- what is known then, by what was known
pub knows_on_from : (own mine new : TrieFacts) → mine ≡ own → KnowsMore mine new → KnowsMore own new
knows_on_from own mine new same more = subst (λ (z : TrieFacts). KnowsMore z new) same more

-- what lies there stays as it is
pub desk_self : (o : Option TrieFacts) → DeskStays o o
desk_self None = tt
desk_self (Some t) = (more_self t, refl)

pub desk_same : (o : Option TrieFacts) (was now : TrieFacts) → o ≡ Some was → now ≡ was → DeskStays o (Some now)
desk_same o was now is same = subst (λ (z : Option TrieFacts × TrieFacts). DeskStays z.0 (Some z.1)) (λ i. (sym is i, sym same i)) (desk_self (Some was))
