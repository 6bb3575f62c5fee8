-- What was made, one thing after another.
use Rattle.std.proofs.Common.{◌≡◌, ℕ, List, [], ◌∷◌, ◌++◌, length, refl, sym, ap, ◌∙◌, append_assoc}
use Rattle.std.specs.Prelude.{drop}
use Rattle.std.proofs.lemmas.List.{append-nil}
use mathlib.Core.List.{map-append}
use Rattle.aug_core.specs.Prefixes.{IsPrefix}
use Rattle.aug_core.specs.declared.view.Change.{Change}
use Rattle.aug_trie.specs.Pass.{PassFacts}
use Rattle.aug_live.specs.Ledgers.{Made, dated}
use Rattle.aug_live.specs.LiveHandles.{HandleFacts, added}
use Rattle.aug_live.specs.LiveTries.{Done, made_through}
use Rattle.aug_live.specs.inside.LaneKnowledge.{made_at}
use Rattle.aug_live.proofs.Ledgers.{drop-front}

pub dated-append : (era : ℕ) (xs ys : List Change) → dated era (xs ++ ys) ≡ dated era xs ++ dated era ys
dated-append era xs ys = map-append (λ (c : Change). (era, c)) xs ys

pub made_through-append : (xs ys : List Done) → made_through (xs ++ ys) ≡ made_through xs ++ made_through ys
made_through-append [] ys = refl
made_through-append (x ∷ xs) ys = ap (λ (z : List Made). x.1 ++ z) (made_through-append xs ys) ∙ sym (append_assoc x.1 (made_through xs) (made_through ys))

-- one more handle is done
pub made_through-one : (xs : List Done) (x : Done) → made_through (xs ++ x ∷ []) ≡ made_through xs ++ x.1
made_through-one xs x = made_through-append xs (x ∷ []) ∙ ap (λ (z : List Made). made_through xs ++ z) (append-nil x.1)

-- what was accepted since, of a list with which the later one begins
pub added-is : (a b : PassFacts) (more : List Change) → b.knows.accepted ≡ a.knows.accepted ++ more → added a b ≡ more
added-is a b more is = ap (λ (z : List Change). drop (length a.knows.accepted) z) is ∙ drop-front a.knows.accepted more

-- more was made by as much
pub more_made : (before : List Made) (a b : HandleFacts) → b.era ≡ a.era → IsPrefix a.half.knows.accepted b.half.knows.accepted → made_at before b ≡ made_at before a ++ dated b.era (added a.half b.half)
more_made before a b era p =
    let was : List Change = a.half.knows.accepted in
    let split : dated b.era b.half.knows.accepted ≡ dated a.era was ++ dated b.era p.0 =
    ap (dated b.era) p.1 ∙ dated-append b.era was p.0 ∙ ap (λ (n : ℕ). dated n was ++ dated b.era p.0) era in
    ap (λ (z : List Made). before ++ z) split ∙ sym (append_assoc before (dated a.era was) (dated b.era p.0)) ∙ ap (λ (z : List Change). made_at before a ++ dated b.era z) (sym (added-is a.half b.half p.0 p.1))

-- nothing is, if nothing more was accepted
pub none_added : (a b : PassFacts) → b.knows.accepted ≡ a.knows.accepted → added a b ≡ []
none_added a b same = added-is a b [] (same ∙ sym (append-nil a.knows.accepted))

pub same_made : (made : List Made) (era : ℕ) (a b : PassFacts) → b.knows.accepted ≡ a.knows.accepted → made ++ dated era (added a b) ≡ made
same_made made era a b same = ap (λ (z : List Change). made ++ dated era z) (none_added a b same) ∙ append-nil made

-- a new pass made nothing yet
pub none_made : (before : List Made) (at : HandleFacts) → at.half.knows.accepted ≡ [] → made_at before at ≡ before
none_made before at none = ap (λ (z : List Change). before ++ dated at.era z) none ∙ append-nil before
