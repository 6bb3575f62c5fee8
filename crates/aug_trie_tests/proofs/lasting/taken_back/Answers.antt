use Rattle.std.proofs.Common.{◌≡◌, ◌+◌, ◌++◌, ◌∙◌, List, [], ◌∷◌, flat_map, length, refl, ap, subst, arith}
use Rattle.std.proofs.lemmas.List.{append-nil}
use Rattle.aug_core.specs.Cuts.{opening_cut}
use Rattle.aug_core.specs.declared.view.Change.{Change}
use Rattle.aug_trie.specs.Crew.{CrewFacts}
use Rattle.aug_trie.specs.History.{last_cut}
use Rattle.aug_trie.specs.Tallies.{Tallies}
use Rattle.aug_trie_tests.proofs.lasting.taken_back.Goals as goal

none_out : (lists : List (List Change)) → length lists ≡ 0 → flat_map (λ list. list) lists ≡ []
none_out [] e = refl
none_out (x ∷ xs) e = absurd (omega (arith, e))

pub returns-clause-changes : goal.returns-clause-changes
returns-clause-changes c = let one = c.back.ensures.knows in let both = c.back-2.ensures.knows in
    c.look.ensures.looks.same_changes ∙ both.changes_of_both ∙ ap (λ (z : List Change). z ++ c.args.other.pass.knows.accepted) one.changes_of_both

pub returns-clause-all : goal.returns-clause-all
returns-clause-all c two = let t = c.look.ensures.account in let crew : CrewFacts = c.look.new.self in
    let first = c.back.ensures in let second = c.back-2.ensures in let looks = c.look.ensures.looks in
    let back = ap (λ (z : CrewFacts). z.back) looks.crew_is ∙ ap (λ (z : CrewFacts). z.back) second.crew_is ∙ ap (λ (z : CrewFacts). z.back + 1) first.crew_is in
    let handed = ap (λ (z : CrewFacts). z.handed) looks.crew_is ∙ ap (λ (z : CrewFacts). z.handed) second.crew_is ∙ ap (λ (z : CrewFacts). z.handed) first.crew_is in
    let none : length t.tallies.lists ≡ 0 = (let sum = t.others in let each = t.tallies.one_each in omega (arith, sum, each, back, handed, two)) in
    subst (Tallies (opening_cut crew.round.bits crew.round.members) (last_cut crew.knows.history)) (ap (λ (z : List Change). crew.knows.accepted ++ z) (none_out t.tallies.lists none) ∙ append-nil crew.knows.accepted) t.tallies.together
