-- A round in which nobody worked gives its set back.
use Rattle.std.proofs.Common.{◌≡◌, ℕ, ◌^◌, List, [], ap, subst, ◌∙◌}
use Rattle.aug_model.specs.Keys.{SetFacts, IsKeySet, keys_of}
use Rattle.aug_core.specs.Cuts.{Cut, opening_cut, pairs_of_cut}
use Rattle.aug_core.specs.declared.view.Change.{Change}
use Rattle.aug_core.proofs.PrefixLemmas.{prefix_refl}
use Rattle.aug_trie.specs.History.{IsHistory, last_cut}
use Rattle.aug_trie.specs.Round.{TableFacts, RoundFacts}
use Rattle.aug_trie.specs.Crew.{CrewFacts, BeginsIn, RollsOver}
use Rattle.aug_trie.specs.Tallies.{Tallies, TalliesWithLost}
use Rattle.aug_trie.proofs.CutLemmas.{pairs_of_cut-opening}
use Rattle.aug_trie.proofs.Risen.{opening-at_most, unchanged}
use Rattle.aug_trie.proofs.Tallying.{none_lost_tallies}

module _ (set : SetFacts) (table : TableFacts) (crew next : CrewFacts) (workers updates inserts removals : ℕ) (list : List (ℕ × ℕ)) (keys : IsKeySet set.bits (keys_of set.pairs))
    (begun : BeginsIn (2 ^ set.bits) set.pairs set.bits workers updates table crew) (rolls : RollsOver crew next inserts removals) (list_is : list ≡ next.round.members) where
  abbrev history : List Cut
  history = rolls.last.knows.history

  abbrev opening : Cut
  opening = opening_cut set.bits set.pairs

  pub same_bits : crew.round.bits ≡ set.bits
  same_bits = ap (λ (z : RoundFacts). z.bits) begun.round_is

  opened : rolls.last.round ≡ crew.round
  opened = ap (λ (z : CrewFacts). z.round) rolls.last_is

  bits : rolls.last.round.bits ≡ set.bits
  bits = ap (λ (z : RoundFacts). z.bits) (opened ∙ begun.round_is)

  members : rolls.last.round.members ≡ set.pairs
  members = ap (λ (z : RoundFacts). z.members) (opened ∙ begun.round_is)

  none : rolls.last.knows.accepted ≡ []
  none = rolls.same_changes ∙ ap (λ (z : CrewFacts). z.knows.accepted) begun.crew_is

  is_history : IsHistory set.bits set.pairs history
  is_history = subst (λ (z : ℕ × List (ℕ × ℕ)). IsHistory z.0 z.1 history) (λ i. (bits i, members i)) rolls.ends.is_history

  tallies : Tallies opening (last_cut history) []
  tallies = subst (λ (z : (ℕ × List (ℕ × ℕ)) × List Change). Tallies (opening_cut z.0.0 z.0.1) (last_cut history) z.1) (λ i. ((bits i, members i), none i))
      (none_lost_tallies rolls.last.round.updates (opening_cut rolls.last.round.bits rolls.last.round.members) (last_cut history) history rolls.last.knows.accepted
      (subst (λ (z : ℕ). TalliesWithLost rolls.last.round.updates z (opening_cut rolls.last.round.bits rolls.last.round.members) (last_cut history) history rolls.last.knows.accepted) rolls.none_missing rolls.ends.tallies))

  -- a round in which nobody worked gives the set back
  pub gives_back : list ≡ set.pairs
  gives_back = list_is ∙ ap (λ (z : RoundFacts). z.members) rolls.round_is ∙ rolls.ends.members ∙ ap pairs_of_cut (unchanged opening (last_cut history) (opening-at_most set.bits set.pairs history is_history history is_history.opens (prefix_refl history)) tallies)
      ∙ pairs_of_cut-opening set.bits set.pairs keys
