-- What a pop is for a handle: what it accepted, and that one that was refused changes nothing.
use Rattle.std.proofs.Common.{◌≡◌, ℕ, List, Option, Some, None, sym, ap, ◌∙◌, subst}
use Rattle.aug_core.specs.Prefixes.{IsPrefix}
use Rattle.aug_core.proofs.PrefixLemmas.{prefix_trans}
use Rattle.aug_model.specs.Keys.{list_of}
use Rattle.aug_model.specs.declared.summary.Summary.{Summary}
use Rattle.aug_trie.specs.Knowledge.{Knowledge}
use Rattle.aug_trie.specs.Pass.{PassFacts}
use Rattle.aug_trie.specs.Pops.{member_at, PopsTo, Pops}
use Rattle.aug_trie.specs.Snapshot.{set_at}
use Rattle.aug_trie.specs.declared.rounds.pop.Pop.{Pop}
use Rattle.aug_trie.specs.declared.rounds.pop.Pop.TheVariants as pop
use Rattle.aug_trie.specs.declared.rounds.pop.Side.{Side}
use Rattle.aug_trie.specs.declared.updates.request.Request.TheVariants as asked
use Rattle.aug_live.specs.LiveHandles.{HandleFacts, Follows, Makes}
use Rattle.aug_live.proofs.Carries.{refused_same, none_follows}

module _ {A B : Type 0} (summary_of : List (ℕ × ℕ) → Summary A B) (side : Side) where
  -- the snapshot and the questions accept nothing
  asked_same : (done : Pop) (old new : PassFacts) (p : Pops summary_of side done old new) → IsPrefix old.knows.history p.asked.knows.history × (p.asked.knows.accepted ≡ old.knows.accepted)
  asked_same done old new p = subst (λ (z : Knowledge). IsPrefix old.knows.history z.history × (z.accepted ≡ old.knows.accepted)) (sym (ap (λ (z : PassFacts). z.knows) p.reads.stays.same)) (p.takes.goes_on, p.takes.same_changes)

  refused_pop : (old new : PassFacts) → Pops summary_of side pop.Refused old new → IsPrefix old.knows.history new.knows.history × (new.knows.accepted ≡ old.knows.accepted)
  refused_pop old new p = by_found (member_at side (list_of (set_at p.looked p.snapshot))) p.pops_to
    where
      before : IsPrefix old.knows.history p.asked.knows.history × (p.asked.knows.accepted ≡ old.knows.accepted)
      before = asked_same pop.Refused old new p

      by_found : (found : Option ℕ) → PopsTo summary_of (set_at p.looked p.snapshot) found pop.Refused p.asked new → IsPrefix old.knows.history new.knows.history × (new.knows.accepted ≡ old.knows.accepted)
      by_found None is = absurd is
      by_found (Some k) is = let same = refused_same (asked.Take is.0) k p.asked.knows new.knows is.2.comes_to in
          (prefix_trans old.knows.history p.asked.knows.history new.knows.history before.0 same.0, same.1 ∙ before.1)

  -- after a pop that was refused a handle is where it may make another one
  pub refused_pop_follows : (a b : HandleFacts) → Makes 1 (Pops summary_of side pop.Refused) a b → Follows a b
  refused_pop_follows a b m = none_follows 1 (Pops summary_of side pop.Refused) a b m (refused_pop m.start.half b.half m.done.0)
