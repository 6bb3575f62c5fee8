-- What a look comes to that was asked, or that took a newer snapshot with its handle.
use Rattle.std.proofs.Common.{◌≡◌, ◌∙◌, ℕ, true, sym, subst}
use Rattle.std.specs.Prelude.{Option}
use Rattle.aug_trie.specs.Pass.{PassFacts}
use Rattle.aug_trie.specs.Round.{TableFacts}
use Rattle.aug_trie.specs.declared.queries.snapshot.Snapshot.{Snapshot}
use Rattle.aug_live.specs.LiveHandles.{HandleFacts, IsLookOf, LookFacts, LooksAgain}
use Rattle.aug_live.specs.inside.LaneKnowledge.{half_in}
use Rattle.aug_live.specs.inside.Looks.{HandleShows, HoldsLook}
use Rattle.aug_live.proofs.Shown.{looks_same}

abbrev look_with : ℕ → Snapshot → Snapshot → PassFacts → LookFacts
look_with lane held before reader = record { lane = lane; reader = reader; snapshot = held; before = before }

-- its handle was given the reader that was taken out of it
module _ (reader taken was new : Option PassFacts) (held before : Snapshot) (lane : ℕ) (a b : HandleFacts) (now : LookFacts) (first : was ≡ taken) (second : taken ≡ reader) (view : look_with lane held before (half_in reader) ≡ now) where
  module _ (slot : Option TableFacts) (table : TableFacts) (held' : Snapshot) (era era' : ℕ) (h : HoldsLook slot table reader held before era) (own : IsLookOf a now) (s : HandleShows was new era' held' a b) where
    s' : HandleShows reader new era' held' a b
    s' = subst (λ (z : Option PassFacts). HandleShows z new era' held' a b) (first ∙ second) s

    own' : IsLookOf a (look_with lane held before (half_in reader))
    own' = subst (IsLookOf a) (sym view) own

    pub again_same : era' ≡ era → LooksAgain true now (look_with lane held' held (half_in new)) a b
    again_same same = subst (λ (l : LookFacts). LooksAgain true l (look_with lane held' held (half_in new)) a b) view (looks_same slot table reader new held before held' era era' lane a b h s' own' same)
