-- An access stays of its lane, and so a look stays one of its access.
use Rattle.std.proofs.Common.{◌≡◌, inl, inr, ◌+◌, ◌∙◌, ℕ, List, [], ◌∷◌, length, drop, ap, sym}
use Rattle.std.specs.Prelude.{ℤ, Option, Some, None, IfSome}
use Rattle.aug_trie.specs.Pass.{PassFacts}
use Rattle.aug_trie.specs.Round.{table_of}
use Rattle.aug_trie.specs.declared.updates.request.Request.{Request}
use Rattle.aug_model.specs.declared.outcome.Outcome.{Outcome}
use Rattle.aug_live.specs.LiveHandles.{Follows, HandleFacts, IsLookOf, LookFacts, Makes, WhoFacts}
use Rattle.aug_c.specs.ArrayCalls.{EndsAt, InTurn, MakesEach, MakesSome}
use Rattle.aug_c.specs.declared.array_updates.ArrayProgress.{ArrayProgress}
use Rattle.aug_c.specs.inside.SameLanes.{IsOfSameLane}

pub same_lane : (a b : HandleFacts) → b ≡ a → IsOfSameLane a b
same_lane a b same = record { table = ap (λ (h : HandleFacts). table_of h.half.round) same; lane = ap (λ (h : HandleFacts). h.who.lane) same }

lane_on : (a b c : HandleFacts) → IsOfSameLane a b → IsOfSameLane b c → IsOfSameLane a c
lane_on a b c x y = record { table = y.table ∙ x.table; lane = y.lane ∙ x.lane }

follows_lane : (a b : HandleFacts) → Follows a b → IsOfSameLane a b
follows_lane a b f = record { table = f.together; lane = f.same_handle.lane }

makes_lane : (count : ℕ) (does : PassFacts → PassFacts → Type 0) (a b : HandleFacts) → Makes count does a b → IsOfSameLane a b
makes_lane count does a b m = record {
  table = ap (λ (z : PassFacts). table_of z.round) m.done.2.same ∙ m.follows.together;
  lane = ap (λ (w : WhoFacts). w.lane) m.who ∙ m.follows.same_handle.lane;
}

turns_lane : (asked : ℕ → Request) (place : ℕ) (keys : List ℕ) (batches : List (List Outcome)) (a b : HandleFacts) → InTurn (MakesSome asked) place keys batches a b → IsOfSameLane a b
turns_lane asked place keys [] a b same = same_lane a b same
turns_lane asked place keys (done ∷ more) a b turns =
    lane_on a turns.0 b (makes_lane _ _ a turns.0 turns.2.makes) (turns_lane asked (place + length done) (drop (length done) keys) more turns.0 b turns.3)

end_lane : (all made : ℕ) (last new : HandleFacts) (code : ℤ) → EndsAt all made last new code → IsOfSameLane last new
end_lane all made last new code (inl done) = same_lane last new done.2
end_lane all made last new code (inr stopped) = follows_lane last new stopped.2

-- updates for an array
pub each_lane : (asked : ℕ → Request) (keys : List ℕ) (before after : ArrayProgress) (a b : HandleFacts) (code : ℤ) → MakesEach asked keys before after a b code → IsOfSameLane a b
each_lane asked keys before after a b code m = lane_on a m.last b (turns_lane asked before.made (drop before.made keys) m.batches a m.last m.in_turn) (end_lane (length keys) after.made m.last b code m.ends)

-- the look of an access that is of the same lane later
pub owned : (a b : HandleFacts) (look : Option LookFacts) → IsOfSameLane a b → IfSome look (λ l. IsLookOf a l) → IfSome look (λ l. IsLookOf b l)
owned a b (Some look) same own = record { table = own.table ∙ sym same.table; lane = own.lane ∙ sym same.lane }
owned a b None same own = tt
