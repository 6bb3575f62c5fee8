-- An insertion or a removal by a handle, which tells only whether it was accepted.
use Rattle.std.proofs.Common.{◌≡◌, ◌≢◌, ℕ, refl, subst}
use Rattle.aug_model.specs.declared.outcome.Outcome.{Outcome}
use Rattle.aug_model.specs.declared.outcome.Outcome.TheVariants as outcome
use Rattle.aug_trie.specs.Knowledge.{Knowledge, insertion, removal}
use Rattle.aug_trie.specs.Updates.{ComesTo, RefusedUpdate, Updates}
use Rattle.aug_trie.specs.declared.updates.request.Request.{Request}
use Rattle.aug_trie.specs.declared.updates.request.Request.TheVariants as asked
use Rattle.aug_trie.specs.declared.updates.told.Told.{Told}
use Rattle.aug_live.specs.LiveHandles.{HandleFacts, Makes}

-- what an update came to, told otherwise
pub came_to : (request : Request) (key : ℕ) (told : Told) (done : Outcome) (does : Knowledge → Knowledge → Type 0) (a b : HandleFacts) → told.outcome ≡ done → ((x y : Knowledge) → ComesTo request key done x y → does x y)
    → Makes 1 (λ x y. Updates request key told x.knows y.knows) a b → Makes 1 (λ x y. does x.knows y.knows) a b
came_to request key told done does a b is as_said m = record {
  start = m.start;
  follows = m.follows;
  same_era = m.same_era;
  done = (as_said m.start.half.knows b.half.knows (subst (λ (z : Outcome). ComesTo request key z m.start.half.knows b.half.knows) is m.done.0.0), m.done.1, m.done.2);
  who = m.who;
  made = m.made;
}

-- one that was not accepted was refused
pub no_insertion : (key : ℕ) (done : Outcome) → done ≢ outcome.Accepted → (x y : Knowledge) → ComesTo asked.Insert key done x y → RefusedUpdate insertion key x y
no_insertion key outcome.Accepted not x y c = absurd (not refl)
no_insertion key outcome.Replaced not x y c = absurd c
no_insertion key outcome.Refused not x y c = c
no_insertion key outcome.Unchanged not x y c = absurd c
no_insertion key outcome.TooGreat not x y c = absurd c
no_insertion key outcome.TooLittle not x y c = absurd c

pub no_removal : (key : ℕ) (done : Outcome) → done ≢ outcome.Accepted → (x y : Knowledge) → ComesTo asked.Remove key done x y → RefusedUpdate removal key x y
no_removal key outcome.Accepted not x y c = absurd (not refl)
no_removal key outcome.Replaced not x y c = absurd c
no_removal key outcome.Refused not x y c = c
no_removal key outcome.Unchanged not x y c = absurd c
no_removal key outcome.TooGreat not x y c = absurd c
no_removal key outcome.TooLittle not x y c = absurd c
