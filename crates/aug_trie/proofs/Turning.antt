-- What contracts see of a turn.
use Rattle.std.proofs.Common.{Some, ◌≡◌, ℕ, ◌+◌, ◌-◌, ◌^◌, ◌<◌, ◌≤◌, true, List, [], ◌∷◌, ◌++◌, length, sym, refl, ap, ◌∙◌, subst, arith, length-append}
use Rattle.atomic_table.specs.Seated.{TableId}
use Rattle.aug_words.specs.Seats.{Known}
use Rattle.aug_monoid.specs.Parts.{Parts}
use Rattle.aug_model.specs.Folds.{summary_of}
use Rattle.aug_core.specs.Faces.{face}
use Rattle.aug_core.specs.Counts.{changes_of}
use Rattle.aug_core.specs.Kinds.{load_leaf, try_leaf}
use Rattle.aug_core.specs.Effects.{own_lane, KnowsBook}
use Rattle.aug_core.specs.declared.view.SeatView.{SeatView}
use Rattle.aug_model.specs.declared.outcome.Outcome.{Outcome}
use Rattle.aug_trie.specs.inside.Climbing.{Updated}
use Rattle.aug_trie.specs.inside.Knows.{root_history, knows, root_numbers}
use Rattle.aug_trie.specs.Updates.{ComesTo}
use Rattle.aug_trie.specs.Pass.{PassFacts, GoesOn, StepsOf}
use Rattle.aug_trie.specs.inside.PassState.{pass_facts, KeepsAccount}
use Rattle.aug_trie.specs.inside.RoundState.{round_of, eras_of, past_rounds}
use Rattle.aug_trie.specs.Node.{Keeps}
use Rattle.aug_trie.specs.inside.Points.{OneStep}
use Rattle.aug_trie.specs.Requests.{word_after, goes_from}
use Rattle.aug_trie.specs.declared.updates.request.Request.{Request}
use Rattle.aug_trie.specs.inside.Stages.{HasBegun, StageAt, stage_turns, MayTry, IsRising, Climbs, StageFalls}
use Rattle.aug_trie.specs.inside.ClimbState.{climb_facts, began_facts, start_facts, HoldsClimb}
use Rattle.aug_trie.specs.Climb.{ClimbFacts, StepsOnce, TurnsOn, Finishes}
use Rattle.aug_trie.specs.declared.rounds.account.Account.{Account}
use Rattle.aug_trie.specs.declared.turns.ascents.Ascent.{Ascent}
use Rattle.aug_trie.specs.declared.turns.stages.Stage.{Stage}
use Rattle.aug_trie.specs.declared.turns.stages.Stage.TheVariants.{Leaf, Change, Up}
use Rattle.aug_trie.specs.declared.turns.stages.Next.{Next}
use Rattle.aug_trie.specs.declared.turns.stages.Next.TheVariants.{More, Done}
use Rattle.aug_trie.proofs.Accepting.{knows_on, comes_to, settled}
use Rattle.aug_trie.proofs.Advancing.{goes_at}
use Rattle.aug_trie.proofs.Counters.{may_count, counted_by}
use Rattle.aug_trie.proofs.PassCalls.{account_after}
use Rattle.aug_trie.proofs.Passing.{gained_by, goes_on_by, steps_of, pass_after}
use Rattle.aug_trie.proofs.Staging.{room_one}
use Rattle.aug_trie.proofs.Trees.{keeps_on}
use Rattle.aug_trie.proofs.Updating.{goes_begun}
use Rattle.std.specs.Prelude.{unwrap_or, slice_index_or, drop}
use Rattle.std.proofs.lemmas.List.{append_cancel_left}
use Rattle.aug_core.specs.declared.step.StepTaken.{StepTaken}

-- ---- the turns that are left

-- a list that goes on from another is not the same
made_some : (front all : List StepTaken) (x : StepTaken) (more : List StepTaken) → all ≡ front ++ x ∷ more → all ≡ front → ⊥
made_some front all x more is same = let a = ap (λ (z : List StepTaken). length z) is in let b = ap (λ (z : List StepTaken). length z) same in let long = length-append front (x ∷ more) in omega arith

-- two lists that go on from one by a load of the same leaf found the same, and go on as each other
one_load : (key found other : ℕ) (front more rest : List StepTaken) → front ++ load_leaf key found ∷ more ≡ front ++ load_leaf key other ∷ rest → (found ≡ other) × (more ≡ rest)
one_load key found other front more rest is = let e = append_cancel_left front (load_leaf key found ∷ more) (load_leaf key other ∷ rest) is in
    (ap (λ (z : List StepTaken). unwrap_or (slice_index_or z 0 (load_leaf key other)).found 0) e, ap (λ (z : List StepTaken). drop 1 z) e)

module _ (f : ℕ → ℕ → List (ℕ × ℕ) → List ℕ) where
  module _ (leaves bits number left key : ℕ) (request : Request) (u : SeatView) (table : TableId) where
    -- ---- what a stage says of the start

    abbrev at_start : PassFacts
    at_start = pass_facts (record { table = table; view = u }) left

    begun_is : (v : SeatView) → HasBegun f leaves bits number left key request u v → began_facts (record { table = table; view = v }) left ≡ at_start
    begun_is v b = let began : v.began ≡ record { seen = u.seen; steps = u.steps; changes = changes_of u.held } = b.began in λ i. record {
      round = round_of table (record v { era = (b.same_eras i).0; shape = b.shaped i; members = b.same_members i });
      past = past_rounds (b.shaped i) (b.same_eras i).1;
      lane = b.lane i;
      knows = record { history = root_history (b.shaped i) (began i).seen; accepted = (began i).changes };
      numbers = root_numbers (b.shaped i) (began i).seen;
      spent = (b.shaped i).updates - left;
      steps = (began i).steps;
      words = record { shape = b.shaped i; book = (began i).seen };
    }

    loaded_begun : (v : SeatView) (word : ℕ) → StageAt f leaves bits number left key request u (Change word) v → HasBegun f leaves bits number left key request u v
    loaded_begun v word t = let l = t.is_stage.loaded in record {
      began = ap (λ (z : SeatView). z.began) l.stepped;
      shaped = ap (λ (z : SeatView). z.shape) l.stepped;
      same_members = ap (λ (z : SeatView). z.members) l.stepped;
      same_eras = ap eras_of l.stepped;
      lane = ap (λ (z : SeatView). own_lane z.held) l.stepped;
    }

    pub start_is : (stage : Stage) (v : SeatView) → StageAt f leaves bits number left key request u stage v → start_facts (record { table = table; view = v }) left stage ≡ at_start
    start_is Leaf v t = let e : v ≡ u = t.is_stage in ap (λ (z : SeatView). pass_facts (record { table = table; view = z }) left) e
    start_is (Change word) v t = begun_is v (loaded_begun v word t)
    start_is (Up done a) v t = begun_is v t.is_stage.has_begun

    pub knows_stage : (stage : Stage) (v : SeatView) → StageAt f leaves bits number left key request u stage v → KnowsBook f v
    knows_stage Leaf v t = subst (KnowsBook f) (sym t.is_stage) t.is_pass.knows_table
    knows_stage (Change word) v t = (goes_begun f u v key word t.is_pass.knows_table t.is_stage.loaded).knows_table
    knows_stage (Up done a) v t = let o = t.is_stage.on_way in (goes_at f o.begun a.node (number + a.level) a.point v o.try_at).knows_table

    -- the steps since the start: a load of the leaf
    loaded_steps : (v : SeatView) (word : ℕ) → MayTry f leaves bits number left key request u word v → v.steps ≡ v.began.steps ++ load_leaf key word ∷ []
    loaded_steps v word m = let l = m.loaded in ap (λ (z : SeatView). z.steps) l.stepped ∙ ap (λ (z : SeatView). z.began.steps ++ load_leaf key word ∷ []) (sym l.stepped)

    -- and all others
    left_steps : (v : SeatView) (done : Outcome) (a : Ascent) (r : IsRising f leaves bits number left key request u done a v) → v.steps ≡ v.began.steps ++ load_leaf key r.has_left.found ∷ r.has_left.more
    left_steps v done a r = r.has_left.steps ∙ ap (λ z. z.steps ++ load_leaf key r.has_left.found ∷ r.has_left.more) (sym r.has_begun.began)

    -- one step
    pub once : (v w : SeatView) (rest : ℕ) → KnowsBook f v → OneStep v w → StepsOnce (pass_facts (record { table = table; view = v }) left) (pass_facts (record { table = table; view = w }) rest)
    once v w rest kn s = record {
      taken = s.taken;
      same = let facts : PassFacts = pass_facts (record { table = table; view = w }) rest in
          λ i. record facts { round = round_of table (record w { era = (s.same_eras i).0; shape = s.shaped i; members = s.same_members i }); past = past_rounds (s.shaped i) (s.same_eras i).1; lane = s.lane i; steps = s.steps i };
      goes_on = knows_on f v w kn s.shaped s.later;
    }

    -- ---- a turn after which there is more to do

    module _ (v w : SeatView) (stage : Stage) (t : StageAt f leaves bits number left key request u stage v) where
      abbrev start : PassFacts
      start = start_facts (record { table = table; view = v }) left stage

      first_loads : (stage : Stage) → StageAt f leaves bits number left key request u stage v → (stage ≡ Leaf → (found : ℕ) × (w.steps ≡ v.steps ++ load_leaf key found ∷ [])) → v.steps ≡ (start_facts (record { table = table; view = v }) left stage).steps
          → (found : ℕ) × (w.steps ≡ v.steps ++ load_leaf key found ∷ [])
      first_loads Leaf t told is = told refl
      first_loads (Change word) t told is = absurd (made_some v.began.steps v.steps (load_leaf key word) [] (loaded_steps v word t.is_stage) is)
      first_loads (Up done a) t told is = let left = t.is_stage.has_left in absurd (made_some v.began.steps v.steps (load_leaf key left.found) left.more (left_steps v done a t.is_stage) is)

      second_tries : (stage : Stage) → StageAt f leaves bits number left key request u stage v → ((word : ℕ) → stage ≡ Change word → (found : ℕ) × (w.steps ≡ v.steps ++ try_leaf key word (word_after request key word) found ∷ []))
          → (loaded : ℕ) → v.steps ≡ (start_facts (record { table = table; view = v }) left stage).steps ++ load_leaf key loaded ∷ [] → goes_from request loaded ≡ true
          → (found : ℕ) × (w.steps ≡ v.steps ++ try_leaf key loaded (word_after request key loaded) found ∷ [])
      second_tries Leaf t told loaded is lets = absurd (made_some v.steps v.steps (load_leaf key loaded) [] is refl)
      second_tries (Change word) t told loaded is lets = let same = (one_load key word loaded v.began.steps [] [] (sym (loaded_steps v word t.is_stage) ∙ is)).0 in
          subst (λ (z : ℕ). (found : ℕ) × (w.steps ≡ v.steps ++ try_leaf key z (word_after request key z) found ∷ [])) same (told word refl)
      second_tries (Up done a) t told loaded is lets = let left = t.is_stage.has_left in let one = one_load key left.found loaded v.began.steps left.more [] (sym (left_steps v done a t.is_stage) ∙ is) in
          absurd (let some = left.tried (subst (λ (z : ℕ). goes_from request z ≡ true) (sym one.0) lets) in let none = ap (λ (z : List StepTaken). length z) one.1 in omega arith)

      pub turns_on : (next : Stage) → StageAt f leaves bits number left key request u next w → OneStep v w → stage_turns bits next < stage_turns bits stage → 1 ≤ stage_turns bits next
          → (stage ≡ Leaf → (found : ℕ) × (w.steps ≡ v.steps ++ load_leaf key found ∷ [])) → ((word : ℕ) → stage ≡ Change word → (found : ℕ) × (w.steps ≡ v.steps ++ try_leaf key word (word_after request key word) found ∷ []))
          → TurnsOn (climb_facts (record { table = table; view = v }) bits left key request stage) (climb_facts (record { table = table; view = w }) bits left key request next)
      turns_on next t' step falls some first second = record {
        same = ap (λ (z : PassFacts). record { start = z; now = pass_facts (record { table = table; view = w }) left; request = request; key = key; left = stage_turns bits next }) (start_is next w t' ∙ sym (start_is stage v t));
        once = once v w left (knows_stage stage v t) step;
        falls = falls;
        some = some;
        first = first_loads stage t first;
        second = second_tries stage t second;
      }

      -- ---- the last turn

      pub finishes : (done : Outcome) → OneStep v w → 1 ≤ stage_turns bits stage → Updated f (number + bits) u key request w done
          → Finishes done (climb_facts (record { table = table; view = v }) bits left key request stage) (pass_facts (record { table = table; view = w }) (left - 1))
      finishes done step some up = let e = sym (start_is stage v t) in let p = t.is_pass in let after = pass_facts (record { table = table; view = w }) (left - 1) in record {
        once = once v w (left - 1) (knows_stage stage v t) step;
        some = some;
        comes_to = subst (λ (z : PassFacts). ComesTo request key done z.knows (knows w)) e (comes_to f (number + bits) u key request w p.knows_table t.low done (settled f up));
        goes_on = (length up.more + 1, subst (λ (z : PassFacts). GoesOn 1 (length up.more + 1) z after) e (goes_on_by f u w leaves bits number left key request p t.some t.low table done up));
        steps = subst (λ (z : PassFacts). StepsOf request key done z after) e (steps_of f u w leaves bits number left key request p t.some t.low table done up);
      }

-- ---- a turn of a climb, by what the call of its next stage says

module _ {A B : Type 0} (parts_a : Parts A) (parts_b : Parts B) where
  abbrev both : ℕ → ℕ → List (ℕ × ℕ) → List ℕ
  both = face parts_a parts_b

  -- the last one made a pass of it again
  pub record ClimbDone (now : ClimbFacts) (w : Known) (done : Outcome) (after : Account) : Type 0 where
    pub holds : KeepsAccount both (Some w) after
    pub finish : Finishes done now (pass_facts w after.left)
    pub keeps : Keeps (summary_of parts_a parts_b) now.start (pass_facts w after.left)

  module _ (k : Known) (a : Account) (key : ℕ) (request : Request) (stage : Stage) (now : ClimbFacts) (held : HoldsClimb both k.view a.leaves a.bits a.next a.left a.inserts a.removals key request stage) (is : climb_facts k a.bits a.left key request stage ≡ now) where
    -- one more change may be counted, and its records are numbered
    pub has_room : (a.inserts + 1 < 2 ^ 32) × (a.removals + 1 < 2 ^ 32) × (a.next + a.bits < 2 ^ 60)
    has_room = let few = may_count both held.began a.leaves a.bits a.next a.left a.inserts a.removals held.stage_at.is_pass held.counts in (omega (arith, few), omega (arith, few), (room_one both held.began a.leaves a.bits a.next a.left held.stage_at.is_pass held.stage_at.some).1)

    module _ (w : Known) (next : Next) (table : w.table ≡ k.table) (step : OneStep k.view w.view) (falls : StageFalls a.bits stage next)
        (on : (left : ℕ) (u : SeatView) → StageAt both a.leaves a.bits a.next left key request u stage k.view → Climbs both a.leaves a.bits a.next left key request u next w.view) where
      pub climbs : (same : Next) → next ≡ same → Climbs both a.leaves a.bits a.next a.left key request held.began same w.view
      climbs same next_is = subst (λ (z : Next). Climbs both a.leaves a.bits a.next a.left key request held.began z w.view) next_is (on a.left held.began held.stage_at)

      pub climb_on : (more : Stage) → next ≡ More more → (stage ≡ Leaf → (found : ℕ) × (w.view.steps ≡ k.view.steps ++ load_leaf key found ∷ []))
          → ((word : ℕ) → stage ≡ Change word → (found : ℕ) × (w.view.steps ≡ k.view.steps ++ try_leaf key word (word_after request key word) found ∷ [])) → TurnsOn now (climb_facts w a.bits a.left key request more)
      climb_on more next_is first second = let fewer = subst (StageFalls a.bits stage) next_is falls in
          subst (λ (z : ClimbFacts × TableId). TurnsOn z.0 (climb_facts (record { table = z.1; view = w.view }) a.bits a.left key request more)) (λ j. (is j, sym table j))
          (turns_on both a.leaves a.bits a.next a.left key request held.began k.table k.view w.view stage held.stage_at more (climbs (More more) next_is) step fewer.0 fewer.1 first second)

      pub climb_done : (done : Outcome) (after : Account) → next ≡ Done done → after ≡ account_after a request done → ClimbDone now w done after
      climb_done done after next_is after_is = let u = held.began in let t = held.stage_at in let up = climbs (Done done) next_is in
          subst (λ (z : ClimbFacts × TableId × Account). ClimbDone z.0 (record { table = z.1; view = w.view }) done z.2) (λ j. (is j, sym table j, sym after_is j)) record {
            holds = record {
              pass = record { known = record { table = k.table; view = w.view }; there = refl; is_pass = pass_after both u w.view a.leaves a.bits a.next a.left key request t.is_pass t.some t.low done up };
              counts = counted_by both (a.next + a.bits) u w.view key a.inserts a.removals request done up held.counts;
            };
            finish = finishes both a.leaves a.bits a.next a.left key request u k.table k.view w.view stage t done step (subst (StageFalls a.bits stage) next_is falls) up;
            keeps = let goes = (gained_by both u w.view a.leaves a.bits a.next a.left key request t.is_pass t.some t.low done up).2 in
                subst (λ (z : PassFacts). Keeps (summary_of parts_a parts_b) z (pass_facts (record { table = k.table; view = w.view }) (a.left - 1))) (sym (start_is both a.leaves a.bits a.next a.left key request u k.table stage k.view t))
                (keeps_on parts_a parts_b (record { table = k.table; view = u }) (record { table = k.table; view = w.view }) a.left (a.left - 1) t.is_pass.room.keeps_records t.is_pass.knows_table goes.knows_table goes.shaped goes.later);
          }
