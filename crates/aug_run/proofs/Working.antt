-- What a worker's next row changes.
use Rattle.std.proofs.Common.{◌≡◌, ◌≢◌, ℕ, ◌+◌, ◌<◌, ◌≤◌, ◌==◌, ◌&&◌, IsTrue, Bool, true, cond, List, [], ◌∷◌, ◌++◌, length, take, take_all, get_or, sym, ap, ◌∙◌, subst, arith, if◌then◌else◌}
use Rattle.std.proofs.lemmas.Bool.{eq-eqb, ne_eqb}
use Rattle.std.proofs.lemmas.List.Filters.{length-filter_more}
use Rattle.aug_trie.specs.Round.{RoundFacts}
use Rattle.aug_trie.specs.Pass.{PassFacts}
use Rattle.aug_trie.specs.Snapshot.{HasSnapshot}
use Rattle.aug_trie.specs.declared.queries.snapshot.Snapshot.{Snapshot}
use Rattle.aug_report.specs.AllowedReport.{Lane, Answers}
use Rattle.aug_script.specs.Script.{is_update, updates_of}
use Rattle.aug_run.specs.inside.Workers.{AnswersRows, lane_at, rows_of}
use Rattle.aug_script.specs.declared.reply.Reply.{Reply}
use Rattle.aug_script.specs.declared.row.Row.{Row}
use Rattle.aug_script.specs.declared.verb.Verb.TheVariants as verb
use Rattle.aug_run.proofs.Answered.{answers_none, answers_more}
use Rattle.aug_run.proofs.Taking.{filter_keeps, filter_skips, filter_has_room}

-- a row that was never there, for reads past the end
abbrev pub no_row : Row
no_row = record { row = 0; lane = 0; verb = verb.Insert 0 }

-- a worker ran its lane's rows among the first i, and there is room for the replies to all
pub record Worked (round : RoundFacts) (lane : ℕ) (rows : List Row) (start : Lane) (i : ℕ) (pass : PassFacts) (held : Snapshot) (replies : List Reply) (len capacity : ℕ) : Type 0 where
  pub here : pass.round ≡ round
  pub has : HasSnapshot pass held
  pub answered : AnswersRows (rows_of lane (take i rows)) replies start (lane_at pass held)
  pub spent : pass.spent ≡ updates_of lane (take i rows)
  pub long : len ≡ length (rows_of lane (take i rows))
  pub room : length (rows_of lane rows) ≤ capacity

abbrev is_of : ℕ → Row → Bool
is_of lane row = row.lane == lane

abbrev is_update_of : ℕ → Row → Bool
is_update_of lane row = (row.lane == lane) && is_update row.verb

abbrev one_if : Bool → ℕ
one_if b = cond b 1 0

module _ (round : RoundFacts) (lane : ℕ) (rows : List Row) where
  pub worked_none : (pass : PassFacts) (held : Snapshot) (replies : List Reply) (len capacity : ℕ) → pass.round ≡ round → HasSnapshot pass held → replies ≡ [] → pass.spent ≡ 0 → len ≡ 0
      → length (rows_of lane rows) ≤ capacity → Worked round lane rows (lane_at pass held) 0 pass held replies len capacity
  worked_none pass held replies len capacity here has empty unspent none room =
      record { here = here; has = has; answered = rw empty (answers_none (lane_at pass held)); spent = unspent; long = none; room = room }

  module _ (start : Lane) (i : ℕ) (low : i < length rows) (pass : PassFacts) (held : Snapshot) (replies : List Reply) (len capacity : ℕ) (was : Worked round lane rows start i pass held replies len capacity) where
    module _ (own : (get_or rows i no_row).lane ≡ lane) where
      is_own : is_of lane (get_or rows i no_row) ≡ true
      is_own = eq-eqb (get_or rows i no_row).lane lane own

      -- an update of the lane is one of those that it may make
      pub budget_left : ((l : ℕ) → updates_of l rows ≤ round.updates) → IsTrue (is_update (get_or rows i no_row).verb) → pass.spent < pass.round.updates
      budget_left few update =
          let one : is_update_of lane (get_or rows i no_row) ≡ true = rw (is_own, update) in
          omega (arith, few lane, was.spent, ap (λ (r : RoundFacts). r.updates) was.here, filter_has_room (is_update_of lane) rows i no_row low one)

      -- its reply has room
      pub room_left : len < capacity
      room_left = omega (arith, was.long, was.room, filter_has_room (is_of lane) rows i no_row low is_own)

      -- and then it ran one row more
      pub worked_more : (pass' : PassFacts) (held' : Snapshot) (reply : Reply) (replies' : List Reply) (len' capacity' : ℕ)
          → Answers (get_or rows i no_row).verb reply (lane_at pass held) (lane_at pass' held') → HasSnapshot pass' held' → pass'.round ≡ pass.round
          → pass'.spent ≡ pass.spent + (if is_update (get_or rows i no_row).verb then 1 else 0)
          → replies' ≡ replies ++ reply ∷ [] → len' ≡ len + 1 → capacity ≤ capacity' → Worked round lane rows start (i + 1) pass' held' replies' len' capacity'
      worked_more pass' held' reply replies' len' capacity' answers has same more is one wide =
          let counted = length-filter_more (is_update_of lane) rows i no_row low in
          let update = ap (λ b. one_if (b && is_update (get_or rows i no_row).verb)) is_own in
          let row = length-filter_more (is_of lane) rows i no_row low in
          record {
            here = same ∙ was.here;
            has = has;
            answered = rw (filter_keeps (is_of lane) rows i no_row low is_own, is) (answers_more (rows_of lane (take i rows)) replies (get_or rows i no_row) reply start (lane_at pass held) (lane_at pass' held') was.answered answers);
            spent = omega (arith, was.spent, more, counted, update);
            long = omega (arith, was.long, one, row, ap one_if is_own);
            room = omega (arith, was.room, wide);
          }

    -- a row of another lane is passed over
    pub worked_same : (get_or rows i no_row).lane ≢ lane → Worked round lane rows start (i + 1) pass held replies len capacity
    worked_same other =
        let not_own = ne_eqb (get_or rows i no_row).lane lane other in
        let counted = length-filter_more (is_update_of lane) rows i no_row low in
        let none = ap (λ b. one_if (b && is_update (get_or rows i no_row).verb)) not_own in
        let same = filter_skips (is_of lane) rows i no_row low not_own in
        record {
          here = was.here;
          has = was.has;
          answered = rw same was.answered;
          spent = omega (arith, was.spent, counted, none);
          long = was.long ∙ ap (λ (l : List Row). length l) (sym same);
          room = was.room;
        }

  -- and where all rows were passed, it ran all of its lane
  pub worked_all : (start : Lane) (i : ℕ) (pass : PassFacts) (held : Snapshot) (replies : List Reply) (len capacity : ℕ) → length rows ≤ i → Worked round lane rows start i pass held replies len capacity → AnswersRows (rows_of lane rows) replies start (lane_at pass held)
  worked_all start i pass held replies len capacity past was = subst (λ (l : List Row). AnswersRows (rows_of lane l) replies start (lane_at pass held)) (take_all i rows past) was.answered
