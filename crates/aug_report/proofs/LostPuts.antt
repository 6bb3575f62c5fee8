-- Where nothing was put in or taken out, no put is lost.
use Rattle.std.proofs.Common.{◌≡◌, ◌≢◌, ℕ, ◌%◌, ◌<◌, ◌≤◌, Bool, true, false, ◌==◌, List, [], ◌∷◌, get_or, refl, ap, sym, ◌∙◌, inl, inr, arith, All, if◌then◌else◌}
use Rattle.std.proofs.lemmas.Bool.{eq-eqb, ne_eqb, cases_eq}
use Rattle.std.proofs.lemmas.List.Elements.{All-nil, All-cons, All-head, All-tail}
use Rattle.aug_model.specs.declared.outcome.Outcome.{Outcome}
use Rattle.aug_model.specs.declared.outcome.Outcome.TheVariants as outcome
use Rattle.aug_model.specs.Keys.{is_member, keys_of}
use Rattle.aug_core.specs.Cuts.{Cut, serial_of, pairs_of_cut, opening_cut}
use Rattle.aug_core.specs.declared.view.Change.{Change}
use Rattle.aug_core.specs.Prefixes.{IsPrefix}
use Rattle.aug_trie.specs.History.{IsHistory, last_cut}
use Rattle.aug_trie.specs.Knowledge.{inserts_of, removals_of}
use Rattle.aug_trie.specs.Updates.{ComesTo}
use Rattle.aug_trie.specs.declared.updates.request.Request.TheVariants as request
use Rattle.aug_script.specs.declared.reply.Reply.{Reply}
use Rattle.aug_script.specs.declared.reply.Reply.TheVariants as reply
use Rattle.aug_script.specs.declared.report.Report.{Report}
use Rattle.aug_script.specs.declared.row.Row.{Row}
use Rattle.aug_script.specs.declared.verb.Verb.{Verb}
use Rattle.aug_script.specs.declared.verb.Verb.TheVariants as verb
use Rattle.aug_trie.proofs.Risen.{last-at_most_final, opening-at_most, opens-some, tally_nothing}
use Rattle.aug_report.specs.AllowedReport.{Lane, Answers, AnswersAll, AllowedReport, lines_of, all_accepted, reply_to_put}
use Rattle.aug_trie.proofs.CutLemmas.{serial_rises}
use Rattle.aug_core.proofs.PrefixLemmas.{prefix_refl, prefix_trans}
use Rattle.aug_trie.proofs.TallyLemmas.{counted-cons}
use Rattle.aug_report.proofs.Histories.{prefix-length}
use Rattle.aug_report.proofs.Lanes.{step, story}
use Rattle.aug_report.proofs.TwoInsertions.{nobody}

abbrev one_if : Bool → ℕ
one_if b = if b then 1 else 0

-- each change is an insertion or a removal
no_changes : (changes : List Change) → inserts_of changes ≡ 0 → removals_of changes ≡ 0 → changes ≡ []
no_changes [] none_in none_out = refl
no_changes (c ∷ changes) none_in none_out = elim (cases_eq (c.serial % 2) 1) [
  | inl is_odd ↦ absurd (omega (arith, none_in, counted-cons (λ k n. n % 2 == 1) c changes, ap one_if (eq-eqb (c.serial % 2) 1 is_odd)))
  | inr even ↦ absurd (omega (arith, none_out, counted-cons (λ k n. n % 2 == 0) c changes, ap one_if (eq-eqb (c.serial % 2) 0 (omega (arith, even)))))
]

abbrev NotLost : Row × Reply → Type 0
NotLost line = line.1 ≢ reply.Lost

abbrev is_lost : Reply → ℕ
is_lost reply.Lost = 1
is_lost other = 0

abbrev yes_no : Bool → Reply
yes_no b = if b then reply.Yes else reply.No

never : (b : Bool) → is_lost (yes_no b) ≡ 0
never true = refl
never false = refl

-- no serial went up from one to the other
abbrev Still : Lane → Lane → Type 0
Still old new = (k : ℕ) → serial_of (last_cut new.knows.history) k ≤ serial_of (last_cut old.knows.history) k

-- where no serial went up, no put is lost
not_lost : (v : Verb) (r : Reply) (old new : Lane) → Answers v r old new → Still old new → r ≢ reply.Lost
not_lost (verb.Insert k) r old new a still lost = elim a.outcome [ inl h ↦ omega (arith, ap is_lost (sym h.0 ∙ lost)) | inr h ↦ omega (arith, ap is_lost (sym h.0 ∙ lost)) ]
not_lost (verb.Remove k) r old new a still lost = elim a.outcome [ inl h ↦ omega (arith, ap is_lost (sym h.0 ∙ lost)) | inr h ↦ omega (arith, ap is_lost (sym h.0 ∙ lost)) ]
not_lost (verb.Put k w) r old new a still lost = by_outcome a.outcome a.puts a.answers
  where
    by_outcome : (done : Outcome) → ComesTo (request.Put w) k done old.knows new.knows → r ≡ reply_to_put done → ⊥
    by_outcome outcome.Accepted puts is = omega (arith, ap is_lost (sym is ∙ lost))
    by_outcome outcome.Replaced puts is = omega (arith, ap is_lost (sym is ∙ lost))
    by_outcome outcome.Refused puts is = omega (arith, puts.rises, still k)
    by_outcome outcome.Unchanged puts is = puts
    by_outcome outcome.TooGreat puts is = puts
    by_outcome outcome.TooLittle puts is = puts
not_lost verb.Look r old new a still lost = omega (arith, ap is_lost (sym a.0 ∙ lost))
not_lost (verb.Has k) r old new a still lost = omega (arith, ap is_lost (sym a.0 ∙ lost), never (is_member (keys_of (pairs_of_cut old.held)) k))
not_lost (verb.Weight k) r old new a still lost = omega (arith, ap is_lost (sym a.0 ∙ lost))
not_lost verb.Size r old new a still lost = omega (arith, ap is_lost (sym a.0 ∙ lost))
not_lost (verb.Rank k) r old new a still lost = omega (arith, ap is_lost (sym a.0 ∙ lost))
not_lost (verb.Select i) r old new a still lost = omega (arith, ap is_lost (sym a.0 ∙ lost))
not_lost (verb.Before k) r old new a still lost = omega (arith, ap is_lost (sym a.0 ∙ lost))
not_lost (verb.After k) r old new a still lost = omega (arith, ap is_lost (sym a.0 ∙ lost))
not_lost (verb.Range x y) r old new a still lost = omega (arith, ap is_lost (sym a.0 ∙ lost))

module _ (bits : ℕ) (members : List (ℕ × ℕ)) (history : List Cut) (is_history : IsHistory bits members history)
    (no_more : (k : ℕ) → serial_of (last_cut history) k ≤ serial_of (opening_cut bits members) k) where
  -- no cut in between shows more
  still_between : (old new : Lane) → IsPrefix (opening_cut bits members ∷ []) old.knows.history → IsPrefix old.knows.history new.knows.history → IsPrefix new.knows.history history → Still old new
  still_between old new opens goes_on within k =
      let some = opens-some bits members history is_history old.knows.history opens in
      let longer = prefix-length old.knows.history new.knows.history goes_on in
      let low = opening-at_most bits members history is_history old.knows.history opens (prefix_trans old.knows.history new.knows.history history goes_on within) in
      let high = last-at_most_final bits members history is_history new.knows.history (omega (arith, some, longer)) within in
      omega (arith, no_more k, serial_rises (opening_cut bits members) (last_cut old.knows.history) k low, serial_rises (last_cut new.knows.history) (last_cut history) k high)

  none_lost : (lines : List (Row × Reply)) (old new : Lane) → AnswersAll lines old new → IsPrefix (opening_cut bits members ∷ []) old.knows.history → IsPrefix new.knows.history history → All NotLost lines
  unfolding AnswersAll
  none_lost [] old new runs opens within = All-nil NotLost
  none_lost (line ∷ lines) old new runs opens within =
      let next = runs.0 in
      let first = step line.0.verb line.1 old next runs.1 in
      let next_opens = prefix_trans (opening_cut bits members ∷ []) old.knows.history next.knows.history opens first.goes.goes_on in
      let rest = story bits members history is_history lines next new runs.2 (opens-some bits members history is_history next.knows.history next_opens) within in
      let next_within = prefix_trans next.knows.history new.knows.history history rest.goes.goes_on within in
      All-cons NotLost line lines (not_lost line.0.verb line.1 old next runs.1 (still_between old next opens first.goes.goes_on next_within)) (none_lost lines next new runs.2 next_opens within)

-- what holds of each lane's lines holds of all
of_all_lanes : (P : Row × Reply → Type 0) (workers : ℕ) (lines : List (Row × Reply)) → All (λ line. line.0.lane < workers) lines
    → ((lane : ℕ) → lane < workers → All P (lines_of lane lines)) → All P lines
of_all_lanes P workers [] below each = All-nil P
of_all_lanes P workers (line ∷ lines) below each =
    let own = All-head (λ (l : Row × Reply). l.0.lane < workers) line lines below in
    let mine = rw (eq-eqb line.0.lane line.0.lane refl) at (each line.0.lane own) in
    All-cons P line lines (All-head P line (lines_of line.0.lane lines) mine)
    (of_all_lanes P workers lines (All-tail (λ (l : Row × Reply). l.0.lane < workers) line lines below) (λ lane exists. less lane (each lane exists)))
  where
    less : (lane : ℕ) → All P (lines_of lane (line ∷ lines)) → All P (lines_of lane lines)
    less lane all = elim (cases_eq line.0.lane lane) [
      | inl e ↦ All-tail P line (lines_of lane lines) (rw (eq-eqb line.0.lane lane e) at all)
      | inr apart ↦ rw (ne_eqb line.0.lane lane apart) at all
    ]

pub lost_has_cause : (bits workers : ℕ) (members : List (ℕ × ℕ)) (report : Report) (closing : List (ℕ × ℕ)) → AllowedReport bits workers members report closing
    → report.inserts ≡ 0 → report.removals ≡ 0 → All NotLost report.rows
lost_has_cause bits workers members report closing allowed none_in none_out =
    let nothing : all_accepted allowed.lanes ≡ [] = no_changes (all_accepted allowed.lanes) (sym allowed.inserts ∙ none_in) (sym allowed.removals ∙ none_out) in
    let tallies = rw nothing at allowed.tallies in
    let le = opening-at_most bits members allowed.history allowed.is_history allowed.history allowed.is_history.opens (prefix_refl allowed.history) in
    let same = tally_nothing (opening_cut bits members) (last_cut allowed.history) le tallies in
    of_all_lanes NotLost workers report.rows allowed.of_lanes (λ lane exists.
    let ran = allowed.runs lane nobody exists in
    none_lost bits members allowed.history allowed.is_history (λ k. omega (arith, ap (λ (z : ℕ × ℕ). z.0) (same k)))
    (lines_of lane report.rows) ran.start (get_or allowed.lanes lane nobody) ran.runs ran.opens.sees_opening ran.of_history)
