-- A round whose rows are all of one lane has one report.
use Rattle.std.proofs.Common.{◌≡◌, ℕ, zero, suc, ◌<◌, ◌≤◌, List, [], ◌∷◌, ◌++◌, length, map, get_or, refl, ap, sym, ◌∙◌, arith, All}
use Rattle.std.specs.Prelude.{zip}
use Rattle.std.proofs.lemmas.Bool.{eq-eqb, ne_eqb}
use Rattle.std.proofs.lemmas.List.{append-nil}
use Rattle.std.proofs.lemmas.List.Elements.{All-nil, All-cons, All-head, All-tail}
use Rattle.aug_model.specs.Keys.{IsKeySet, keys_of}
use Rattle.aug_core.specs.Cuts.{Cut, serial_of, pairs_of_cut, opening_cut}
use Rattle.aug_trie.specs.History.{last_cut, IsHistory}
use Rattle.aug_core.specs.declared.view.Change.{Change}
use Rattle.aug_trie.specs.Knowledge.{inserts_of, removals_of}
use Rattle.aug_trie.specs.Tallies.{Tallies}
use Rattle.aug_trie.proofs.Risen.{last-at_most_final, opening-at_most, opens-some, tally_nothing}
use Rattle.aug_report.specs.AllowedReport.{Lane, AnswersAll, RunsLane, AllowedReport, lines_of, all_accepted}
use Rattle.aug_report.specs.InTurn.{IsInTurn}
use Rattle.aug_script.specs.Replies.{Sets, replies_of, sets_of, opening_sets, report_of, count_of, is_insertion, is_removal}
use Rattle.aug_script.specs.declared.reply.Reply.{Reply}
use Rattle.aug_script.specs.declared.report.Report.{Report}
use Rattle.aug_script.specs.declared.row.Row.{Row}
use Rattle.aug_trie.proofs.CutLemmas.{same_cut, pairs_of_cut-opening}
use Rattle.aug_report.proofs.Histories.{below_of}
use Rattle.aug_core.proofs.PrefixLemmas.{prefix_trans}
use Rattle.aug_report.proofs.Advances.{tallies-front, tallies-rest}
use Rattle.aug_report.proofs.Lanes.{story, sets_of_lane}

-- the lines of the one lane are all lines, and those of another none
pub lines-all : (lane : ℕ) (lines : List (Row × Reply)) → All (λ line. line.0.lane ≡ lane) lines → lines_of lane lines ≡ lines
lines-all lane [] all = refl
lines-all lane (line ∷ lines) all =
    rw (eq-eqb line.0.lane lane (All-head (λ (l : Row × Reply). l.0.lane ≡ lane) line lines all))
    (ap (λ l. line ∷ l) (lines-all lane lines (All-tail (λ (l : Row × Reply). l.0.lane ≡ lane) line lines all)))

lines-none : (lane other : ℕ) (lines : List (Row × Reply)) → (other ≡ lane → ⊥) → All (λ line. line.0.lane ≡ lane) lines → lines_of other lines ≡ []
lines-none lane other [] apart all = refl
lines-none lane other (line ∷ lines) apart all =
    let is = All-head (λ (l : Row × Reply). l.0.lane ≡ lane) line lines all in
    rw (ne_eqb line.0.lane other (λ e. apart (sym e ∙ is)))
    (lines-none lane other lines apart (All-tail (λ (l : Row × Reply). l.0.lane ≡ lane) line lines all))

-- the changes of all lanes are those of the one that had any
changes-none : (lanes : List Lane) (default : Lane) → ((j : ℕ) → j < length lanes → (get_or lanes j default).knows.accepted ≡ []) → all_accepted lanes ≡ []
changes-none [] default none = refl
changes-none (lane ∷ lanes) default none = rw (none 0 (omega arith)) (changes-none lanes default (λ j below. none (suc j) (omega arith)))

changes-one : (lanes : List Lane) (lane : ℕ) (default : Lane) → lane < length lanes → ((j : ℕ) → j < length lanes → (j ≡ lane → ⊥) → (get_or lanes j default).knows.accepted ≡ [])
    → all_accepted lanes ≡ (get_or lanes lane default).knows.accepted
changes-one [] lane default below others = absurd (omega (arith, below))
changes-one (first ∷ lanes) zero default below others =
    ap (λ l. first.knows.accepted ++ l) (changes-none lanes default (λ j b. others (suc j) (omega arith) (λ e. omega (arith, e)))) ∙ append-nil first.knows.accepted
changes-one (first ∷ lanes) (suc lane) default below others =
    rw (others 0 (omega arith) (λ e. omega (arith, e)))
    (changes-one lanes lane default (omega arith) (λ j b apart. others (suc j) (omega arith) (λ e. apart (omega (arith, e)))))

unzip : {A B : Type 0} (xs : List (A × B)) → xs ≡ zip (map (λ x. x.0) xs) (map (λ x. x.1) xs)
unzip [] = refl
unzip (x ∷ xs) = ap (λ l. x ∷ l) (unzip xs)

-- what a lane without rows has accepted
idle : (opening : Cut) (history : List Cut) (end : Lane) → RunsLane opening history [] end → end.knows.accepted ≡ []
unfolding AnswersAll
idle opening history end ran = ap (λ (l : Lane). l.knows.accepted) ran.runs ∙ ran.opens.no_change

-- a lane whose changes are all that happened
pub record Alone (members : List (ℕ × ℕ)) (history : List Cut) (lines : List (Row × Reply)) (changes : List Change) : Type 0 where
  pub replies : map (λ line. line.1) lines ≡ replies_of (opening_sets members) (map (λ line. line.0) lines)
  pub closes : pairs_of_cut (last_cut history) ≡ (sets_of (opening_sets members) (map (λ line. line.0) lines)).live
  pub inserts : inserts_of changes ≡ count_of is_insertion (map (λ line. line.1) lines)
  pub removals : removals_of changes ≡ count_of is_removal (map (λ line. line.1) lines)

module _ (bits : ℕ) (members : List (ℕ × ℕ)) (history : List Cut) (is_history : IsHistory bits members history) (is_set : IsKeySet bits (keys_of members)) where
  pub alone : (lines : List (Row × Reply)) (end : Lane) → RunsLane (opening_cut bits members) history lines end → Tallies (opening_cut bits members) (last_cut history) end.knows.accepted
      → Alone members history lines end.knows.accepted
  alone lines end ran tallies =
      let start = ran.start in
      let some = opens-some bits members history is_history start.knows.history ran.opens.sees_opening in
      let told = story bits members history is_history lines start end ran.runs some ran.of_history in
      let within = prefix_trans start.knows.history end.knows.history history told.goes.goes_on ran.of_history in
      let changes : end.knows.accepted ≡ told.goes.more = told.goes.adds ∙ ap (λ l. l ++ told.goes.more) ran.opens.no_change in
      let all = rw changes at tallies in
      let low = opening-at_most bits members history is_history start.knows.history ran.opens.sees_opening within in
      let high = last-at_most_final bits members history is_history start.knows.history some within in
      let nothing = tallies-front (opening_cut bits members) (last_cut start.knows.history) (last_cut history) [] told.goes.more all (below_of (opening_cut bits members) (last_cut start.knows.history) low) (below_of (last_cut start.knows.history) (last_cut history) high) (All-nil (λ c. c.serial ≤ serial_of (last_cut start.knows.history) c.key)) told.goes.past in
      let rest = tallies-rest (opening_cut bits members) (last_cut start.knows.history) (last_cut history) [] told.goes.more all (below_of (opening_cut bits members) (last_cut start.knows.history) low) (below_of (last_cut start.knows.history) (last_cut history) high) (All-nil (λ c. c.serial ≤ serial_of (last_cut start.knows.history) c.key)) told.goes.past in
      let still : last_cut start.knows.history ≡ opening_cut bits members =
      sym (same_cut (opening_cut bits members) (last_cut start.knows.history) low.same_keys (tally_nothing (opening_cut bits members) (last_cut start.knows.history) low nothing)) in
      let back = pairs_of_cut-opening bits members is_set in
      let live : pairs_of_cut (last_cut start.knows.history) ≡ members = ap pairs_of_cut still ∙ back in
      let held : pairs_of_cut start.held ≡ members = ap pairs_of_cut ran.opens.holds_last ∙ live in
      let opened : sets_of_lane start ≡ opening_sets members = (λ i. record { live = live i; held = held i }) in
      record {
        replies = told.replies rest ∙ ap (λ (s : Sets). replies_of s (map (λ line. line.0) lines)) opened;
        closes = told.closes rest ∙ ap (λ (s : Sets). (sets_of s (map (λ line. line.0) lines)).live) opened;
        inserts = ap inserts_of changes ∙ told.inserts;
        removals = ap removals_of changes ∙ told.removals;
      }

abbrev no_lane : Lane
no_lane = record { knows = record { history = []; accepted = [] }; held = [] }

same_report : (members : List (ℕ × ℕ)) (r : Report) (rows : List Row)
    → r.rows ≡ zip rows (replies_of (opening_sets members) rows) → r.size ≡ length (sets_of (opening_sets members) rows).live
    → r.inserts ≡ count_of is_insertion (replies_of (opening_sets members) rows) → r.removals ≡ count_of is_removal (replies_of (opening_sets members) rows)
    → r ≡ report_of r.number members rows
same_report members r rows lines size inserts removals = λ i. record { number = r.number; rows = lines i; size = size i; inserts = inserts i; removals = removals i }

pub one_report : (bits workers : ℕ) (members : List (ℕ × ℕ)) (report : Report) (closing : List (ℕ × ℕ)) → IsKeySet bits (keys_of members) → AllowedReport bits workers members report closing
    → (lane : ℕ) → lane < workers → All (λ line. line.0.lane ≡ lane) report.rows
    → (report ≡ report_of report.number members (map (λ line. line.0) report.rows))
    × (closing ≡ (sets_of (opening_sets members) (map (λ line. line.0) report.rows)).live)
one_report bits workers members report closing is_set allowed lane exists all =
    let end = get_or allowed.lanes lane no_lane in
    let ran = allowed.runs lane no_lane exists in
    let mine = rw (lines-all lane report.rows all) at ran in
    let changes : all_accepted allowed.lanes ≡ end.knows.accepted = changes-one allowed.lanes lane no_lane (omega (arith, allowed.one_each, exists))
    (λ j below apart. idle (opening_cut bits members) allowed.history (get_or allowed.lanes j no_lane)
    (rw (lines-none lane j report.rows apart all) at (allowed.runs j no_lane (omega (arith, allowed.one_each, below))))) in
    let tallies = rw changes at allowed.tallies in
    let told = alone bits members allowed.history allowed.is_history is_set report.rows end mine tallies in
    let lines : report.rows ≡ zip (map (λ line. line.0) report.rows) (replies_of (opening_sets members) (map (λ line. line.0) report.rows)) =
    unzip report.rows ∙ ap (λ rs. zip (map (λ line. line.0) report.rows) rs) told.replies in
    let closes = allowed.closes ∙ told.closes in (
      same_report members report (map (λ line. line.0) report.rows) lines (allowed.size ∙ ap length closes)
          (allowed.inserts ∙ ap inserts_of changes ∙ told.inserts ∙ ap (count_of is_insertion) told.replies)
          (allowed.removals ∙ ap removals_of changes ∙ told.removals ∙ ap (count_of is_removal) told.replies),
      closes,
    )

-- what holds of each row holds of each line's
pub of_lines : (P : Row → Type 0) (lines : List (Row × Reply)) → All P (map (λ line. line.0) lines) → All (λ line. P line.0) lines
of_lines P [] all = All-nil (λ (line : Row × Reply). P line.0)
of_lines P (line ∷ lines) all = All-cons (λ (l : Row × Reply). P l.0) line lines (All-head P line.0 (map (λ (l : Row × Reply). l.0) lines) all) (of_lines P lines (All-tail P line.0 (map (λ (l : Row × Reply). l.0) lines) all))

pub one_lane_in_turn : (bits workers : ℕ) (members : List (ℕ × ℕ)) (report : Report) (closing : List (ℕ × ℕ)) → IsKeySet bits (keys_of members)
    → AllowedReport bits workers members report closing → IsInTurn workers report.number members (map (λ line. line.0) report.rows) report closing
one_lane_in_turn bits workers members report closing is_set allowed lane exists all =
    one_report bits workers members report closing is_set allowed lane exists (of_lines (λ (row : Row). row.lane ≡ lane) report.rows all)
