-- Rounds whose rows are of one lane each have one list of reports.
use Rattle.std.proofs.Common.{◌≡◌, ℕ, suc, ◌+◌, ◌^◌, ◌<◌, ◌≤◌, List, [], ◌∷◌, take, refl, sym, ap, ◌∙◌, arith, subst, All, Ok}
use Rattle.std.proofs.lemmas.List.{get_or-take, length-take}
use Rattle.std.proofs.lemmas.List.Elements.{All-head, All-nil, All-tail}
use Rattle.aug_model.specs.Keys.{IsKeySet, keys_of}
use Rattle.aug_model.proofs.Pairs.{keys_of-pairs_of}
use Rattle.aug_model.proofs.Rising.{is_wider}
use Rattle.aug_core.specs.Cuts.{set_of_cut, weight_at}
use Rattle.aug_trie.specs.History.{last_cut}
use Rattle.aug_trie.proofs.CutLemmas.{length-opening}
use Rattle.aug_words.proofs.CutSets.{cut_keys}
use Rattle.aug_core.proofs.PrefixLemmas.{prefix_refl}
use Rattle.aug_script.specs.Limits.{Bounds, IsBounds}
use Rattle.aug_script.specs.Replies.{report_of}
use Rattle.aug_script.specs.Script.{NeverNarrows, rounds_of}
use Rattle.aug_script.specs.declared.report.Report.{Report}
use Rattle.aug_script.specs.declared.row.Row.{Row}
use Rattle.aug_script.specs.declared.script_round.ScriptRound.{ScriptRound}
use Rattle.aug_script.proofs.Runnable.{runnable_rounds}
use Rattle.aug_trie.proofs.Risen.{opening-at_most}
use Rattle.aug_report.specs.AllowedReport.{AllowedReport, AllowedReports, IsReportOf}
use Rattle.aug_report.specs.InTurn.{IsInTurn, OfOneLane, reports_of}
use Rattle.aug_report.proofs.OneLane.{one_lane_in_turn}

-- a round closes with a set of keys of its bits
closes_with_keys : (bits workers : ℕ) (members : List (ℕ × ℕ)) (report : Report) (closing : List (ℕ × ℕ)) → AllowedReport bits workers members report closing → IsKeySet bits (keys_of closing)
closes_with_keys bits workers members report closing allowed =
    let cut = last_cut allowed.history in
    let le = opening-at_most bits members allowed.history allowed.is_history allowed.history allowed.is_history.opens (prefix_refl allowed.history) in
    let keys : keys_of closing ≡ set_of_cut cut = ap keys_of allowed.closes ∙ keys_of-pairs_of (weight_at cut) (set_of_cut cut) in
    subst (IsKeySet bits) (sym keys) (cut_keys bits cut (omega (arith, le.same_keys, length-opening bits members)))

-- the report that a round may have is in turn
round_in_turn : (number workers : ℕ) (members closing : List (ℕ × ℕ)) (round : ScriptRound) (report : Report) → IsKeySet round.bits (keys_of members) → IsReportOf number round.rows report
    → AllowedReport round.bits workers members report closing → IsInTurn workers number members round.rows report closing
round_in_turn number workers members closing round report keys is allowed =
    subst (λ (n : ℕ). IsInTurn workers n members round.rows report closing) is.number_is
    (subst (λ (rows : List Row). IsInTurn workers report.number members rows report closing) is.rows_are
    (one_lane_in_turn round.bits workers members report closing keys allowed))

pub one_list : (bits workers number : ℕ) (members : List (ℕ × ℕ)) (rounds : List ScriptRound) (reports : List Report) → IsKeySet bits (keys_of members)
    → All (λ round. bits ≤ round.bits) rounds → NeverNarrows rounds → All (OfOneLane workers) rounds
    → AllowedReports workers number members rounds reports → reports ≡ reports_of number members rounds
unfolding AllowedReports
one_list bits workers number members [] [] keys wider never one allowed = refl
one_list bits workers number members [] (report ∷ reports) keys wider never one allowed = absurd allowed
one_list bits workers number members (round ∷ rounds) [] keys wider never one allowed = absurd allowed
one_list bits workers number members (round ∷ rounds) (report ∷ reports) keys wider never one allowed =
    let here = is_wider bits round.bits (keys_of members) (All-head (λ (r : ScriptRound). bits ≤ r.bits) round rounds wider) keys in
    let lane = All-head (OfOneLane workers) round rounds one in
    let is = round_in_turn number workers members allowed.0 round report here allowed.1 allowed.2 lane.0 lane.1 lane.2 in
    let rest = one_list round.bits workers (number + 1) allowed.0 rounds reports (closes_with_keys round.bits workers members report allowed.0 allowed.2)
    (λ j d below. never 0 (suc j) d (omega arith) (omega arith)) (λ i j d le below. never (suc i) (suc j) d (omega arith) (omega arith))
    (All-tail (OfOneLane workers) round rounds one) allowed.3 in
    (λ i. is.0 i ∷ rest i) ∙ ap (λ (z : List (ℕ × ℕ)). report_of number members round.rows ∷ reports_of (number + 1) z rounds) is.1

-- the first of rounds that never narrow
first_never_narrow : (count : ℕ) (rounds : List ScriptRound) → NeverNarrows rounds → NeverNarrows (take count rounds)
first_never_narrow count rounds never i j d le below =
    let long = length-take count rounds in
    let low : j < count = omega (arith, long) in
    rw (get_or-take count rounds i d (omega arith), get_or-take count rounds j d low) (never i j d le (omega (arith, long)))

pub script_one_list : (limits : Bounds) (bytes : List ℕ) (rounds : List ScriptRound) (count : ℕ) (reports : List Report) → IsBounds limits
    → rounds_of limits bytes ≡ Ok rounds → All (OfOneLane limits.workers) (take count rounds)
    → AllowedReports limits.workers 1 [] (take count rounds) reports → reports ≡ reports_of 1 [] (take count rounds)
script_one_list limits bytes rounds count reports bounds reads one allowed =
    let runnable = runnable_rounds limits bytes rounds bounds reads in
    one_list 0 limits.workers 1 [] (take count rounds) reports (record { rising = λ i below. absurd (omega (arith, below)); below = All-nil (λ k. k < 2 ^ 0) })
    (λ j d below. omega arith) (first_never_narrow count rounds runnable.never_narrows) one allowed
