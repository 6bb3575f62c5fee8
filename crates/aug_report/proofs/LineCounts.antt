-- The totals of a report count its lines, and account for the size.
use Rattle.std.proofs.Common.{◌≡◌, ℕ, zero, suc, ◌+◌, ◌%◌, ◌<◌, Bool, true, false, cond, ◌==◌, List, [], ◌∷◌, ◌++◌, length, map, filter, get_or, refl, ap, ◌∙◌, inl, inr, arith, All, if◌then◌else◌}
use Rattle.std.proofs.lemmas.Bool.{eq-eqb, ne_eqb, cases_order}
use Rattle.std.proofs.lemmas.List.Elements.{All-head, All-tail}
use Rattle.aug_model.specs.Keys.{IsKeySet, keys_of}
use Rattle.aug_model.proofs.Pairs.{length-keys_of, length-pairs_of}
use Rattle.aug_core.specs.Cuts.{opening_cut, set_of_cut, weight_at}
use Rattle.aug_trie.specs.History.{last_cut}
use Rattle.aug_trie.specs.Knowledge.{inserts_of, removals_of}
use Rattle.aug_script.specs.Replies.{is_insertion, is_removal, count_of}
use Rattle.aug_script.specs.declared.reply.Reply.{Reply}
use Rattle.aug_script.specs.declared.report.Report.{Report}
use Rattle.aug_script.specs.declared.row.Row.{Row}
use Rattle.aug_trie.proofs.Risen.{opening-at_most, opens-some}
use Rattle.aug_report.specs.AllowedReport.{Lane, AllowedReport, lines_of, all_accepted}
use Rattle.aug_trie.proofs.CutLemmas.{set_of_cut-opening}
use Rattle.aug_core.proofs.PrefixLemmas.{prefix_refl}
use Rattle.aug_trie.proofs.TallyLemmas.{counted, counted-append, sizes}
use Rattle.aug_report.proofs.Lanes.{story}
use Rattle.aug_report.proofs.TwoInsertions.{nobody}

-- the set grew by the insertions and shrank by the removals
pub sizes_add_up : (bits workers : ℕ) (members : List (ℕ × ℕ)) (report : Report) (closing : List (ℕ × ℕ)) → IsKeySet bits (keys_of members) → AllowedReport bits workers members report closing
    → report.size + report.removals ≡ length members + report.inserts
sizes_add_up bits workers members report closing is_set allowed =
    let le = opening-at_most bits members allowed.history allowed.is_history allowed.history allowed.is_history.opens (prefix_refl allowed.history) in
    let sum = sizes (opening_cut bits members) (last_cut allowed.history) (all_accepted allowed.lanes) le allowed.tallies in
    let opened = ap (λ (l : List ℕ). length l) (set_of_cut-opening bits members is_set) ∙ length-keys_of members in
    let closed = ap (λ (l : List (ℕ × ℕ)). length l) allowed.closes ∙ length-pairs_of (weight_at (last_cut allowed.history)) (set_of_cut (last_cut allowed.history)) in
    omega (arith, sum, opened, allowed.size, allowed.inserts, allowed.removals, closed)

abbrev one_if : Bool → ℕ
one_if b = if b then 1 else 0

-- a sum over the numbers below n
abbrev total : (ℕ → ℕ) → ℕ → ℕ
total f zero = 0
total f (suc n) = total f n + f n

total-front : (f : ℕ → ℕ) (n : ℕ) → total f (suc n) ≡ f 0 + total (λ i. f (suc i)) n
total-front f zero = omega arith
total-front f (suc n) = omega (arith, total-front f n)

total-same : (f g : ℕ → ℕ) (n : ℕ) → ((i : ℕ) → i < n → f i ≡ g i) → total f n ≡ total g n
total-same f g zero same = refl
total-same f g (suc n) same = omega (arith, total-same f g n (λ i l. same i (omega arith)), same n (omega arith))

changes-total : (p : ℕ → ℕ → Bool) (lanes : List Lane) (d : Lane) → counted p (all_accepted lanes) ≡ total (λ i. counted p (get_or lanes i d).knows.accepted) (length lanes)
changes-total p [] d = refl
changes-total p (lane ∷ lanes) d =
    omega (arith, counted-append p lane.knows.accepted (all_accepted lanes), changes-total p lanes d, total-front (λ i. counted p (get_or (lane ∷ lanes) i d).knows.accepted) (length lanes))

-- the lines whose reply passes a test
abbrev lines_with : (Reply → Bool) → List (Row × Reply) → ℕ
lines_with test lines = count_of test (map (λ line. line.1) lines)

cons-count : (test : Reply → Bool) (line : Row × Reply) (lines : List (Row × Reply)) → lines_with test (line ∷ lines) ≡ one_if (test line.1) + lines_with test lines
cons-count test line lines = by_test (test line.1)
  where
    by_test : (b : Bool) → length (cond b (line.1 ∷ filter test (map (λ l. l.1) lines)) (filter test (map (λ l. l.1) lines))) ≡ one_if b + length (filter test (map (λ l. l.1) lines))
    by_test true = omega arith
    by_test false = omega arith

abbrev one_at : ℕ → ℕ → ℕ → ℕ
one_at lane n i = cond (lane == i) n 0

total-zero : (n : ℕ) → total (λ _. 0) n ≡ 0
total-zero zero = refl
total-zero (suc n) = omega (arith, total-zero n)

total-at : (lane n x : ℕ) → lane < n → total (one_at lane x) n ≡ x
total-at lane zero x below = absurd (omega arith)
total-at lane (suc n) x below =
    elim (cases_order lane n) [
      | inl e ↦ omega (arith, total-same (one_at lane x) (λ _. 0) n (λ i l. ap (λ b. cond b x 0) (ne_eqb lane i (λ q. omega (arith, q, e, l)))), total-zero n, ap (λ b. cond b x 0) (eq-eqb lane n e))
      | inr (inl lt) ↦ omega (arith, total-at lane n x lt, ap (λ b. cond b x 0) (ne_eqb lane n (λ q. omega (arith, q, lt))))
      | inr (inr gt) ↦ absurd (omega (arith, below, gt))
    ]

total-add : (f g : ℕ → ℕ) (n : ℕ) → total (λ i. f i + g i) n ≡ total f n + total g n
total-add f g zero = omega arith
total-add f g (suc n) = omega (arith, total-add f g n)

-- a line more, in its own lane
lane-cons : (test : Reply → Bool) (line : Row × Reply) (lines : List (Row × Reply)) (i : ℕ) → lines_with test (lines_of i (line ∷ lines)) ≡ one_at line.0.lane (one_if (test line.1)) i + lines_with test (lines_of i lines)
lane-cons test line lines i = by_lane (line.0.lane == i)
  where
    by_lane : (b : Bool) → lines_with test (cond b (line ∷ lines_of i lines) (lines_of i lines)) ≡ cond b (one_if (test line.1)) 0 + lines_with test (lines_of i lines)
    by_lane true = cons-count test line (lines_of i lines)
    by_lane false = omega arith

lines-total : (test : Reply → Bool) (workers : ℕ) (lines : List (Row × Reply)) → All (λ line. line.0.lane < workers) lines → total (λ i. lines_with test (lines_of i lines)) workers ≡ lines_with test lines
lines-total test workers [] all = total-zero workers
lines-total test workers (line ∷ lines) all =
    let own = All-head (λ (l : Row × Reply). l.0.lane < workers) line lines all in
    let rest = lines-total test workers lines (All-tail (λ (l : Row × Reply). l.0.lane < workers) line lines all) in
    let parts = total-same (λ i. lines_with test (lines_of i (line ∷ lines))) (λ i. one_at line.0.lane (one_if (test line.1)) i + lines_with test (lines_of i lines)) workers (λ i l. lane-cons test line lines i) in
    let sums = total-add (one_at line.0.lane (one_if (test line.1))) (λ i. lines_with test (lines_of i lines)) workers in
    omega (arith, rest, parts, sums, total-at line.0.lane workers (one_if (test line.1)) own, cons-count test line lines)

-- `in` is the number of lines that put a key in or replaced its weight, and `out` of those that took one out or replaced it
pub totals_count : (bits workers : ℕ) (members : List (ℕ × ℕ)) (report : Report) (closing : List (ℕ × ℕ)) → AllowedReport bits workers members report closing
    → (report.inserts ≡ count_of is_insertion (map (λ line. line.1) report.rows)) × (report.removals ≡ count_of is_removal (map (λ line. line.1) report.rows))
totals_count bits workers members report closing allowed = (
  by_lanes is_insertion (λ k n. n % 2 == 1) report.inserts allowed.inserts (λ i below. (lane_story i below).0),
  by_lanes is_removal (λ k n. n % 2 == 0) report.removals allowed.removals (λ i below. (lane_story i below).1),
)
  where
    lane_story : (i : ℕ) → i < workers → (inserts_of (get_or allowed.lanes i nobody).knows.accepted ≡ lines_with is_insertion (lines_of i report.rows)) × (removals_of (get_or allowed.lanes i nobody).knows.accepted ≡ lines_with is_removal (lines_of i report.rows))
    lane_story i below =
        let ran = allowed.runs i nobody below in
        let some = opens-some bits members allowed.history allowed.is_history ran.start.knows.history ran.opens.sees_opening in
        let told = story bits members allowed.history allowed.is_history (lines_of i report.rows) ran.start (get_or allowed.lanes i nobody) ran.runs some ran.of_history in
        let changes : (get_or allowed.lanes i nobody).knows.accepted ≡ told.goes.more = told.goes.adds ∙ ap (λ l. l ++ told.goes.more) ran.opens.no_change in
        (ap inserts_of changes ∙ told.inserts, ap removals_of changes ∙ told.removals)

    by_lanes : (test : Reply → Bool) (p : ℕ → ℕ → Bool) (n : ℕ) → n ≡ counted p (all_accepted allowed.lanes)
        → ((i : ℕ) → i < workers → counted p (get_or allowed.lanes i nobody).knows.accepted ≡ lines_with test (lines_of i report.rows)) → n ≡ count_of test (map (λ line. line.1) report.rows)
    by_lanes test p n is each =
        let sum = changes-total p allowed.lanes nobody in
        let lanes = ap (total (λ i. counted p (get_or allowed.lanes i nobody).knows.accepted)) allowed.one_each in
        let same = total-same (λ i. counted p (get_or allowed.lanes i nobody).knows.accepted) (λ i. lines_with test (lines_of i report.rows)) workers each in
        omega (arith, is, sum, lanes, same, lines-total test workers report.rows allowed.of_lanes)
