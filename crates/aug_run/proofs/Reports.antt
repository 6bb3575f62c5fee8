-- A round that ran and ended has an allowed report.
use Rattle.std.proofs.Common.{◌≡◌, ℕ, ◌<◌, List, length, sym, ap, ◌∙◌, subst, arith, All}
use Rattle.aug_model.specs.Keys.{IsKeySet, keys_of}
use Rattle.aug_trie.specs.Crew.{CrewFacts, Ends}
use Rattle.aug_trie.specs.Ended.{EndedFacts}
use Rattle.aug_trie.specs.Round.{RoundFacts}
use Rattle.aug_report.specs.AllowedReport.{AllowedReport}
use Rattle.aug_report.specs.InTurn.{IsInTurn}
use Rattle.aug_run.specs.inside.Returns.{RanLanes}
use Rattle.aug_script.specs.declared.report.Report.{Report}
use Rattle.aug_script.specs.declared.row.Row.{Row}
use Rattle.aug_report.proofs.OneLane.{of_lines, one_lane_in_turn}
use Rattle.aug_run.proofs.Rounds.{round_allowed}

module _ (bits workers : ℕ) (members : List (ℕ × ℕ)) (round : RoundFacts) (crew : CrewFacts) (closed : EndedFacts) (rows : List Row) (report : Report)
    (bits_are : round.bits ≡ bits) (members_are : round.members ≡ members) (workers_are : round.workers ≡ workers)
    (ran : RanLanes round rows report.rows crew) (ends : Ends crew closed) (lanes : All (λ row. row.lane < workers) rows)
    (size : report.size ≡ length closed.members) (inserts : report.inserts ≡ closed.inserts) (removals : report.removals ≡ closed.removals) where
  pub none_missing : closed.missing ≡ 0
  none_missing = omega (arith, ends.missing, ran.all_back)

  pub allowed : AllowedReport bits workers members report closed.members
  allowed =
      let bits_known : crew.round.bits ≡ bits = ap (λ (r : RoundFacts). r.bits) ran.together ∙ bits_are in
      let members_known : crew.round.members ≡ members = ap (λ (r : RoundFacts). r.members) ran.together ∙ members_are in
      let history = rw (bits_known, members_known) at ends.is_history in
      let tallies = rw (bits_known, members_known, none_missing) at ends.tallies in
      let runs = rw (bits_are, members_are, workers_are) at ran.runs in
      subst (λ (c : List (ℕ × ℕ)). AllowedReport bits workers members report c) (sym ends.members)
      (round_allowed bits workers crew.round.updates members report ran.before crew.knows ran.ends (ran.one_each ∙ workers_are)
      (of_lines (λ row. row.lane < workers) report.rows (rw ran.rows_are lanes)) runs ran.no_change ran.backs history tallies
      (size ∙ ap (λ (l : List (ℕ × ℕ)). length l) ends.members) (inserts ∙ ends.inserts) (removals ∙ ends.removals))

  pub in_turn : IsKeySet bits (keys_of members) → IsInTurn workers report.number members rows report closed.members
  in_turn keys = subst (λ (z : List Row). IsInTurn workers report.number members z report closed.members) ran.rows_are (one_lane_in_turn bits workers members report closed.members keys allowed)
