-- The reports of a script's rounds, and how many of them were printed.
use Rattle.std.proofs.Common.{◌≡◌, ℕ, ◌+◌, ◌<◌, ◌≤◌, List, [], ◌∷◌, ◌++◌, length, map, take, get_or, refl, sym, ap, ◌∙◌, arith, subst, length-append}
use Rattle.std.specs.Io.KnownBytes.{Appends}
use Rattle.std.specs.List.{concat}
use Rattle.std.proofs.KnownBytes.{Appends-nil, Appends-trans}
use Rattle.std.proofs.lemmas.List.{append-nil, map-append, take_more, length-take-le}
use Rattle.std.proofs.lemmas.List.Folds.{concat-append}
use Rattle.aug_script.specs.Devices.{SinkState, Writes, WritesBeginning}
use Rattle.aug_script.specs.Limits.{Bounds}
use Rattle.aug_script.specs.ReportText.{report_text}
use Rattle.aug_script.specs.declared.report.Report.{Report}
use Rattle.aug_script.specs.declared.script_round.ScriptRound.{ScriptRound}
use Rattle.aug_report.specs.AllowedReport.{AllowedReport, AllowedReports, IsReportOf}
use Rattle.aug_run.specs.Runs.{Prints, texts_of}

module _ (workers : ℕ) where
  -- rounds may have these reports, each on from the set that the one before closed with, and the last closed with this one
  unfoldable pub Chain : ℕ → List (ℕ × ℕ) → List ScriptRound → List Report → List (ℕ × ℕ) → Type 0
  Chain number members [] [] closing = closing ≡ members
  Chain number members [] (report ∷ reports) closing = ⊥
  Chain number members (round ∷ rounds) [] closing = ⊥
  Chain number members (round ∷ rounds) (report ∷ reports) closing =
      (next : List (ℕ × ℕ)) × IsReportOf number round.rows report × AllowedReport round.bits workers members report next
      × Chain (number + 1) next rounds reports closing

  -- one round more
  chain_more : (number at : ℕ) (members mid closing : List (ℕ × ℕ)) (rounds : List ScriptRound) (round : ScriptRound) (reports : List Report) (report : Report)
      → Chain number members rounds reports mid → number + length rounds ≡ at → IsReportOf at round.rows report → AllowedReport round.bits workers mid report closing
      → Chain number members (rounds ++ round ∷ []) (reports ++ report ∷ []) closing
  unfolding Chain
  chain_more number at members mid closing [] round [] report chain is of_rows allowed =
      let n : number ≡ at = omega arith in (
        closing,
        subst (λ (z : ℕ). IsReportOf z round.rows report) (sym n) of_rows,
        subst (λ (z : List (ℕ × ℕ)). AllowedReport round.bits workers z report closing) chain allowed,
        refl,
      )
  chain_more number at members mid closing [] round (r ∷ reports) report chain is of_rows allowed = absurd chain
  chain_more number at members mid closing (r ∷ rounds) round [] report chain is of_rows allowed = absurd chain
  chain_more number at members mid closing (first ∷ rounds) round (r ∷ reports) report chain is of_rows allowed =
      (chain.0, chain.1, chain.2, chain_more (number + 1) at chain.0 mid closing rounds round reports report chain.3 (omega arith) of_rows allowed)

  chain_allowed : (number : ℕ) (members closing : List (ℕ × ℕ)) (rounds : List ScriptRound) (reports : List Report) → Chain number members rounds reports closing → AllowedReports workers number members rounds reports
  unfolding Chain AllowedReports
  chain_allowed number members closing [] [] chain = tt
  chain_allowed number members closing [] (r ∷ reports) chain = absurd chain
  chain_allowed number members closing (round ∷ rounds) [] chain = absurd chain
  chain_allowed number members closing (round ∷ rounds) (r ∷ reports) chain = (chain.0, chain.1, chain.2, chain_allowed (number + 1) chain.0 closing rounds reports chain.3)

texts_of-push : (reports : List Report) (report : Report) → texts_of (reports ++ report ∷ []) ≡ texts_of reports ++ report_text report
texts_of-push reports report =
    ap concat (map-append report_text reports (report ∷ [])) ∙ concat-append (map report_text reports) (report_text report ∷ [])
    ∙ ap (λ (last : List ℕ). texts_of reports ++ last) (append-nil (report_text report))

-- the first rounds were printed, and closed with this set
pub record Printed (limits : Bounds) (rounds : List ScriptRound) (count : ℕ) (closing : List (ℕ × ℕ)) (old new : SinkState) : Type 0 where
  pub reports : List Report
  pub as_many : length reports ≡ count
  pub within : count ≤ length rounds
  pub chain : Chain limits.workers 1 [] (take count rounds) reports closing
  pub wrote : Writes old new (texts_of reports) (length reports)

module _ (limits : Bounds) (rounds : List ScriptRound) where
  -- no round was printed yet
  pub printed_none : (state : SinkState) → Printed limits rounds 0 [] state state
  unfolding Chain
  printed_none state =
      record { reports = []; as_many = refl; within = omega arith; chain = refl; wrote = record { bytes = Appends-nil state.bytes; finished = omega arith; no_fault = refl } }

  module _ (count : ℕ) (closing : List (ℕ × ℕ)) (old between : SinkState) (done : Printed limits rounds count closing old between) where
    pub prints_first : (reports : List Report) × Prints limits rounds reports [] old between × (length reports ≡ count) × (count ≤ length rounds)
    prints_first = (
      done.reports,
      record {
        may_have = rw (append-nil done.reports, done.as_many) (chain_allowed limits.workers 1 [] closing (take count rounds) done.reports done.chain);
        wrote = done.wrote;
      },
      done.as_many,
      done.within,
    )

    module _ (round d : ScriptRound) (report : Report) (next : List (ℕ × ℕ)) (below : count < length rounds) (round_is : round ≡ get_or rounds count d) (of_rows : IsReportOf (count + 1) round.rows report)
        (allowed : AllowedReport round.bits limits.workers closing report next) where
      more : Chain limits.workers 1 [] (take (count + 1) rounds) (done.reports ++ report ∷ []) next
      more = let long = length-take-le count rounds (omega arith) in
          subst (λ (z : List ScriptRound). Chain limits.workers 1 [] z (done.reports ++ report ∷ []) next)
          (ap (λ (z : ScriptRound). take count rounds ++ z ∷ []) round_is ∙ sym (take_more rounds count d below))
          (chain_more limits.workers 1 (count + 1) [] closing next (take count rounds) round done.reports report done.chain (omega arith) of_rows allowed)

      one_more : length (done.reports ++ report ∷ []) ≡ count + 1
      one_more = omega (arith, done.as_many, length-append done.reports (report ∷ []))

      -- one more was printed
      pub printed_more : (new : SinkState) → Writes between new (report_text report) 1 → Printed limits rounds (count + 1) next old new
      printed_more new wrote = record {
        reports = done.reports ++ report ∷ [];
        as_many = one_more;
        within = omega (arith, below);
        chain = more;
        wrote = record {
          bytes = subst (Appends old.bytes new.bytes) (sym (texts_of-push done.reports report))
              (Appends-trans old.bytes between.bytes new.bytes _ _ done.wrote.bytes wrote.bytes);
          finished = omega (arith, done.wrote.finished, wrote.finished, length-append done.reports (report ∷ []));
          no_fault = wrote.no_fault ∙ done.wrote.no_fault;
        };
      }

      -- of one more a beginning was
      pub prints_in_part : (new : SinkState) → WritesBeginning between new (report_text report)
          → (reports : List Report) × (broken : Report) × (end : SinkState) × Prints limits rounds reports (broken ∷ []) old end × WritesBeginning end new (report_text broken)
      prints_in_part new wrote = (
        done.reports,
        report,
        between,
        record {
          may_have = rw one_more (chain_allowed limits.workers 1 [] next (take (count + 1) rounds) (done.reports ++ report ∷ []) more);
          wrote = done.wrote;
        },
        wrote,
      )
