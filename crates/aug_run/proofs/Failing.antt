-- Why a run failed, from what its parts say.
use Rattle.std.proofs.Common.{◌≡◌, ℕ, ◌≤◌, List, [], ◌∷◌, length, Option, Some, None, Result, Ok, Err, refl, subst, inl, inr}
use Rattle.std.specs.Prelude.{◌⊎◌, IfErr, IfSome, OnErr}
use Rattle.aug_script.specs.Devices.{SinkState, WritesBeginning}
use Rattle.aug_script.specs.Limits.{Bounds}
use Rattle.aug_script.specs.ReportText.{report_text}
use Rattle.aug_script.specs.Script.{rounds_of}
use Rattle.aug_script.specs.declared.report.Report.{Report}
use Rattle.aug_script.specs.declared.script_round.ScriptRound.{ScriptRound}
use Rattle.aug_run.specs.Program.{FailsBy}
use Rattle.aug_command.specs.Reading.{script_limit}
use Rattle.aug_run.specs.Runs.{Prints}
use Rattle.aug_command.specs.declared.run_error.RunError.{RunError}
use Rattle.aug_command.specs.declared.run_error.RunError.TheVariants as run

module _ (limits : Bounds) (old new : SinkState) (bytes : List ℕ) where
  -- the bytes that were read are those that were to come, where these are known
  fails_over : (known : Option (List ℕ)) (error : RunError) → IfSome known (λ xs. bytes ≡ xs) → FailsBy limits old new (Some bytes) error
      → FailsBy limits old new known error
  fails_over (Some xs) error same fails = subst (λ (l : List ℕ). FailsBy limits old new (Some l) error) same fails
  fails_over None (run.Script fault) same fails = tt
  fails_over None run.Input same fails = tt
  fails_over None run.Output same fails = tt
  fails_over None run.OutOfMemory same fails = inr tt
  fails_over None run.TooLong same fails = tt

  pub failed_over : {T : Type 0} (known : Option (List ℕ)) (result : Result T RunError) → IfSome known (λ xs. bytes ≡ xs)
      → IfErr result (FailsBy limits old new (Some bytes)) → IfErr result (FailsBy limits old new known)
  failed_over known (Ok x) same failed = tt
  failed_over known (Err error) same failed = fails_over known error same failed

  -- the rounds of the bytes did not run to their end
  pub rounds_failed : {T : Type 0} (rounds : List ScriptRound) (result : Result T RunError) → length bytes ≤ script_limit
      → rounds_of limits bytes ≡ Ok rounds
      → OnErr result ((result ≡ Err run.Output) ⊎ (result ≡ Err run.OutOfMemory))
      → (result ≡ Err run.OutOfMemory → (reports : List Report) × Prints limits rounds reports [] old new)
      → (result ≡ Err run.Output → (reports : List Report) × (broken : Report) × (between : SinkState)
      × Prints limits rounds reports (broken ∷ []) old between × WritesBeginning between new (report_text broken))
      → IfErr result (FailsBy limits old new (Some bytes))
  rounds_failed rounds (Ok x) fits reads named memory part = tt
  rounds_failed rounds (Err run.OutOfMemory) fits reads named memory part =
      let first = memory refl in inr (rounds, (fits, reads), first.0, first.1)
  rounds_failed rounds (Err run.Output) fits reads named memory part =
      let broken = part refl in (rounds, (fits, reads), broken.0, broken.1, broken.2, broken.3, broken.4)
  rounds_failed rounds (Err (run.Script fault)) fits reads named memory part = elim named [ inl e ↦ cc | inr e ↦ cc ]
  rounds_failed rounds (Err run.Input) fits reads named memory part = elim named [ inl e ↦ cc | inr e ↦ cc ]
  rounds_failed rounds (Err run.TooLong) fits reads named memory part = elim named [ inl e ↦ cc | inr e ↦ cc ]
