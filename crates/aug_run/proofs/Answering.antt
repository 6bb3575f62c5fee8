-- What a pass's call says, as what its lane goes through.
use Rattle.std.proofs.Common.{◌≡◌, ℕ, List, refl, inl, inr}
use Rattle.aug_model.specs.declared.outcome.Outcome.{Outcome}
use Rattle.aug_model.specs.declared.summary.Summary.{Summary}
use Rattle.aug_core.specs.Cuts.{pairs_of_cut}
use Rattle.aug_trie.specs.Pass.{PassFacts}
use Rattle.aug_trie.specs.Snapshot.{HasSnapshot, set_at}
use Rattle.aug_trie.specs.Node.{Keeps, Stays}
use Rattle.aug_trie.specs.Updates.{AcceptedUpdate, RefusedUpdate, ComesTo}
use Rattle.aug_trie.specs.declared.updates.request.Request.TheVariants as request
use Rattle.aug_trie.specs.declared.queries.snapshot.Snapshot.{Snapshot}
use Rattle.aug_report.specs.AllowedReport.{AnswersUpdate, AnswersPut, reply_to_put}
use Rattle.aug_run.specs.inside.Workers.{lane_at}
use Rattle.aug_script.specs.declared.reply.Reply.{Reply}

module _ {A B : Type 0} (summary_of : List (ℕ × ℕ) → Summary A B) (old new : PassFacts) (s : Snapshot) (has : HasSnapshot old s) where
  pub accepted : (parity key weight : ℕ) (good bad : Reply) → Keeps summary_of old new → AcceptedUpdate parity key weight old.knows new.knows → AnswersUpdate parity key weight good bad good (lane_at old s) (lane_at new s)
  accepted parity key weight good bad keeps update = record { outcome = inl (refl, update); holds_still = keeps.same_cuts s has }

  pub refused : (parity key weight : ℕ) (good bad : Reply) → Keeps summary_of old new → RefusedUpdate parity key old.knows new.knows → AnswersUpdate parity key weight good bad bad (lane_at old s) (lane_at new s)
  refused parity key weight good bad keeps update = record { outcome = inr (refl, update); holds_still = keeps.same_cuts s has }

  pub put : (key weight : ℕ) (outcome : Outcome) (answer : Reply) → Keeps summary_of old new → ComesTo (request.Put weight) key outcome old.knows new.knows → answer ≡ reply_to_put outcome → AnswersPut key weight answer (lane_at old s) (lane_at new s)
  put key weight outcome answer keeps puts is = record { outcome = outcome; puts = puts; answers = is; holds_still = keeps.same_cuts s has }

  pub asked : (about : List (ℕ × ℕ) → Reply) (answer : Reply) → Stays summary_of old new → answer ≡ about (set_at old s).pairs → (answer ≡ about (pairs_of_cut (lane_at old s).held)) × (lane_at new s ≡ lane_at old s)
  asked about answer stays is = (is, λ i. record { knows = (stays.same i).knows; held = stays.keeps.same_cuts s has i })
