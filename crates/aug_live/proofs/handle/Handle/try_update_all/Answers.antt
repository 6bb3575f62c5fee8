use Rattle.std.proofs.Common.{List, subst, rules}
use Rattle.std.specs.Prelude.{take}
use Rattle.aug_trie.specs.UpdateBatches.{DoesBatch}
use Rattle.aug_model.specs.declared.outcome.Outcome.{Outcome}
use Rattle.aug_live.specs.LiveHandles.{Spends}
use Rattle.aug_live.proofs.Carries.{runs_map}
use Rattle.aug_live.proofs.handle.Handle.try_update_all.Goals as goal

pub returns-clause-made : goal.returns-clause-made
returns-clause-made g c = runs_map c.try_make.result _ _ c.args.self.now c.try_make.new.self
    (λ count a b did. let named = did.3 in subst (λ (z : List Outcome). Spends count (DoesBatch c.args.requests.now (take count c.args.keys.now) z) a b) (search rules) did.0) c.try_make.ensures.made
