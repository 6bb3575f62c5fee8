-- The way of the lanes of a round, from the crew and back.
use Rattle.std.specs.Prelude.{◌≡◌, List, [], ◌∷◌}
use Rattle.aug_core.specs.Cuts.{Cut}
use Rattle.aug_core.specs.Prefixes.{IsPrefix}
use Rattle.aug_trie.specs.Knowledge.{Knowledge}
use Rattle.aug_trie.specs.Passes.{HandedBack, HandedOut}
use Rattle.aug_trie.specs.Updates.{TakesSnapshot}
use Rattle.aug_report.specs.AllowedReport.{Lane}

-- the pass was handed out by a crew that knew the opening cut
pub record WasHandedOut (opening : Cut) (pass : Knowledge) : Type 0 where
  pub crew_old : Knowledge
  pub crew_new : Knowledge
  pub knew_opening : IsPrefix (opening ∷ []) crew_old.history
  pub out : HandedOut crew_old crew_new pass

-- the pass of a lane was handed out so, and took an opening snapshot
pub record Started (opening : Cut) (start : Lane) : Type 0 where
  pub pass : Knowledge
  pub handed_out : WasHandedOut opening pass
  pub takes : TakesSnapshot pass start.knows start.held

-- the crew takes the passes of these lanes back, one after another
unfoldable pub BacksAll : List Lane → Knowledge → Knowledge → Type 0
BacksAll [] old new = new ≡ old
BacksAll (lane ∷ lanes) old new = (next : Knowledge) × HandedBack old lane.knows next × BacksAll lanes next new
