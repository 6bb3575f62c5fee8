use Rattle.std.proofs.Common.{ap, sym, ◌∙◌}
use Rattle.aug_core.proofs.Notes.{notes_in_its_era}
use Rattle.aug_words.specs.Seats.{Known}
use Rattle.aug_words.proofs.Leads.{pass_has_words}
use Rattle.aug_words.proofs.pass.WordPass.follow.Goals as goal

pub split_seat-seat-requires : goal.split_seat-seat-requires
split_seat-seat-requires g c = (
  ap (λ (k : Known). k.table) c.reader.view_is ∙ c.requires.table ∙ ap (λ (k : Known). k.table) (sym c.self.view_is) ∙ c.self.invariant.sits.seated,
  pass_has_words _ _ _ _ _ _ _ _ _ c.self.invariant,
  notes_in_its_era _ _ _ _,
)
