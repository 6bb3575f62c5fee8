use Rattle.aug_core.proofs.Notes.{notes_in_its_era}
use Rattle.aug_words.proofs.Leads.{pass_has_words}
use Rattle.aug_words.proofs.pass.WordPass.note.Goals as goal

pub split_seat-seat-requires : goal.split_seat-seat-requires
split_seat-seat-requires g c = (c.self.invariant.sits.seated, pass_has_words _ _ _ _ _ _ _ _ _ c.self.invariant, notes_in_its_era _ _ _ _)
