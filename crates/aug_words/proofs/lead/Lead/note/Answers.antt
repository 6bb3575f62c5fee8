use Rattle.std.proofs.Common.{ap, sym, ◌∙◌}
use Rattle.aug_core.proofs.Notes.{notes_in_its_era}
use Rattle.aug_words.specs.Seats.{Store, Known}
use Rattle.aug_words.proofs.Leads.{some_words}
use Rattle.aug_words.proofs.lead.Lead.note.Goals as goal

pub split_seat-seat-requires : goal.split_seat-seat-requires
split_seat-seat-requires g c = (ap (λ (k : Known). k.table) c.self.view_is ∙ c.requires.one_table ∙ ap (λ (s : Store). s.table) (sym c.words.view_is), some_words _ _ _ _ _ c.words.invariant, notes_in_its_era _ _ _ _)
