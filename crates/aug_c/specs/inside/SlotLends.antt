-- What a handle ends as, where the slot that it owns is lent: it owns that slot still, as the borrow left it.
use Rattle.std.specs.Prelude.{Some}
use Rattle.std.specs.Borrow.{Lends, MutBor, Fml}
use Rattle.aug_c.specs.declared.raw_handle.HandleSlot.{HandleSlot}
use Rattle.aug_c.specs.declared.raw_handle.HeldBox.{HeldBox}
use Rattle.aug_c.specs.contracts.raw_handle.HandleSlot.{the_row as slot_row}
use Rattle.aug_c.specs.contracts.raw_handle.HeldBox.{the_row as held_row}

abbrev pub with_slot : HeldBox → HandleSlot → HeldBox
with_slot held slot = record held { value = Some slot }

abbrev pub LendsSlot : MutBor HeldBox → MutBor HandleSlot → Fml
LendsSlot held slot = Lends held_row slot_row held slot (with_slot held.now)
