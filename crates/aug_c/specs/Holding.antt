-- What a handle owns. Nothing if it has no content, and otherwise a box in a block of its own, with the right to free it. A caller in C owes that
-- this holds for each handle that begins with the mark of an open one, and nothing about any other memory.
use base.Fml.{Fml, ftrue, fex}
use denote.RawPtr.{Ptr}
use Rattle.std.specs.Prelude.{Option, Some, None}
use Rattle.std.specs.Box.Ownership.{box_owns}
use Rattle.std.specs.declared.alloc.Global.{Global}
use Rattle.std.specs.contracts.impls.GlobalAllocator.TheImpl.{ghosts}
use Rattle.aug_c.specs.contracts.raw_handle.HandleSlot.{the_row}

abbrev pub Content : Type 0
Content = Option the_row.Denot

-- nothing if the handle is empty, and otherwise the value in a block of its own with the right to free that block
abbrev pub held_owns : Content → Ptr → Fml
held_owns None p = ftrue
held_owns (Some x) p = fex Global (λ a. box_owns (ghosts.dealloc_token a) the_row p x)
