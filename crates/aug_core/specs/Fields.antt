-- The five words of a record.
use Rattle.std.specs.Prelude.{ℕ}
use Rattle.aug_core.specs.declared.field.RecordField.{RecordField}
use Rattle.aug_core.specs.declared.field.RecordField.TheVariants.{Left, Right, Count, A, B}

-- how many words of the record stand before one of them
abbrev pub field_offset : RecordField → ℕ
field_offset Left = 0
field_offset Right = 1
field_offset Count = 2
field_offset A = 3
field_offset B = 4
