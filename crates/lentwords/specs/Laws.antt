-- What is claimed of an instruction as four numbers: the statements of the laws.
use Rattle.std.specs.Prelude.{◌≡◌, Some}
use Rattle.isa.specs.declared.instruction.Instruction.{Instruction}
use Rattle.rows.specs.declared.row.Row.{Row}
use Rattle.isa.specs.Words.{writing}
use Rattle.lentwords.specs.Fields.{row_at, row_index, fields_of, writing_of}

-- each row stands at its index
unfoldable pub RowAtIndex : Type 0
RowAtIndex = (r : Row) → row_at (row_index r) ≡ Some r

-- the four numbers of an instruction are written as the instruction is
unfoldable pub FieldsWritten : Type 0
FieldsWritten = (i : Instruction) → writing_of (fields_of i) ≡ writing i
