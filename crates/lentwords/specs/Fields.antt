-- One instruction in four numbers: its index among the rows of document 01's table, source, destination, constant.
use Rattle.std.specs.Prelude.{ℕ, List, [], ◌∷◌, ltb, get_or, Option, None, Some, Result, Err}
use Rattle.base.specs.Test.{when◌then◌else◌}
use Rattle.base.specs.declared.refusal.Refusal.{Refusal}
use Rattle.base.specs.declared.refusal.Refusal.TheVariants.{Word}
use Rattle.rows.specs.declared.row.Operation.{Operation}
use Rattle.rows.specs.declared.row.Operation.TheVariants.{Add, Sub, Cmp, And}
use Rattle.rows.specs.declared.row.Row.{Row}
use Rattle.rows.specs.declared.row.Row.TheVariants.{Hlt as HLT, In as IN, Out as OUT, Jz as JZ, Reti as RETI, Nop as NOP, Jmp as JMP, Mov as MOV, Load as LOAD, Store as STORE, Immediate as IMMEDIATE, Compute as COMPUTE, Not as NOT}
use Rattle.rows.specs.declared.row.Encoding.{Encoding}
use Rattle.rows.specs.declared.write.Words.{Words}
use Rattle.rows.specs.Table.{rows}
use Rattle.isa.specs.declared.instruction.Instruction.{Instruction}
use Rattle.isa.specs.Encoding.{instruction_of, encoding_of}
use Rattle.isa.specs.Words.{writing}
use Rattle.base.specs.Word.{byte_of}

-- the row at an index of document 01's list, from 0; there are sixteen
unfoldable pub row_at : ℕ → Option Row
row_at n = when ltb n 16 then Some (get_or rows n HLT) else None

-- the index of an operation's row
abbrev pub operation_index : Operation → ℕ
operation_index Add = 11
operation_index Sub = 12
operation_index Cmp = 13
operation_index And = 14

-- the index of a row
abbrev pub row_index : Row → ℕ
row_index HLT = 0
row_index IN = 1
row_index OUT = 2
row_index JZ = 3
row_index RETI = 4
row_index NOP = 5
row_index JMP = 6
row_index MOV = 7
row_index LOAD = 8
row_index STORE = 9
row_index IMMEDIATE = 10
row_index (COMPUTE o) = operation_index o
row_index NOT = 15

-- the four numbers of an encoding
abbrev pub encoding_fields : Encoding → List ℕ
encoding_fields e = row_index e.row ∷ e.source ∷ e.destination ∷ e.word ∷ []

-- the four numbers of an instruction
unfoldable pub fields_of : Instruction → List ℕ
fields_of i = encoding_fields (encoding_of i)

-- the words of what stands at an index, with two registers and a constant; where no row stands there, refusal 9
abbrev pub writing_at : Option Row → ℕ → ℕ → ℕ → Result Words Refusal
writing_at None s d w = Err Word
writing_at (Some row) s d w = writing (instruction_of row s d w)

-- the words of four numbers, or refusal 9
unfoldable pub writing_of : List ℕ → Result Words Refusal
writing_of fields = writing_at (row_at (get_or fields 0 0)) (byte_of (get_or fields 1 0)) (byte_of (get_or fields 2 0)) (get_or fields 3 0)
