-- 003's Table 1: the cycles and the length in words of an instruction, by its kind.
use Rattle.std.specs.Prelude.{ℕ, List, [], ◌∷◌, get_or}
use Rattle.rows.specs.declared.row.Row.{Row}
use Rattle.rows.specs.declared.row.Row.TheVariants.{Hlt as HLT, In as IN, Out as OUT, Jz as JZ, Reti as RETI, Nop as NOP, Jmp as JMP, Mov as MOV, Load as LOAD, Store as STORE, Immediate as IMMEDIATE, Compute as COMPUTE, Not as NOT}
use Rattle.isa.specs.declared.instruction.Instruction.{Instruction}
use Rattle.isa.specs.declared.table.Kind.{Kind}
use Rattle.isa.specs.declared.table.Kind.TheVariants.{Hlt as K_Hlt, In as K_In, Out as K_Out, Jz as K_Jz, Reti as K_Reti, Nop as K_Nop, Jmp as K_Jmp, Mov as K_Mov, Load as K_Load, Store as K_Store, Immediate as K_Immediate, Compute as K_Compute, Not as K_Not}
use Rattle.isa.specs.Encoding.{encoding_of}

-- the kind of a row
abbrev pub row_kind : Row → Kind
row_kind HLT = K_Hlt
row_kind IN = K_In
row_kind OUT = K_Out
row_kind JZ = K_Jz
row_kind RETI = K_Reti
row_kind NOP = K_Nop
row_kind JMP = K_Jmp
row_kind MOV = K_Mov
row_kind LOAD = K_Load
row_kind STORE = K_Store
row_kind IMMEDIATE = K_Immediate
row_kind (COMPUTE o) = K_Compute
row_kind NOT = K_Not

-- the kind of an instruction
abbrev pub kind_of : Instruction → Kind
kind_of i = row_kind (encoding_of i).row

-- the line of the table that a kind stands on, from 0
abbrev pub kind_number : Kind → ℕ
kind_number K_Hlt = 0
kind_number K_In = 1
kind_number K_Out = 2
kind_number K_Jz = 3
kind_number K_Reti = 4
kind_number K_Nop = 5
kind_number K_Jmp = 6
kind_number K_Mov = 7
kind_number K_Load = 8
kind_number K_Store = 9
kind_number K_Immediate = 10
kind_number K_Compute = 11
kind_number K_Not = 12

-- the cycles, by kind
abbrev pub cycle_table : List ℕ
cycle_table = 1 ∷ 2 ∷ 2 ∷ 2 ∷ 5 ∷ 1 ∷ 2 ∷ 1 ∷ 2 ∷ 4 ∷ 2 ∷ 1 ∷ 2 ∷ []

-- the lengths in words, by kind
abbrev pub length_table : List ℕ
length_table = 1 ∷ 1 ∷ 1 ∷ 1 ∷ 1 ∷ 1 ∷ 1 ∷ 1 ∷ 1 ∷ 2 ∷ 2 ∷ 1 ∷ 2 ∷ []

-- the cycles of an instruction
abbrev pub cycles_of : Instruction → ℕ
cycles_of i = get_or cycle_table (kind_number (kind_of i)) 0

-- the length of an instruction, in words
abbrev pub length_of : Instruction → ℕ
length_of i = get_or length_table (kind_number (kind_of i)) 0
