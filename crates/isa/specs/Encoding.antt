-- The row of document 01's table that an instruction has, and the instruction that a row has.
use Rattle.std.specs.Prelude.{ℕ}
use Rattle.rows.specs.declared.row.Row.{Row}
use Rattle.rows.specs.declared.row.Row.TheVariants.{Hlt as HLT, In as IN, Out as OUT, Jz as JZ, Reti as RETI, Nop as NOP, Jmp as JMP, Mov as MOV, Load as LOAD, Store as STORE, Immediate as IMMEDIATE, Compute as COMPUTE, Not as NOT}
use Rattle.rows.specs.declared.row.Encoding.{Encoding}
use Rattle.isa.specs.declared.instruction.Operand.TheVariants.{Register, Pointed, Constant}
use Rattle.isa.specs.declared.instruction.Instruction.{Instruction}
use Rattle.isa.specs.declared.instruction.Instruction.TheVariants.{Hlt, In, Out, Jz, Reti, Nop, Jmp, Mov, Store, Compute, Not}

-- the instruction that a row has for the registers s and d and the second word w
abbrev pub instruction_of : Row → ℕ → ℕ → ℕ → Instruction
instruction_of HLT s d w = Hlt
instruction_of IN s d w = In d
instruction_of OUT s d w = Out s
instruction_of JZ s d w = Jz s
instruction_of RETI s d w = Reti
instruction_of NOP s d w = Nop
instruction_of JMP s d w = Jmp s
instruction_of MOV s d w = Mov (Register s) d
instruction_of LOAD s d w = Mov (Pointed s) d
instruction_of STORE s d w = Store s d
instruction_of IMMEDIATE s d w = Mov (Constant w) d
instruction_of (COMPUTE o) s d w = Compute o s d
instruction_of NOT s d w = Not d

-- a row with its registers and constant
abbrev encoded : Row → ℕ → ℕ → ℕ → Encoding
encoded r s d w = record { row = r; source = s; destination = d; word = w }

-- the row, the registers and the constant of an instruction, each 0 where it has none
abbrev pub encoding_of : Instruction → Encoding
encoding_of Hlt = encoded HLT 0 0 0
encoding_of (In d) = encoded IN 0 d 0
encoding_of (Out s) = encoded OUT s 0 0
encoding_of (Jz s) = encoded JZ s 0 0
encoding_of Reti = encoded RETI 0 0 0
encoding_of Nop = encoded NOP 0 0 0
encoding_of (Jmp s) = encoded JMP s 0 0
encoding_of (Mov (Register s) d) = encoded MOV s d 0
encoding_of (Mov (Pointed s) d) = encoded LOAD s d 0
encoding_of (Mov (Constant w) d) = encoded IMMEDIATE 0 d w
encoding_of (Store s d) = encoded STORE s d 0
encoding_of (Compute o s d) = encoded (COMPUTE o) s d 0
encoding_of (Not d) = encoded NOT 0 d 0
