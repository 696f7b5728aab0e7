-- Document 01's table of instruction words. Reading and writing are both defined from it.
use Rattle.std.specs.Prelude.{ℕ, ◌+◌, ◌*◌, ◌/◌, ◌%◌, Bool, true, false, not, List, [], ◌∷◌, eqb}
use Rattle.base.specs.Test.{all}
use Rattle.rows.specs.declared.row.Operation.{Operation}
use Rattle.rows.specs.declared.row.Operation.TheVariants.{Add, Sub, Cmp, And}
use Rattle.rows.specs.declared.row.Row.{Row}
use Rattle.rows.specs.declared.row.Row.TheVariants.{Hlt as HLT, In as IN, Out as OUT, Jz as JZ, Reti as RETI, Nop as NOP, Jmp as JMP, Mov as MOV, Load as LOAD, Store as STORE, Immediate as IMMEDIATE, Compute as COMPUTE, Not as NOT}
use Rattle.rows.specs.declared.row.Second.{Second}
use Rattle.rows.specs.declared.row.Second.TheVariants.{Nothing as none, Exactly as exactly, Anything as anything}

-- where a register's digit stands in a first word: second from the left, last, or nowhere
pub data DigitPosition : Type 0 where
  second last nowhere : DigitPosition

-- a row's format: the first word with 0 for s and d, the positions of s and d, which registers may stand there, the second word
pub record Format : Type 0 where
  pub fixed : ℕ
  pub s : DigitPosition
  pub d : DigitPosition
  pub takes : ℕ → ℕ → Bool
  pub second : Second

-- a format in the order of its columns
abbrev format : ℕ → DigitPosition → DigitPosition → (ℕ → ℕ → Bool) → Second → Format
format f s d t w = record { fixed = f; s = s; d = d; takes = t; second = w }

-- a register that may hold an address: not 0, 2, 3
unfoldable pub pointer : ℕ → Bool
pointer n = all (not (eqb n 0) ∷ not (eqb n 2) ∷ not (eqb n 3) ∷ [])

-- any registers may stand there
abbrev pub any_registers : ℕ → ℕ → Bool
any_registers s d = true

-- MOV s d: d not 0, not both 3
abbrev pub movable : ℕ → ℕ → Bool
movable s d = all (not (eqb d 0) ∷ not (all (eqb s 3 ∷ eqb d 3 ∷ [])) ∷ [])

-- MOV @s d: s not 0, 2, 3
abbrev pub s_points : ℕ → ℕ → Bool
s_points s d = pointer s

-- MOV s 0(d): d not 0, 2, 3
abbrev pub d_points : ℕ → ℕ → Bool
d_points s d = pointer d

-- the first word of ADD, SUB, CMP, AND with 0 for s and d
abbrev pub operation_word : Operation → ℕ
operation_word Add = 0x5000
operation_word Sub = 0x8000
operation_word Cmp = 0x9000
operation_word And = 0xF000

-- the table
abbrev pub format_of : Row → Format
format_of HLT = format 0x0001 nowhere nowhere any_registers none
format_of IN = format 0x0010 nowhere last any_registers none
format_of OUT = format 0x0020 last nowhere any_registers none
format_of JZ = format 0x0030 last nowhere any_registers none
format_of RETI = format 0x1300 nowhere nowhere any_registers none
format_of NOP = format 0x4303 nowhere nowhere any_registers none
format_of JMP = format 0x4000 second nowhere any_registers none
format_of MOV = format 0x4000 second last movable none
format_of LOAD = format 0x4020 second last s_points none
format_of STORE = format 0x4080 second last d_points (exactly 0x0000)
format_of IMMEDIATE = format 0x4030 nowhere last any_registers anything
format_of (COMPUTE o) = format (operation_word o) second last any_registers none
format_of NOT = format 0xE030 nowhere last any_registers (exactly 0xFFFF)

-- the rows in document 01's order
abbrev pub rows : List Row
rows =
    HLT ∷ IN ∷ OUT ∷ JZ ∷ RETI ∷ NOP ∷ JMP ∷ MOV ∷ LOAD ∷ STORE ∷ IMMEDIATE
    ∷ COMPUTE Add ∷ COMPUTE Sub ∷ COMPUTE Cmp ∷ COMPUTE And ∷ NOT ∷ []

-- the row has a second word
abbrev pub has_second : Second → Bool
has_second none = false
has_second (exactly u) = true
has_second anything = true

-- the word v may be the second
abbrev pub second_fits : Second → ℕ → Bool
second_fits none v = true
second_fits (exactly u) v = eqb v u
second_fits anything v = true

-- what a digit counts at its position
abbrev pub weight : DigitPosition → ℕ
weight second = 256
weight last = 1
weight nowhere = 0

-- the digit of a word at a position
abbrev pub digit_at : DigitPosition → ℕ → ℕ
digit_at second w = w / 256 % 16
digit_at last w = w % 16
digit_at nowhere w = 0

-- the row's first word with the registers s and d
unfoldable pub first_word : Row → ℕ → ℕ → ℕ
first_word r s d = (format_of r).fixed + s * weight (format_of r).s + d * weight (format_of r).d

-- the register digits of a first word in a row
abbrev pub s_digit : Row → ℕ → ℕ
s_digit r w = digit_at (format_of r).s w

-- the digit d of a first word in a row
abbrev pub d_digit : Row → ℕ → ℕ
d_digit r w = digit_at (format_of r).d w
