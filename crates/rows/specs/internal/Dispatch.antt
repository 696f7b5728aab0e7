-- How the code finds a first word's row, and in what order. Nobody need believe it: any order gives the same answer (`AnyOrder`).
use Rattle.std.specs.Prelude.{ℕ, ◌+◌, ◌*◌, ◌/◌, ◌%◌, ltb, eqb, Bool, List, [], ◌∷◌, Option, None, Some}
use Rattle.base.specs.Test.{when◌then◌else◌, all}
use Rattle.rows.specs.declared.row.Operation.TheVariants.{Add, Sub, Cmp, And}
use Rattle.rows.specs.declared.row.Row.{Row}
use Rattle.rows.specs.declared.row.Row.TheVariants.{Hlt as HLT, In as IN, Out as OUT, Jz as JZ, Reti as RETI, Nop as NOP, Jmp as JMP, Mov as MOV, Load as LOAD, Store as STORE, Immediate as IMMEDIATE, Compute as COMPUTE, Not as NOT}
use Rattle.rows.specs.declared.read.Begun.{Begun}
use Rattle.rows.specs.Table.{pointer, s_digit, d_digit}
use Rattle.rows.specs.Words.{found}

-- groups 4 and 5 first, register moves and immediates before the rest of them, and rare words last
abbrev pub work_order : List Row
work_order =
    MOV ∷ JMP ∷ NOP ∷ IMMEDIATE ∷ LOAD ∷ STORE ∷ COMPUTE Add ∷ COMPUTE Sub ∷ COMPUTE Cmp ∷ COMPUTE And ∷ JZ ∷ NOT ∷ IN ∷ OUT ∷ RETI ∷ HLT ∷ []

-- the row, where a test holds
abbrev pub row_if : Bool → Row → Option Row
row_if t r = when t then Some r else None

-- 4s0d: MOV between registers, JMP, NOP
unfoldable pub register_move : ℕ → ℕ → Row
register_move s d =
    when ltb 3 d then MOV
    else when eqb d 0 then JMP
    else when all (eqb s 3 ∷ eqb d 3 ∷ []) then NOP
    else MOV

-- the rows that are neither register moves nor immediates, by the first and the third digit, and then by the second and the last
unfoldable pub row_by_digits : ℕ → ℕ → ℕ → Option Row
row_by_digits k s d =
    when eqb k 0x4020 then row_if (pointer s) LOAD
    else when eqb k 0x4080 then row_if (pointer d) STORE
    else when eqb k 0x5000 then Some (COMPUTE Add)
    else when eqb k 0x8000 then Some (COMPUTE Sub)
    else when eqb k 0x9000 then Some (COMPUTE Cmp)
    else when eqb k 0xF000 then Some (COMPUTE And)
    else when eqb k 0x0030 then row_if (eqb s 0) JZ
    else when eqb k 0xE030 then row_if (eqb s 0) NOT
    else when eqb k 0x0010 then row_if (eqb s 0) IN
    else when eqb k 0x0020 then row_if (eqb s 0) OUT
    else when eqb k 0x1000 then row_if (all (eqb s 3 ∷ eqb d 0 ∷ [])) RETI
    else when eqb k 0x0000 then row_if (all (eqb s 0 ∷ eqb d 1 ∷ [])) HLT
    else None

-- the first and the third digit in their places: the word with 0 for its registers
abbrev pub first_and_third : ℕ → ℕ
first_and_third w = w / 4096 * 4096 + w / 16 % 16 * 16

-- the row that the code finds
unfoldable pub row_of : ℕ → Option Row
row_of w =
    when eqb (first_and_third w) 0x4000 then Some (register_move (w / 256 % 16) (w % 16))
    else when eqb (w / 16) 0x403 then Some IMMEDIATE
    else row_by_digits (first_and_third w) (w / 256 % 16) (w % 16)

-- what a word begins, by its row
abbrev pub begun_by : Option Row → ℕ → Option Begun
begun_by None w = None
begun_by (Some r) w = found r (s_digit r w) (d_digit r w)
