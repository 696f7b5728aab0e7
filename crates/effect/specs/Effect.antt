-- The fast way of a step: a common instruction of which no interrupt can come sets pc, one more register and the status, or puts a word.
-- It looks at no other register than it is handed, and is proved to do what the step does.
use Rattle.std.specs.Prelude.{Bool, true, false, not, List, ℕ, ◌*◌, ◌/◌, ◌%◌, ltb, eqb, set, Option, None, Some}
use Rattle.base.specs.Test.{when◌then◌else◌}
use Rattle.base.specs.Word.{drop_bit0, sum16}
use Rattle.rows.specs.declared.row.Operation.{Operation}
use Rattle.rows.specs.declared.row.Operation.TheVariants.{Add, Sub, Cmp, And}
use Rattle.rows.specs.declared.row.Row.{Row}
use Rattle.rows.specs.declared.row.Row.TheVariants.{Hlt as HLT, In as IN, Out as OUT, Jz as JZ, Reti as RETI, Nop as NOP, Jmp as JMP, Mov as MOV, Load as LOAD, Store as STORE, Immediate as IMMEDIATE, Compute as COMPUTE, Not as NOT}
use Rattle.rows.specs.declared.read.Begun.{Begun}
use Rattle.rows.specs.Words.{begun}
use Rattle.isa.specs.declared.instruction.Operand.TheVariants.{Register, Pointed, Constant}
use Rattle.isa.specs.declared.instruction.Instruction.{Instruction}
use Rattle.isa.specs.declared.instruction.Instruction.TheVariants.{Jz, Nop, Jmp, Mov, Store, Compute}
use Rattle.isa.specs.Cycles.{cycles_of, length_of}
use Rattle.alu.specs.declared.arithmetic.Computed.{Computed}
use Rattle.alu.specs.Arithmetic.{computed}
use Rattle.alu.specs.Status.{zero, set_flags}
use Rattle.layout.specs.declared.sections.Layout.{Layout}
use Rattle.layout.specs.declared.access.Right.TheVariants.{Read as read, Write as write}
use Rattle.layout.specs.Sections.{same_side}
use Rattle.layout.specs.Access.{may}
use Rattle.effect.specs.declared.effect.Effect.{Effect}
use Rattle.definition.specs.Memory.{word_at, put_word}

-- the registers that an effect sets: pc, one more, the status
abbrev pub affected : Effect → List ℕ → List ℕ
affected e rs = set (set (set rs 0 e.to) e.number e.word) 2 e.status

-- the word that is put, if one is
unfoldable pub put_if : Bool → List ℕ → ℕ → ℕ → List ℕ
put_if puts mem a w = when puts then put_word mem a w else mem

-- the address past the instruction at a, by its length in words
abbrev pub address_past : ℕ → Instruction → ℕ
address_past a i = sum16 a (2 * length_of i)

-- the address of the second word of the instruction at a
abbrev pub second_address : ℕ → ℕ
second_address a = sum16 a 2

-- only pc is set, in this many cycles
abbrev pub setting_pc_in : ℕ → ℕ → Bool → ℕ → Option Effect
setting_pc_in to status puts cycles = Some (record { to = to; number = 0; word = to; status = status; puts = puts; cycles = cycles })

-- pc is set, and a register above r3, to which no rule of writing applies, in this many cycles
unfoldable pub setting_register_in : ℕ → ℕ → ℕ → ℕ → ℕ → Option Effect
setting_register_in to d w status cycles =
    when ltb d 4 then None
    else Some (record { to = to; number = d; word = w; status = status; puts = false; cycles = cycles })

-- only pc is set, in the cycles of an instruction
abbrev pub setting_pc : Instruction → ℕ → ℕ → Bool → Option Effect
setting_pc i to status puts = setting_pc_in to status puts (cycles_of i)

-- pc is set, and a register above r3, in the cycles of an instruction
abbrev pub setting_register : Instruction → ℕ → ℕ → ℕ → ℕ → Option Effect
setting_register i to d w status = setting_register_in to d w status (cycles_of i)

-- only pc is set, past the instruction at a
abbrev pub leading_on : ℕ → Instruction → ℕ → Bool → Option Effect
leading_on a i status puts = setting_pc i (address_past a i) status puts

-- pc is set past the instruction at a, and a register above r3
abbrev pub setting_on : ℕ → Instruction → ℕ → ℕ → ℕ → Option Effect
setting_on a i d w status = setting_register i (address_past a i) d w status

-- the instruction at a, with the status, the registers x and y of its second and last digits, and memory
module _ (a status : ℕ) where
  -- ADD, SUB, CMP, AND: as0d
  abbrev pub computing : Operation → ℕ → ℕ → Computed → Option Effect
  computing Add s d c = setting_on a (Compute Add s d) d c.result (set_flags status c)
  computing Sub s d c = setting_on a (Compute Sub s d) d c.result (set_flags status c)
  computing Cmp s d c = leading_on a (Compute Cmp s d) (set_flags status c) false
  computing And s d c = setting_on a (Compute And s d) d c.result (set_flags status c)

  -- JZ: 003s
  unfoldable pub branching : ℕ → ℕ → Option Effect
  branching x s =
      when zero status then setting_pc (Jz s) (drop_bit0 x) status false
      else leading_on a (Jz s) status false

  -- 4s0d: MOV s d
  abbrev pub moving : ℕ → ℕ → ℕ → Option Effect
  moving x s d = setting_on a (Mov (Register s) d) d x status

  -- 4s00: JMP s
  abbrev pub jumping : ℕ → ℕ → Option Effect
  jumping x s = setting_pc (Jmp s) (drop_bit0 x) status false

  -- 4303: NOP
  abbrev pub doing_nothing : Option Effect
  doing_nothing = leading_on a Nop status false

  -- MOV #w d
  abbrev pub immediate : ℕ → ℕ → Option Effect
  immediate w d = setting_on a (Mov (Constant w) d) d w status

  module _ (L : Layout) (mem : List ℕ) where
    -- 4s2d: MOV @s d
    unfoldable pub loading : ℕ → ℕ → ℕ → Option Effect
    loading x s d =
        when may L a read (drop_bit0 x) then setting_on a (Mov (Pointed s) d) d (word_at mem x) status
        else None

    -- 403d: MOV #w d
    unfoldable pub constant : ℕ → Option Effect
    constant d =
        when same_side L a (second_address a) then immediate (word_at mem (second_address a)) d
        else None

    -- 4s8d: MOV s 0(d)
    unfoldable pub storing : ℕ → ℕ → ℕ → Option Effect
    storing y s d =
        when not (same_side L a (second_address a)) then None
        else when not (eqb (word_at mem (second_address a)) 0) then None
        else when may L a write (drop_bit0 y) then leading_on a (Store s d) status true
        else None

    -- by the row, with the second and the last digit s and d of its first word; what is rare is left to the step
    abbrev pub effect_of : ℕ → ℕ → ℕ → ℕ → Row → Option Effect
    effect_of x y s d MOV = moving x s d
    effect_of x y s d JMP = jumping x s
    effect_of x y s d NOP = doing_nothing
    effect_of x y s d IMMEDIATE = constant d
    effect_of x y s d (COMPUTE o) = computing o s d (computed o x y)
    effect_of x y s d LOAD = loading x s d
    effect_of x y s d STORE = storing y s d
    effect_of x y s d JZ = branching y d
    effect_of x y s d NOT = None
    effect_of x y s d IN = None
    effect_of x y s d OUT = None
    effect_of x y s d RETI = None
    effect_of x y s d HLT = None

    -- by what the table of instruction words begins
    abbrev pub effect_begun : ℕ → ℕ → ℕ → ℕ → Option Begun → Option Effect
    effect_begun x y s d None = None
    effect_begun x y s d (Some b) = effect_of x y s d b.row

    -- by the first word
    unfoldable pub fast_effect : ℕ → ℕ → ℕ → Option Effect
    fast_effect x y w = effect_begun x y (w / 256 % 16) (w % 16) (begun w)
