-- The registers' frame, which every instruction keeps: pc and sp even, r3 zero. Assumes nothing.
use Rattle.std.proofs.Common.{◌≡◌, Bool, true, List, ℕ, ◌%◌, ◌≤◌, arith, set}
use Rattle.std.proofs.lemmas.Grind.{common_steps}
use Rattle.std.proofs.lemmas.Bool.Decides.{nat_tests}
use Rattle.base.specs.Test.{all}
use Rattle.base.specs.Word.{is_even}
use Rattle.base.proofs.Tests.{choices}
use Rattle.isa.specs.declared.instruction.Instruction.{Instruction}
use Rattle.definition.specs.Registers.{register, write, cleared}
use Rattle.definition.specs.State.{framed_registers}
use Rattle.definition.specs.Act.{past, registers_after}
use Rattle.definition.proofs.instruction.ActLaws.{registers_after_lem}

abbrev pub FramedRegisters : List ℕ → Type 0
FramedRegisters rs = framed_registers rs ≡ true

-- what the frame asks of the value of register n
pub record Fits (n v : ℕ) : Type 0 where
  pub even : n ≤ 1 → v % 2 ≡ 0
  pub zero : n ≡ 3 → v ≡ 0

pub set_framed : (rs : List ℕ) (n v : ℕ) → Fits n v → FramedRegisters rs → FramedRegisters (set rs n v)
unfolding all register
set_framed rs n v f r = grind (arith, choices, nat_tests, common_steps)

pub write_framed : (inside : Bool) (rs : List ℕ) (n w : ℕ) → FramedRegisters rs → FramedRegisters (write inside rs n w)
unfolding write all
write_framed inside rs n w r = grind (arith, choices, nat_tests, set_framed)

past_framed : (rs : List ℕ) (i : Instruction) → FramedRegisters rs → FramedRegisters (past rs i)
unfolding past all
past_framed rs i r = grind (arith, choices, nat_tests, set_framed)

pub registers_framed : (inside : Bool) (rs : List ℕ) (device : ℕ) (mem : List ℕ) (i : Instruction) → FramedRegisters rs
    → FramedRegisters (registers_after inside rs device mem i)
registers_framed inside rs device mem i r =
    registers_after_lem FramedRegisters inside rs device mem (write_framed inside)
    (λ x c. set_framed x 2 _ (omega arith)) i (past_framed rs i r)

pub cleared_framed : (a : ℕ) → is_even a ≡ true → FramedRegisters (cleared a)
unfolding cleared register all
cleared_framed a e = grind (arith, choices)
