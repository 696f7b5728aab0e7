-- The status word: C is bit 0, Z bit 1, N bit 2, GIE bit 3, V bit 8 (guide); all other bits are storage.
use Rattle.std.specs.Prelude.{ℕ, ◌+◌, ◌*◌, ◌/◌, ◌%◌, Bool, eqb}
use Rattle.base.specs.Test.{bit_of}
use Rattle.alu.specs.declared.arithmetic.Computed.{Computed}
use Rattle.alu.specs.Arithmetic.{bit15}

-- interrupts are allowed
unfoldable pub gie : ℕ → Bool
gie sr = eqb (sr / 8 % 2) 1

-- Z is set
unfoldable pub zero : ℕ → Bool
zero sr = eqb (sr / 2 % 2) 1

-- C, Z, N and V in their places
unfoldable pub flags_of : Computed → ℕ
flags_of c =
    bit_of c.carry * 0x001 + bit_of (eqb c.result 0) * 0x002 + bit_of (bit15 c.result) * 0x004 + bit_of c.overflow * 0x100

-- the status with its four flags 0: bits 9 to 15 and 3 to 7
unfoldable pub without_flags : ℕ → ℕ
without_flags sr = sr / 512 * 512 + sr / 8 % 32 * 8

-- the status with the flags of what was computed
unfoldable pub set_flags : ℕ → Computed → ℕ
set_flags sr c = without_flags sr + flags_of c

-- a new status with the old one's GIE
unfoldable pub keep_gie : ℕ → ℕ → ℕ
keep_gie old new = new / 16 * 16 + old / 8 % 2 * 8 + new % 8
