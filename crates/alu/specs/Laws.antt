-- What is claimed of the overflow and of the status word.
use Rattle.std.specs.Prelude.{◌≡◌, Bool, not, [], ◌∷◌, ℕ, ◌-◌, ◌<◌, eqb, ℤ, pos, negsuc, ◌+ℤ◌, ◌-ℤ◌}
use Rattle.std.specs.Int.Signed.{le_z}
use Rattle.base.specs.Test.{when◌then◌else◌, all}
use Rattle.rows.specs.declared.row.Operation.TheVariants.{Add, Sub}
use Rattle.alu.specs.declared.arithmetic.Computed.{Computed}
use Rattle.alu.specs.Arithmetic.{bit15, computed}
use Rattle.alu.specs.Status.{gie, zero, without_flags, set_flags, keep_gie}

-- the signed number that a 16-bit word stands for
unfoldable pub signed : ℕ → ℤ
signed w = when bit15 w then negsuc (0xFFFF - w) else pos w

-- a signed number of 16 bits: -32,768 to 32,767
unfoldable pub fits16 : ℤ → Bool
fits16 z = all (le_z (negsuc 0x7FFF) z ∷ le_z z (pos 0x7FFF) ∷ [])

-- V is signed overflow: the exact signed sum or difference does not fit 16 bits
unfoldable pub OverflowIsSigned : Type 0
OverflowIsSigned =
    (s d : ℕ) → s < 65536 → d < 65536
    → ((computed Add s d).overflow ≡ not (fits16 (signed d +ℤ signed s)))
    × ((computed Sub s d).overflow ≡ not (fits16 (signed d -ℤ signed s)))

-- setting flags leaves GIE and all other bits alone, and sets Z where the result is zero
unfoldable pub FlagsOnly : Type 0
FlagsOnly =
    (sr : ℕ) (c : Computed)
    → (without_flags (set_flags sr c) ≡ without_flags sr) × (gie (set_flags sr c) ≡ gie sr) × (zero (set_flags sr c) ≡ eqb c.result 0)

-- keeping GIE keeps it, and stores every other bit
unfoldable pub GieKept : Type 0
GieKept = (old new : ℕ) → (gie (keep_gie old new) ≡ gie old) × (gie old ≡ gie new → keep_gie old new ≡ new)
