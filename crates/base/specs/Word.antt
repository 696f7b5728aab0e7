-- 16-bit words. A sum or a difference keeps its low 16 bits; a word access drops address bit 0.
use Rattle.std.specs.Prelude.{ℕ, ◌+◌, ◌-◌, ◌*◌, ◌/◌, ◌%◌, Bool, ◌==◌, nat_lt}
use Rattle.base.specs.Test.{when◌then◌else◌}

-- the low 16 bits
abbrev pub low16 : ℕ → ℕ
low16 n = n % 65536

-- a + b, its low 16 bits
abbrev pub sum16 : ℕ → ℕ → ℕ
sum16 a b = low16 (a + b)

-- a - b, its low 16 bits
abbrev pub difference16 : ℕ → ℕ → ℕ
difference16 a b = low16 (a + (65536 - b))

-- an address less its bit 0
abbrev pub drop_bit0 : ℕ → ℕ
drop_bit0 a = a / 2 * 2

-- an even address
abbrev pub is_even : ℕ → Bool
is_even a = a % 2 == 0

-- a number in 8 bits: what has more is 255, which is neither an age of a frame nor a register
unfoldable pub byte_of : ℕ → ℕ
byte_of n = when nat_lt 255 n then 255 else n
