-- The starred cases of document 01 on sums and differences: a part of the one list.
use Rattle.std.specs.Prelude.{List, [], ◌∷◌, ℕ}
use Rattle.base.specs.Case.{Case, case}
use Rattle.rows.specs.declared.row.Operation.{Operation}
use Rattle.rows.specs.declared.row.Operation.TheVariants.{Add, Sub}
use Rattle.alu.specs.Arithmetic.{computed}
use Rattle.alu.specs.Status.{set_flags}

-- a result, and the status that an empty one becomes
pub record Sum : Type 0 where
  pub result : ℕ
  pub status : ℕ

-- a result with a status
abbrev pub sum : ℕ → ℕ → Sum
sum r f = record { result = r; status = f }

-- what an operation gives from the source s and the destination d
abbrev pub summed : Operation → ℕ → ℕ → Sum
summed o s d = sum (computed o s d).result (set_flags 0 (computed o s d))

-- a status with Z alone
abbrev pub Z : ℕ
Z = 0x002

-- a status with N and C
abbrev pub NC : ℕ
NC = 0x005

-- a status with N, C and V
abbrev pub NCV : ℕ
NCV = 0x105

-- FFFF + 1, 7FFF + 1, 0 - 1
abbrev pub sum_cases : List {1} Case
sum_cases =
    case (summed Add 1 0xFFFF) (sum 0 Z)
    ∷ case (summed Add 1 0x7FFF) (sum 0x8000 NCV)
    ∷ case (summed Sub 1 0) (sum 0xFFFF NC)
    ∷ []
