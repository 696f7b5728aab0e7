-- The transcript's lines, byte by byte.
use Rattle.std.specs.Prelude.{ℕ, zero, suc, ◌+◌, ◌/◌, ◌%◌, List, [], ◌∷◌, ◌++◌, codes, eqb, ltb}
use Rattle.base.specs.Test.{when◌then◌else◌}
use Rattle.base.specs.declared.refusal.Refusal.{Refusal}
use Rattle.base.specs.Refusal.{refusal_number}
use Rattle.answers.specs.declared.answer.Outcome.{Outcome}
use Rattle.answers.specs.declared.answer.End.{End}
use Rattle.answers.specs.Outcome.{kind_letter, end_letter}
use Rattle.text.specs.Text.{tab, newline}

-- the last of at most n digits before those that stand already
unfoldable pub decimal_from : ℕ → ℕ → List ℕ → List ℕ
decimal_from zero n digits = digits
decimal_from (suc k) n digits =
    let more = (0x30 + n % 10) ∷ digits in when eqb (n / 10) 0 then more else decimal_from k (n / 10) more

-- a decimal, without a leading zero; 20 digits hold 64 bits
unfoldable pub decimal_bytes : ℕ → List ℕ
decimal_bytes n = decimal_from 20 n []

-- a hexadecimal digit, capitals
unfoldable pub hex_byte : ℕ → ℕ
hex_byte d = when ltb d 10 then 0x30 + d else 0x37 + d

-- four hexadecimal digits
unfoldable pub hex_bytes : ℕ → List ℕ
hex_bytes w = hex_byte (w / 4096 % 16) ∷ hex_byte (w / 256 % 16) ∷ hex_byte (w / 16 % 16) ∷ hex_byte (w % 16) ∷ []

-- step kind clock pc sr
abbrev pub header_line : List ℕ
header_line = codes "step\tkind\tclock\tpc\tsr\n"

-- parts one after another
abbrev pub parts : List (List ℕ) → List ℕ
parts [] = []
parts (p ∷ ps) = p ++ parts ps

-- a step: its number from 1, its kind, and clock, pc and sr after it
unfoldable pub step_line : ℕ → Outcome → ℕ → ℕ → ℕ → List ℕ
step_line n kind clock pc sr =
    parts
    (decimal_bytes n ∷ (tab ∷ kind_letter kind ∷ tab ∷ []) ∷ decimal_bytes clock ∷ (tab ∷ hex_bytes pc) ∷ (tab ∷ hex_bytes sr)
    ∷ (newline ∷ []) ∷ [])

-- the last line: the run's end, steps, clock
unfoldable pub end_line : End → ℕ → ℕ → List ℕ
end_line e steps clock =
    parts ((end_letter e ∷ tab ∷ []) ∷ decimal_bytes steps ∷ (tab ∷ []) ∷ decimal_bytes clock ∷ (newline ∷ []) ∷ [])

-- a refusal prints only E, number, line
unfoldable pub refusal_line : Refusal → ℕ → List ℕ
refusal_line r line =
    parts ((0x45 ∷ tab ∷ []) ∷ decimal_bytes (refusal_number r) ∷ (tab ∷ []) ∷ decimal_bytes line ∷ (newline ∷ []) ∷ [])
