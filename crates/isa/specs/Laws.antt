-- What is claimed of reading and writing.
use Rattle.std.specs.Prelude.{◌≡◌, ℕ, eqb, Ok}
use Rattle.base.specs.Test.{when◌then◌else◌}
use Rattle.rows.specs.declared.write.Words.{Words}
use Rattle.rows.specs.declared.write.Words.TheVariants.{One, Two}
use Rattle.isa.specs.declared.instruction.Instruction.{Instruction}
use Rattle.isa.specs.Words.{decoded, reading, writing}

-- as many of the two words as the length says
unfoldable pub first_words : ℕ → ℕ → ℕ → Words
first_words n w v = when eqb n 2 then Two w v else One w

-- writing what was read gives back exactly the words
unfoldable pub ReadThenWritten : Type 0
ReadThenWritten = (w v : ℕ) (i : Instruction) (n : ℕ) → reading w v ≡ decoded i n → writing i ≡ Ok (first_words n w v)

-- reading what was written gives back the instruction
unfoldable pub WrittenThenRead : Type 0
WrittenThenRead =
    (i : Instruction) (w v : ℕ)
    → (writing i ≡ Ok (One w) → reading w v ≡ decoded i 1) × (writing i ≡ Ok (Two w v) → reading w v ≡ decoded i 2)

-- a second word beyond the length is not looked at
unfoldable pub SecondUnread : Type 0
SecondUnread = (w v u : ℕ) (i : Instruction) → reading w v ≡ decoded i 1 → reading w u ≡ decoded i 1
