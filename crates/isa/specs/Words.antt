-- Reading two words as an instruction, and writing an instruction as its words.
use Rattle.std.specs.Prelude.{ℕ, Option, None, Some, Result, Ok, Err}
use Rattle.base.specs.Test.{when◌then◌else◌}
use Rattle.base.specs.declared.refusal.Refusal.{Refusal}
use Rattle.base.specs.declared.refusal.Refusal.TheVariants.{Word}
use Rattle.base.specs.Refusal.{refusal_number}
use Rattle.rows.specs.declared.read.Begun.{Begun}
use Rattle.rows.specs.declared.write.Words.{Words}
use Rattle.rows.specs.Table.{second_fits, format_of}
use Rattle.rows.specs.Words.{begun, written}
use Rattle.isa.specs.declared.instruction.Instruction.{Instruction}
use Rattle.isa.specs.declared.read.Decoded.{Decoded}
use Rattle.isa.specs.Encoding.{instruction_of, encoding_of}
use Rattle.isa.specs.Cycles.{length_of}

-- an instruction that was read, with a length
abbrev pub decoded : Instruction → ℕ → Result Decoded Refusal
decoded i n = Ok (record { instruction = i; length = n })

-- an instruction with its own length
abbrev whole : Instruction → Result Decoded Refusal
whole i = decoded i (length_of i)

-- the instruction begun, with the second word v
unfoldable pub finished : Option Begun → ℕ → Result Decoded Refusal
finished None v = Err Word
finished (Some b) v =
    when second_fits (format_of b.row).second v then whole (instruction_of b.row b.source b.destination v) else Err Word

-- reading: the instruction that two words begin with and its length, or refusal 9
unfoldable pub reading : ℕ → ℕ → Result Decoded Refusal
reading w v = finished (begun w) v

-- the number of the refusal, 0 where there is none
abbrev pub reading_refusal : Result Decoded Refusal → ℕ
reading_refusal (Ok d) = 0
reading_refusal (Err r) = refusal_number r

-- writing: exactly the instruction's words, or refusal 9
abbrev pub writing : Instruction → Result Words Refusal
writing i = written (encoding_of i)
