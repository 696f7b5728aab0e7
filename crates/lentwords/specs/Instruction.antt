-- What is told of an instruction that is read or written.
use Rattle.std.specs.Prelude.{ℕ, List, [], Result, Ok, Err}
use Rattle.base.specs.declared.refusal.Refusal.{Refusal}
use Rattle.rows.specs.declared.write.Words.{Words}
use Rattle.rows.specs.declared.write.Words.TheVariants.{One, Two}
use Rattle.isa.specs.declared.read.Decoded.{Decoded}
use Rattle.lentwords.specs.Fields.{fields_of}

-- the four numbers of what was read; none of a refusal
abbrev pub read_fields : Result Decoded Refusal → List ℕ
read_fields (Ok d) = fields_of d.instruction
read_fields (Err r) = []

-- its length in words; none of a refusal
abbrev pub read_length : Result Decoded Refusal → ℕ
read_length (Ok d) = d.length
read_length (Err r) = 0

-- the first word that was written; none of a refusal
abbrev pub written_first : Result Words Refusal → ℕ
written_first (Ok (One w)) = w
written_first (Ok (Two w v)) = w
written_first (Err r) = 0

-- the second word, or what was there where there is none
abbrev pub written_second : Result Words Refusal → ℕ → ℕ
written_second (Ok (One w)) was = was
written_second (Ok (Two w v)) was = v
written_second (Err r) was = was

-- how many words there are; none of a refusal
abbrev pub written_length : Result Words Refusal → ℕ
written_length (Ok (One w)) = 1
written_length (Ok (Two w v)) = 2
written_length (Err r) = 0
