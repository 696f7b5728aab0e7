-- The starred cases of document 01 on instruction words: a part of the one list.
use Rattle.std.specs.Prelude.{List, [], ◌∷◌}
use Rattle.base.specs.Case.{Case, case}
use Rattle.isa.specs.declared.instruction.Instruction.TheVariants.{Nop, Jmp}
use Rattle.isa.specs.Words.{decoded, reading, reading_refusal}

-- 4303 is NOP, 4500 is JMP &5, 0000 and E035 FFFE do not decode
abbrev pub word_cases : List {1} Case
word_cases =
    case (reading 0x4303 0x0000) (decoded Nop 1)
    ∷ case (reading 0x4500 0x0000) (decoded (Jmp 5) 1)
    ∷ case (reading_refusal (reading 0x0000 0x0000)) 9
    ∷ case (reading_refusal (reading 0xE035 0xFFFE)) 9
    ∷ []
