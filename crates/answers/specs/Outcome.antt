-- The papers' number of each cause of a reset, and the letter of each kind of step and of each end of a run.
use Rattle.std.specs.Prelude.{ℕ, Bool, true, false}
use Rattle.answers.specs.declared.answer.Cause.{Cause}
use Rattle.answers.specs.declared.answer.Cause.TheVariants.{Execute, Reentry, FirstWord, SecondSide, SecondWord, Inside, Read, Write}
use Rattle.answers.specs.declared.answer.Outcome.{Outcome}
use Rattle.answers.specs.declared.answer.Outcome.TheVariants.{Ran, Plain, Padded, Chained, Back, Reset, Halted}
use Rattle.answers.specs.declared.answer.End.{End}
use Rattle.answers.specs.declared.answer.Stopped.{Stopped}
use Rattle.answers.specs.declared.answer.End.TheVariants.{Halted as HaltedEnd, Clock, Address, Spent}

-- 1 may not be executed; 2 entered while a visit is held; 3 the first word; 4 the second word's side; 5 the second word;
-- 6 HLT, IN or OUT inside; 7 a read; 8 a write
abbrev pub cause_number : Cause → ℕ
cause_number Execute = 1
cause_number Reentry = 2
cause_number FirstWord = 3
cause_number SecondSide = 4
cause_number SecondWord = 5
cause_number Inside = 6
cause_number Read = 7
cause_number Write = 8

-- R ran, I plain, P padded, C chained, B back, X reset, H halted
abbrev pub kind_letter : Outcome → ℕ
kind_letter Ran = 0x52
kind_letter Plain = 0x49
kind_letter Padded = 0x50
kind_letter Chained = 0x43
kind_letter Back = 0x42
kind_letter (Reset c) = 0x58
kind_letter Halted = 0x48

-- H halted, T clock, A address, S spent
abbrev pub end_letter : End → ℕ
end_letter HaltedEnd = 0x48
end_letter Clock = 0x54
end_letter Address = 0x41
end_letter Spent = 0x53

-- where a run stopped: why, and how many steps it made
abbrev pub stopped : End → ℕ → Stopped
stopped e n = record { end = e; steps = n }

-- the step reset the machine
abbrev pub is_reset : Outcome → Bool
is_reset Ran = false
is_reset Plain = false
is_reset Padded = false
is_reset Chained = false
is_reset Back = false
is_reset (Reset c) = true
is_reset Halted = false
