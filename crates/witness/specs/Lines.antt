-- Lines of a sheet and of a transcript: words that memory is loaded with, and what steps show.
use Rattle.std.specs.Prelude.{ℕ, List, [], ◌∷◌, replicate}
use Rattle.base.specs.Limits.{memory_bytes}
use Rattle.answers.specs.declared.answer.Outcome.{Outcome}
use Rattle.definition.specs.Memory.{put_word}
use Rattle.definition.specs.Registers.{pc, sp, sr}
use Rattle.definition.specs.Run.{Move}

-- an M line of a sheet: an address and its word
pub record MLine : Type 0 where
  pub address : ℕ
  pub word : ℕ

-- as it stands on the sheet
abbrev pub M : ℕ → ℕ → MLine
M a w = record { address = a; word = w }

-- memory with the words of the M lines
unfoldable pub loaded : List ℕ → List MLine → List ℕ
loaded mem [] = mem
loaded mem (l ∷ lines) = loaded (put_word mem l.address l.word) lines

-- memory with these words outside and these in the module, and else zeros
unfoldable pub memory_of : List MLine → List MLine → List ℕ
memory_of outer inner = loaded (loaded (replicate memory_bytes 0) outer) inner

-- a step line: its kind, and the clock, pc, sr and sp after it
pub record StepLine : Type 0 where
  pub kind : Outcome
  pub clock : ℕ
  pub pc : ℕ
  pub sr : ℕ
  pub sp : ℕ

-- a step line in the order of its fields
abbrev pub line : Outcome → ℕ → ℕ → ℕ → ℕ → StepLine
line k c p s q = record { kind = k; clock = c; pc = p; sr = s; sp = q }

-- the line of a step
abbrev step_line_of : Move → StepLine
step_line_of v =
    line v.after.outcome v.after.state.time.clock (pc v.after.state.registers)
    (sr v.after.state.registers) (sp v.after.state.registers)

-- the step lines of some moves
unfoldable pub lines_of : List Move → List StepLine
lines_of [] = []
lines_of (v ∷ vs) = step_line_of v ∷ lines_of vs
