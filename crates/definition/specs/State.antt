-- The state, the start state, and the frame that every state the machine can be in keeps.
use Rattle.std.specs.Prelude.{ℕ, Bool, true, false, List, [], ◌∷◌, leb, ltb, eqb, Option, None, Some}
use Rattle.base.specs.Test.{all}
use Rattle.base.specs.Word.{drop_bit0, is_even}
use Rattle.layout.specs.declared.sections.Layout.{Layout}
use Rattle.layout.specs.Sections.{inside}
use Rattle.alu.specs.Status.{gie}
use Rattle.definition.specs.Setting.{Setting}
use Rattle.definition.specs.declared.state.Time.{Time}
use Rattle.definition.specs.declared.state.SavedContext.{SavedContext}
use Rattle.definition.specs.declared.state.State.{State}
use Rattle.definition.specs.Memory.{word_at}
use Rattle.definition.specs.Registers.{register, pc, sp, sr, zeros, cleared}
use Rattle.definition.specs.Time.{start_time}

-- the machine and the memory beside it
pub record World : Type 0 where
  pub state : State
  pub memory : List ℕ

-- a machine with its memory
abbrev pub world : State → List ℕ → World
world m mem = record { state = m; memory = mem }

-- a held visit, of its previous address and its age
abbrev pub held_visit : ℕ → ℕ → Option SavedContext
held_visit previous age = Some (record { previous = previous; age = age })

-- a visit is held
abbrev pub is_held : Option SavedContext → Bool
is_held None = false
is_held (Some _) = true

-- the address before which nothing was executed: the reset vector's
abbrev pub vector : ℕ
vector = 0xFFFE

-- where a reset goes: the word at FFFE less its bit 0
unfoldable pub reset_address : List ℕ → ℕ
reset_address mem = drop_bit0 (word_at mem vector)

-- a machine whose previous address is FFFE: at the start, after a reset, and once a service starts
abbrev pub from_vector : List ℕ → Time → Option SavedContext → List ℕ → State
from_vector registers time context saved =
    record { registers = registers; previous = vector; time = time; context = context; saved = saved; halted = false }

-- at the start and after a reset none is held
abbrev pub reset_state : List ℕ → Time → State
reset_state registers time = from_vector registers time None zeros

-- start: registers 0, pc from the reset vector, clock 0, no alarm
unfoldable pub start : List ℕ → State
start mem = reset_state (cleared (reset_address mem)) start_time

-- the frame of a register file: pc and sp even, r3 zero
abbrev pub framed_registers : List ℕ → Bool
framed_registers rs = all (is_even (pc rs) ∷ is_even (sp rs) ∷ eqb (register rs 3) 0 ∷ [])

-- a slot stamp is not 0 and not above the clock
abbrev pub framed_slot : ℕ → Option ℕ → Bool
framed_slot clock None = true
framed_slot clock (Some s) = all (ltb 0 s ∷ leb s clock ∷ [])

-- an alarm is above the clock
abbrev pub framed_alarm : ℕ → Option ℕ → Bool
framed_alarm clock None = true
framed_alarm clock (Some s) = ltb clock s

-- a held visit: age at most 6, its registers framed with GIE set, its previous address inside and even
abbrev pub framed_context : Layout → List ℕ → Option SavedContext → Bool
framed_context L saved None = true
framed_context L saved (Some visit) =
    all (leb visit.age 6 ∷ framed_registers saved ∷ gie (sr saved) ∷ inside L visit.previous ∷ is_even visit.previous ∷ [])

-- the frame
unfoldable pub framed : Setting → State → Bool
framed S m =
    all
    (framed_registers m.registers ∷ is_even m.previous ∷ framed_slot m.time.clock m.time.slot
    ∷ framed_alarm m.time.clock m.time.alarm ∷ framed_context S.layout m.saved m.context ∷ [])
