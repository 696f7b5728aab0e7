-- The machine in the numbers that a caller lends, both ways.
use Rattle.std.specs.Prelude.{ℕ, Bool, not, List, [], ◌∷◌, eqb, ltb, get_or, Option, None, Some}
use Rattle.base.specs.Test.{when◌then◌else◌, any, bit_of}
use Rattle.base.specs.Word.{byte_of}
use Rattle.definition.specs.State.{held_visit}
use Rattle.definition.specs.declared.state.Time.{Time}
use Rattle.definition.specs.declared.state.SavedContext.{SavedContext}
use Rattle.definition.specs.declared.state.State.{State}

-- a stamp: 0 is none
unfoldable pub stamp_of : ℕ → Option ℕ
stamp_of n = when eqb n 0 then None else Some n

-- the number of a stamp: 0 is none
abbrev pub stamp_number : Option ℕ → ℕ
stamp_number None = 0
stamp_number (Some s) = s

-- the time of three numbers: clock, slot, alarm
unfoldable pub time_of : List ℕ → Time
time_of fields = record { clock = get_or fields 0 0; slot = stamp_of (get_or fields 1 0); alarm = stamp_of (get_or fields 2 0) }

-- the three numbers of the time
unfoldable pub time_fields : Time → List ℕ
time_fields t = t.clock ∷ stamp_number t.slot ∷ stamp_number t.alarm ∷ []

-- of five numbers, previous address, halted, held, held previous address, held age: halted or held is neither 0 nor 1
unfoldable pub odd_flag : List ℕ → Bool
odd_flag fields = any (ltb 1 (get_or fields 1 0) ∷ ltb 1 (get_or fields 2 0) ∷ [])

-- their visit; where a flag is odd, one of an age that no frame has
unfoldable pub context_of : List ℕ → Option SavedContext
context_of fields =
    when odd_flag fields then held_visit (get_or fields 3 0) 255
    else when eqb (get_or fields 2 0) 0 then None
    else held_visit (get_or fields 3 0) (byte_of (get_or fields 4 0))

-- the five numbers of a previous address, halted and the visit
abbrev pub control_fields : ℕ → Bool → Option SavedContext → List ℕ
control_fields previous halted None = previous ∷ bit_of halted ∷ 0 ∷ 0 ∷ 0 ∷ []
control_fields previous halted (Some visit) = previous ∷ bit_of halted ∷ 1 ∷ visit.previous ∷ visit.age ∷ []

-- a machine in the numbers that a caller lends
pub record Numbers : Type 0 where
  pub registers : List ℕ
  pub saved : List ℕ
  pub control : List ℕ
  pub time : List ℕ

-- registers, saved registers, control and time, in this order
abbrev pub numbers : List ℕ → List ℕ → List ℕ → List ℕ → Numbers
numbers registers saved control time = record { registers = registers; saved = saved; control = control; time = time }

-- the machine of a caller's numbers
unfoldable pub machine_of : Numbers → State
machine_of n =
    record {
      registers = n.registers;
      previous = get_or n.control 0 0;
      time = time_of n.time;
      context = context_of n.control;
      saved = n.saved;
      halted = not (eqb (get_or n.control 1 0) 0);
    }

-- the numbers of a machine
unfoldable pub numbers_of : State → Numbers
numbers_of m = numbers m.registers m.saved (control_fields m.previous m.halted m.context) (time_fields m.time)
