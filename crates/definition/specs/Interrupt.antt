-- Reset, and the three ways that a service starts: plain, padded, chained; and the return from a held visit.
use Rattle.std.specs.Prelude.{ℕ, ◌-◌, min, Bool, true, false, List, [], ◌∷◌, set, Option, None, Some}
use Rattle.base.specs.Test.{when◌then◌else◌, all}
use Rattle.base.specs.Word.{difference16}
use Rattle.layout.specs.Sections.{outside}
use Rattle.alu.specs.Status.{gie}
use Rattle.definition.specs.Setting.{Setting}
use Rattle.definition.specs.declared.state.Time.{Time}
use Rattle.definition.specs.declared.state.SavedContext.{SavedContext}
use Rattle.definition.specs.declared.state.State.{State}
use Rattle.answers.specs.declared.answer.Cause.{Cause}
use Rattle.answers.specs.declared.answer.Cause.TheVariants.{Write}
use Rattle.answers.specs.declared.answer.Outcome.{Outcome}
use Rattle.answers.specs.declared.answer.Outcome.TheVariants.{Plain, Padded, Chained, Back, Reset}
use Rattle.definition.specs.Memory.{put_word}
use Rattle.definition.specs.Registers.{pc, sp, sr, zeros, cleared}
use Rattle.definition.specs.Time.{pass, emptied}
use Rattle.definition.specs.State.{reset_address, from_vector, reset_state, held_visit}

-- what a step gives: the machine and memory after it, and its outcome
pub record Step : Type 0 where
  pub state : State
  pub memory : List ℕ
  pub outcome : Outcome

-- a machine, memory and outcome
abbrev pub gives : State → List ℕ → Outcome → Step
gives m mem o = record { state = m; memory = mem; outcome = o }

-- age: clock minus stamp, at most 6 counted
unfoldable pub age_of : ℕ → ℕ → ℕ
age_of clock stamp = min (clock - stamp) 6

-- the interrupt that is due: GIE set and the slot filled
unfoldable pub due : State → Option ℕ
due m = when gie (sr m.registers) then m.time.slot else None

module _ (S : Setting) where
  -- reset: 4 cycles pass; then the slot empties, any held visit is dropped, registers become 0, pc the reset vector's word
  unfoldable pub reset : Cause → State → List ℕ → Step
  reset c m mem = gives (reset_state (cleared (reset_address mem)) (emptied (pass S 4 m.time))) mem (Reset c)

  -- plain: the slot empties, pc and sr are pushed, sr becomes 0, 6 cycles pass; a reset where either word is code or data
  unfoldable pub plain : State → List ℕ → Step
  plain m mem =
      let high = difference16 (sp m.registers) 2 in
      let low = difference16 (sp m.registers) 4 in
      when all (outside S.layout high ∷ outside S.layout low ∷ []) then
      gives
      (from_vector (set (set (set m.registers 1 low) 2 0) 0 S.layout.service) (pass S 6 (emptied m.time)) m.context m.saved)
      (put_word (put_word mem high (pc m.registers)) low (sr m.registers)) Plain
      else reset Write m mem

  -- padded: 6 - age cycles pass, the slot empties, 6 more pass; registers, previous address and age are held
  unfoldable pub padded : ℕ → State → List ℕ → Step
  padded stamp m mem =
      let age = age_of m.time.clock stamp in
      gives
      (from_vector (cleared S.layout.service) (pass S 6 (emptied (pass S (6 - age) m.time))) (held_visit m.previous age)
      m.registers)
      mem Padded

  -- after an instruction, inside or not, whose outcome is else this one
  unfoldable pub interrupted : Bool → Outcome → State → List ℕ → Option ℕ → Step
  interrupted inside o m mem None = gives m mem o
  interrupted true o m mem (Some stamp) = padded stamp m mem
  interrupted false o m mem (Some stamp) = plain m mem

  -- chained: the slot empties, registers are cleared, 6 cycles pass, the visit stays held
  unfoldable pub chained : Time → Option SavedContext → List ℕ → List ℕ → Step
  chained t v saved mem = gives (from_vector (cleared S.layout.service) (pass S 6 (emptied t)) v saved) mem Chained

  -- back: registers and previous address return, age cycles pass
  unfoldable pub back : Time → ℕ → ℕ → List ℕ → State
  back t previous age saved =
      record {
        registers = saved;
        previous = previous;
        time = pass S age t;
        context = None;
        saved = zeros;
        halted = false;
      }

  -- RETI while a visit is held, its 5 cycles passed: chained if the slot is filled; else back, and the padded check once more
  unfoldable pub resumed : Time → ℕ → ℕ → List ℕ → List ℕ → Option ℕ → Step
  resumed t previous age saved mem (Some stamp) = chained t (held_visit previous age) saved mem
  resumed t previous age saved mem None =
      let m : State = back t previous age saved in interrupted true Back m mem (due m)
