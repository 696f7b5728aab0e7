-- One step: judged, then acting, then its cycles, then the interrupt.
use Rattle.std.specs.Prelude.{ℕ, Bool, true, false, List, Option, None, Result, Ok, Err, Some}
use Rattle.answers.specs.declared.answer.Cause.{Cause}
use Rattle.base.specs.Test.{when◌then◌else◌}
use Rattle.isa.specs.declared.instruction.Instruction.{Instruction}
use Rattle.isa.specs.declared.instruction.Instruction.TheVariants.{Hlt, In, Out, Jz, Reti, Nop, Jmp, Mov, Store, Compute, Not}
use Rattle.isa.specs.Cycles.{cycles_of}
use Rattle.layout.specs.Sections.{inside}
use Rattle.definition.specs.Setting.{Setting}
use Rattle.definition.specs.declared.state.Time.{Time}
use Rattle.definition.specs.declared.state.SavedContext.{SavedContext}
use Rattle.definition.specs.declared.state.State.{State}
use Rattle.answers.specs.declared.answer.Outcome.TheVariants.{Ran, Halted}
use Rattle.definition.specs.Registers.{register, pc, zeros}
use Rattle.definition.specs.Time.{pass, set_alarm, device_word}
use Rattle.definition.specs.State.{World, world, is_held}
use Rattle.definition.specs.Judge.{is_reti, judge}
use Rattle.definition.specs.Act.{registers_after, memory_after}
use Rattle.definition.specs.Interrupt.{Step, gives, due, reset, interrupted, resumed}

-- OUT sets the alarm after its cycles
abbrev pub alarmed : List ℕ → Instruction → Time → Time
alarmed rs Hlt t = t
alarmed rs (In d) t = t
alarmed rs (Out s) t = set_alarm (register rs s) t
alarmed rs (Jz s) t = t
alarmed rs Reti t = t
alarmed rs Nop t = t
alarmed rs (Jmp s) t = t
alarmed rs (Mov o d) t = t
alarmed rs (Store s d) t = t
alarmed rs (Compute o s d) t = t
alarmed rs (Not d) t = t

-- the instruction is HLT
abbrev pub is_hlt : Instruction → Bool
is_hlt Hlt = true
is_hlt (In d) = false
is_hlt (Out s) = false
is_hlt (Jz s) = false
is_hlt Reti = false
is_hlt Nop = false
is_hlt (Jmp s) = false
is_hlt (Mov o d) = false
is_hlt (Store s d) = false
is_hlt (Compute o s d) = false
is_hlt (Not d) = false

-- where nothing is held, the saved copy is handed back zero
abbrev pub saved_for : Option SavedContext → List ℕ → List ℕ
saved_for None saved = zeros
saved_for (Some _) saved = saved

module _ (S : Setting) where
  -- the machine after the instruction and its cycles; its address becomes the previous one
  unfoldable pub executed : State → List ℕ → Instruction → State
  executed m mem i =
      record {
        registers = registers_after (inside S.layout (pc m.registers)) m.registers (device_word S m.time) mem i;
        previous = pc m.registers;
        time = alarmed m.registers i (pass S (cycles_of i) m.time);
        context = m.context;
        saved = saved_for m.context m.saved;
        halted = is_hlt i;
      }

  -- an instruction that does not return from a held visit: HLT halts with no interrupt
  unfoldable pub ordinary : State → List ℕ → Instruction → Step
  ordinary m mem i =
      let next = executed m mem i in
      let bytes = memory_after m.registers mem i in
      when next.halted then gives next bytes Halted
      else interrupted S (inside S.layout (pc m.registers)) Ran next bytes (due next)

  -- RETI to a held visit, its cycles passed
  abbrev pub returning : State → List ℕ → Time → ℕ → ℕ → Step
  returning m mem t previous age = resumed S t previous age m.saved mem t.slot

  -- RETI while a visit is held returns to it
  unfoldable pub performed : State → List ℕ → Option SavedContext → Instruction → Step
  performed m mem None i = ordinary m mem i
  performed m mem (Some visit) i =
      when is_reti i then returning m mem (pass S (cycles_of i) m.time) visit.previous visit.age else ordinary m mem i

  -- a cause resets, an instruction acts
  unfoldable pub step_judged : State → List ℕ → Result Instruction Cause → Step
  step_judged m mem (Err c) = reset S c m mem
  step_judged m mem (Ok i) = performed m mem m.context i

  -- what the step of a world is judged
  abbrev pub judged : World → Result Instruction Cause
  judged w =
      let m = w.state in judge S.layout (is_held m.context) m.registers w.memory m.previous

  -- one step; a halted machine answers "halted" unchanged
  unfoldable pub step : State → List ℕ → Step
  step m mem =
      when m.halted then gives m mem Halted
      else step_judged m mem (judged (world m mem))
