-- A state whose registers and saved registers are lent, so that code changes them where they lie.
use Rattle.std.specs.Prelude.{ℕ, List}
use Rattle.storage.specs.declared.control.Control.{Control}
use Rattle.definition.specs.declared.state.State.{State}

-- the machine with these registers and saved registers
abbrev pub with_registers : List ℕ → List ℕ → Control → State
with_registers registers saved c =
    record {
      registers = registers;
      previous = c.previous;
      time = c.time;
      context = c.context;
      saved = saved;
      halted = c.halted;
    }

-- what a machine has beside its registers
abbrev pub control_of : State → Control
control_of m = record { previous = m.previous; time = m.time; context = m.context; halted = m.halted }
