-- How far fast steps may go on a state whose registers are lent, and what they leave. No promise rests on it.
use Rattle.std.specs.Prelude.{ℕ, ◌≡◌, true, not, List}
use Rattle.alu.specs.Status.{gie}
use Rattle.definition.specs.Setting.{Setting}
use Rattle.definition.specs.State.{world}
use Rattle.storage.specs.declared.control.Control.{Control}
use Rattle.storage.specs.Control.{with_registers}
use Rattle.clock.specs.NoEvent.{NoEventUntil}
use Rattle.fast.specs.declared.steps.FastProgress.{FastProgress}
use Rattle.fast.specs.Steps.{RanSteps, saved_after}

-- what is beside the registers after fast steps
abbrev pub control_after : Control → FastProgress → Control
control_after c w =
    record {
      previous = w.previous;
      time = record { clock = w.clock; slot = c.time.slot; alarm = c.time.alarm };
      context = c.context;
      halted = c.halted;
    }

-- up to this clock value fast steps may go: time only goes on, nothing is pending or GIE is clear, and the machine is not halted
abbrev pub FastUntil : Setting → ℕ → Control → ℕ → Type 0
FastUntil S status c until = NoEventUntil S (not (gie status)) c.time until × (c.halted ≡ true → until ≡ 0)

-- fast steps of a machine, none at this pc, are steps that only ran, whatever its saved copy
abbrev pub FastRanSteps : Setting → ℕ → Control → List ℕ → List ℕ → FastProgress → List ℕ → List ℕ → Type 0
FastRanSteps S stop_pc c registers mem progress registers_then bytes =
    (saved : List ℕ) → RanSteps S stop_pc (world (with_registers registers saved c) mem) progress.steps
    (world (with_registers registers_then (saved_after progress.steps c.context saved) (control_after c progress)) bytes)
