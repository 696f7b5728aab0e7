-- The machine of lent registers and what stands beside them, in the caller's numbers. Assumes nothing.
use Rattle.std.proofs.Common.{◌≡◌, ap, List, ℕ}
use Rattle.storage.specs.declared.control.Control.{Control}
use Rattle.storage.specs.Control.{with_registers}
use Rattle.lentstate.specs.State.{time_fields, control_fields, numbers, machine_of, numbers_of}
use Rattle.lentstate.specs.internal.Control.{control_from}

-- the machine of lent registers and what stands beside them
pub lent_machine : (registers saved control time : List ℕ) (c : Control) → c ≡ control_from control time
    → with_registers registers saved c ≡ machine_of (numbers registers saved control time)
unfolding machine_of
lent_machine registers saved control time c e = ap (with_registers registers saved) e

-- its numbers
pub lent_numbers : (registers saved control time : List ℕ) (c : Control) → control ≡ control_fields c.previous c.halted c.context
    → time ≡ time_fields c.time → numbers registers saved control time ≡ numbers_of (with_registers registers saved c)
unfolding numbers_of
lent_numbers registers saved control time c e f = rw (e, f)
