-- What code takes of a caller's numbers where the registers stay lent.
use Rattle.std.specs.Prelude.{ℕ, not, List, eqb, get_or}
use Rattle.storage.specs.declared.control.Control.{Control}
use Rattle.lentstate.specs.State.{time_of, context_of}

-- what the machine has beside its registers, of the five numbers and the time's three
abbrev pub control_from : List ℕ → List ℕ → Control
control_from fields time =
    record {
      previous = get_or fields 0 0;
      time = time_of time;
      context = context_of fields;
      halted = not (eqb (get_or fields 1 0) 0);
    }
