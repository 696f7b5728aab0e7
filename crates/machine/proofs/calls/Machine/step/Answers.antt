use Rattle.machine.proofs.calls.Machine.step.Goals as goal

pub returns : goal.returns
returns c = rw c.state.ensures (rw c.of.ensures at c.step_in_place-stepped.ensures)
