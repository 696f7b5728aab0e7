use Rattle.machine.proofs.calls.Machine.run.Goals as goal

pub returns : goal.returns
returns c = rw c.state.ensures (rw c.of.ensures at c.run_in_place-ran.ensures)
