use Rattle.act.proofs.instruction.registers_after.Goals as goal

pub returns-in-Mov : goal.returns-in-Mov
returns-in-Mov c = simp (c.moved_registers.ensures c.args.device, c.in-Mov.is)
