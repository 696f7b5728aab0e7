use Rattle.std.proofs.Common.{◌-◌}
use Rattle.fast.specs.Steps.{fast_state}
use Rattle.fast.proofs.FastSteps.{FastLoop}
use Rattle.fast.proofs.steps.fast_loop.Given as goal

abbrev pub invariant-loop-steps : goal.invariant-loop-steps
invariant-loop-steps l =
    FastLoop l.layout l.held l.until l.left l.stop_pc (fast_state l.initial.registers l.previous l.clock l.initial.mem) (fast_state l.registers l.last l.time l.mem) l.steps

abbrev pub decreases-loop-steps : goal.decreases-loop-steps
decreases-loop-steps l =
    l.left - l.steps
