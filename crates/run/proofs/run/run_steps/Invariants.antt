use Rattle.std.proofs.Common.{◌≡◌, ◌-◌}
use Rattle.definition.specs.State.{world}
use Rattle.storage.specs.Control.{with_registers}
use Rattle.clock.specs.Requests.{setting_with}
use Rattle.run.proofs.LoopLaws.{RunKeeps}
use Rattle.run.proofs.run.run_steps.Given as goal

abbrev pub invariant-loop-current : goal.invariant-loop-current
invariant-loop-current l =
    RunKeeps (setting_with l.layout l.requests) l.stop l.budget (world (with_registers l.initial.registers l.initial.saved l.initial.current) l.initial.mem)
    (world (with_registers l.registers l.saved l.current) l.mem) l.steps l.requests.upcoming l.requests.upcoming_record
    × (l.requests.lists ≡ l.fn.lists)

abbrev pub decreases-loop-current : goal.decreases-loop-current
decreases-loop-current l = l.budget - l.steps
