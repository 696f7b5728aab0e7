use Rattle.std.proofs.Common.{◌≡◌, ◌-◌}
use Rattle.definition.specs.State.{world}
use Rattle.storage.specs.Control.{with_registers}
use Rattle.steplines.proofs.PageLaws.{PageKeeps}
use Rattle.steplines.proofs.steps.write_steps.Given as goal

abbrev pub invariant-loop-out : goal.invariant-loop-out
invariant-loop-out l =
    PageKeeps l.layout l.start l.made l.budget (world (with_registers l.initial.registers l.initial.saved l.initial.current) l.initial.mem) l.initial.out
    l.out (world (with_registers l.registers l.saved l.current) l.mem) l.steps l.filled l.requests
    × (l.requests.lists ≡ l.fn.lists)

abbrev pub decreases-loop-out : goal.decreases-loop-out
decreases-loop-out l =
    l.budget - l.steps
