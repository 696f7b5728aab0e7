use Rattle.base.proofs.Tests.{fails}
use Rattle.machine.proofs.AnswerLaws.{start_refused}
use Rattle.machine.proofs.calls.Machine.start.Goals as goal

pub returns-then-not-memory_is_whole : goal.returns-then-not-memory_is_whole
returns-then-not-memory_is_whole c =
    rw (c.reset_state.ensures, c.start_time.ensures, c.cleared_registers.ensures)
    (start_refused _ (fails c.memory_is_whole.ensures c.if-not-memory_is_whole.true))
