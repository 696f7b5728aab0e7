use Rattle.std.proofs.Common.{arith}
use Rattle.sheet.proofs.RunnableLaws.{no_trace_stamps, no_trace_words}
use Rattle.sheet.proofs.trace.load_setup_trace.Goals as goal

pub returns-else-setup-gt0-clause-stamps : goal.returns-else-setup-gt0-clause-stamps
returns-else-setup-gt0-clause-stamps c = λ e.
    let none = c.if-setup-gt0.false in
    rw (no_trace_stamps _ _ e (omega arith))

pub returns-else-setup-gt0-clause-words : goal.returns-else-setup-gt0-clause-words
returns-else-setup-gt0-clause-words c = λ e.
    let none = c.if-setup-gt0.false in
    rw (no_trace_words _ _ e (omega arith))
