-- The trace that a caller lends, as the definitions have it.
use Rattle.definition.specs.Setting.{Trace, trace_of}
use Rattle.clock.specs.declared.trace.Trace.{Trace as LentTrace}

-- the trace of what is lent
abbrev pub lent_trace : LentTrace → Trace
lent_trace t = trace_of t.stamps.now t.words.now
