-- A record of the trace, by itself.
use Rattle.std.specs.Prelude.{ℕ, ◌∷◌, Option, None, Some}
use Rattle.definition.specs.Setting.{Trace, trace_of}

-- a trace with a record before the others, where there is one
abbrev pub with_record : Option (ℕ × ℕ) → Trace → Trace
with_record None t = t
with_record (Some (s, w)) t = trace_of (s ∷ t.stamps) (w ∷ t.words)
