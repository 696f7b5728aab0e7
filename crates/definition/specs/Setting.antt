-- What stays fixed in a run.
use Rattle.std.specs.Prelude.{ℕ, List, []}
use Rattle.layout.specs.declared.sections.Layout.{Layout}

-- a ride trace: the stamps of its records, and the word of each
pub record Trace : Type 0 where
  pub stamps : List ℕ
  pub words : List ℕ

-- the trace of these stamps and words
abbrev pub trace_of : List ℕ → List ℕ → Trace
trace_of stamps words = record { stamps = stamps; words = words }

-- a trace without a record
abbrev pub no_trace : Trace
no_trace = trace_of [] []

-- the layout, the request stamps of the timetable, and the trace
pub record Setting : Type 0 where
  pub layout : Layout
  pub stamps : List ℕ
  pub trace : Trace

-- the setting of a layout, a timetable and a trace
abbrev pub setting_of : Layout → List ℕ → Trace → Setting
setting_of L stamps trace = record { layout = L; stamps = stamps; trace = trace }
