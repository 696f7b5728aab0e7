-- The lines of a sheet, and the memory, the timetable and the trace that they set up.
use Rattle.std.specs.Prelude.{ℕ, List, [], ◌∷◌, Option, None, Some, eqb, replicate}
use Rattle.std.specs.List.{slice_split}
use Rattle.std.proofs.lemmas.List.Edits.{sets}
use Rattle.base.specs.Limits.{memory_bytes}
use Rattle.definition.specs.Setting.{Trace, trace_of, no_trace}
use Rattle.definition.specs.Memory.{put_word}
use Rattle.lines.specs.declared.line.Content.{Content}
use Rattle.lines.specs.declared.line.Content.TheVariants.{Layout as Layouts, Word, Stamp, Record, Budget}
use Rattle.text.specs.Text.{newline}
use Rattle.lines.specs.Line.{parse_line}

-- the pieces of a text between its newlines: each is a line but the last, which follows the last newline
unfoldable pub pieces : List ℕ → List (List ℕ)
pieces s = slice_split (λ x. eqb x newline) s

-- later M lines win
abbrev pub line_stored : Option Content → List ℕ → List ℕ
line_stored None mem = mem
line_stored (Some (Layouts L)) mem = mem
line_stored (Some (Word a w)) mem = put_word mem a w
line_stored (Some (Stamp s)) mem = mem
line_stored (Some (Record s w)) mem = mem
line_stored (Some (Budget b)) mem = mem

-- the M lines in order
unfoldable pub memory_from : List ℕ → List (List ℕ) → List ℕ
memory_from mem [] = mem
memory_from mem (p ∷ ps) = memory_from (line_stored (parse_line p) mem) ps

-- other memory is 0
unfoldable pub sheet_memory : List ℕ → List ℕ
sheet_memory sheet = memory_from (replicate memory_bytes 0) (pieces sheet)

-- the stamps of the A lines, in order
abbrev pub stamp_of : Option Content → List ℕ → List ℕ
stamp_of None ss = ss
stamp_of (Some (Layouts L)) ss = ss
stamp_of (Some (Word a w)) ss = ss
stamp_of (Some (Stamp s)) ss = s ∷ ss
stamp_of (Some (Record s w)) ss = ss
stamp_of (Some (Budget b)) ss = ss

-- of every line
unfoldable pub stamps_from : List (List ℕ) → List ℕ
stamps_from [] = []
stamps_from (p ∷ ps) = stamp_of (parse_line p) (stamps_from ps)

-- the timetable of a sheet
unfoldable pub sheet_stamps : List ℕ → List ℕ
sheet_stamps sheet = stamps_from (pieces sheet)

-- the records of the T lines, in order
abbrev pub record_of : Option Content → Trace → Trace
record_of None t = t
record_of (Some (Layouts L)) t = t
record_of (Some (Word a w)) t = t
record_of (Some (Stamp s)) t = t
record_of (Some (Record s w)) t = trace_of (s ∷ t.stamps) (w ∷ t.words)
record_of (Some (Budget b)) t = t

-- of every line
unfoldable pub trace_from : List (List ℕ) → Trace
trace_from [] = no_trace
trace_from (p ∷ ps) = record_of (parse_line p) (trace_from ps)

-- the trace of a sheet
unfoldable pub sheet_trace : List ℕ → Trace
sheet_trace sheet = trace_from (pieces sheet)

-- a trace put at the front of what is lent for one
abbrev pub trace_put : Trace → Trace → Trace
trace_put lent t = trace_of (sets lent.stamps 0 t.stamps) (sets lent.words 0 t.words)
