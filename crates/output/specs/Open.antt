-- A sheet's run before its first line.
use Rattle.std.specs.Prelude.{ℕ, ◌≤◌, ◌≡◌, List, Ok, Err, length, take}
use Rattle.std.proofs.lemmas.List.Edits.{sets}
use Rattle.base.specs.Limits.{memory_bytes}
use Rattle.base.specs.Verdict.{verdict, unrefused}
use Rattle.layout.specs.declared.sections.Layout.{Layout}
use Rattle.definition.specs.Setting.{Trace, trace_of, Setting, setting_of}
use Rattle.definition.specs.State.{start}
use Rattle.loader.specs.Setup.{sheet_memory, sheet_stamps, sheet_trace, trace_put}
use Rattle.sheet.specs.Sheet.{Answer, sheet_answer}
use Rattle.steplines.specs.declared.remaining.Remaining.{Remaining}
use Rattle.steplines.specs.declared.remaining.Remaining.TheVariants.{RefusalLine, Header}
use Rattle.transcribe.specs.declared.progress.Transcript.{Transcript}
use Rattle.transcribe.specs.Promise.{fill_tests, text_left}
use Rattle.output.specs.declared.open.SheetRun.{SheetRun}
use Rattle.output.specs.Output.{sheet_output}

-- what is lent for a sheet's run: memory, and room for the stamps of the timetable and for the trace
pub record RunRoom : Type 0 where
  pub memory : List ℕ
  pub stamps : List ℕ
  pub trace : Trace

-- memory, stamps and trace, in this order
abbrev pub run_room : List ℕ → List ℕ → Trace → RunRoom
run_room memory stamps trace = record { memory = memory; stamps = stamps; trace = trace }

-- what opening leaves there: a sheet's memory, and its lists at the front of theirs; a refusal leaves all as it came
abbrev pub opened_room : List ℕ → RunRoom → Answer → RunRoom
opened_room sheet lent (Ok setup) =
    run_room (sheet_memory sheet) (sets lent.stamps 0 (sheet_stamps sheet)) (trace_put lent.trace (sheet_trace sheet))
opened_room sheet lent (Err r) = lent

-- no layout at all
abbrev pub no_layout : Layout
no_layout = record { code = record { start = 0; end = 0 }; «data» = record { start = 0; end = 0 }; service = 0 }

-- a transcript of which nothing is written, in the start state of a memory
abbrev pub unwritten : List ℕ → ℕ → Remaining → Transcript
unwritten mem budget remaining = record { state = start mem; steps = 0; budget = budget; remaining = remaining }

-- what opening answers: of a sheet that is read its layout, the numbers of its stamps and of its records, and its transcript; else the
-- refusal's line alone
abbrev pub opened_run : List ℕ → List ℕ → Answer → SheetRun
opened_run sheet mem (Ok setup) =
    record {
      layout = setup.layout;
      stamps = setup.stamps;
      records = setup.records;
      transcript = unwritten (sheet_memory sheet) setup.budget Header;
    }
opened_run sheet mem (Err r) = record { layout = no_layout; stamps = 0; records = 0; transcript = unwritten mem 0 (RefusalLine r) }

-- the setting of an opened sheet: its layout, and as many of the stamps and of the records as are its own
abbrev pub setting_opened : SheetRun → RunRoom → Setting
setting_opened r lent =
    setting_of r.layout (take r.stamps lent.stamps) (trace_of (take r.records lent.trace.stamps) (take r.records lent.trace.words))

-- what opening a sheet promises: its answer is the definition's; what is still to be written is all that the sheet leads to; filling is
-- taken; memory, stamps and trace are those of the sheet, or as they came
pub record OpenPromise (sheet : List ℕ) (before : RunRoom) (r : SheetRun) (after : RunRoom) : Type 0 where
  pub result : r ≡ opened_run sheet before.memory (sheet_answer sheet)
  pub size : memory_bytes ≡ length after.memory
  pub fits : r.stamps ≤ length after.stamps
  pub records_fit : (r.records ≤ length after.trace.stamps) × (r.records ≤ length after.trace.words)
  pub output : text_left (setting_opened r after) r.transcript after.memory ≡ sheet_output sheet
  pub taken : verdict (fill_tests (setting_opened r after) r.transcript after.memory r.transcript.remaining) ≡ unrefused
  pub loaded : after ≡ opened_room sheet before (sheet_answer sheet)
