-- What a sheet leads to: every byte that the bench writes.
use Rattle.std.specs.Prelude.{ℕ, List, Ok, Err, ◌++◌}
use Rattle.definition.specs.Setting.{Setting, setting_of}
use Rattle.definition.specs.State.{world, start}
use Rattle.loader.specs.Setup.{sheet_memory, sheet_stamps, sheet_trace}
use Rattle.sheet.specs.declared.reader.Setup.{Setup}
use Rattle.sheet.specs.Sheet.{Answer, sheet_answer}
use Rattle.transcript.specs.Transcript.{header_line, refusal_line}
use Rattle.transcribe.specs.Transcribe.{steps_text}

-- what stays fixed in a sheet's run: its layout, its timetable, its trace
abbrev pub sheet_setting : List ℕ → Setup → Setting
sheet_setting sheet setup = setting_of setup.layout (sheet_stamps sheet) (sheet_trace sheet)

-- the refusal's line; or the header, a line for each step, the end's line
abbrev pub output_of : List ℕ → Answer → List ℕ
output_of sheet (Err r) = refusal_line r.refusal r.line
output_of sheet (Ok setup) =
    header_line
    ++ steps_text (sheet_setting sheet setup) 0 setup.budget (world (start (sheet_memory sheet)) (sheet_memory sheet))

-- by the sheet's answer
unfoldable pub sheet_output : List ℕ → List ℕ
sheet_output sheet = output_of sheet (sheet_answer sheet)
