-- The starred cases of document 01, as one list: its sheet at stamps 5, 7 and 4, and the parts of the layers below.
use Rattle.std.specs.Prelude.{ℕ, List, [], ◌∷◌, ◌++◌, replicate}
use Rattle.base.specs.Limits.{memory_bytes}
use Rattle.base.specs.Case.{Case, case}
use Rattle.definition.specs.Setting.{no_trace, setting_of}
use Rattle.definition.specs.declared.stop_address.StopAddress.TheVariants.{Nowhere}
use Rattle.isa.specs.Starred.{word_cases}
use Rattle.alu.specs.Starred.{sum_cases}
use Rattle.layout.specs.Starred.{sheet_layout, access_cases}
use Rattle.answers.specs.declared.answer.Outcome.TheVariants.{Ran, Plain, Padded, Back, Halted}
use Rattle.definition.specs.State.{world, start}
use Rattle.definition.specs.Run.{moves}
use Rattle.witness.specs.Lines.{M, loaded, StepLine, line, lines_of}

-- the memory of document 01's sheet
unfoldable pub sheet : List ℕ
sheet =
    loaded (replicate memory_bytes 0)
    (M 0xFFFE 0x4400 ∷ M 0x4400 0x4032 ∷ M 0x4402 0x0008 ∷ M 0x4404 0x4030 ∷ M 0x4406 0x8000 ∷ M 0x4500 0x1300
    ∷ M 0x4600 0x0001 ∷ M 0x8000 0x4303 ∷ M 0x8002 0x4035 ∷ M 0x8004 0x4600 ∷ M 0x8006 0x4500 ∷ [])

-- the first n step lines of the sheet with one request at the stamp
unfoldable pub sheet_lines : ℕ → ℕ → List StepLine
sheet_lines stamp n = lines_of (moves (setting_of sheet_layout (stamp ∷ []) no_trace) Nowhere n (world (start sheet) sheet))

-- stamp 5: step 3 is P at clock 17; stamp 7: step 4 is P at 19; stamp 4: step 2 is I at 10, sp FFFC; and the sheet itself, stamp 6
abbrev pub step_cases : List {1} Case
step_cases =
    case (sheet_lines 5 3)
    (line Ran 2 0x4404 8 0 ∷ line Ran 4 0x8000 8 0 ∷ line Padded 17 0x4500 0 0 ∷ [])
    ∷ case (sheet_lines 7 4)
    (line Ran 2 0x4404 8 0 ∷ line Ran 4 0x8000 8 0 ∷ line Ran 5 0x8002 8 0 ∷ line Padded 19 0x4500 0 0 ∷ [])
    ∷ case (sheet_lines 4 2) (line Ran 2 0x4404 8 0 ∷ line Plain 10 0x4500 0 0xFFFC ∷ [])
    ∷ case (sheet_lines 6 20)
    (line Ran 2 0x4404 8 0 ∷ line Ran 4 0x8000 8 0 ∷ line Ran 5 0x8002 8 0 ∷ line Padded 18 0x4500 0 0
    ∷ line Back 24 0x8006 8 0 ∷ line Ran 26 0x4600 8 0 ∷ line Halted 27 0x4602 8 0 ∷ [])
    ∷ []

-- all starred cases
abbrev pub starred_cases : List {1} Case
starred_cases = step_cases ++ word_cases ++ sum_cases ++ access_cases
