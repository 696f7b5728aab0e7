-- What holds of pages written one after another: the statements of the laws.
use Rattle.std.specs.Prelude.{ℕ, ◌-◌, ◌≤◌, ◌≡◌, List, [], ◌∷◌, ◌++◌, length}
use Rattle.base.specs.Verdict.{verdict, unrefused}
use Rattle.definition.specs.Setting.{Setting}
use Rattle.transcribe.specs.declared.progress.Transcript.{Transcript}
use Rattle.steplines.specs.Page.{line_room}
use Rattle.transcribe.specs.Transcribe.{lines_left}
use Rattle.transcribe.specs.Promise.{transcript_after, fill_tests, text_left, page_call}
use Rattle.output.specs.declared.open.SheetRun.{SheetRun}
use Rattle.output.specs.Output.{sheet_output}
use Rattle.output.specs.Open.{RunRoom, setting_opened, OpenPromise}

-- what calls write one after another, each into the room that it is lent
unfoldable pub pages_text : Setting → List ℕ → Transcript → List ℕ → List ℕ
pages_text S [] t mem = []
pages_text S (room ∷ rooms) t mem =
    let p = page_call S room t mem in p.text ++ pages_text S rooms (transcript_after t p) p.world.memory

-- there is room for a line in each
pub data Roomy : List ℕ → Type 0 where
  none : Roomy []
  more : (room : ℕ) (rooms : List ℕ) → line_room ≤ room → Roomy rooms → Roomy (room ∷ rooms)

-- pages of any size of at least one line make the whole text, after at most as many calls as there are lines
unfoldable pub PagesMakeWhole : Type 0
PagesMakeWhole =
    (S : Setting) (t : Transcript) (mem rooms : List ℕ) → verdict (fill_tests S t mem t.remaining) ≡ unrefused → Roomy rooms
    → lines_left (t.budget - t.steps) t.remaining ≤ length rooms → pages_text S rooms t mem ≡ text_left S t mem

-- and so, of an opened sheet, all that it leads to
unfoldable pub PagesMakeOutput : Type 0
PagesMakeOutput =
    (sheet : List ℕ) (before : RunRoom) (r : SheetRun) (after : RunRoom) (rooms : List ℕ) → OpenPromise sheet before r after
    → Roomy rooms → lines_left (r.transcript.budget - r.transcript.steps) r.transcript.remaining ≤ length rooms
    → pages_text (setting_opened r after) rooms r.transcript after.memory ≡ sheet_output sheet
