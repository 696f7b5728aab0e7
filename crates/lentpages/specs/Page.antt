-- One page of a run's transcript on what a caller lends: the definition's page, of the transcript that the caller's numbers tell.
use Rattle.std.specs.Prelude.{ℕ, ◌≡◌, List, eqb, length, Result}
use Rattle.std.proofs.lemmas.List.Edits.{sets}
use Rattle.base.specs.declared.refusal.Refusal.{Refusal}
use Rattle.base.specs.Test.{when◌then◌else◌}
use Rattle.base.specs.Verdict.{verdict, refused_by}
use Rattle.definition.specs.Setting.{Trace, setting_of}
use Rattle.steplines.specs.declared.remaining.Remaining.{Remaining}
use Rattle.steplines.specs.declared.remaining.Remaining.TheVariants.{RefusalLine, Header, Steps, Nothing}
use Rattle.transcribe.specs.declared.progress.Transcript.{Transcript}
use Rattle.steplines.specs.Page.{Page}
use Rattle.transcribe.specs.Promise.{fill_tests, page_call}
use Rattle.lentlayout.specs.Layout.{layout_of}
use Rattle.lentstate.specs.State.{Numbers, machine_of, numbers_of}
use Rattle.base.specs.Kept.{unless_refused}

-- what a stage's number says is still to be written: 0 the header and what follows it, 1 steps and the end, any other nothing
unfoldable pub stage_of : ℕ → Remaining
stage_of n = when eqb n 0 then Header else when eqb n 1 then Steps else Nothing

-- the number of what is still to be written: a stage above 2, too, is handed back as 2; 3 is a sheet's refusal, which no stage says
abbrev pub stage_number : Remaining → ℕ
stage_number Header = 0
stage_number Steps = 1
stage_number Nothing = 2
stage_number (RefusalLine r) = 3

-- what is lent for a page: the machine's numbers and its memory, the stage, the steps made so far, the buffer, the count of bytes written
pub record PageRoom : Type 0 where
  pub machine : Numbers
  pub memory : List ℕ
  pub stage : ℕ
  pub steps : ℕ
  pub buffer : List ℕ
  pub written : ℕ

-- machine, memory, stage, steps, buffer and count, in this order
abbrev pub page_room : Numbers → List ℕ → ℕ → ℕ → List ℕ → ℕ → PageRoom
page_room machine memory stage steps buffer written =
    record { machine = machine; memory = memory; stage = stage; steps = steps; buffer = buffer; written = written }

-- the transcript that what is lent tells, with its budget
unfoldable pub transcript_of : ℕ → PageRoom → Transcript
transcript_of budget lent =
    record { state = machine_of lent.machine; steps = lent.steps; budget = budget; remaining = stage_of lent.stage }

-- whether its page is refused, by a caller's layout, stamps and trace
unfoldable pub page_verdict : List ℕ → List ℕ → Trace → ℕ → PageRoom → Result (Unit {0}) Refusal
page_verdict layout stamps trace budget lent =
    let t = transcript_of budget lent in verdict (fill_tests (setting_of (layout_of layout) stamps trace) t lent.memory t.remaining)

-- its page, in the room that the buffer has
unfoldable pub page_on : List ℕ → List ℕ → Trace → ℕ → PageRoom → Page
page_on layout stamps trace budget lent =
    page_call (setting_of (layout_of layout) stamps trace) (length lent.buffer) (transcript_of budget lent) lent.memory

-- what the call promises of the number that it answers and of what is lent after it
pub record TranscribeReturns (layout stamps : List ℕ) (trace : Trace) (budget : ℕ) (before after : PageRoom) (answered : ℕ) : Type 0 where
  pub number : answered ≡ refused_by (page_verdict layout stamps trace budget before)
  pub machine : after.machine ≡ unless_refused answered (numbers_of (page_on layout stamps trace budget before).world.state) before.machine
  pub memory : after.memory ≡ (page_on layout stamps trace budget before).world.memory
  pub stage : after.stage ≡ unless_refused answered (stage_number (page_on layout stamps trace budget before).remaining) before.stage
  pub steps : after.steps ≡ unless_refused answered (page_on layout stamps trace budget before).steps before.steps
  pub buffer : after.buffer ≡ sets before.buffer 0 (page_on layout stamps trace budget before).text
  pub written : after.written ≡ unless_refused answered (length (page_on layout stamps trace budget before).text) before.written
