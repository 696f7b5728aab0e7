-- What a call that continues a transcript promises.
use Rattle.std.specs.Prelude.{ℕ, ◌-◌, ◌≤◌, List, [], ◌++◌, ◌≡◌, length, Result, Err, Ok}
use Rattle.std.proofs.lemmas.List.Edits.{sets}
use Rattle.base.specs.declared.refusal.Refusal.{Refusal}
use Rattle.base.specs.FirstFailure.{Test}
use Rattle.base.specs.Verdict.{verdict}
use Rattle.definition.specs.declared.stop_address.StopAddress.TheVariants.{Nowhere}
use Rattle.definition.specs.Setting.{Setting}
use Rattle.definition.specs.State.{World, world}
use Rattle.definition.specs.Run.{run}
use Rattle.definition.specs.Calls.{transcript_tests}
use Rattle.definition.specs.Laws.{world_at}
use Rattle.steplines.specs.declared.remaining.Remaining.{Remaining}
use Rattle.steplines.specs.declared.remaining.Remaining.TheVariants.{RefusalLine, Header, Steps, Nothing}
use Rattle.transcribe.specs.declared.progress.Transcript.{Transcript}
use Rattle.transcribe.specs.declared.progress.Filled.{Filled}
use Rattle.steplines.specs.Page.{Page, empty_page}
use Rattle.transcribe.specs.Transcribe.{page_of, remaining_text}

-- the machine of a transcript, with its memory
abbrev pub world_of : Transcript → List ℕ → World
world_of t mem = world t.state mem

-- the transcript that a page leaves
abbrev pub transcript_after : Transcript → Page → Transcript
transcript_after t p = record { state = p.world.state; steps = p.steps; budget = t.budget; remaining = p.remaining }

-- what a call answers, by the verdict and the length of its page: the refusal, or how many bytes it wrote
abbrev pub written_by : Result (Unit {0}) Refusal → ℕ → Result ℕ Refusal
written_by (Ok _) n = Ok n
written_by (Err r) n = Err r

module _ (S : Setting) where
  -- the tests: none where no step remains
  abbrev pub fill_tests : Transcript → List ℕ → Remaining → List (Test Refusal)
  fill_tests t mem (RefusalLine r) = []
  fill_tests t mem Header = transcript_tests S t.budget (world_of t mem)
  fill_tests t mem Steps = transcript_tests S t.budget (world_of t mem)
  fill_tests t mem Nothing = []

  -- what is still to be written of a transcript
  abbrev pub text_left : Transcript → List ℕ → List ℕ
  text_left t mem = remaining_text S t.steps (t.budget - t.steps) (world_of t mem) t.remaining

  -- the page of a call, by the verdict: a refusal writes nothing
  abbrev pub page_by : ℕ → Transcript → List ℕ → Result (Unit {0}) Refusal → Page
  page_by room t mem (Ok _) = page_of S room t.steps (t.budget - t.steps) (world_of t mem) t.remaining
  page_by room t mem (Err r) = empty_page t.steps (world_of t mem) t.remaining

  -- the page of a call
  abbrev pub page_call : ℕ → Transcript → List ℕ → Page
  page_call room t mem = page_by room t mem (verdict (fill_tests t mem t.remaining))

  -- what a call promises: the page that it wrote at the front of what is lent, and nothing behind it; the verdict, with the page's length; the
  -- transcript and the memory that the page leaves; that what it wrote is what comes next; that machine and memory are those of the run so far
  pub record FillPromise (t : Transcript) (mem entry : List ℕ) (r : Filled) (mem_then exit : List ℕ) : Type 0 where
    pub bytes : exit ≡ sets entry 0 (page_call (length entry) t mem).text
    pub written : r.written ≡ written_by (verdict (fill_tests t mem t.remaining)) (length (page_call (length entry) t mem).text)
    pub fits : length (page_call (length entry) t mem).text ≤ length entry
    pub transcript : r.transcript ≡ transcript_after t (page_call (length entry) t mem)
    pub memory : mem_then ≡ (page_call (length entry) t mem).world.memory
    pub next : text_left t mem ≡ (page_call (length entry) t mem).text ++ text_left r.transcript mem_then
    pub run_so_far : world_of r.transcript mem_then ≡ world_at (run S Nowhere (r.transcript.steps - t.steps) (world_of t mem))
