-- Pages one after another make the whole. Assumes nothing.
use Rattle.std.proofs.Common.{ℕ, zero, suc, ◌+◌, ◌-◌, ◌≤◌, true, ◌≡◌, refl, sym, ◌∙◌, ap, List, [], ◌∷◌, ◌++◌, arith, leb, length, Result}
use Rattle.base.specs.declared.refusal.Refusal.{Refusal}
use Rattle.base.specs.Limits.{most_budget}
use Rattle.base.specs.FirstFailure.{first_failure}
use Rattle.base.specs.Verdict.{verdict, unrefused}
use Rattle.base.proofs.Tests.{when_true}
use Rattle.definition.specs.declared.stop_address.StopAddress.TheVariants.{Nowhere}
use Rattle.definition.specs.Setting.{Setting}
use Rattle.definition.specs.State.{World}
use Rattle.definition.specs.Run.{Going, goes, stops, ending, world_after, step_of, run_from}
use Rattle.definition.specs.Calls.{transcript_tests}
use Rattle.definition.specs.Laws.{world_at, ReadyToRun}
use Rattle.definition.proofs.frame.FrameLaws.{ready_kept}
use Rattle.definition.proofs.run.CallLaws.{all_hold, transcript_ready}
use Rattle.steplines.specs.declared.remaining.Remaining.{Remaining}
use Rattle.steplines.specs.declared.remaining.Remaining.TheVariants.{RefusalLine, Header, Steps, Nothing}
use Rattle.transcribe.specs.declared.progress.Transcript.{Transcript}
use Rattle.steplines.specs.Page.{line_room, Page}
use Rattle.transcribe.specs.Transcribe.{remaining_text, lines_left, page_of}
use Rattle.transcribe.specs.Promise.{world_of, transcript_after, fill_tests, text_left, page_by}
use Rattle.transcribe.proofs.TextLaws.{PageIs, page_of_is, stands_still, lands, stopped}
use Rattle.transcribe.proofs.FilledLaws.{page_promised}
use Rattle.output.specs.Laws.{pages_text, Roomy, none, more, PagesMakeWhole, PagesMakeOutput}

module _ (S : Setting) where
  -- a run keeps what its tests ask for
  ready_step : (n k : ℕ) (w : World) → ReadyToRun S w
      → (ReadyToRun S (world_after (step_of S w)) → ReadyToRun S (world_at (run_from S Nowhere (n + 1) k (world_after (step_of S w)))))
      → (g : Going) → ending Nowhere w.state ≡ g → ReadyToRun S (world_at (run_from S Nowhere n (suc k) w))
  ready_step n k w r h goes e = rw (lands S n k w e) (h (ready_kept S w r))
  ready_step n k w r h (stops x) e = rw (stopped S n k w x e) r

  ready_run : (n k : ℕ) (w : World) → ReadyToRun S w → ReadyToRun S (world_at (run_from S Nowhere n k w))
  ready_run n zero w r = rw (← stands_still S n w) r
  ready_run n (suc k) w r =
      ready_step n k w r (ready_run (n + 1) k (world_after (step_of S w))) (ending Nowhere w.state) refl

  -- the tests of a transcript, apart and together
  tests_apart : (budget : ℕ) (w : World) → verdict (transcript_tests S budget w) ≡ unrefused → ReadyToRun S w × (leb budget most_budget ≡ true)
  tests_apart budget w e =
      (transcript_ready S w budget e, (all_hold (transcript_tests S budget w) e).1.1.1.1.1.0)

  pub tests_together : (budget : ℕ) (w : World) → ReadyToRun S w → leb budget most_budget ≡ true → verdict (transcript_tests S budget w) ≡ unrefused
  unfolding first_failure
  tests_together budget w s b =
      rw (when_true _ _ _ s.memory, when_true _ _ _ s.layout, when_true _ _ _ s.timetable, when_true _ _ _ s.trace, when_true _ _ _ s.frame, when_true _ _ _ b) (when_true _ _ _ refl)

  -- where the machine is ready, whatever remains is taken
  taken_ready : (t : Transcript) (mem : List ℕ) → ReadyToRun S (world_of t mem) → leb t.budget most_budget ≡ true → (remaining : Remaining)
      → verdict (fill_tests S t mem remaining) ≡ unrefused
  unfolding first_failure
  taken_ready t mem r b (RefusalLine x) = refl
  taken_ready t mem r b Header = tests_together t.budget (world_of t mem) r b
  taken_ready t mem r b Steps = tests_together t.budget (world_of t mem) r b
  taken_ready t mem r b Nothing = refl

  -- where no line remains nothing is tested, and nothing is to be written
  no_lines : (t : Transcript) (mem : List ℕ) (left : ℕ) (remaining : Remaining) → lines_left left remaining ≤ 0
      → verdict (fill_tests S t mem remaining) ≡ unrefused
  unfolding first_failure
  no_lines t mem left (RefusalLine x) i = absurd (omega arith)
  no_lines t mem left Header i = absurd (omega arith)
  no_lines t mem left Steps i = absurd (omega arith)
  no_lines t mem left Nothing i = refl

  no_text : (n left : ℕ) (w : World) (remaining : Remaining) → lines_left left remaining ≤ 0 → [] ≡ remaining_text S n left w remaining
  no_text n left w (RefusalLine x) i = absurd (omega arith)
  no_text n left w Header i = absurd (omega arith)
  no_text n left w Steps i = absurd (omega arith)
  no_text n left w Nothing i = refl

  module _ (t : Transcript) (mem : List ℕ) (room : ℕ) (i : line_room ≤ room) (p : Page) where
    -- a transcript that is taken is taken again after a page
    ready_after : (remaining : Remaining) → PageIs S room t.steps (t.budget - t.steps) (world_of t mem) remaining p
        → verdict (transcript_tests S t.budget (world_of t mem)) ≡ unrefused
        → verdict (fill_tests S (transcript_after t p) p.world.memory p.remaining) ≡ unrefused
    ready_after remaining q e =
        let s = tests_apart t.budget (world_of t mem) e in
        let r : ReadyToRun S p.world = rw q.stands (ready_run t.steps q.made (world_of t mem) s.0) in
        taken_ready (transcript_after t p) p.world.memory r s.1 p.remaining

    taken_after : (remaining : Remaining) → PageIs S room t.steps (t.budget - t.steps) (world_of t mem) remaining p
        → verdict (fill_tests S t mem remaining) ≡ unrefused
        → verdict (fill_tests S (transcript_after t p) p.world.memory p.remaining) ≡ unrefused
    taken_after (RefusalLine x) q e =
        let f = q.fewer i (omega arith) in
        no_lines (transcript_after t p) p.world.memory q.rest p.remaining (omega arith)
    taken_after Header q e = ready_after Header q e
    taken_after Steps q e = ready_after Steps q e
    taken_after Nothing q e = no_lines (transcript_after t p) p.world.memory q.rest p.remaining q.most

    -- and has a line less to come, if it had one
    fewer_after : (remaining : Remaining) → PageIs S room t.steps (t.budget - t.steps) (world_of t mem) remaining p → (most : ℕ)
        → lines_left (t.budget - t.steps) remaining ≤ suc most → lines_left (t.budget - p.steps) p.remaining ≤ most
    fewer_after remaining q most j = go (lines_left (t.budget - t.steps) remaining) refl
      where
        left : q.rest ≡ t.budget - p.steps
        left = let c = q.count in let l = q.parts in omega arith

        go : (x : ℕ) → x ≡ lines_left (t.budget - t.steps) remaining → lines_left (t.budget - p.steps) p.remaining ≤ most
        go zero e = rw (← left) (let m = q.most in omega arith)
        go (suc x) e = rw (← left) (let f = q.fewer i (omega arith) in omega arith)

  -- pages one after another
  pages_whole : (rooms : List ℕ) (t : Transcript) (mem : List ℕ) → verdict (fill_tests S t mem t.remaining) ≡ unrefused → Roomy rooms
      → lines_left (t.budget - t.steps) t.remaining ≤ length rooms → pages_text S rooms t mem ≡ text_left S t mem
  unfolding pages_text
  pages_whole [] t mem e none i = no_text t.steps (t.budget - t.steps) (world_of t mem) t.remaining i
  pages_whole (room ∷ rooms) t mem e (more _ _ k r) i =
      let p = page_of S room t.steps (t.budget - t.steps) (world_of t mem) t.remaining in
      let q = page_of_is S room t.steps (t.budget - t.steps) (world_of t mem) t.remaining in
      ap (λ (z : Result (Unit {0}) Refusal). (page_by S room t mem z).text ++ pages_text S rooms (transcript_after t (page_by S room t mem z)) (page_by S room t mem z).world.memory) e
      ∙ ap (λ (z : List ℕ). p.text ++ z)
      (pages_whole rooms (transcript_after t p) p.world.memory (taken_after t mem room k p t.remaining q e) r
      (fewer_after t mem room k p t.remaining q (length rooms) i))
      ∙ sym (page_promised S t mem room p q).0

pub pages_make_whole : PagesMakeWhole
unfolding PagesMakeWhole
pages_make_whole S t mem rooms e r i = pages_whole S rooms t mem e r i

pub pages_make_output : PagesMakeOutput
unfolding PagesMakeOutput
pages_make_output sheet before r after rooms o k i = pages_whole _ rooms r.transcript after.memory o.taken k i ∙ o.output
