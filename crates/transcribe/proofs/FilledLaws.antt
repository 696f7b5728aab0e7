-- What a call that fills a page leaves, from the page of its parts. Assumes nothing.
use Rattle.std.proofs.Common.{ℕ, ◌+◌, ◌-◌, ◌≤◌, ◌<◌, true, ◌≡◌, refl, sym, ◌∙◌, ap, subst, List, [], ◌++◌, append-nil, arith, zero-add, length, length-append, le-ltb, lt-ltb, Result, Err, Ok, ◌⊎◌, inl, inr, true≢false}
use Rattle.std.proofs.lemmas.List.Edits.{sets}
use Rattle.std.proofs.Math.Seq.{length-sets}
use Rattle.base.specs.declared.refusal.Refusal.{Refusal}
use Rattle.base.specs.declared.refusal.SheetRefusal.{SheetRefusal}
use Rattle.base.specs.FirstFailure.{first_failure}
use Rattle.base.specs.Verdict.{verdict, unrefused}
use Rattle.base.proofs.Tests.{when_true, when_false}
use Rattle.definition.specs.declared.stop_address.StopAddress.TheVariants.{Nowhere}
use Rattle.definition.specs.Setting.{Setting}
use Rattle.definition.specs.declared.state.State.{State}
use Rattle.definition.specs.State.{World, world}
use Rattle.definition.specs.Run.{run_from, run}
use Rattle.definition.specs.Calls.{transcript_tests}
use Rattle.definition.specs.Laws.{ReadyToRun, world_at}
use Rattle.definition.proofs.run.CallLaws.{transcript_ready}
use Rattle.storage.specs.declared.control.Control.{Control}
use Rattle.storage.specs.Control.{with_registers, control_of}
use Rattle.transcript.specs.Transcript.{header_line, refusal_line}
use Rattle.transcript.proofs.TranscriptLaws.{sets_append}
use Rattle.steplines.specs.declared.remaining.Remaining.{Remaining}
use Rattle.steplines.specs.declared.remaining.Remaining.TheVariants.{RefusalLine, Header, Steps, Nothing}
use Rattle.transcribe.specs.declared.progress.Transcript.{Transcript}
use Rattle.transcribe.specs.declared.progress.Filled.{Filled}
use Rattle.steplines.specs.declared.steps.StepsWritten.{StepsWritten}
use Rattle.steplines.specs.Page.{line_room, Page, empty_page, behind, page_from}
use Rattle.transcribe.specs.Transcribe.{remaining_text, page_of}
use Rattle.transcribe.specs.Promise.{world_of, transcript_after, written_by, fill_tests, text_left, page_by, FillPromise}
use Rattle.steplines.specs.internal.Written.{PageWritten}
use Rattle.transcribe.specs.internal.Filled.{steps_remain, PageFilled}
use Rattle.transcribe.proofs.TextLaws.{PageIs, still, page_of_is, world_counted}

-- a call without tests is taken
pub no_tests : unrefused ≡ verdict []
unfolding first_failure
no_tests = refl

-- what a call that is taken knows
pub taken_ready : (S : Setting) (budget : ℕ) (w : World) (v : Result (Unit {0}) Refusal)
    → v ≡ verdict (transcript_tests S budget w) → v ≡ unrefused → ReadyToRun S w
taken_ready S budget w v e f = transcript_ready S w budget (sym e ∙ f)

module _ (S : Setting) (t : Transcript) (mem : List ℕ) where
  -- the page of the transcript in this room
  abbrev page : ℕ → Remaining → Page
  page room remaining = page_of S room t.steps (t.budget - t.steps) (world_of t mem) remaining

  -- the lines of a run from here
  abbrev lines : ℕ → Page
  lines room = page_from S room t.steps (t.budget - t.steps) (world_of t mem)

  -- ---- the lines of a run

  pub run_filled : (mem_then entry exit : List ℕ) (start : ℕ) (c : Control) (rs saved : List ℕ) (done : StepsWritten) (next : State)
      → c ≡ control_of t.state → next ≡ with_registers rs saved done.control
      → PageWritten (page_from S (length entry - start) t.steps (t.budget - t.steps) (world (with_registers t.state.registers t.state.saved c) mem))
      entry exit start done.filled done.steps (world (with_registers rs saved done.control) mem_then) done.remaining
      → PageFilled (lines (length entry - start)) unrefused t
      (record {
        transcript = record { state = next; steps = done.steps; budget = t.budget; remaining = done.remaining };
        written = Ok done.filled;
      }) mem_then entry exit start
  run_filled mem_then entry exit start c rs saved done next e f q =
      let p = lines (length entry - start) in
      let w : PageWritten p entry exit start done.filled done.steps (world (with_registers rs saved done.control) mem_then) done.remaining =
      subst (λ (z : Control). PageWritten (page_from S (length entry - start) t.steps (t.budget - t.steps) (world (with_registers t.state.registers t.state.saved z) mem))
      entry exit start done.filled done.steps (world (with_registers rs saved done.control) mem_then) done.remaining) e q in
      record {
        bytes = w.bytes;
        written = ap Ok w.ends;
        fits = rw (← w.ends) w.fits;
        transcript =
            ap (λ (z : State). record { state = z; steps = done.steps; budget = t.budget; remaining = done.remaining }) (f ∙ ap (λ (z : World). z.state) w.world)
            ∙ ap (λ (z : ℕ). record { state = p.world.state; steps = z; budget = t.budget; remaining = done.remaining }) w.count
            ∙ ap (λ (z : Remaining). record { state = p.world.state; steps = p.steps; budget = t.budget; remaining = z }) w.rest;
        memory = ap (λ (z : World). z.memory) w.world;
      }

  -- ---- nothing written

  pub unfilled : (room : ℕ) (entry : List ℕ) → page room t.remaining ≡ empty_page t.steps (world_of t mem) t.remaining
      → PageFilled (page room t.remaining) (Ok _) t (record { transcript = t; written = Ok 0 }) mem entry entry 0
  unfilled room entry e =
      record {
        bytes = ap (λ (z : Page). sets entry 0 z.text) (sym e);
        written = ap (λ (z : Page). Ok (0 + length z.text)) (sym e);
        fits = rw e (omega arith);
        transcript = ap (transcript_after t) (sym e);
        memory = ap (λ (z : Page). z.world.memory) (sym e);
      }

  pub header_full : (room : ℕ) → room < line_room → page room Header ≡ empty_page t.steps (world_of t mem) Header
  unfolding page_of
  header_full room i = when_true _ _ _ (lt-ltb room line_room i)

  pub refusal_full : (room : ℕ) (r : SheetRefusal) → t.remaining ≡ RefusalLine r → room < line_room
      → page room t.remaining ≡ empty_page t.steps (world_of t mem) t.remaining
  unfolding page_of
  refusal_full room r e i =
      ap (page room) e ∙ when_true _ _ _ (lt-ltb room line_room i) ∙ ap (empty_page t.steps (world_of t mem)) (sym e)

  pub nothing_left : (room : ℕ) → page room Nothing ≡ empty_page t.steps (world_of t mem) Nothing
  unfolding page_of
  nothing_left room = refl

  -- ---- the refusal's line

  pub refusal_filled : (entry exit : List ℕ) (r : SheetRefusal) (k : ℕ) → t.remaining ≡ RefusalLine r → line_room ≤ length entry
      → k ≡ length (refusal_line r.refusal r.line) → k ≤ 64 → exit ≡ sets entry 0 (refusal_line r.refusal r.line)
      → PageFilled (page (length entry) t.remaining) unrefused t
      (record {
        transcript = record { state = t.state; steps = t.steps; budget = t.budget; remaining = Nothing };
        written = Ok k;
      }) mem entry exit 0
  unfolding page_of
  refusal_filled entry exit r k e i n m b =
      let q = behind (refusal_line r.refusal r.line) (empty_page t.steps (world_of t mem) Nothing) in
      let s : page (length entry) t.remaining ≡ q = ap (page (length entry)) e ∙ when_false _ _ _ (le-ltb (length entry) line_room i) in
      let a : refusal_line r.refusal r.line ++ [] ≡ refusal_line r.refusal r.line = append-nil (refusal_line r.refusal r.line) in
      rw s
      (record {
        bytes = b ∙ ap (sets entry 0) (sym a);
        written = ap Ok (n ∙ sym (zero-add (length (refusal_line r.refusal r.line))) ∙ ap (λ (z : List ℕ). 0 + length z) (sym a));
        fits = rw a (omega arith);
        transcript = refl;
        memory = refl;
      })

  -- ---- the header, and the lines behind it

  pub header_filled : (mem_then entry mid exit : List ℕ) (start : ℕ) (r : Filled) → t.remaining ≡ Header → line_room ≤ length entry
      → start ≡ 22 → mid ≡ sets entry 0 header_line → PageFilled (lines (length mid - start)) unrefused t r mem_then mid exit start
      → PageFilled (page (length entry) t.remaining) unrefused t r mem_then entry exit 0
  unfolding page_of
  header_filled mem_then entry mid exit start r e i b h q =
      let l : length mid ≡ length entry = ap length h ∙ length-sets entry 0 header_line in
      let s : page (length entry) t.remaining ≡ behind header_line (lines (length mid - start)) =
      ap (page (length entry)) e ∙ when_false _ _ _ (le-ltb (length entry) line_room i)
      ∙ ap (λ (z : ℕ). behind header_line (lines z)) (let a : length entry - 22 ≡ length mid - start = omega (arith, b) in a) in
      let text = (lines (length mid - start)).text in
      let n : start + length text ≡ 0 + length (header_line ++ text) =
      ap (λ (z : ℕ). z + length text) b ∙ sym (length-append header_line text) ∙ sym (zero-add (length (header_line ++ text))) in
      rw s
      (record {
        bytes = q.bytes ∙ ap (λ (z : List ℕ). sets z start text) h ∙ ap (λ (z : ℕ). sets (sets entry 0 header_line) z text) b
            ∙ sets_append entry 0 header_line text;
        written = q.written ∙ ap Ok n;
        fits = rw (← n) (let f = q.fits in omega arith);
        transcript = q.transcript;
        memory = q.memory;
      })

  pub not_header : (remaining : Remaining) → steps_remain remaining ≡ true → (remaining ≡ Header → ⊥) → remaining ≡ Steps
  not_header (RefusalLine r) h f = absurd (true≢false (sym h))
  not_header Header h f = absurd (f refl)
  not_header Steps h f = refl
  not_header Nothing h f = absurd (true≢false (sym h))

  pub steps_filled : (mem_then entry exit : List ℕ) (r : Filled) → steps_remain t.remaining ≡ true → (t.remaining ≡ Header → ⊥)
      → PageFilled (lines (length entry - 0)) unrefused t r mem_then entry exit 0 → PageFilled (page (length entry) t.remaining) unrefused t r mem_then entry exit 0
  unfolding page_of
  steps_filled mem_then entry exit r h f q =
      let n : length entry - 0 ≡ length entry = omega arith in
      let s : page (length entry) t.remaining ≡ lines (length entry) = ap (page (length entry)) (not_header t.remaining h f) in
      rw s (rw n at q)

  -- ---- by the verdict

  module _ (v u : Result (Unit {0}) Refusal) (same : v ≡ u) where
    pub refused_filled : (entry : List ℕ) (f : Refusal) → v ≡ Err f
        → PageFilled (page_by S (length entry) t mem u) u t (record { transcript = t; written = Err f }) mem entry entry 0
    refused_filled entry f e =
        subst (λ (z : Result (Unit {0}) Refusal). PageFilled (page_by S (length entry) t mem z) z t (record { transcript = t; written = Err f }) mem entry entry 0)
        (sym e ∙ same) (record { bytes = refl; written = refl; fits = omega arith; transcript = refl; memory = refl })

    pub taken_filled : (mem_then entry exit : List ℕ) (r : Filled) → v ≡ unrefused → PageFilled (page (length entry) t.remaining) unrefused t r mem_then entry exit 0
        → PageFilled (page_by S (length entry) t mem u) u t r mem_then entry exit 0
    taken_filled mem_then entry exit r e q =
        subst (λ (z : Result (Unit {0}) Refusal). PageFilled (page_by S (length entry) t mem z) z t r mem_then entry exit 0) (sym e ∙ same) q

  -- ---- the promise

  -- what is still to be written behind a page, and where the run is
  pub page_promised : (room : ℕ) (p : Page) → PageIs S room t.steps (t.budget - t.steps) (world_of t mem) t.remaining p
      → (text_left S t mem ≡ p.text ++ text_left S (transcript_after t p) p.world.memory)
      × (p.world ≡ world_at (run S Nowhere (p.steps - t.steps) (world_of t mem)))
  unfolding run
  page_promised room p q =
      let c = q.count in
      let l = q.parts in
      let left : q.rest ≡ t.budget - p.steps = omega arith in
      let made : q.made ≡ p.steps - t.steps = omega arith in (
        q.says ∙ ap (λ (z : ℕ). p.text ++ remaining_text S p.steps z p.world p.remaining) left,
        q.stands ∙ world_counted S t.steps 0 q.made (world_of t mem) ∙ ap (λ (z : ℕ). world_at (run_from S Nowhere 0 z (world_of t mem))) made,
      )

  -- by the verdict
  by_verdict : (room : ℕ) (v : Result (Unit {0}) Refusal)
      → (text_left S t mem ≡ (page_by S room t mem v).text ++ text_left S (transcript_after t (page_by S room t mem v)) (page_by S room t mem v).world.memory)
      × ((page_by S room t mem v).world ≡ world_at (run S Nowhere ((page_by S room t mem v).steps - t.steps) (world_of t mem)))
  by_verdict room (Ok _) = page_promised room _ (page_of_is S room t.steps (t.budget - t.steps) (world_of t mem) t.remaining)
  by_verdict room (Err f) =
      page_promised 0 _ (still S 0 t.steps (t.budget - t.steps) (world_of t mem) t.remaining (λ i j. absurd (omega arith)))

  pub promised : (v : Result (Unit {0}) Refusal) → v ≡ verdict (fill_tests S t mem t.remaining) → (mem_then entry exit : List ℕ) (r : Filled)
      → PageFilled (page_by S (length entry) t mem v) v t r mem_then entry exit 0 → FillPromise S t mem entry r mem_then exit
  promised v e mem_then entry exit r q =
      let u = verdict (fill_tests S t mem t.remaining) in
      let f : PageFilled (page_by S (length entry) t mem u) u t r mem_then entry exit 0 =
      subst (λ (z : Result (Unit {0}) Refusal). PageFilled (page_by S (length entry) t mem z) z t r mem_then entry exit 0) e q in
      let p = page_by S (length entry) t mem u in
      let b = by_verdict (length entry) u in
      record {
        bytes = f.bytes;
        written = f.written ∙ ap (written_by u) (zero-add (length p.text));
        fits = let i = f.fits in omega arith;
        transcript = f.transcript;
        memory = f.memory;
        next = b.0
            ∙ ap (λ (z : Transcript). p.text ++ text_left S z p.world.memory) (sym f.transcript)
            ∙ ap (λ (z : List ℕ). p.text ++ text_left S r.transcript z) (sym f.memory);
        run_so_far = ap (λ (z : Transcript). world_of z mem_then) f.transcript ∙ ap (λ (z : List ℕ). world p.world.state z) f.memory
            ∙ b.1 ∙ ap (λ (z : Transcript). world_at (run S Nowhere (z.steps - t.steps) (world_of t mem))) (sym f.transcript);
      }

  -- by what remains
  pub nothing_promised : (entry : List ℕ) (f : Filled) → t.remaining ≡ Nothing → f ≡ record { transcript = t; written = Ok 0 } → FillPromise S t mem entry f mem entry
  nothing_promised entry f e g =
      rw g (promised unrefused (rw e no_tests) mem entry entry _ (unfilled (length entry) entry (rw e (nothing_left (length entry)))))

  pub line_promised : (entry exit : List ℕ) (f : Filled) (r : SheetRefusal) → t.remaining ≡ RefusalLine r
      → PageFilled (page (length entry) t.remaining) unrefused t f mem entry exit 0 → FillPromise S t mem entry f mem exit
  line_promised entry exit f r e q = promised unrefused (rw e no_tests) mem entry exit f q

  pub steps_promised : (mem_then entry exit : List ℕ) (f : Filled) → (t.remaining ≡ Header) ⊎ (t.remaining ≡ Steps)
      → PageFilled (page_by S (length entry) t mem (verdict (transcript_tests S t.budget (world_of t mem)))) (verdict (transcript_tests S t.budget (world_of t mem))) t f mem_then entry exit 0
      → FillPromise S t mem entry f mem_then exit
  steps_promised mem_then entry exit f (inl e) q = promised _ (rw e refl) mem_then entry exit f q
  steps_promised mem_then entry exit f (inr e) q = promised _ (rw e refl) mem_then entry exit f q
