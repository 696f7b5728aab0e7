-- An opened sheet, refused and read. Assumes nothing.
use Rattle.std.proofs.Common.{ℕ, ◌+◌, ◌-◌, ◌≤◌, ◌≡◌, ◌∙◌, refl, sym, ap, subst, true, List, ◌++◌, Ok, Err, length, take, drop, arith}
use Rattle.std.proofs.lemmas.List.Edits.{sets}
use Rattle.std.proofs.Math.Seq.{sets-eq, length-sets, take_at}
use Rattle.std.proofs.Common.{eq-eqb, eqb-true, leb-true, le-leb}
use Rattle.base.specs.Limits.{memory_bytes, most_stamps}
use Rattle.base.proofs.Tests.{each}
use Rattle.layout.specs.declared.sections.Layout.{Layout}
use Rattle.definition.specs.Setting.{Trace, trace_of, Setting}
use Rattle.definition.specs.declared.state.State.{State}
use Rattle.definition.specs.State.{world, start}
use Rattle.base.specs.Verdict.{verdict}
use Rattle.definition.specs.Calls.{timetable, trace_fits, transcript_tests, whole_memory}
use Rattle.definition.proofs.frame.FrameLaws.{ready_at_start}
use Rattle.sheet.specs.declared.reader.Setup.{Setup}
use Rattle.base.specs.declared.refusal.SheetRefusal.{SheetRefusal}
use Rattle.loader.specs.Setup.{sheet_memory, sheet_stamps, sheet_trace}
use Rattle.sheet.specs.Sheet.{sheet_answer}
use Rattle.sheet.specs.Laws.{Runnable, ReadIsRunnable}
use Rattle.sheet.proofs.RunnableLaws.{read_is_runnable}
use Rattle.transcript.specs.Transcript.{header_line}
use Rattle.steplines.specs.declared.remaining.Remaining.TheVariants.{RefusalLine, Header}
use Rattle.transcribe.specs.declared.progress.Transcript.{Transcript}
use Rattle.transcribe.specs.Transcribe.{steps_text}
use Rattle.transcribe.proofs.FilledLaws.{no_tests}
use Rattle.output.specs.declared.open.SheetRun.{SheetRun}
use Rattle.output.specs.Output.{sheet_setting, output_of, sheet_output}
use Rattle.output.specs.Open.{RunRoom, run_room, opened_room, no_layout, opened_run, setting_opened, OpenPromise}
use Rattle.output.proofs.PagesLaws.{tests_together}

-- a transcript of which nothing is written
abbrev pub before : State → ℕ → Transcript
before m budget = record { state = m; steps = 0; budget = budget; remaining = Header }

-- the items of a list at the front of what is lent for it
front : (lent items : List ℕ) → length items ≤ length lent → take (length items) (sets lent 0 items) ≡ items
front lent items i =
    let j : 0 + length items ≤ length lent = omega arith in
    ap (take (length items)) (sets-eq items lent 0 j) ∙ take_at items (drop (0 + length items) lent) (length items) refl

-- what opening answers of a sheet that is refused
abbrev pub refused_run : Layout → State → SheetRefusal → SheetRun
refused_run L m r =
    record { layout = L; stamps = 0; records = 0; transcript = record { state = m; steps = 0; budget = 0; remaining = RefusalLine r } }

-- and of one that is read
abbrev pub read_run : Setup → State → SheetRun
read_run setup m = record { layout = setup.layout; stamps = setup.stamps; records = setup.records; transcript = before m setup.budget }

module _ (sheet : List ℕ) (lent : RunRoom) where
  pub opened_refused : (r : SheetRefusal) → Err r ≡ sheet_answer sheet → length lent.memory ≡ memory_bytes → (L : Layout) → L ≡ no_layout
      → (T : Transcript)
      → (T ≡ record { state = T.state; steps = 0; budget = 0; remaining = RefusalLine r }) × (whole_memory lent.memory ≡ true → T.state ≡ start lent.memory)
      → OpenPromise sheet lent (record { layout = L; stamps = 0; records = 0; transcript = T }) lent
  unfolding sheet_output
  opened_refused r e l L p T u =
      let m = T.state in
      let q = u.1 (eq-eqb _ _ l) in
      subst (λ (z : Transcript). OpenPromise sheet lent (record { layout = L; stamps = 0; records = 0; transcript = z }) lent) (sym u.0)
      (record {
        result =
            ap (λ (z : Layout). refused_run z m r) p
            ∙ ap (λ (z : State). refused_run no_layout z r) q
            ∙ ap (opened_run sheet lent.memory) e;
        size = sym l;
        fits = omega arith;
        records_fit = (omega arith, omega arith);
        output = ap (output_of sheet) e;
        taken = sym no_tests;
        loaded = ap (opened_room sheet lent) e;
      })

  module _ (setup : Setup) (e : Ok setup ≡ sheet_answer sheet) (after : RunRoom) (f : after.memory ≡ sheet_memory sheet)
      (g : after.stamps ≡ sets lent.stamps 0 (sheet_stamps sheet)) (h : after.trace.stamps ≡ sets lent.trace.stamps 0 (sheet_trace sheet).stamps)
      (h' : after.trace.words ≡ sets lent.trace.words 0 (sheet_trace sheet).words)
      (l : length after.memory ≡ memory_bytes) (k : length lent.stamps ≡ most_stamps)
      (k' : length lent.trace.stamps ≡ most_stamps) (k'' : length lent.trace.words ≡ most_stamps) where
    runs : Runnable setup (sheet_stamps sheet) (sheet_trace sheet)
    unfolding ReadIsRunnable
    runs = read_is_runnable sheet setup (sym e)

    -- a list that is taken is not longer than what is lent for it
    few : (stamps : List ℕ) → timetable stamps ≡ true → length stamps ≤ most_stamps
    unfolding timetable
    few stamps r = leb-true (length stamps) most_stamps (each _ r).0

    traced : (length (sheet_trace sheet).stamps ≡ length (sheet_trace sheet).words) × (length (sheet_trace sheet).stamps ≤ most_stamps)
    unfolding trace_fits
    traced = let t = each _ runs.traced in (eqb-true _ _ t.0, few (sheet_trace sheet).stamps t.1.0)

    -- the items of the lent lists that are the sheet's own
    own_stamps : take setup.stamps after.stamps ≡ sheet_stamps sheet
    own_stamps =
        let i = few (sheet_stamps sheet) runs.rising in
        rw (runs.counted, g) (front lent.stamps (sheet_stamps sheet) (omega arith))

    own_records : take setup.records after.trace.stamps ≡ (sheet_trace sheet).stamps
    own_records =
        let i = traced in
        rw (runs.records_counted, h) (front lent.trace.stamps (sheet_trace sheet).stamps (omega arith))

    own_words : take setup.records after.trace.words ≡ (sheet_trace sheet).words
    own_words =
        let i = traced in
        rw (runs.records_counted, i.0, h') (front lent.trace.words (sheet_trace sheet).words (omega arith))

    -- and so the sheet's setting
    own : setting_opened (read_run setup (start after.memory)) after ≡ sheet_setting sheet setup
    own = rw (own_stamps, own_records, own_words)

    -- what is lent, with this trace
    abbrev loaded_room : Trace → RunRoom
    loaded_room t = run_room (sheet_memory sheet) (sets lent.stamps 0 (sheet_stamps sheet)) t

    pub opened_read : (T : Transcript) → (T ≡ before T.state setup.budget) × (whole_memory after.memory ≡ true → T.state ≡ start after.memory)
        → OpenPromise sheet lent (record { layout = setup.layout; stamps = setup.stamps; records = setup.records; transcript = T }) after
    unfolding sheet_output
    opened_read T u =
        let m = T.state in
        let s = u.1 (eq-eqb _ _ l) in
        let i = few (sheet_stamps sheet) runs.rising in
        let j = traced in
        let counted = runs.counted in
        let records_counted = runs.records_counted in
        let n : length after.stamps ≡ most_stamps = ap length g ∙ length-sets lent.stamps 0 (sheet_stamps sheet) ∙ k in
        let n' : length after.trace.stamps ≡ most_stamps =
        ap length h ∙ length-sets lent.trace.stamps 0 (sheet_trace sheet).stamps ∙ k' in
        let n'' : length after.trace.words ≡ most_stamps =
        ap length h' ∙ length-sets lent.trace.words 0 (sheet_trace sheet).words ∙ k'' in
        let z : setup.budget - 0 ≡ setup.budget = omega arith in
        let S = setting_opened (read_run setup m) after in
        let ready = ready_at_start (sheet_setting sheet setup) after.memory (eq-eqb (length after.memory) memory_bytes l) runs.fence runs.rising runs.traced in
        subst (λ (z : Transcript). OpenPromise sheet lent (record { layout = setup.layout; stamps = setup.stamps; records = setup.records; transcript = z }) after) (sym u.0)
        (record {
          result = ap (read_run setup) (s ∙ ap start f) ∙ ap (opened_run sheet lent.memory) e;
          size = sym l;
          fits = omega arith;
          records_fit = (omega arith, omega arith);
          output =
              ap (λ (b : ℕ). header_line ++ steps_text S 0 b (world m after.memory)) z
              ∙ ap (λ (x : Setting). header_line ++ steps_text x 0 setup.budget (world m after.memory)) own
              ∙ ap (λ (x : State). header_line ++ steps_text (sheet_setting sheet setup) 0 setup.budget (world x after.memory)) s
              ∙ ap (λ (x : List ℕ). header_line ++ steps_text (sheet_setting sheet setup) 0 setup.budget (world (start x) x)) f
              ∙ ap (output_of sheet) e;
          taken =
              ap (λ (x : Setting). verdict (transcript_tests x setup.budget (world m after.memory))) own
              ∙ ap (λ (x : State). verdict (transcript_tests (sheet_setting sheet setup) setup.budget (world x after.memory))) s
              ∙ tests_together (sheet_setting sheet setup) setup.budget (world (start after.memory) after.memory) ready (le-leb _ _ runs.budget_allowed);
          loaded =
              ap (λ (x : List ℕ). run_room x after.stamps after.trace) f
              ∙ ap (λ (x : List ℕ). run_room (sheet_memory sheet) x after.trace) g
              ∙ ap (λ (x : List ℕ). loaded_room (trace_of x after.trace.words)) h
              ∙ ap (λ (x : List ℕ). loaded_room (trace_of (sets lent.trace.stamps 0 (sheet_trace sheet).stamps) x)) h'
              ∙ ap (opened_room sheet lent) e;
        })
