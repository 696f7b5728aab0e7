-- The lines of a page, one after another: what each turn of the loop that writes them keeps. Assumes nothing.
use Rattle.std.proofs.Common.{◌≡◌, ℕ, zero, suc, ◌+◌, ◌-◌, ◌≤◌, ◌<◌, Bool, true, false, List, [], ◌++◌, leb, ltb, length, refl, sym, ◌∙◌, ap, subst, arith, append_assoc, append-nil, le-ltb, lt-ltb, le-leb, None, Some}
use Rattle.std.proofs.Math.Seq.{length-sets}
use Rattle.std.proofs.lemmas.Bool.{lt-leb}
use Rattle.std.proofs.lemmas.List.Edits.{sets}
use Rattle.layout.specs.declared.sections.Layout.{Layout}
use Rattle.base.specs.Test.{when◌then◌else◌}
use Rattle.base.specs.Limits.{last_clock}
use Rattle.base.proofs.Tests.{when_true, when_false}
use Rattle.definition.specs.Setting.{Setting}
use Rattle.answers.specs.declared.answer.End.{End}
use Rattle.answers.specs.declared.answer.End.TheVariants.{Halted, Clock, Spent}
use Rattle.answers.specs.declared.answer.Outcome.{Outcome}
use Rattle.definition.specs.declared.state.State.{State}
use Rattle.definition.specs.State.{World, world}
use Rattle.definition.specs.Interrupt.{Step, gives}
use Rattle.definition.specs.Run.{goes, stops, ending, world_after, step_of}
use Rattle.storage.specs.declared.control.Control.{Control}
use Rattle.storage.specs.Control.{with_registers}
use Rattle.definition.proofs.step.CycleLaws.{clock_rises}
use Rattle.steplines.specs.declared.steps.StepsWritten.{StepsWritten}
use Rattle.transcript.specs.Transcript.{end_line}
use Rattle.clock.specs.declared.lists.RequestLists.{RequestLists}
use Rattle.clock.specs.declared.time.Requests.{Requests}
use Rattle.clock.specs.Requests.{setting_by, setting_with, Tested, HasPassed, AtClock}
use Rattle.clock.proofs.UpcomingLaws.{requests_later}
use Rattle.transcript.proofs.TranscriptLaws.{Put, put_then}
use Rattle.steplines.specs.declared.remaining.Remaining.{Remaining}
use Rattle.steplines.specs.declared.remaining.Remaining.TheVariants.{Steps, Nothing}
use Rattle.steplines.specs.Page.{line_room, line_of, Page, empty_page, behind, end_page, end_or, page_from}
use Rattle.steplines.specs.internal.Course.{course, by_course}
use Rattle.steplines.specs.internal.Written.{PageWritten, LastLine, no_line}

module _ (S : Setting) where
  -- the lines that follow where the run goes on
  abbrev pub further_from : ℕ → ℕ → ℕ → World → Page
  further_from room n budget w =
      behind (line_of (n + 1) (step_of S w))
      (page_from S (room - length (line_of (n + 1) (step_of S w))) (n + 1) (budget - (n + 1)) (world_after (step_of S w)))

  -- a page by the tests of the code, with a budget that is spent and with one that is not
  module _ (n : ℕ) (w : World) (further : Page) where
    when_spent : (h k : Bool) → end_or n w (end_page n w Spent) (when h then stops Halted else when k then stops Clock else goes)
        ≡ by_course n w further (when h then Some Halted else when k then Some Clock else when true then Some Spent else None)
    unfolding when◌then◌else◌
    when_spent true k = refl
    when_spent false true = refl
    when_spent false false = refl

    when_left : (h k : Bool) → end_or n w further (when h then stops Halted else when k then stops Clock else goes)
        ≡ by_course n w further (when h then Some Halted else when k then Some Clock else when false then Some Spent else None)
    unfolding when◌then◌else◌
    when_left true k = refl
    when_left false true = refl
    when_left false false = refl

  -- a page with room for a line
  module _ (room n budget : ℕ) (w : World) (i : line_room ≤ room) where
    course_page : (left : ℕ) → left ≡ budget - n → page_from S room n left w
        ≡ by_course n w (further_from room n budget w) (course w.state.halted w.state.time.clock n budget)
    unfolding page_from ending course when◌then◌else◌
    course_page zero e =
        let t : leb budget n ≡ true = le-leb budget n (omega arith) in
        when_false _ _ _ (le-ltb room line_room i)
        ∙ rw t (when_spent n w (further_from room n budget w) w.state.halted (ltb last_clock w.state.time.clock))
    course_page (suc left) e =
        let t : leb budget n ≡ false = lt-leb budget n (omega arith) in
        let f : left ≡ budget - (n + 1) = omega arith in
        when_false _ _ _ (le-ltb room line_room i)
        ∙ rw (t, f) (when_left n w (further_from room n budget w) w.state.halted (ltb last_clock w.state.time.clock))

    pub page_course : page_from S room n (budget - n) w
        ≡ by_course n w (further_from room n budget w) (course w.state.halted w.state.time.clock n budget)
    page_course = course_page (budget - n) refl

  -- a page without
  pub page_full : (room n left : ℕ) (w : World) → room < line_room → page_from S room n left w ≡ empty_page n w Steps
  unfolding page_from
  page_full room n zero w i = when_true _ _ _ (lt-ltb room line_room i)
  page_full room n (suc left) w i = when_true _ _ _ (lt-ltb room line_room i)

-- a text behind a text
behind_twice : (text line : List ℕ) (p : Page) → behind text (behind line p) ≡ behind (text ++ line) p
behind_twice text line p =
    ap (λ (z : List ℕ). record { text = z; steps = p.steps; world = p.world; remaining = p.remaining })
    (sym (append_assoc text line p.text))

-- a text that stands in the buffer, of a page that is known
module _ (p : Page) (entry exit : List ℕ) (start filled n : ℕ) (w : World) (remaining : Remaining) where
  page_written : (text : List ℕ) → p ≡ record { text = text; steps = n; world = w; remaining = remaining } → Put entry exit start filled text
      → filled ≤ length entry → PageWritten p entry exit start filled n w remaining
  page_written text e q i =
      record {
        bytes = q.lies ∙ ap (λ (z : Page). sets entry start z.text) (sym e);
        ends = q.ends ∙ ap (λ (z : Page). start + length z.text) (sym e);
        fits = i;
        count = ap (λ (z : Page). z.steps) (sym e);
        world = ap (λ (z : Page). z.world) (sym e);
        rest = ap (λ (z : Page). z.remaining) (sym e);
      }

-- the page that is written from where the run stands
module _ (S : Setting) (start made budget : ℕ) (from : World) (entry : List ℕ) where
  abbrev pub whole : Page
  whole = page_from S (length entry - start) made (budget - made) from

-- what the loop keeps: the lines so far stand in the buffer, and, of tested lists, what is left to write from here makes the whole page
module _ (L : Layout) (start made budget : ℕ) (from : World) (entry : List ℕ) where
  -- of tested lists: the upcoming indices, and that what is left to write behind a text makes the whole page
  pub record PageLeads (w : World) (steps filled : ℕ) (r : Requests) (text : List ℕ) : Type 0 where
    pub here : AtClock r w.state.time.clock
    pub lands : whole (setting_with L r) start made budget from entry
        ≡ behind text (page_from (setting_with L r) (length entry - filled) steps (budget - steps) w)

  pub record PageKeeps (out : List ℕ) (w : World) (steps filled : ℕ) (r : Requests) : Type 0 where
    pub size : length w.memory ≡ length from.memory
    pub fits : filled ≤ length entry
    pub text : List ℕ
    pub put : Put entry out start filled text
    pub leads : Tested r.lists → PageLeads w steps filled r text

  module _ (out : List ℕ) (w : World) (steps filled : ℕ) (r : Requests) (t : PageKeeps out w steps filled r) where
    abbrev S : Setting
    S = setting_with L r

    -- the buffer keeps its length
    pub page_length : length out ≡ length entry
    page_length = ap length t.put.lies ∙ length-sets entry start t.text

    -- a line more
    pub page_next : line_room ≤ length out - filled → course w.state.halted w.state.time.clock steps budget ≡ None
        → (m : State) (bytes : List ℕ) (o : Outcome) → (Tested r.lists → gives m bytes o ≡ step_of S w)
        → length bytes ≡ length w.memory → (further : List ℕ) (next : ℕ) → next ≤ length out
        → Put out further filled next (line_of (steps + 1) (gives m bytes o))
        → (later : Requests) → later.lists ≡ r.lists → (Tested r.lists → AtClock later m.time.clock)
        → PageKeeps further (world m bytes) (steps + 1) next later
    page_next i g m bytes o s b further next k p later e h =
        let l = page_length in
        let line = line_of (steps + 1) (gives m bytes o) in
        let f : length entry - filled - length line ≡ length entry - next = omega (arith, p.ends) in
        let more : line_room ≤ length entry - filled = omega arith in
        let same : setting_with L later ≡ S = ap (setting_by L) e in
        record {
          size = b ∙ t.size;
          fits = omega arith;
          text = t.text ++ line;
          put = put_then t.put p;
          leads = λ q.
              let tested = subst Tested e q in
              record {
                here = h tested;
                lands =
                    ap (λ (z : Setting). whole z start made budget from entry) same
                    ∙ (t.leads tested).lands
                    ∙ ap (behind t.text)
                    (page_course S (length entry - filled) steps budget w more
                    ∙ ap (by_course steps w (further_from S (length entry - filled) steps budget w)) g
                    ∙ ap (λ (z : Step). behind (line_of (steps + 1) z) (page_from S (length entry - filled - length (line_of (steps + 1) z)) (steps + 1) (budget - (steps + 1)) (world_after z))) (sym (s tested))
                    ∙ ap (λ (z : ℕ). behind line (page_from S z (steps + 1) (budget - (steps + 1)) (world m bytes))) f)
                    ∙ behind_twice t.text line (page_from S (length entry - next) (steps + 1) (budget - (steps + 1)) (world m bytes))
                    ∙ ap (λ (z : Setting). behind (t.text ++ line) (page_from z (length entry - next) (steps + 1) (budget - (steps + 1)) (world m bytes))) (sym same);
              };
        }

    -- no room for a line
    pub page_ends_full : Tested r.lists → length out - filled < line_room
        → PageWritten (whole S start made budget from entry) entry out start filled steps w Steps
    page_ends_full q i =
        let l = page_length in
        let e = (t.leads q).lands ∙ ap (behind t.text) (page_full S (length entry - filled) steps (budget - steps) w (omega arith)) in
        page_written _ entry out start filled steps w Steps (t.text ++ []) e (rw append-nil t.put) t.fits

    -- the end's line
    pub page_ends_last : Tested r.lists → line_room ≤ length out - filled → (end : End) → Some end ≡ course w.state.halted w.state.time.clock steps budget
        → (exit : List ℕ) (next : ℕ) → Put out exit filled next (end_line end steps w.state.time.clock) → next ≤ length out
        → PageWritten (whole S start made budget from entry) entry exit start next steps w Nothing
    page_ends_last q i end g exit next p k =
        let l = page_length in
        let e = (t.leads q).lands
        ∙ ap (behind t.text)
        (page_course S (length entry - filled) steps budget w (omega arith)
        ∙ ap (by_course steps w (further_from S (length entry - filled) steps budget w)) (sym g)) in
        page_written _ entry exit start next steps w Nothing (t.text ++ end_line end steps w.state.time.clock) e (put_then t.put p) (omega arith)

    -- the stamps before the upcoming ones are passed after a step too
    pub page_passed : Tested r.lists → w.state.halted ≡ false → (m : State) (bytes : List ℕ) (o : Outcome) → gives m bytes o ≡ step_of S w
        → HasPassed r m.time.clock
    page_passed q h m bytes o s =
        let rises = clock_rises S w.state w.memory h in
        let e : m.time.clock ≡ (step_of S w).state.time.clock = ap (λ (z : Step). z.state.time.clock) s in
        requests_later r w.state.time.clock m.time.clock (omega arith) (t.leads q).here

-- the page where the loop ends, of the lists that its requests stand on
module _ (L : Layout) (start made budget : ℕ) (from : World) (entry out rs saved mem : List ℕ) (c : Control) (steps filled : ℕ) (r : Requests)
    (t : PageKeeps L start made budget from entry out (world (with_registers rs saved c) mem) steps filled r)
    (T : RequestLists) (same : r.lists ≡ T) (tested : Tested T) where
  -- what is written of the requests' lists
  of_lists : (exit : List ℕ) (done : StepsWritten)
      → PageWritten (whole (setting_with L r) start made budget from entry) entry exit start done.filled done.steps
      (world (with_registers rs saved done.control) mem) done.remaining
      → PageWritten (whole (setting_by L T) start made budget from entry) entry exit start done.filled done.steps
      (world (with_registers rs saved done.control) mem) done.remaining
  of_lists exit done p =
      subst (λ (z : RequestLists). PageWritten (whole (setting_by L z) start made budget from entry) entry exit start done.filled done.steps
      (world (with_registers rs saved done.control) mem) done.remaining) same p

  -- with the end's line behind the lines before it
  pub page_ends : line_room ≤ length out - filled → (end : End) → Some end ≡ course c.halted c.time.clock steps budget
      → (exit : List ℕ) (done : StepsWritten) → LastLine end c steps out exit filled done
      → PageWritten (whole (setting_by L T) start made budget from entry) entry exit start done.filled done.steps
      (world (with_registers rs saved done.control) mem) done.remaining
  page_ends i end g exit done l =
      let p = page_ends_last L start made budget from entry out (world (with_registers rs saved c) mem) steps filled r t
      (subst Tested (sym same) tested) i end g exit done.filled (record { ends = l.ends; lies = l.bytes }) l.fits in
      of_lists exit done
      (record {
        bytes = p.bytes;
        ends = p.ends;
        fits = p.fits;
        count = l.count ∙ p.count;
        world = ap (λ (z : Control). world (with_registers rs saved z) mem) l.control ∙ p.world;
        rest = l.rest ∙ p.rest;
      })

  -- without room for one more
  pub page_ends_none : length out - filled < line_room → (done : StepsWritten) → done ≡ no_line c steps filled
      → PageWritten (whole (setting_by L T) start made budget from entry) entry out start done.filled done.steps
      (world (with_registers rs saved done.control) mem) done.remaining
  page_ends_none i done e =
      of_lists out done
      (subst (λ (z : StepsWritten). PageWritten (whole (setting_with L r) start made budget from entry) entry out start z.filled z.steps
      (world (with_registers rs saved z.control) mem) z.remaining) (sym e)
      (page_ends_full L start made budget from entry out (world (with_registers rs saved c) mem) steps filled r t (subst Tested (sym same) tested) i))
