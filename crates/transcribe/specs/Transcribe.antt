-- A run's transcript, and the part of it that one call writes.
use Rattle.std.specs.Prelude.{ℕ, ◌+◌, ◌-◌, List, [], ◌∷◌, ◌++◌, ltb, length}
use Rattle.base.specs.Test.{when◌then◌else◌}
use Rattle.definition.specs.declared.stop_address.StopAddress.TheVariants.{Nowhere}
use Rattle.definition.specs.Setting.{Setting}
use Rattle.definition.specs.State.{World}
use Rattle.definition.specs.Run.{Stop, Move, run_from, moves}
use Rattle.transcript.specs.Transcript.{header_line, end_line, refusal_line}
use Rattle.steplines.specs.declared.remaining.Remaining.{Remaining}
use Rattle.steplines.specs.declared.remaining.Remaining.TheVariants.{RefusalLine, Header, Steps, Nothing}
use Rattle.steplines.specs.Page.{line_room, line_of, Page, empty_page, behind, page_from}

-- ---- the text that remains

-- a line for each step, numbered on from n
unfoldable pub step_lines : ℕ → List Move → List ℕ
step_lines n [] = []
step_lines n (m ∷ further) = line_of (n + 1) m.after ++ step_lines (n + 1) further

-- the line of where a run stopped
abbrev pub stop_line : Stop → List ℕ
stop_line s = end_line s.end s.steps s.state.time.clock

module _ (S : Setting) where
  -- of a run that has made n steps and has some left: a line for each further step, and the end's line
  unfoldable pub steps_text : ℕ → ℕ → World → List ℕ
  steps_text n left w = step_lines n (moves S Nowhere left w) ++ stop_line (run_from S Nowhere n left w)

  -- what is still to be written
  abbrev pub remaining_text : ℕ → ℕ → World → Remaining → List ℕ
  remaining_text n left w (RefusalLine r) = refusal_line r.refusal r.line
  remaining_text n left w Header = header_line ++ steps_text n left w
  remaining_text n left w Steps = steps_text n left w
  remaining_text n left w Nothing = []

-- how many lines remain, at most
abbrev pub lines_left : ℕ → Remaining → ℕ
lines_left left (RefusalLine r) = 1
lines_left left Header = left + 2
lines_left left Steps = left + 1
lines_left left Nothing = 0

-- ---- one call

module _ (S : Setting) where
  -- what one call writes, by what remains
  unfoldable pub page_of : ℕ → ℕ → ℕ → World → Remaining → Page
  page_of room n left w (RefusalLine r) =
      when ltb room line_room then empty_page n w (RefusalLine r) else behind (refusal_line r.refusal r.line) (empty_page n w Nothing)
  page_of room n left w Header =
      when ltb room line_room then empty_page n w Header else behind header_line (page_from S (room - length header_line) n left w)
  page_of room n left w Steps = page_from S room n left w
  page_of room n left w Nothing = empty_page n w Nothing
