-- The lines of a run's steps and of its end that one call writes: as many as there is room for.
use Rattle.std.specs.Prelude.{ℕ, zero, suc, ◌+◌, ◌-◌, List, [], ◌++◌, ltb, length}
use Rattle.base.specs.Test.{when◌then◌else◌}
use Rattle.definition.specs.declared.stop_address.StopAddress.TheVariants.{Nowhere}
use Rattle.definition.specs.Setting.{Setting}
use Rattle.answers.specs.declared.answer.End.{End}
use Rattle.answers.specs.declared.answer.End.TheVariants.{Spent}
use Rattle.definition.specs.Registers.{pc, sr}
use Rattle.definition.specs.State.{World}
use Rattle.definition.specs.Interrupt.{Step}
use Rattle.definition.specs.Run.{Going, goes, stops, ending, world_after, step_of}
use Rattle.transcript.specs.Transcript.{step_line, end_line}
use Rattle.steplines.specs.declared.remaining.Remaining.{Remaining}
use Rattle.steplines.specs.declared.remaining.Remaining.TheVariants.{Steps, Nothing}

-- the room that a line is given: no line is longer
abbrev pub line_room : ℕ
line_room = 64

-- the line of the step with this number
abbrev pub line_of : ℕ → Step → List ℕ
line_of n s = step_line n s.outcome s.state.time.clock (pc s.state.registers) (sr s.state.registers)

-- what one call writes, and where the transcript stands then: the steps made so far, the world, what remains
pub record Page : Type 0 where
  pub text : List ℕ
  pub steps : ℕ
  pub world : World
  pub remaining : Remaining

-- nothing is written
abbrev pub empty_page : ℕ → World → Remaining → Page
empty_page n w remaining = record { text = []; steps = n; world = w; remaining = remaining }

-- a text, and what follows it
abbrev pub behind : List ℕ → Page → Page
behind text p = record { text = text ++ p.text; steps = p.steps; world = p.world; remaining = p.remaining }

-- the end's line, after which nothing remains
abbrev pub end_page : ℕ → World → End → Page
end_page n w e = record { text = end_line e n w.state.time.clock; steps = n; world = w; remaining = Nothing }

-- the end's line where the run stops, else what further lines there are
abbrev pub end_or : ℕ → World → Page → Going → Page
end_or n w further goes = further
end_or n w further (stops e) = end_page n w e

module _ (S : Setting) where
  -- lines as long as there is room for one; a step is made only where its line is written
  unfoldable pub page_from : ℕ → ℕ → ℕ → World → Page
  page_from room n zero w = when ltb room line_room then empty_page n w Steps else end_or n w (end_page n w Spent) (ending Nowhere w.state)
  page_from room n (suc left) w =
      let line = line_of (n + 1) (step_of S w) in
      let further = page_from (room - length line) (n + 1) left (world_after (step_of S w)) in
      when ltb room line_room then empty_page n w Steps else end_or n w (behind line further) (ending Nowhere w.state)
