-- What is written into a lent buffer, behind what is filled. No promise rests on it.
use Rattle.std.specs.Prelude.{ℕ, ◌+◌, ◌≤◌, List, ◌≡◌, length}
use Rattle.std.proofs.lemmas.List.Edits.{sets}
use Rattle.answers.specs.declared.answer.End.{End}
use Rattle.definition.specs.State.{World}
use Rattle.steplines.specs.declared.remaining.Remaining.{Remaining}
use Rattle.storage.specs.declared.control.Control.{Control}
use Rattle.transcript.specs.Transcript.{end_line}
use Rattle.steplines.specs.declared.remaining.Remaining.TheVariants.{Steps, Nothing}
use Rattle.steplines.specs.declared.steps.StepsWritten.{StepsWritten}
use Rattle.steplines.specs.Page.{Page}

-- a page that stands in the buffer from an index on: how far it is filled then, and what the page leaves
pub record PageWritten (p : Page) (entry exit : List ℕ) (start filled steps : ℕ) (w : World) (remaining : Remaining) : Type 0 where
  pub bytes : exit ≡ sets entry start p.text
  pub ends : filled ≡ start + length p.text
  pub fits : filled ≤ length entry
  pub count : steps ≡ p.steps
  pub world : w ≡ p.world
  pub rest : remaining ≡ p.remaining

-- the line of an end that stands in the buffer behind what is filled
pub record LastLine (end : End) (c : Control) (steps : ℕ) (entry exit : List ℕ) (filled : ℕ) (r : StepsWritten) : Type 0 where
  pub bytes : exit ≡ sets entry filled (end_line end steps c.time.clock)
  pub ends : r.filled ≡ filled + length (end_line end steps c.time.clock)
  pub fits : r.filled ≤ length entry
  pub control : r.control ≡ c
  pub count : r.steps ≡ steps
  pub rest : r.remaining ≡ Nothing

-- what is left where no line is written
abbrev pub no_line : Control → ℕ → ℕ → StepsWritten
no_line c steps filled = record { control = c; steps = steps; filled = filled; remaining = Steps }
