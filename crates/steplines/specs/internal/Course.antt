-- Whether a run goes on, of its count and budget. No promise rests on it.
use Rattle.std.specs.Prelude.{ℕ, Bool, leb, ltb, Option, None, Some}
use Rattle.answers.specs.declared.answer.End.{End}
use Rattle.base.specs.Test.{when◌then◌else◌}
use Rattle.base.specs.Limits.{last_clock}
use Rattle.definition.specs.State.{World}
use Rattle.steplines.specs.Page.{Page, end_page}
use Rattle.answers.specs.declared.answer.End.TheVariants.{Halted, Clock, Spent}

-- the ends in order: halted, the clock, the budget
unfoldable pub course : Bool → ℕ → ℕ → ℕ → Option End
course halted clock steps budget =
    when halted then Some Halted else when ltb last_clock clock then Some Clock else when leb budget steps then Some Spent else None

-- further lines where the run goes on, else the end's line
abbrev pub by_course : ℕ → World → Page → Option End → Page
by_course n w further None = further
by_course n w further (Some e) = end_page n w e
