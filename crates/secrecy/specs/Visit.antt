-- The visits of a run, in the order of their starts, each with its end if it has one.
use Rattle.std.specs.Prelude.{ℕ, zero, suc, ◌+◌, Bool, false, not, List, [], ◌∷◌, ◌++◌, leb, eqb, Result, Ok, Err}
use Rattle.answers.specs.declared.answer.Cause.{Cause}
use Rattle.isa.specs.declared.instruction.Instruction.{Instruction}
use Rattle.base.specs.Test.{when◌then◌else◌, all}
use Rattle.isa.specs.Cycles.{cycles_of}
use Rattle.layout.specs.Sections.{entry, inside}
use Rattle.definition.specs.Setting.{Setting}
use Rattle.definition.specs.declared.state.State.{State}
use Rattle.definition.specs.Registers.{pc}
use Rattle.answers.specs.Outcome.{is_reset}
use Rattle.definition.specs.State.{is_held}
use Rattle.definition.specs.Step.{judged}
use Rattle.definition.specs.Run.{Move}
use Rattle.secrecy.specs.Sighting.{begins_outside}

-- the ways to end
pub data Way : Type 0 where
  leaving own_reset : Way

-- an end: the clock and registers at the step that begins outside, or after the own reset; the own cycles; the way
pub record VisitEnd : Type 0 where
  pub clock : ℕ
  pub own : ℕ
  pub way : Way
  pub registers : List ℕ

-- whether a visit has ended, and how
pub data Fate : Type 0 where
  unended : Fate
  ended : VisitEnd → Fate

-- a visit: the clock at its start, and its fate
pub record Visit : Type 0 where
  pub start : ℕ
  pub fate : Fate

-- no visit goes on, or one does: the clock at its start and its own cycles so far
pub data Phase : Type 0 where
  away : Phase
  visiting : ℕ → ℕ → Phase

-- what the judgement of a step says of its own cycles: the instruction's, waits left out; 4 for a reset
abbrev pub judged_cycles : Result Instruction Cause → ℕ
judged_cycles (Err c) = 4
judged_cycles (Ok i) = cycles_of i

-- the own cycles of a step
abbrev pub own_cycles : Setting → Move → ℕ
own_cycles S v = judged_cycles (judged S v.before)

-- the step of a machine starts a visit: none held, at the entry, the previous address not inside
abbrev pub starts_visit : Setting → State → Bool
starts_visit S m =
    all (not (is_held m.context) ∷ eqb (pc m.registers) (entry S.layout) ∷ not (inside S.layout m.previous) ∷ [])

-- the phase in which a step is made: one that starts a visit is the first of it
abbrev pub entered : Setting → Move → Phase → Phase
entered S v p = when starts_visit S v.before.state then visiting v.before.state.time.clock 0 else p

-- a visit that has not ended: dropped by a service routine's reset, halted, or still going on
abbrev pub unended_visit : Phase → List Visit
unended_visit away = []
unended_visit (visiting start own) = record { start = start; fate = unended } ∷ []

-- a visit that ends, with n own cycles more
abbrev pub closed : Phase → ℕ → ℕ → Way → List ℕ → List Visit
closed away clock n way registers = []
closed (visiting start own) clock n way registers =
    record { start = start; fate = ended (record { clock = clock; own = own + n; way = way; registers = registers }) } ∷ []

-- a visit that goes on, with n own cycles more
abbrev pub longer : Phase → ℕ → Phase
longer away n = away
longer (visiting start own) n = visiting start (own + n)

-- the visits of a run from a phase on, by what each step's own cycles are
unfoldable pub visits_by : (Setting → Move → ℕ) → Setting → Phase → List Move → List Visit
visits_by own S p [] = unended_visit p
visits_by own S p (v ∷ vs) =
    -- a visit is held: a service routine's step, whose reset drops it
    when is_held v.before.state.context then
    when is_reset v.after.outcome then unended_visit p ++ visits_by own S away vs else visits_by own S p vs
    -- a step begins outside with none held: a visit has ended by leaving
    else when begins_outside S v then
    closed p v.before.state.time.clock 0 leaving v.before.state.registers ++ visits_by own S away vs
    -- pc in code or data, none held: an own reset, or an instruction inside
    else when is_reset v.after.outcome then
    closed (entered S v p) v.after.state.time.clock (own S v) own_reset v.after.state.registers
    ++ visits_by own S away vs
    else visits_by own S (longer (entered S v p) (own S v)) vs

-- the visits of a run from a phase on
abbrev pub visits : Setting → Phase → List Move → List Visit
visits S p vs = visits_by own_cycles S p vs

-- visit number k; a run that has none has not ended it
abbrev pub fate_at : List Visit → ℕ → Fate
fate_at [] k = unended
fate_at (v ∷ vs) zero = v.fate
fate_at (v ∷ vs) (suc k) = fate_at vs k

-- it ended at the clock value T or below
abbrev pub ended_by : ℕ → Fate → Bool
ended_by T unended = false
ended_by T (ended e) = leb e.clock T
