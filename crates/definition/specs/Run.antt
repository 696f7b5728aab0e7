-- Many steps: a run stops at the first of halted, clock above 2^62, stop address, budget spent.
use Rattle.std.specs.Prelude.{ℕ, zero, suc, ◌+◌, Bool, false, List, [], ◌∷◌, eqb, ltb}
use Rattle.base.specs.Test.{when◌then◌else◌}
use Rattle.base.specs.Limits.{last_clock}
use Rattle.definition.specs.Setting.{Setting}
use Rattle.definition.specs.declared.state.State.{State}
use Rattle.definition.specs.declared.stop_address.StopAddress.{StopAddress}
use Rattle.definition.specs.declared.stop_address.StopAddress.TheVariants.{Nowhere, At}
use Rattle.answers.specs.declared.answer.End.{End}
use Rattle.answers.specs.declared.answer.End.TheVariants.{Halted, Clock, Address, Spent}
use Rattle.definition.specs.Registers.{pc}
use Rattle.definition.specs.State.{World, world}
use Rattle.definition.specs.Interrupt.{Step}
use Rattle.definition.specs.Step.{step}

-- whether a run goes on, or why it stops
pub data Going : Type 0 where
  goes : Going
  stops : End → Going

-- a pc is at the stop address
abbrev pub at_stop : StopAddress → ℕ → Bool
at_stop Nowhere a = false
at_stop (At b) a = eqb a b

-- the ends before the budget, in order; the stop address is looked for at the pc before a step
unfoldable pub ending : StopAddress → State → Going
ending stop m =
    when m.halted then stops Halted
    else when ltb last_clock m.time.clock then stops Clock
    else when at_stop stop (pc m.registers) then stops Address
    else goes

-- where a run stopped: the world there, why, and how many steps it made
pub record Stop : Type 0 where
  pub state : State
  pub memory : List ℕ
  pub end : End
  pub steps : ℕ

-- one step, with the world before it
pub record Move : Type 0 where
  pub before : World
  pub after : Step

-- the world that a step leaves
abbrev pub world_after : Step → World
world_after s = world s.state s.memory

-- the step of a world
abbrev pub step_of : Setting → World → Step
step_of S w = step S w.state w.memory

-- a run that has made n steps stops here, or goes on to where it stops further
abbrev pub stop_or : ℕ → World → Stop → Going → Stop
stop_or n w further goes = further
stop_or n w further (stops e) = record { state = w.state; memory = w.memory; end = e; steps = n }

-- no further moves where the run stops
abbrev pub none_or : List Move → Going → List Move
none_or further goes = further
none_or further (stops e) = []

module _ (S : Setting) (stop : StopAddress) where
  -- n steps made so far, and the budget that is left
  unfoldable pub run_from : ℕ → ℕ → World → Stop
  run_from n zero w = stop_or n w (record { state = w.state; memory = w.memory; end = Spent; steps = n }) (ending stop w.state)
  run_from n (suc left) w =
      let further = run_from (n + 1) left (world_after (step_of S w)) in stop_or n w further (ending stop w.state)

  -- run: its count is the number of steps made
  unfoldable pub run : ℕ → World → Stop
  run budget w = run_from 0 budget w

  -- the steps of a run, in order
  unfoldable pub moves : ℕ → World → List Move
  moves zero w = []
  moves (suc left) w =
      let further : List Move = record { before = w; after = step_of S w } ∷ moves left (world_after (step_of S w)) in
      none_or further (ending stop w.state)
