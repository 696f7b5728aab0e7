-- Runs of the machine whose runs knew no stop address, as they were. No contract cites them: the law on runs without one does.
use Rattle.std.specs.Prelude.{ℕ, zero, suc, ◌+◌, List, [], ◌∷◌, leb, ltb, Result, Ok, Err}
use Rattle.base.specs.Test.{when◌then◌else◌}
use Rattle.base.specs.FirstFailure.{Test}
use Rattle.base.specs.Limits.{last_clock, most_budget}
use Rattle.base.specs.Verdict.{verdict}
use Rattle.base.specs.declared.refusal.Refusal.{Refusal}
use Rattle.answers.specs.declared.answer.End.TheVariants.{Halted, Clock, Spent}
use Rattle.answers.specs.declared.answer.Stopped.{Stopped}
use Rattle.answers.specs.Outcome.{stopped}
use Rattle.definition.specs.Setting.{Setting}
use Rattle.definition.specs.declared.state.State.{State}
use Rattle.definition.specs.State.{World}
use Rattle.definition.specs.Run.{Going, goes, stops, Stop, Move, world_after, step_of, stop_or, none_or}
use Rattle.definition.specs.Calls.{budget_tests, call_tests, Called, called}

-- the ends before the budget, in order
unfoldable pub ending_without_stop : State → Going
ending_without_stop m = when m.halted then stops Halted else when ltb last_clock m.time.clock then stops Clock else goes

module _ (S : Setting) where
  -- n steps made so far, and the budget that is left
  unfoldable pub run_from_without_stop : ℕ → ℕ → World → Stop
  run_from_without_stop n zero w =
      stop_or n w (record { state = w.state; memory = w.memory; end = Spent; steps = n }) (ending_without_stop w.state)
  run_from_without_stop n (suc left) w =
      let further = run_from_without_stop (n + 1) left (world_after (step_of S w)) in
      stop_or n w further (ending_without_stop w.state)

  -- run: its count is the number of steps made
  unfoldable pub run_without_stop : ℕ → World → Stop
  run_without_stop budget w = run_from_without_stop 0 budget w

  -- the steps of a run, in order
  unfoldable pub moves_without_stop : ℕ → World → List Move
  moves_without_stop zero w = []
  moves_without_stop (suc left) w =
      let further : List Move = record { before = w; after = step_of S w } ∷ moves_without_stop left (world_after (step_of S w)) in
      none_or further (ending_without_stop w.state)

  -- the tests of run: 1 to 6, with 10 after 3
  abbrev pub run_tests_without_stop : ℕ → World → List (Test Refusal)
  run_tests_without_stop budget w = call_tests S w (budget_tests (leb budget most_budget))

  -- what a run call leaves, by the verdict
  abbrev pub run_answered_without_stop : ℕ → World → Result (Unit {0}) Refusal → Called (Result Stopped Refusal)
  run_answered_without_stop budget w (Ok _) =
      let s = run_without_stop budget w in called s.state s.memory (Ok (stopped s.end s.steps))
  run_answered_without_stop budget w (Err r) = called w.state w.memory (Err r)

  -- run
  unfoldable pub run_call_without_stop : ℕ → World → Called (Result Stopped Refusal)
  run_call_without_stop budget w = run_answered_without_stop budget w (verdict (run_tests_without_stop budget w))
