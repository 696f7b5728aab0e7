-- What a call knows where it is taken, and what it must hand back. Assumes nothing.
use Rattle.std.proofs.Common.{Result, Err, ◌≡◌, refl, ap, Bool, true, leb, List, [], ℕ, ◌≤◌, length, arith}
use Rattle.std.proofs.lemmas.Bool.Decides.{nat_tests}
use Rattle.answers.specs.declared.answer.Stopped.{Stopped}
use Rattle.answers.specs.declared.answer.Outcome.{Outcome}
use Rattle.base.specs.declared.refusal.Refusal.{Refusal}
use Rattle.base.specs.FirstFailure.{Test, holds_of}
use Rattle.base.specs.Limits.{memory_bytes, last_clock, most_budget}
use Rattle.base.specs.Verdict.{verdict, refused_by, unrefused}
use Rattle.base.proofs.Refusals.{number_not_zero}
use Rattle.base.proofs.Tests.{Each, none_fails}
use Rattle.layout.specs.Rules.{accepted}
use Rattle.definition.specs.Setting.{Setting}
use Rattle.definition.specs.declared.state.State.{State}
use Rattle.definition.specs.declared.stop_address.StopAddress.{StopAddress}
use Rattle.definition.specs.State.{World, world, framed}
use Rattle.definition.specs.Answers.{start_refusal}
use Rattle.definition.specs.Calls.{timetable, trace_fits, start_tests, stop_fits, tests_found, whole_memory, budget_tests, budget_and_stop_tests, step_tests, run_tests, transcript_tests, called, start_answered, step_answered, run_answered, start_call, step_call, run_call}
use Rattle.definition.specs.Promises.{StartPromise, StepPromise, RunPromise}
use Rattle.definition.specs.Laws.{ReadyToRun, RefusalsInOrder, RefusedUntouched}

-- ---- what is known where a call is taken

-- a refusal is no taken call
not_taken : (r : Refusal) → Err r ≡ unrefused → ⊥
not_taken r e = number_not_zero r (ap refused_by e)

-- each test of a call that is taken holds
pub all_hold : (ts : List (Test Refusal)) → verdict ts ≡ unrefused → Each (holds_of ts)
all_hold ts e = none_fails unrefused Err not_taken ts e

module _ (S : Setting) (w : World) where
  -- what every call on a machine that is taken knows, whatever its own tests and the clock's are
  found_ready : (own : List (Test Refusal)) (early : Bool)
      → verdict (tests_found (whole_memory w.memory) (accepted S.layout) (timetable S.stamps) (trace_fits S.trace) (framed S w.state) own early) ≡ unrefused
      → ReadyToRun S w
  found_ready own early e =
      let h = all_hold _ e in
      record { memory = h.0; layout = h.1.0; timetable = h.1.1.0; trace = h.1.1.1.0; frame = h.1.1.1.1.0 }

  pub step_ready : verdict (step_tests S w) ≡ unrefused → ReadyToRun S w
  step_ready e = found_ready [] (leb w.state.time.clock last_clock) e

  pub run_ready : (stop : StopAddress) (budget : ℕ) → verdict (run_tests S stop budget w) ≡ unrefused → ReadyToRun S w
  run_ready stop budget e =
      found_ready (budget_and_stop_tests (leb budget most_budget) (stop_fits stop)) (leb w.state.time.clock last_clock) e

  pub transcript_ready : (budget : ℕ) → verdict (transcript_tests S budget w) ≡ unrefused → ReadyToRun S w
  transcript_ready budget e = found_ready (budget_tests (leb budget most_budget)) true e

module _ (S : Setting) where
  -- memory is whole, the stamps are a timetable, the trace is one, the clock is not late
  pub record Fit (w : World) : Type 0 where
    pub whole : length w.memory ≡ memory_bytes
    pub timed : timetable S.stamps ≡ true
    pub traced : trace_fits S.trace ≡ true
    pub early : w.state.time.clock ≤ last_clock

  pub step_fit : (w : World) → verdict (step_tests S w) ≡ unrefused → Fit w
  step_fit w e = let h = all_hold (step_tests S w) e in grind (arith, nat_tests)

-- ---- what is promised follows from the result

-- what start answers, by the verdict
start_number : (mem : List ℕ) (v : Result (Unit {0}) Refusal) → start_refusal (start_answered mem v).answer ≡ refused_by v
start_number mem v = grind arith

pub start_promised : (mem : List ℕ) (m : State) (answer : Result (Unit {0}) Refusal) → called m mem answer ≡ start_call mem → StartPromise mem m answer
unfolding start_call
start_promised mem m answer e = grind (arith, start_number mem (verdict (start_tests mem)))

module _ (S : Setting) (before after : World) where
  module _ (answer : Result Outcome Refusal) where
    step_answers : (v : Result (Unit {0}) Refusal) → verdict (step_tests S before) ≡ v
        → called after.state after.memory answer ≡ step_answered S before v
        → called after.state after.memory answer ≡ step_call S before → StepPromise S before after answer
    step_answers v h e r = grind (arith, number_not_zero)

    pub step_promised : called after.state after.memory answer ≡ step_call S before → StepPromise S before after answer
    unfolding step_call
    step_promised e = step_answers (verdict (step_tests S before)) refl e e

  module _ (stop : StopAddress) (budget : ℕ) (answer : Result Stopped Refusal) where
    run_answers : (v : Result (Unit {0}) Refusal) → verdict (run_tests S stop budget before) ≡ v
        → called after.state after.memory answer ≡ run_answered S stop budget before v
        → called after.state after.memory answer ≡ run_call S stop budget before → RunPromise S stop budget before after answer
    run_answers v h e r = grind (arith, number_not_zero)

    pub run_promised : called after.state after.memory answer ≡ run_call S stop budget before
        → RunPromise S stop budget before after answer
    unfolding run_call
    run_promised e = run_answers (verdict (run_tests S stop budget before)) refl e e

-- ---- what a call gives, by the verdict on its tests

module _ (S : Setting) (w : World) (v : Result (Unit {0}) Refusal) where
  pub step_call_lem : verdict (step_tests S w) ≡ v → step_call S w ≡ step_answered S w v
  unfolding step_call
  step_call_lem e = grind arith

  pub run_call_lem : (stop : StopAddress) (budget : ℕ) → verdict (run_tests S stop budget w) ≡ v
      → run_call S stop budget w ≡ run_answered S stop budget w v
  unfolding run_call
  run_call_lem stop budget e = grind arith

-- ---- every call

pub refusals_in_order : RefusalsInOrder
unfolding RefusalsInOrder
refusals_in_order S stop budget w = (refl, refl, refl)

pub refused_untouched : RefusedUntouched
unfolding RefusedUntouched
refused_untouched S stop budget w = (
  (step_promised S w (world (step_call S w).state (step_call S w).memory) (step_call S w).answer refl).refused,
  (run_promised S w (world (run_call S stop budget w).state (run_call S stop budget w).memory) stop budget (run_call S stop budget w).answer refl).refused,
)
