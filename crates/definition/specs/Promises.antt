-- What start, step and run promise: each is one record, on all that a caller can hand in.
use Rattle.std.specs.Prelude.{ℕ, ◌≡◌, List, Result}
use Rattle.answers.specs.declared.answer.Stopped.{Stopped}
use Rattle.answers.specs.declared.answer.Outcome.{Outcome}
use Rattle.base.specs.declared.refusal.Refusal.{Refusal}
use Rattle.base.specs.Verdict.{verdict, refused_by}
use Rattle.definition.specs.Setting.{Setting}
use Rattle.definition.specs.declared.state.State.{State}
use Rattle.definition.specs.declared.stop_address.StopAddress.{StopAddress}
use Rattle.definition.specs.State.{World}
use Rattle.definition.specs.Run.{step_of, run}
use Rattle.answers.specs.Outcome.{kind_letter, end_letter}
use Rattle.definition.specs.Answers.{start_refusal, step_refusal, run_refusal, cause_of, step_kind, step_cause, run_end, run_steps}
use Rattle.definition.specs.Calls.{start_tests, step_tests, run_tests, called, start_call, step_call, run_call}

-- a refusal alters no byte and hands the state back as it came
abbrev pub Untouched : ℕ → World → World → Type 0
Untouched number before after = (number ≡ 0 → ⊥) → (after.state ≡ before.state) × (after.memory ≡ before.memory)

-- what a start call promises of the state and the answer that it hands back; it writes no memory
pub record StartPromise (mem : List ℕ) (m : State) (answer : Result (Unit {0}) Refusal) : Type 0 where
  -- they are the definition's
  pub result : called m mem answer ≡ start_call mem
  -- the refusal's number is that of the first test that fails
  pub number : start_refusal answer ≡ refused_by (verdict (start_tests mem))

-- what a step call promises of the world that it leaves and of its answer
pub record StepPromise (S : Setting) (before after : World) (answer : Result Outcome Refusal) : Type 0 where
  -- state, every byte of memory, and answer are the definition's
  pub result : called after.state after.memory answer ≡ step_call S before
  -- the refusal's number is that of the first test that fails
  pub number : step_refusal answer ≡ refused_by (verdict (step_tests S before))
  -- where it is taken, the kind's letter and the cause's number are those of the definition's step
  pub kind : step_refusal answer ≡ 0 → step_kind answer ≡ kind_letter (step_of S before).outcome
  pub cause : step_refusal answer ≡ 0 → step_cause answer ≡ cause_of (step_of S before).outcome
  -- where it is refused, nothing is altered
  pub refused : Untouched (step_refusal answer) before after

-- what a run call promises of the world that it leaves and of its answer
pub record RunPromise (S : Setting) (stop : StopAddress) (budget : ℕ) (before after : World) (answer : Result Stopped Refusal) : Type 0 where
  -- state, every byte of memory, and answer are the definition's
  pub result : called after.state after.memory answer ≡ run_call S stop budget before
  -- the refusal's number is that of the first test that fails
  pub number : run_refusal answer ≡ refused_by (verdict (run_tests S stop budget before))
  -- where it is taken, the end's letter and the count are those of the definition's run
  pub end : run_refusal answer ≡ 0 → run_end answer ≡ end_letter (run S stop budget before).end
  pub steps : run_refusal answer ≡ 0 → run_steps answer ≡ (run S stop budget before).steps
  -- where it is refused, nothing is altered
  pub refused : Untouched (run_refusal answer) before after
