-- Start, step and run on what a caller lends: the machine's own calls, on the machine and the layout of the caller's numbers.
use Rattle.std.specs.Prelude.{ℕ, ◌≡◌, List, Result}
use Rattle.answers.specs.declared.answer.Stopped.{Stopped}
use Rattle.answers.specs.declared.answer.Outcome.{Outcome}
use Rattle.base.specs.declared.refusal.Refusal.{Refusal}
use Rattle.definition.specs.Setting.{Trace, setting_of}
use Rattle.definition.specs.declared.stop_address.StopAddress.{StopAddress}
use Rattle.definition.specs.State.{world}
use Rattle.definition.specs.Answers.{start_refusal, step_refusal, run_refusal, step_kind, step_cause, run_end, run_steps}
use Rattle.definition.specs.Calls.{Called, start_call, step_call, run_call}
use Rattle.lentlayout.specs.Layout.{layout_of}
use Rattle.lentstate.specs.State.{Numbers, machine_of, numbers_of}
use Rattle.base.specs.Kept.{unless_refused}

-- the step call of a caller's machine, memory, layout, stamps and trace
unfoldable pub step_on : Numbers → List ℕ → List ℕ → List ℕ → Trace → Called (Result Outcome Refusal)
step_on machine memory layout stamps trace = step_call (setting_of (layout_of layout) stamps trace) (world (machine_of machine) memory)

-- the run call of a caller's machine, memory, layout, stamps, trace, stop address and budget
unfoldable pub run_on : Numbers → List ℕ → List ℕ → List ℕ → Trace → StopAddress → ℕ → Called (Result Stopped Refusal)
run_on machine memory layout stamps trace stop budget =
    run_call (setting_of (layout_of layout) stamps trace) stop budget (world (machine_of machine) memory)

-- what start promises of the number that it answers and of the machine's numbers after it
pub record StartReturns (mem : List ℕ) (before after : Numbers) (answered : ℕ) : Type 0 where
  pub number : answered ≡ start_refusal (start_call mem).answer
  pub machine : after ≡ unless_refused answered (numbers_of (start_call mem).state) before

-- what a call promises of the number that it answers, and after it of the machine's numbers, memory, and the two numbers of its answer
pub record CallReturns
    {A : Type 0} (refusal first second : A → ℕ) (done : Called A) (before after : Numbers) (bytes : List ℕ)
    (one one_then two two_then answered : ℕ) : Type 0 where
  pub number : answered ≡ refusal done.answer
  pub memory : bytes ≡ done.memory
  pub machine : after ≡ unless_refused answered (numbers_of done.state) before
  pub first_told : one_then ≡ unless_refused answered (first done.answer) one
  pub second_told : two_then ≡ unless_refused answered (second done.answer) two

-- what step promises: the two numbers are the kind's letter and the cause's number
abbrev pub StepReturns : List ℕ → List ℕ → List ℕ → Trace → Numbers → Numbers → List ℕ → ℕ → ℕ → ℕ → ℕ → ℕ → Type 0
StepReturns mem layout stamps trace before after bytes kind kind_then cause cause_then answered =
    CallReturns step_refusal step_kind step_cause (step_on before mem layout stamps trace) before after bytes kind kind_then cause cause_then answered

-- what run promises: the two numbers are the end's letter and how many steps were made
abbrev pub RunReturns : List ℕ → List ℕ → List ℕ → Trace → StopAddress → ℕ → Numbers → Numbers → List ℕ → ℕ → ℕ → ℕ → ℕ → ℕ → Type 0
RunReturns mem layout stamps trace stop budget before after bytes end end_then steps steps_then answered =
    CallReturns run_refusal run_end run_steps (run_on before mem layout stamps trace stop budget) before after bytes end end_then steps steps_then answered
