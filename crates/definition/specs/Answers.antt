-- The answers of calls in the papers' numbers and letters; each is 0 where there is none.
use Rattle.std.specs.Prelude.{ℕ, Result, Ok, Err}
use Rattle.answers.specs.declared.answer.Stopped.{Stopped}
use Rattle.base.specs.declared.refusal.Refusal.{Refusal}
use Rattle.base.specs.Refusal.{refusal_number}
use Rattle.answers.specs.declared.answer.Outcome.{Outcome}
use Rattle.answers.specs.declared.answer.Outcome.TheVariants.{Ran, Plain, Padded, Chained, Back, Reset, Halted}
use Rattle.answers.specs.Outcome.{cause_number, kind_letter, end_letter}

-- the number of the refusal of start
abbrev pub start_refusal : Result (Unit {0}) Refusal → ℕ
start_refusal (Ok _) = 0
start_refusal (Err r) = refusal_number r

-- of step
abbrev pub step_refusal : Result Outcome Refusal → ℕ
step_refusal (Ok o) = 0
step_refusal (Err r) = refusal_number r

-- of run
abbrev pub run_refusal : Result Stopped Refusal → ℕ
run_refusal (Ok s) = 0
run_refusal (Err r) = refusal_number r

-- the number of the cause of an outcome
abbrev pub cause_of : Outcome → ℕ
cause_of Ran = 0
cause_of Plain = 0
cause_of Padded = 0
cause_of Chained = 0
cause_of Back = 0
cause_of (Reset cause) = cause_number cause
cause_of Halted = 0

-- the letter of what a step did
abbrev pub step_kind : Result Outcome Refusal → ℕ
step_kind (Ok o) = kind_letter o
step_kind (Err r) = 0

-- the number of its cause
abbrev pub step_cause : Result Outcome Refusal → ℕ
step_cause (Ok o) = cause_of o
step_cause (Err r) = 0

-- the letter of why a run stopped
abbrev pub run_end : Result Stopped Refusal → ℕ
run_end (Ok s) = end_letter s.end
run_end (Err r) = 0

-- the number of steps of a run
abbrev pub run_steps : Result Stopped Refusal → ℕ
run_steps (Ok s) = s.steps
run_steps (Err r) = 0
