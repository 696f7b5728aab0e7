-- What code hands back of a step.
use Rattle.definition.specs.Interrupt.{Step}
use Rattle.answers.specs.declared.answer.Outcome.{Outcome}
use Rattle.definition.specs.declared.state.State.{State}
use Rattle.storage.specs.declared.answered.Answered.{Answered}

-- what code hands back of a step: memory it writes where it lies
abbrev pub step_result : Step → Answered State Outcome
step_result s = record { machine = s.state; answer = s.outcome }
