-- What code hands back of a step, and what the padded check leaves of it. Assumes nothing.
use Rattle.std.proofs.Common.{◌≡◌, refl, true, List, [], ℕ, Option, None, Some}
use Rattle.definition.specs.Setting.{Setting}
use Rattle.definition.specs.declared.state.Time.{Time}
use Rattle.definition.specs.declared.state.State.{State}
use Rattle.answers.specs.declared.answer.Outcome.{Outcome}
use Rattle.answers.specs.declared.answer.Outcome.TheVariants.{Back}
use Rattle.storage.specs.declared.answered.Answered.{Answered}
use Rattle.definition.specs.Interrupt.{Step, padded, interrupted, chained, resumed}
use Rattle.interrupt.specs.StepResult.{step_result}

-- what is handed back: the machine with the outcome, and memory
abbrev pub Yields : Answered State Outcome → List ℕ → Step → Type 0
Yields r bytes s = (r ≡ step_result s) × (bytes ≡ s.memory)

module _ (S : Setting) where
  -- the padded check leaves memory alone, and does not look at it
  padded_check : (m : State) (mem : List ℕ) (o : Outcome) (d : Option ℕ)
      → Yields (step_result (interrupted S true o m [] d)) mem (interrupted S true o m mem d)
  unfolding interrupted padded
  padded_check m mem o None = (refl, refl)
  padded_check m mem o (Some s) = (refl, refl)

  -- so does the return to a held visit
  pub return_yields : (t : Time) (previous age : ℕ) (saved mem : List ℕ) (slot : Option ℕ)
      → Yields (step_result (resumed S t previous age saved [] slot)) mem (resumed S t previous age saved mem slot)
  unfolding resumed chained
  return_yields t previous age saved mem (Some s) = (refl, refl)
  return_yields t previous age saved mem None = padded_check _ mem Back _
