-- A machine whose registers are lent: the saved copy by what is held, and what is left of it, apart and joined. Assumes nothing.
use Rattle.std.proofs.Common.{◌≡◌, ℕ, ◌≤◌, Bool, List, get_or, sym, ◌∙◌, ap, subst, arith, ne_eqb}
use Rattle.std.proofs.lemmas.Bool.{not-true}
use Rattle.base.proofs.Tests.{when_false}
use Rattle.definition.specs.Setting.{Setting}
use Rattle.definition.specs.declared.state.State.{State}
use Rattle.definition.specs.State.{World, world, is_held}
use Rattle.definition.specs.Interrupt.{gives}
use Rattle.definition.specs.Step.{saved_for, step}
use Rattle.definition.specs.Run.{step_of}
use Rattle.storage.specs.declared.control.Control.{Control}
use Rattle.storage.specs.Control.{with_registers}
use Rattle.answers.specs.declared.answer.Outcome.{Outcome}
use Rattle.storage.specs.declared.answered.Answered.{Answered}
use Rattle.fast.specs.declared.steps.FastProgress.{FastProgress}
use Rattle.fast.specs.Steps.{RanSteps, FastSteps, fast_state, saved_after}
use Rattle.fast.proofs.FastSteps.{fast_steps_ran}
use Rattle.interrupt.proofs.Yields.{Yields}
use Rattle.inplace.specs.internal.InPlace.{control_after, FastUntil, FastRanSteps}
use Rattle.inplace.proofs.RanLaws.{ran_none}

module _ (S : Setting) where
  -- fast steps up to such a clock value are steps that only ran
  pub fast_ran : (rs mem rs' bytes : List ℕ) (c : Control) (until stop_pc : ℕ) (held : Bool) (progress : FastProgress)
      → FastUntil S (get_or rs 2 0) c until → held ≡ is_held c.context
      → FastSteps S.layout held until stop_pc (fast_state rs c.previous c.time.clock mem) progress.steps
      (fast_state rs' progress.previous progress.clock bytes)
      → FastRanSteps S stop_pc c rs mem progress rs' bytes
  fast_ran rs mem rs' bytes c until stop_pc held progress s h q =
      λ saved. fast_steps_ran S rs saved mem c until stop_pc _ held s.0 s.1 h (λ l. not-true _ l) _ _ q

  module _
      (stop_pc : ℕ) (c : Control) (rs mem : List ℕ) (progress : FastProgress) (rs' bytes : List ℕ)
      (q : FastRanSteps S stop_pc c rs mem progress rs' bytes) where
    -- a burst of no step leaves everything as it is
    pub burst_none : progress.steps ≡ 0 → (saved : List ℕ) → world (with_registers rs' saved c) bytes ≡ world (with_registers rs saved c) mem
    burst_none e saved =
        ap (λ (w : World). world (with_registers w.state.registers saved c) w.memory) (ran_none S stop_pc _ _ _ (q saved) e)

    -- after some fast steps the saved copy is the one that a step hands back
    pub burst_some : 1 ≤ progress.steps → (saved kept : List ℕ) → kept ≡ saved_for c.context saved → (d : Control) → d ≡ control_after c progress
        → RanSteps S stop_pc (world (with_registers rs saved c) mem) progress.steps (world (with_registers rs' kept d) bytes)
    unfolding saved_after
    burst_some i saved kept e d f =
        subst (λ (x : Control). RanSteps S stop_pc (world (with_registers rs saved c) mem) progress.steps (world (with_registers rs' kept x) bytes)) (sym f)
        (subst (λ (z : List ℕ). RanSteps S stop_pc (world (with_registers rs saved c) mem) progress.steps (world (with_registers rs' z (control_after c progress)) bytes))
        (when_false _ _ _ (ne_eqb progress.steps 0 (λ z. absurd (omega arith))) ∙ sym e) (q saved))

  -- what a full step leaves, apart and joined again
  pub full_gives : (rs saved mem bytes rs' saved' : List ℕ) (c d : Control) (m : State) (done : Answered State Outcome) → m ≡ with_registers rs saved c
      → Yields done bytes (step S m mem) → with_registers rs' saved' d ≡ done.machine
      → gives (with_registers rs' saved' d) bytes done.answer ≡ step_of S (world (with_registers rs saved c) mem)
  full_gives rs saved mem bytes rs' saved' c d m done e h k =
      ap (λ (z : State). gives z bytes done.answer) k
      ∙ ap (λ (z : Answered State Outcome). gives z.machine bytes z.answer) h.0
      ∙ ap (λ (z : List ℕ). gives (step S m mem).state z (step S m mem).outcome) h.1
      ∙ ap (λ (z : State). step S z mem) e
