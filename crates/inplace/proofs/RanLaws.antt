-- Steps that only ran: none of them, and one. Assumes nothing.
use Rattle.std.proofs.Common.{◌≡◌, ℕ, ◌≤◌, refl, sym, ◌∙◌, ap, arith}
use Rattle.definition.specs.Setting.{Setting}
use Rattle.answers.specs.declared.answer.Outcome.TheVariants.{Ran}
use Rattle.definition.specs.State.{World}
use Rattle.definition.specs.Interrupt.{gives}
use Rattle.definition.specs.Run.{step_of}
use Rattle.fast.specs.Steps.{RanSteps, none, on}

module _ (S : Setting) (stop_pc : ℕ) where
  -- no fast step, and one
  pub ran_none : (from : World) (k : ℕ) (w : World) → RanSteps S stop_pc from k w → k ≡ 0 → w ≡ from
  ran_none from k w none z = refl
  ran_none from k w (on j m v next l h c p s e) z = absurd (omega arith)

  pub ran_one : (from : World) (k : ℕ) (w : World) → RanSteps S stop_pc from k w → 1 ≤ k → k ≤ 1
      → step_of S from ≡ gives w.state w.memory Ran
  ran_one from k w none i j = absurd (omega arith)
  ran_one from k w (on j m v next l h c p s e) i o =
      let z : j ≡ 0 = omega arith in
      ap (step_of S) (sym (ran_none from j v l z)) ∙ s
