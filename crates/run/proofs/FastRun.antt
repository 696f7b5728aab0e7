-- What the body of a run's loop does: a burst of fast steps, or one step. Assumes nothing.
use Rattle.std.proofs.Common.{◌≡◌, ℕ, suc, ◌+◌, ◌-◌, ◌≤◌, false, ne_eqb, refl, sym, ◌∙◌, ap, arith}
use Rattle.base.specs.Limits.{last_clock}
use Rattle.definition.specs.Setting.{Setting}
use Rattle.definition.specs.declared.stop_address.StopAddress.{StopAddress}
use Rattle.definition.specs.declared.stop_address.StopAddress.TheVariants.{Nowhere, At}
use Rattle.definition.specs.Registers.{pc}
use Rattle.definition.specs.State.{World}
use Rattle.definition.specs.Interrupt.{Step}
use Rattle.definition.specs.Run.{at_stop, world_after, step_of, run_from, stop_or}
use Rattle.fast.specs.Steps.{stop_pc_of, RanSteps, none, on}
use Rattle.definition.proofs.step.CycleLaws.{clock_rises}
use Rattle.run.proofs.LoopLaws.{LoopStep, ending_goes}

-- a pc that a run does not stop at is not at the stop address
not_there : (stop : StopAddress) (a : ℕ) → (a ≡ stop_pc_of stop → ⊥) → at_stop stop a ≡ false
not_there Nowhere a h = refl
not_there (At b) a h = ne_eqb a b h

module _ (S : Setting) (stop : StopAddress) where
  looped : (n left : ℕ) (w next : World) → w.state.halted ≡ false → w.state.time.clock ≤ last_clock
      → at_stop stop (pc w.state.registers) ≡ false
      → world_after (step_of S w) ≡ next → run_from S stop n (suc left) w ≡ run_from S stop (n + 1) left next
  unfolding run_from
  looped n left w next h k a e =
      ap (stop_or n w _) (ending_goes stop w.state h k a) ∙ ap (run_from S stop (n + 1) left) e

  module _ (stop_pc : ℕ) (same : stop_pc ≡ stop_pc_of stop) where
    ran_lands : (from : World) (k : ℕ) (w : World) → RanSteps S stop_pc from k w → (n left : ℕ) → k ≤ left
        → run_from S stop n left from ≡ run_from S stop (n + k) (left - k) w
    ran_lands from k w none n left i =
        let e : n + 0 ≡ n = omega arith in
        let f : left - 0 ≡ left = omega arith in
        rw (e, f)
    ran_lands from k w (on j m v next l h c p s e) n left i =
        let f : left - j ≡ suc (left - m) = omega arith in
        let g : n + j + 1 ≡ n + m = omega arith in
        ran_lands from j v l n left (omega arith)
        ∙ ap (λ (z : ℕ). run_from S stop (n + j) z v) f
        ∙ looped (n + j) (left - m) v next h c (not_there stop _ (λ e. p (e ∙ sym same))) (ap world_after s)
        ∙ ap (λ (z : ℕ). run_from S stop z (left - m) next) g

    ran_rises : (from : World) (k : ℕ) (w : World) → RanSteps S stop_pc from k w
        → from.state.time.clock ≤ w.state.time.clock
    ran_rises from k w none = omega arith
    ran_rises from k w (on j m v next l h c p s e) =
        let r = clock_rises S v.state v.memory h in
        let i = ran_rises from j v l in
        let f = ap (λ (z : Step). z.state.time.clock) s in
        omega arith

    -- a step of the loop by fast steps, and one by a full step
    pub loop_step_fast : (left : ℕ) (from : World) (k : ℕ) (w : World) → RanSteps S stop_pc from k w → 1 ≤ k → k ≤ left
        → LoopStep S stop left from k w
    loop_step_fast left from k w l h i =
        record {
          some = h;
          within = i;
          rises = ran_rises from k w l;
          lands = λ n. ran_lands from k w l n left i;
        }

  pub loop_step_full : (left : ℕ) (w next : World) → w.state.halted ≡ false → w.state.time.clock ≤ last_clock
      → at_stop stop (pc w.state.registers) ≡ false → 1 ≤ left
      → next ≡ world_after (step_of S w) → LoopStep S stop left w 1 next
  loop_step_full left w next h c a i e =
      let r = clock_rises S w.state w.memory h in
      let f = ap (λ (z : World). z.state.time.clock) e in
      let s : left ≡ suc (left - 1) = omega arith in
      record {
        some = omega arith;
        within = i;
        rises = omega arith;
        lands = λ n. ap (λ (z : ℕ). run_from S stop n z w) s ∙ looped n (left - 1) w next h c a (sym e);
      }
