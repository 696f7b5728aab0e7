-- Step and run refuse numbers whose halted or held is neither 0 nor 1. Assumes nothing.
use Rattle.std.proofs.Common.{Result, Err, Ok, ◌≡◌, refl, ℕ}
use Rattle.base.specs.declared.refusal.Refusal.{Refusal}
use Rattle.base.specs.Verdict.{unrefused}
use Rattle.base.proofs.Refusals.{number_not_zero}
use Rattle.definition.specs.Setting.{Setting, setting_of}
use Rattle.definition.specs.declared.stop_address.StopAddress.{StopAddress}
use Rattle.definition.specs.State.{World, world}
use Rattle.definition.specs.Answers.{run_refusal, step_refusal}
use Rattle.definition.specs.Calls.{step_answered, run_answered, step_call, run_call}
use Rattle.definition.proofs.run.CallLaws.{step_ready, run_ready}
use Rattle.lentlayout.specs.Layout.{layout_of}
use Rattle.lentstate.specs.State.{machine_of}
use Rattle.lentstate.specs.Laws.{OddFlagUnframed}
use Rattle.lentstate.proofs.FlagLaws.{odd_flag_unframed}
use Rattle.lentcalls.specs.Calls.{step_on, run_on}
use Rattle.lentcalls.specs.Laws.{OddFlagRefused}

module _ (S : Setting) (w : World) where
  step_number : (v : Result (Unit {0}) Refusal) → step_refusal (step_answered S w v).answer ≡ 0 → v ≡ unrefused
  step_number (Ok _) e = refl
  step_number (Err r) e = absurd (number_not_zero r e)

  run_number : (stop : StopAddress) (budget : ℕ) (v : Result (Unit {0}) Refusal) → run_refusal (run_answered S stop budget w v).answer ≡ 0 → v ≡ unrefused
  run_number stop budget (Ok _) e = refl
  run_number stop budget (Err r) e = absurd (number_not_zero r e)

pub odd_flag_refused : OddFlagRefused
unfolding OddFlagRefused OddFlagUnframed step_on run_on step_call run_call
odd_flag_refused n mem layout stamps trace h =
    let S = setting_of (layout_of layout) stamps trace in
    let w = world (machine_of n) mem in
    let f = odd_flag_unframed S n h in (
      (λ e. cc (step_ready S w (step_number S w _ e)).frame),
      (λ stop budget e. cc (run_ready S w stop budget (run_number S w stop budget _ e)).frame),
    )
