-- A step of a running machine adds 1 to 23 cycles, and a halted machine stays as it is. Assumes nothing.
use Rattle.std.proofs.Common.{◌≡◌, ap, false, List, ℕ, ◌+◌, ◌≤◌, arith}
use Rattle.base.proofs.Tests.{choices}
use Rattle.isa.specs.declared.instruction.Instruction.{Instruction}
use Rattle.definition.specs.State.{held_visit}
use Rattle.definition.specs.Setting.{Setting}
use Rattle.definition.specs.declared.state.State.{State}
use Rattle.answers.specs.declared.answer.Cause.{Cause}
use Rattle.definition.specs.Time.{pass, emptied}
use Rattle.definition.specs.Interrupt.{Step, age_of, reset, plain, padded, chained, back}
use Rattle.definition.specs.Step.{step}
use Rattle.definition.specs.Laws.{StepCycles, HaltedStays}
use Rattle.definition.proofs.instruction.InstructionLaws.{cycles_range}
use Rattle.definition.proofs.step.StepLaws.{held_age, next, Way, resets, halts, runs, serves, pads, chains, returns, pads_again, way, next_clock}
use Rattle.definition.proofs.frame.FrameLaws.{held_framed}

-- the step adds from least to most cycles to the clock c
pub record Adds (least most c : ℕ) (s : Step) : Type 0 where
  pub at_least : c + least ≤ s.state.time.clock
  pub at_most : s.state.time.clock ≤ c + most

-- so do a step's last cycles, from the clock b, after those that come before them
after : {least most total b c : ℕ} {s : Step} → Adds least most b s → c + 1 ≤ b + least → b + most ≤ c + total → Adds 1 total c s
after h l g = omega arith

module _ (S : Setting) where
  pub reset_adds : (c : Cause) (m : State) (mem : List ℕ) → Adds 4 4 m.time.clock (reset S c m mem)
  unfolding reset emptied pass
  reset_adds c m mem = omega arith

  pub plain_adds : (m : State) (mem : List ℕ) → Adds 4 6 m.time.clock (plain S m mem)
  unfolding plain reset emptied pass
  plain_adds m mem = grind (arith, choices)

  pub padded_adds : (s : ℕ) (m : State) (mem : List ℕ) → Adds 6 12 m.time.clock (padded S s m mem)
  unfolding padded emptied pass age_of
  padded_adds s m mem = omega arith

  module _ (m : State) (mem : List ℕ) where
    next_range : (i : Instruction)
        → (m.time.clock + 1 ≤ (next S m mem i).time.clock) × ((next S m mem i).time.clock ≤ m.time.clock + 5)
    next_range i = let n = cycles_range i in omega (arith, next_clock S m mem i)

    -- by the most that a held age can be
    module _ (most : ℕ) (f : (p a : ℕ) → m.context ≡ held_visit p a → a ≤ most) where
      way_adds : (s : Step) → Way S m mem s → Adds 1 (17 + most) m.time.clock s
      unfolding chained back emptied pass
      way_adds s (resets c e) = after (reset_adds c m mem) (omega arith) (omega arith)
      way_adds s (halts i e h) = let k = next_range i in omega arith
      way_adds s (runs i r d) = let k = next_range i in omega arith
      way_adds s (serves i u r o d) = let k = next_range i in after (plain_adds _ _) (omega arith) (omega arith)
      way_adds s (pads i u r o d) = let k = next_range i in after (padded_adds u _ _) (omega arith) (omega arith)
      way_adds s (chains p a u r d) = omega arith
      way_adds s (returns p a r n d) = let k = f p a r.holding in omega arith
      way_adds s (pads_again p a u r n d) =
          let k = f p a r.holding in after (padded_adds u _ mem) (omega arith) (omega arith)

pub step_cycles : StepCycles
unfolding StepCycles
step_cycles S m mem f r =
    let a = way_adds S m mem 6 (λ p a h. (held_framed S m p a f h).age_bound) _ (way S m mem r) in
    (a.at_least, omega arith)

-- whatever its state, a running machine's clock rises
pub clock_rises : (S : Setting) (m : State) (mem : List ℕ) → m.halted ≡ false
    → m.time.clock + 1 ≤ (step S m mem).state.time.clock
clock_rises S m mem r =
    (way_adds S m mem (held_age m.context) (λ p a h. let k = ap held_age h in omega arith) _ (way S m mem r)).at_least

pub halted_stays : HaltedStays
unfolding HaltedStays step
halted_stays S m mem h = grind (arith, choices)
