-- Where GIE is set the slot is empty, so that the age at a padded service is at most 5. Assumes nothing.
use Rattle.std.proofs.Common.{◌≡◌, sym, ◌∙◌, ap, Bool, true, false, true≢false, List, ℕ, ◌-◌, ◌≤◌, min, arith}
use Rattle.base.proofs.Tests.{choose, choices}
use Rattle.isa.specs.Cycles.{cycles_of}
use Rattle.definition.specs.Setting.{Setting}
use Rattle.definition.specs.declared.state.State.{State}
use Rattle.answers.specs.declared.answer.Outcome.TheVariants.{Padded}
use Rattle.answers.specs.Outcome.{kind_letter}
use Rattle.definition.specs.Time.{pass}
use Rattle.definition.specs.State.{start, framed, held_visit}
use Rattle.definition.specs.Interrupt.{Step, age_of, reset, plain, padded, chained, back, due}
use Rattle.definition.specs.Step.{executed}
use Rattle.definition.specs.Laws.{NothingDue, NothingDueAtStart, NothingDueKept, AgeAtMostFive}
use Rattle.definition.proofs.time.PassLaws.{pass_clock, pass_filled}
use Rattle.definition.proofs.instruction.InstructionLaws.{cycles_range}
use Rattle.definition.proofs.step.StepLaws.{same_age, next, after_reti, Way, resets, halts, runs, serves, pads, chains, returns, pads_again, way, step_case, next_clock, next_slot}
use Rattle.definition.proofs.step.GieLaws.{next_gie, due_at, due_never, cleared_gie, plain_gie}
use Rattle.definition.proofs.frame.FrameLaws.{held_framed}

-- ---- nothing due

-- of a machine with GIE clear nothing is due
gie_clear : {g : Bool} {A : Type 0} → g ≡ false → g ≡ true → A
gie_clear e g = absurd (true≢false (sym g ∙ e))

pub nothing_due_at_start : NothingDueAtStart
unfolding NothingDueAtStart start due
nothing_due_at_start mem = grind (arith, cleared_gie)

module _ (S : Setting) where
  plain_nothing_due : (m : State) (mem : List ℕ) → NothingDue (plain S m mem).state
  unfolding plain reset
  plain_nothing_due m mem = grind (arith, choices, plain_gie m.registers, cleared_gie)

  way_nothing_due : (m : State) (mem : List ℕ) (s : Step) → Way S m mem s → s.state.halted ≡ false → NothingDue s.state
  unfolding reset padded chained executed
  way_nothing_due m mem s (resets c e) h = gie_clear (cleared_gie _)
  way_nothing_due m mem s (halts i e f) h = absurd (true≢false (sym f ∙ h))
  way_nothing_due m mem s (runs i r d) h = due_never _ d
  way_nothing_due m mem s (serves i u r o d) h = plain_nothing_due _ _
  way_nothing_due m mem s (pads i u r o d) h = gie_clear (cleared_gie _)
  way_nothing_due m mem s (chains p a u r d) h = gie_clear (cleared_gie _)
  way_nothing_due m mem s (returns p a r n d) h = due_never _ d
  way_nothing_due m mem s (pads_again p a u r n d) h = gie_clear (cleared_gie _)

pub nothing_due_kept : NothingDueKept
unfolding NothingDueKept
nothing_due_kept S m mem f r q h = way_nothing_due S m mem _ (way S m mem r) h

-- ---- the age that is held

module _ (S : Setting) (m : State) (mem : List ℕ) (f : framed S m ≡ true) (q : NothingDue m) (previous age : ℕ) where
  -- a request that a machine with nothing due serves padded came in the cycles of the instruction, or of the return; a step that is not
  -- padded has another letter
  way_age : (s : Step) → Way S m mem s → s.outcome ≡ Padded → s.state.context ≡ held_visit previous age → age ≤ 5
  unfolding reset plain padded chained back age_of
  way_age s (resets c e) o v = omega (arith, ap kind_letter o)
  way_age s (halts i e h) o v = omega (arith, ap kind_letter o)
  way_age s (runs i r d) o v = omega (arith, ap kind_letter o)
  way_age s (serves i u r h d) o v =
      choose (λ (z : Step). z.outcome ≡ Padded → age ≤ 5) _
      (λ e k. omega (arith, ap kind_letter k)) (λ e k. omega (arith, ap kind_letter k)) o
  way_age s (pads i u r h d) o v =
      let k = due_at _ u d in
      let n = cycles_range i in
      let empty = q (sym (next_gie S m mem i h) ∙ k.0) in
      let w = pass_filled S (cycles_of i) m.time u empty (sym (next_slot S m mem i) ∙ k.1) in
      let e : min ((next S m mem i).time.clock - u) 6 ≡ age = same_age _ _ _ _ v in
      omega (arith, next_clock S m mem i)
  way_age s (chains p a u r d) o v = omega (arith, ap kind_letter o)
  way_age s (returns p a r n d) o v = omega (arith, ap kind_letter o)
  way_age s (pads_again p a u r n d) o v =
      let w = pass_filled S a (after_reti S m) u n (due_at _ u d).1 in
      let e : min ((pass S a (after_reti S m)).clock - u) 6 ≡ age = same_age _ _ _ _ v in
      omega (arith, pass_clock S a (after_reti S m), (held_framed S m p a f r.holding).age_bound)

pub age_at_most_five : AgeAtMostFive
unfolding AgeAtMostFive
age_at_most_five S m mem previous age f q =
    step_case S m mem (λ (s : Step). s.outcome ≡ Padded → s.state.context ≡ held_visit previous age → age ≤ 5)
    (λ h o v. omega (arith, ap kind_letter o)) (way_age S m mem f q previous age)
