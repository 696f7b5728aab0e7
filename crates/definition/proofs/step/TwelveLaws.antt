-- A request that fills the slot inside, or in return padding, reaches service exactly 12 cycles after its stamp. Assumes nothing.
use Rattle.std.proofs.Common.{None, Some, ◌≡◌, refl, sym, ◌∙◌, ap, subst, List, ℕ, ◌+◌, ◌-◌, ◌≤◌, ◌<◌, arith}
use Rattle.isa.specs.Cycles.{cycles_of}
use Rattle.definition.specs.Setting.{Setting}
use Rattle.definition.specs.declared.state.Time.{Time}
use Rattle.definition.specs.declared.state.State.{State}
use Rattle.answers.specs.declared.answer.Outcome.TheVariants.{Padded}
use Rattle.definition.specs.Time.{pass, emptied}
use Rattle.definition.specs.Interrupt.{Step, age_of, padded, back}
use Rattle.definition.specs.Laws.{PassAdds, PaddedByStamp, PaddingSum, TwelveInside, TwelveInReturn}
use Rattle.definition.proofs.time.PassLaws.{pass_adds, pass_clock, pass_filled}
use Rattle.definition.proofs.instruction.InstructionLaws.{cycles_range}
use Rattle.definition.proofs.step.StepLaws.{step_pads, step_pads_again, after_reti, after_return, next_inside}
use Rattle.definition.proofs.step.GieLaws.{next_gie, at_due}
use Rattle.definition.proofs.frame.FrameLaws.{held_framed}

-- whatever cycles n passed since t, with the padding they come to 6 after the stamp
padding : (t n s : ℕ) → t < s → s ≤ t + n → n ≤ 6 → n + (6 - age_of (t + n) s) ≡ s + 6 - t
unfolding age_of
padding t n s h k l = omega arith

pub padded_by_stamp : PaddedByStamp
unfolding PaddedByStamp padded PassAdds
padded_by_stamp S m mem t n s e l p h =
    let w = pass_filled S n t s e (ap (λ (x : Time). x.slot) (sym p) ∙ h) in
    let wait = 6 - age_of (pass S n t).clock s in
    ap (λ (x : Time). pass S 6 (emptied (pass S (6 - age_of x.clock s) x))) p
    ∙ ap (λ (x : Time). pass S 6 (emptied x)) (pass_adds S n wait t)
    ∙ ap (λ (x : ℕ). pass S 6 (emptied (pass S x t))) (rw pass_clock (padding t.clock n s w.0 w.1 l))

-- the two waits of a padded interrupt
pub padding_sum : PaddingSum
unfolding PaddingSum padded back pass emptied age_of
padding_sum S s m mem t previous age saved v = grind arith

-- the step serves the stamp, 12 cycles after it
abbrev Twelve : ℕ → Step → Type 0
Twelve s z = (z.outcome ≡ Padded) × (z.state.time.clock ≡ s + 12)

padded_twelve : (S : Setting) (m : State) (mem : List ℕ) (t : Time) (n s : ℕ)
    → t.slot ≡ None → n ≤ 6 → m.time ≡ pass S n t → m.time.slot ≡ Some s → Twelve s (padded S s m mem)
unfolding padded pass emptied age_of
padded_twelve S m mem t n s e l p h = grind (arith, pass_filled S n t s, pass_clock S n t)

pub twelve_inside : TwelveInside
unfolding TwelveInside
twelve_inside S m mem i s r h v e g n f =
    subst (Twelve s) (sym (step_pads S m mem r i s e h (at_due _ s (next_gie S m mem i h ∙ g) f)))
    (padded_twelve S _ _ m.time (cycles_of i) s n (omega (arith, (cycles_range i).1)) (next_inside S m mem i e h) f)

pub twelve_in_return : TwelveInReturn
unfolding TwelveInReturn back
twelve_in_return S m mem previous age s r f v e n h =
    let k = held_framed S m previous age f v in
    let d = at_due (after_return S m previous age) s k.gie_set h in
    subst (Twelve s) (sym (step_pads_again S m mem r previous age s (record { holding = v; acting = e }) n d))
    (padded_twelve S (after_return S m previous age) mem (after_reti S m) age s n k.age_bound refl h)
