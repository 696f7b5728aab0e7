-- GIE: code inside never alters it, an interrupt is due only where it is set, and every service clears it. Assumes nothing.
use Rattle.std.proofs.Common.{None, Some, ◌≡◌, refl, ◌∙◌, Bool, true, false, List, ℕ, arith, set}
use Rattle.std.proofs.lemmas.Grind.{common_steps}
use Rattle.std.proofs.lemmas.Bool.Decides.{nat_tests}
use Rattle.base.specs.Test.{all}
use Rattle.base.proofs.Tests.{choices}
use Rattle.isa.specs.declared.instruction.Instruction.{Instruction}
use Rattle.layout.specs.Sections.{inside}
use Rattle.alu.specs.Status.{gie}
use Rattle.alu.specs.Laws.{FlagsOnly, GieKept}
use Rattle.alu.proofs.StatusBits.{flags_only, gie_kept}
use Rattle.definition.specs.Setting.{Setting}
use Rattle.definition.specs.declared.state.State.{State}
use Rattle.definition.specs.Registers.{register, sr, pc, write, cleared}
use Rattle.definition.specs.Act.{past}
use Rattle.definition.specs.Interrupt.{due, chained}
use Rattle.definition.specs.Step.{executed}
use Rattle.definition.specs.Laws.{GieKeptInside, NothingDue, ChainsWhateverGie}
use Rattle.definition.proofs.instruction.ActLaws.{registers_after_lem}
use Rattle.definition.proofs.step.StepLaws.{next, step_chains}

-- ---- code inside

module _ (b : Bool) where
  -- GIE is b
  abbrev Gie : List ℕ → Type 0
  Gie rs = gie (sr rs) ≡ b

  pub set_gie : (rs : List ℕ) (n v : ℕ) → (2 ≡ n → gie v ≡ b) → Gie rs → Gie (set rs n v)
  unfolding register
  set_gie rs n v new old = grind (arith, common_steps)

  write_gie : (rs : List ℕ) (n w : ℕ) → Gie rs → Gie (write true rs n w)
  unfolding write GieKept all
  write_gie rs n w h = grind (arith, choices, nat_tests, set_gie, gie_kept)

pub gie_kept_inside : GieKeptInside
unfolding GieKeptInside past FlagsOnly
gie_kept_inside rs mem device i =
    let b = gie (sr rs) in
    registers_after_lem (Gie b) true rs device mem (write_gie b) (λ x c h. set_gie b x 2 _ (λ k. (flags_only (sr x) c).1 ∙ h) h) i
    (set_gie b rs 0 _ (λ k. absurd (omega arith)) refl)

pub next_gie : (S : Setting) (m : State) (mem : List ℕ) (i : Instruction) → inside S.layout (pc m.registers) ≡ true
    → gie (sr (next S m mem i).registers) ≡ gie (sr m.registers)
unfolding executed GieKeptInside
next_gie S m mem i h = rw h (gie_kept_inside m.registers mem _ i)

-- ---- what is due

-- what is due is in the slot, and GIE is set
pub due_at : (m : State) (s : ℕ) → due m ≡ Some s → (gie (sr m.registers) ≡ true) × (m.time.slot ≡ Some s)
unfolding due
due_at m s e = grind (arith, choices)

pub at_due : (m : State) (s : ℕ) → gie (sr m.registers) ≡ true → m.time.slot ≡ Some s → due m ≡ Some s
unfolding due
at_due m s g e = grind (arith, choices)

-- no interrupt is due: where GIE is set the slot is empty
pub due_never : (m : State) → due m ≡ None → NothingDue m
unfolding due
due_never m e g = grind (arith, choices)

-- a return that chains does so whatever GIE is
pub chains_whatever_gie : ChainsWhateverGie
unfolding ChainsWhateverGie chained
chains_whatever_gie S m mem previous age s r v e f = grind (arith, step_chains S m mem r previous age s)

-- ---- registers of a service

pub cleared_gie : (a : ℕ) → gie (sr (cleared a)) ≡ false
unfolding gie register cleared
cleared_gie a = refl

-- after a plain interrupt
pub plain_gie : (rs : List ℕ) (low service : ℕ) → gie (sr (set (set (set rs 1 low) 2 0) 0 service)) ≡ false
unfolding gie register
plain_gie rs low service = grind (arith, common_steps, nat_tests)
