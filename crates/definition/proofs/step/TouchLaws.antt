-- A step keeps memory's length, writes its own side only, and reads the reset vector after its writes. Assumes nothing.
use Rattle.std.proofs.Common.{Ok, ◌≡◌, refl, sym, ◌∙◌, ap, subst, ◌≢◌, true, false, true≢false, List, [], ℕ, length, arith}
use Rattle.base.specs.Test.{all}
use Rattle.base.specs.Word.{drop_bit0}
use Rattle.base.proofs.Tests.{choose, choices}
use Rattle.isa.specs.declared.instruction.Instruction.{Instruction}
use Rattle.layout.specs.declared.access.Right.TheVariants.{Write}
use Rattle.layout.specs.declared.sections.Layout.{Layout}
use Rattle.layout.specs.Sections.{inside, outside}
use Rattle.layout.specs.Rules.{accepted}
use Rattle.layout.specs.Access.{may}
use Rattle.layout.proofs.SectionLaws.{section_outside, data_not_outside}
use Rattle.layout.proofs.AccessLaws.{elsewhere_touches_outside, inside_touches_data}
use Rattle.definition.specs.Setting.{Setting}
use Rattle.definition.specs.declared.state.State.{State}
use Rattle.answers.specs.declared.answer.Cause.{Cause}
use Rattle.answers.specs.declared.answer.Cause.TheVariants.{Write as barred}
use Rattle.answers.specs.declared.answer.Outcome.{Outcome}
use Rattle.answers.specs.declared.answer.Outcome.TheVariants.{Reset}
use Rattle.definition.specs.Memory.{byte_at, put_word}
use Rattle.definition.specs.Registers.{register, pc, cleared}
use Rattle.answers.specs.Outcome.{is_reset}
use Rattle.definition.specs.Time.{emptied}
use Rattle.definition.specs.State.{world}
use Rattle.definition.specs.Interrupt.{Step, reset, plain, padded, chained}
use Rattle.definition.specs.Step.{judged, step}
use Rattle.definition.specs.Laws.{LengthKept, WritesOwnSide, AfterReset, ResetAfterStore}
use Rattle.definition.proofs.instruction.MemoryLaws.{put_length, even_side, put_side}
use Rattle.definition.proofs.instruction.ActLaws.{kept_or_stored}
use Rattle.definition.proofs.cause.JudgeLaws.{each_may, acts_writes}
use Rattle.definition.proofs.step.StepLaws.{bytes, Way, resets, halts, runs, serves, pads, chains, returns, pads_again, step_case}

-- ---- memory

-- what may be written from inside is not outside, and what may be from elsewhere is
pub may_write_side : (L : Layout) (from a : ℕ) → may L from Write a ≡ true → outside L a ≢ inside L from
may_write_side L from a e =
    grind (arith, data_not_outside L a, inside_touches_data L from a Write, section_outside L a, elsewhere_touches_outside L from a Write)

-- a memory that is as long as before, and the same on the other side than an instruction's
pub record OwnSide (S : Setting) (from : ℕ) (mem after : List ℕ) : Type 0 where
  pub long : length after ≡ length mem
  pub other : accepted S.layout ≡ true → (a : ℕ) → inside S.layout from ≡ outside S.layout a → byte_at after a ≡ byte_at mem a

module _ (S : Setting) (m : State) (mem : List ℕ) where
  abbrev Own : List ℕ → Type 0
  Own after = OwnSide S (pc m.registers) mem after

  kept_own : Own mem
  kept_own = record { long = refl; other = λ v a k. refl }

  put_own : (x : List ℕ) (b w : ℕ) → (accepted S.layout ≡ true → outside S.layout (drop_bit0 b) ≢ inside S.layout (pc m.registers)) → Own x
      → Own (put_word x b w)
  put_own x b w n o = grind (arith, put_length x b w, put_side S.layout)

  pub acted_own : (i : Instruction) → judged S (world m mem) ≡ Ok i → Own (bytes m mem i)
  acted_own i e =
      kept_or_stored (λ (f : List ℕ → List ℕ). Own (f mem)) m.registers i kept_own λ b w h.
      let may_write_lem = (each_may S.layout _ Write b [] (rw h at (acts_writes S.layout _ _ mem _ i e))).0 in
      put_own mem b w (λ v. may_write_side S.layout _ _ may_write_lem) kept_own

  -- a plain interrupt writes only outside
  plain_own : (next : State) (x : List ℕ) → inside S.layout (pc m.registers) ≡ false → Own x → Own (plain S next x).memory
  unfolding plain reset all
  plain_own next x i o = grind (arith, choices, put_length, put_side S.layout, even_side S.layout)

  way_own : (s : Step) → Way S m mem s → Own s.memory
  unfolding reset padded chained
  way_own s (resets c e) = kept_own
  way_own s (halts i e h) = acted_own i e
  way_own s (runs i r d) = acted_own i r.acting
  way_own s (serves i u r o d) = plain_own _ _ o (acted_own i r.acting)
  way_own s (pads i u r o d) = acted_own i r.acting
  way_own s (chains p a u r d) = kept_own
  way_own s (returns p a r n d) = kept_own
  way_own s (pads_again p a u r n d) = kept_own

  step_own : Own (step S m mem).memory
  step_own = step_case S m mem (λ (s : Step). Own s.memory) (λ h. kept_own) way_own

pub length_kept : LengthKept
unfolding LengthKept
length_kept S m mem = (step_own S m mem).long

pub writes_own_side : WritesOwnSide
unfolding WritesOwnSide
writes_own_side S m mem a v =
    let kept = (step_own S m mem).other v a in (λ i o. kept (i ∙ sym o), λ i o. kept (i ∙ sym o))

-- ---- reset

-- a step whose outcome is a reset is the reset of some machine and memory
abbrev FromReset : Setting → Step → Type 0
FromReset S s =
    (c : Cause) → s.outcome ≡ Reset c → (d : Cause) × ((x : State) × ((bytes : List ℕ) × (s ≡ reset S d x bytes)))

-- an outcome that is no reset
other : {A : Type 0} {o : Outcome} {c : Cause} → is_reset o ≡ false → o ≡ Reset c → A
other h e = absurd (true≢false (sym (ap is_reset e) ∙ h))

module _ (S : Setting) where
  plain_reset : (m : State) (mem : List ℕ) → FromReset S (plain S m mem)
  unfolding plain
  plain_reset m mem = choose (FromReset S) _ (λ e c f. other refl f) (λ e c f. (barred, (m, (mem, refl))))

  way_reset : (m : State) (mem : List ℕ) (s : Step) → Way S m mem s → FromReset S s
  unfolding padded chained
  way_reset m mem s (resets d e) c f = (d, (m, (mem, refl)))
  way_reset m mem s (halts i e h) c f = other refl f
  way_reset m mem s (runs i r d) c f = other refl f
  way_reset m mem s (serves i u r o d) c f = plain_reset _ _ c f
  way_reset m mem s (pads i u r o d) c f = other refl f
  way_reset m mem s (chains p a u r d) c f = other refl f
  way_reset m mem s (returns p a r n d) c f = other refl f
  way_reset m mem s (pads_again p a u r n d) c f = other refl f

  -- what a reset leaves
  reset_leaves : (d : Cause) (x : State) (bytes : List ℕ) → AfterReset (reset S d x bytes)
  unfolding reset cleared register emptied
  reset_leaves d x bytes = grind arith

pub reset_after_store : ResetAfterStore
unfolding ResetAfterStore
reset_after_store S m mem c e =
    let r = step_case S m mem (FromReset S) (λ h c f. other refl f) (way_reset S m mem) c e in
    subst AfterReset (sym r.1.1.1) (reset_leaves S r.0 r.1.0 r.1.1.0)
