-- Two machines outside that are in step stay so: they keep, fall or resume together, and are seen alike. Assumes nothing.
use Rattle.std.proofs.Common.{None, ◌≡◌, sym, ◌∙◌, ap, true, false, List, ℕ, arith}
use Rattle.std.proofs.Math.Path.{fun_ext}
use Rattle.base.specs.Word.{drop_bit0}
use Rattle.base.proofs.Tests.{choices}
use Rattle.layout.specs.Sections.{inside, outside}
use Rattle.layout.specs.Rules.{accepted}
use Rattle.definition.specs.Setting.{Setting}
use Rattle.answers.specs.declared.answer.Outcome.{Outcome}
use Rattle.definition.specs.Registers.{pc, cleared}
use Rattle.answers.specs.Outcome.{is_reset}
use Rattle.definition.specs.State.{World, vector, reset_address, start, held_visit}
use Rattle.definition.specs.Interrupt.{Step}
use Rattle.definition.specs.Run.{world_after, step_of}
use Rattle.definition.specs.Laws.{SameOutside, SameView, SameStep, is_resuming, SeenAlike, alike, OutsideLocal}
use Rattle.definition.specs.Laws
use Rattle.definition.proofs.step.StepLaws.{after_reti}
use Rattle.definition.proofs.separation.LocalLaws.{outside_local}
use Rattle.definition.proofs.separation.ViewLaws.{word_same}
use Rattle.secrecy.specs.Sighting.{View, resumes, outside_bytes, view_of, sighting_of}
use Rattle.secrecy.proofs.Visiting.{move_of, sighting_at}
use Rattle.secrecy.proofs.Ways.{vector_public, Steady, InsideStep, ResetAtOnce, Service, kept, was_reset, resuming, outside_step}

-- ---- what is seen

bytes_same : (S : Setting) (mem bytes : List ℕ) → SameOutside S mem bytes → outside_bytes S mem ≡ outside_bytes S bytes
unfolding outside_bytes
bytes_same S mem bytes s =
    fun_ext λ a. grind (arith, choices, s.same a)

pub view_same : (S : Setting) (a b : World) → SameView S a b → view_of S a ≡ view_of S b
unfolding view_of
view_same S a b s = rw (s.registers, s.time, bytes_same S a.memory b.memory s.memory)

sighting_resumes : (before after : View) (o : Outcome) → is_resuming o ≡ true → sighting_of before after o ≡ resumes before
unfolding sighting_of
sighting_resumes before after o h = grind arith

module _ (S : Setting) (a b : World) (view : SameView S a b) (s u : Step) where
  pub seen_alike : SameStep S s u
      → sighting_at S (move_of a s) ≡ sighting_at S (move_of b u)
  seen_alike x = rw (view_same S a b view, view_same S (world_after s) (world_after u) x.view, x.outcome)

  pub seen_resuming : is_resuming s.outcome ≡ true → is_resuming u.outcome ≡ true
      → sighting_at S (move_of a s) ≡ sighting_at S (move_of b u)
  seen_resuming h k =
      cc (sighting_resumes _ _ _ h, view_same S a b view, sighting_resumes _ _ _ k)

-- ---- two steps that begin outside

module _ (S : Setting) where
  pub data Both (a b : World) (s u : Step) : Type 0 where
    keep : SameStep S s u → s.state.context ≡ a.state.context → u.state.context ≡ b.state.context
        → inside S.layout s.state.previous ≡ false → inside S.layout u.state.previous ≡ false
        → is_reset s.outcome ≡ false → is_reset u.outcome ≡ false → Both a b s u
    both_reset : SameStep S s u → s.state.context ≡ None → u.state.context ≡ None
        → inside S.layout s.state.previous ≡ false → inside S.layout u.state.previous ≡ false
        → is_reset s.outcome ≡ true → is_reset u.outcome ≡ true → Both a b s u
    resume : (previous age previous' age' : ℕ) → a.state.context ≡ held_visit previous age → b.state.context ≡ held_visit previous' age'
        → is_reset s.outcome ≡ false → is_reset u.outcome ≡ false
        → is_resuming s.outcome ≡ true → is_resuming u.outcome ≡ true
        → InsideStep S (after_reti S a.state) true a.memory age s
        → InsideStep S (after_reti S b.state) true b.memory age' u → Both a b s u

  same_of : (s u : Step) → is_resuming s.outcome ≡ false → SeenAlike S s u → SameStep S s u
  same_of s u h (alike x) = x
  same_of s u h (Laws.resuming x y) = absurd (cc)

  resuming_same : (s u : Step) → SeenAlike S s u → is_resuming s.outcome ≡ is_resuming u.outcome
  resuming_same s u (alike x) = ap is_resuming x.outcome
  resuming_same s u (Laws.resuming x y) = x ∙ sym y

  both : (a b : World) (s u : Step) → SeenAlike S s u → Service S a.state a.memory s
      → Service S b.state b.memory u → Both a b s u
  both a b s u x (kept h n r z) (kept h' n' r' z') = keep (same_of s u z x) h h' n n' r r'
  both a b s u x (kept h n r z) (was_reset h' n' r' z') = absurd (cc (same_of s u z x).outcome)
  both a b s u x (kept h n r z) (resuming p i h' r' z' e g) = absurd (cc (resuming_same s u x))
  both a b s u x (was_reset h n r z) (kept h' n' r' z') = absurd (cc (same_of s u z x).outcome)
  both a b s u x (was_reset h n r z) (was_reset h' n' r' z') = both_reset (same_of s u z x) h h' n n' r r'
  both a b s u x (was_reset h n r z) (resuming p i h' r' z' e g) = absurd (cc (resuming_same s u x))
  both a b s u x (resuming p i h r z e g) (kept h' n' r' z') = absurd (cc (resuming_same s u x))
  both a b s u x (resuming p i h r z e g) (was_reset h' n' r' z') = absurd (cc (resuming_same s u x))
  both a b s u x (resuming p i h r z e g) (resuming p' i' h' r' z' e' g') = resume p i p' i' h h' r r' z z' g g'

module _ (S : Setting) (fit : accepted S.layout ≡ true) where
  -- where a reset goes is public
  reset_same : (mem bytes : List ℕ) → SameOutside S mem bytes → reset_address mem ≡ reset_address bytes
  unfolding reset_address
  reset_same mem bytes s = ap drop_bit0 (word_same S fit vector s (vector_public S fit))

  pub start_same : (mem bytes : List ℕ) → SameOutside S mem bytes → (start mem).registers ≡ (start bytes).registers
  unfolding start
  start_same mem bytes s = ap cleared (reset_same mem bytes s)

module _ (S : Setting) (fit : accepted S.layout ≡ true) (a b : World) (view : SameView S a b) where
  pub same_pc : {A : Type 0} (f : ℕ → A) → f (pc b.state.registers) ≡ f (pc a.state.registers)
  same_pc f = ap (λ (rs : List ℕ). f (pc rs)) (sym view.registers)

  pub both_step : Steady S a.state → Steady S b.state → a.state.halted ≡ false → b.state.halted ≡ false
      → outside S.layout (pc a.state.registers) ≡ true → Both S a b (step_of S a) (step_of S b)
  unfolding OutsideLocal
  both_step sa sb ra rb o =
      both S a b _ _ (outside_local S a b fit sa.frame sb.frame ra view o)
      (outside_step S fit a.state a.memory sa ra o)
      (outside_step S fit b.state b.memory sb rb (same_pc (outside S.layout) ∙ o))

  -- two resets, for whatever causes
  pub reset_view : (s u : Step) → ResetAtOnce S a.state a.memory s → ResetAtOnce S b.state b.memory u
      → SameView S (world_after s) (world_after u)
  reset_view s u x y =
      record {
        registers = cc (reset_same S fit _ _ view.memory);
        time = cc;
        held = cc;
        halted = cc;
        memory = rw (x.memory, y.memory) view.memory;
      }
