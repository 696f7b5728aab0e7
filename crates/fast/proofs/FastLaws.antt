-- The fast way of a step does what the step does. Assumes nothing.
use Rattle.std.proofs.Common.{◌≡◌, ◌∙◌, ap, Bool, true, false, List, ℕ, arith, Option, None}
use Rattle.base.proofs.Tests.{cases, choices}
use Rattle.rows.specs.declared.read.Begun.{Begun}
use Rattle.rows.specs.Words.{begun}
use Rattle.isa.specs.Cycles.{cycles_of}
use Rattle.alu.specs.Status.{gie}
use Rattle.layout.specs.declared.sections.Layout.{Layout}
use Rattle.layout.specs.Sections.{inside}
use Rattle.definition.specs.Setting.{Setting}
use Rattle.definition.specs.declared.state.State.{State}
use Rattle.answers.specs.declared.answer.Outcome.TheVariants.{Ran}
use Rattle.definition.specs.State.{is_held, world}
use Rattle.definition.specs.Time.{device_word, pass}
use Rattle.definition.specs.Interrupt.{gives, due, interrupted}
use Rattle.definition.specs.Step.{alarmed, saved_for, executed, step, judged}
use Rattle.definition.proofs.instruction.InstructionLaws.{unprivileged}
use Rattle.definition.proofs.step.GieLaws.{set_gie}
use Rattle.definition.proofs.step.StepLaws.{bytes, next, Runs, step_runs}
use Rattle.effect.specs.declared.effect.Effect.{Effect}
use Rattle.definition.specs.Memory.{word_at}
use Rattle.definition.specs.Registers.{pc, sr}
use Rattle.definition.specs.Judge.{judge_first, judge}
use Rattle.effect.specs.Effect.{affected, put_if}
use Rattle.clock.specs.NoEvent.{later}
use Rattle.fast.specs.Steps.{fetchable}
use Rattle.definition.proofs.cause.JudgeLaws.{second_fails}
use Rattle.effect.proofs.FastRows.{Acting}

-- what is fetched is judged from cause 3 on
pub fetched_judged : (L : Layout) (held : Bool) (rs mem : List ℕ) (previous : ℕ) → fetchable L held previous (pc rs) ≡ true
    → judge L held rs mem previous ≡ judge_first L held rs mem (begun (word_at mem (pc rs)))
unfolding fetchable judge
fetched_judged L held rs mem previous = grind (arith, choices)

-- the machine after an effect
abbrev pub after_effect : Effect → State → State
after_effect e m =
    record {
      registers = affected e m.registers;
      previous = pc m.registers;
      time = later e.cycles m.time;
      context = m.context;
      saved = saved_for m.context m.saved;
      halted = false;
    }

module _ (S : Setting) (m : State) (mem : List ℕ) (running : m.halted ≡ false) where
  module _ (b : Option Begun) (x y : ℕ) (e : Effect) (a : Acting S.layout (is_held m.context) m.registers mem b x y e)
      (judging : judged S (world m mem) ≡ judge_first S.layout (is_held m.context) m.registers mem b)
      (still : pass S e.cycles m.time ≡ later e.cycles m.time) (masked : Bool)
      (gie_clear : masked ≡ true → gie (sr m.registers) ≡ false) (empty : masked ≡ false → m.time.slot ≡ None) where
    -- a masked machine stays so
    pub acting_gie_clear : masked ≡ true → gie (sr (after_effect e m).registers) ≡ false
    acting_gie_clear h =
        set_gie false _ 2 _ (λ k. a.gie_kept ∙ gie_clear h)
        (set_gie false _ e.number _ (λ k. absurd (a.general k)) (set_gie false m.registers 0 _ (λ k. absurd (omega arith)) (gie_clear h)))

    -- no interrupt is due: the slot is empty, or the machine is masked
    acting_due : due (after_effect e m) ≡ None
    unfolding due
    acting_due = cases masked (λ h. let g = acting_gie_clear h in grind (arith, choices)) (λ h. let s = empty h in grind (arith, choices))

    acting_time : alarmed m.registers a.instruction (pass S (cycles_of a.instruction) m.time)
        ≡ later e.cycles m.time
    acting_time = let t = (unprivileged m.registers (pass S (cycles_of a.instruction) m.time) a.instruction a.unbarred).1 in grind (arith, a.takes)

    acting_next : next S m mem a.instruction ≡ after_effect e m
    unfolding executed
    acting_next =
        rw (
          a.sets (inside S.layout (pc m.registers)) (device_word S m.time),
          acting_time,
          (unprivileged m.registers m.time a.instruction a.unbarred).0,
        )

    pub acting_step : step S m mem ≡ gives (after_effect e m) (put_if e.puts mem y x) Ran
    unfolding interrupted
    acting_step =
        let r : Runs S m mem a.instruction =
        record {
          acting = judging ∙ a.acts;
          staying = second_fails _ _ a.other;
          going = (unprivileged m.registers m.time a.instruction a.unbarred).0;
        } in
        step_runs S m mem running a.instruction r
        ∙ ap (λ (z : State). interrupted S (inside S.layout (pc m.registers)) Ran z (bytes m mem a.instruction) (due z))
        acting_next
        ∙ ap (interrupted S (inside S.layout (pc m.registers)) Ran (after_effect e m) (bytes m mem a.instruction))
        acting_due
        ∙ ap (λ (z : List ℕ). gives (after_effect e m) z Ran) a.puts
