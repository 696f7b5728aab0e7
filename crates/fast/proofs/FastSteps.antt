-- Fast steps in a row are steps. Assumes nothing.
use Rattle.std.proofs.Common.{Option, None, Some, ◌≡◌, refl, sym, ◌∙◌, ap, subst, Bool, true, false, List, ℕ, ◌+◌, ◌/◌, ◌%◌, ◌≤◌, ◌<◌, arith, length, get_or}
use Rattle.base.specs.Test.{when◌then◌else◌}
use Rattle.base.proofs.Tests.{choices}
use Rattle.base.specs.Limits.{memory_bytes, last_clock}
use Rattle.rows.specs.Words.{begun}
use Rattle.alu.specs.Status.{gie}
use Rattle.layout.specs.declared.sections.Layout.{Layout}
use Rattle.definition.specs.Setting.{Setting}
use Rattle.definition.specs.declared.state.SavedContext.{SavedContext}
use Rattle.definition.specs.declared.state.Time.{Time}
use Rattle.storage.specs.declared.control.Control.{Control}
use Rattle.definition.specs.declared.state.State.{State}
use Rattle.answers.specs.declared.answer.Outcome.TheVariants.{Ran}
use Rattle.effect.specs.declared.effect.Effect.{Effect}
use Rattle.definition.specs.Memory.{word_at}
use Rattle.definition.specs.Registers.{register, sr}
use Rattle.definition.specs.State.{world, is_held}
use Rattle.definition.specs.Time.{pass}
use Rattle.definition.specs.Judge.{judge_first}
use Rattle.definition.specs.Interrupt.{gives}
use Rattle.definition.specs.Step.{saved_for, step, judged}
use Rattle.clock.specs.Upcoming.{clock_room}
use Rattle.clock.specs.NoEvent.{later, NoEventUntil}
use Rattle.effect.specs.Effect.{put_if}
use Rattle.fast.specs.Steps.{fetchable, FastState, fast_state, fast_at, applied, most_fast_cycles, FastSteps, no_step, one_more, RanSteps, none, on, saved_after}
use Rattle.storage.specs.Control.{with_registers}
use Rattle.definition.proofs.instruction.InstructionLaws.{cycles_range}
use Rattle.definition.proofs.instruction.MemoryLaws.{put_length}
use Rattle.clock.proofs.NoEventLaws.{no_event_later}
use Rattle.fast.proofs.FastLaws.{fetched_judged, after_effect, acting_gie_clear, acting_step}
use Rattle.effect.proofs.FastRows.{Acting}
use Rattle.effect.proofs.FastWords.{acting_behind}

-- ---- the saved copy

saved_again : (v : Option SavedContext) (saved : List ℕ) → saved_for v (saved_for v saved) ≡ saved_for v saved
saved_again None saved = refl
saved_again (Some _) saved = refl

-- after one more step
saved_on : (v : Option SavedContext) (saved : List ℕ) (k n : ℕ) → n ≡ k + 1 → saved_after n v saved ≡ saved_for v (saved_after k v saved)
unfolding saved_after
saved_on v saved k n e = grind (arith, choices, saved_again)

-- ---- fast steps in a row

module _ (L : Layout) (held : Bool) (s : FastState) (w : ℕ) (e : Effect) (does : fast_at L s w ≡ Some e) where
  -- the instruction behind an effect
  acting_at : Acting L held s.registers s.memory (begun w)
      (register s.registers (w / 256 % 16)) (register s.registers (w % 16)) e
  unfolding register
  acting_at = acting_behind L held s.registers s.memory w e does

  pub effect_few : (1 ≤ e.cycles) × (e.cycles ≤ most_fast_cycles)
  effect_few = let t = acting_at.takes in grind (arith, cycles_range)

put_if_length : (puts : Bool) (mem : List ℕ) (a w : ℕ) → length (put_if puts mem a w) ≡ length mem
unfolding put_if
put_if_length puts mem a w = grind (arith, choices, put_length)

-- what the loop of fast steps keeps
pub record FastLoop (L : Layout) (held : Bool) (until left stop_pc : ℕ) (from s : FastState) (k : ℕ) : Type 0 where
  pub size : length s.memory ≡ memory_bytes
  pub ran : FastSteps L held until stop_pc from k s
  pub within : k ≤ left
  pub room : s.clock ≤ clock_room

module _
    (L : Layout) (held : Bool) (until left stop_pc : ℕ) (from s : FastState) (k : ℕ) (q : FastLoop L held until left stop_pc from s k) (more : k < left)
    (near : s.clock + most_fast_cycles ≤ until) (elsewhere : get_or s.registers 0 0 ≡ stop_pc → ⊥) (f : fetchable L held s.previous (get_or s.registers 0 0) ≡ true) (w : ℕ)
    (word : w ≡ word_at s.memory (get_or s.registers 0 0)) (e : Effect) (does : fast_at L s w ≡ Some e) where
  -- one more fast step
  pub fast_loop_next : until ≤ last_clock → (bytes : List ℕ) → bytes ≡ (applied e w s).memory
      → FastLoop L held until left stop_pc from (fast_state (applied e w s).registers (applied e w s).previous (applied e w s).clock bytes) (k + 1)
  fast_loop_next early bytes b =
      let h = (effect_few L held s w e does).1 in
      record {
        size = grind (arith, b, put_if_length, q.size);
        ran =
            one_more k (k + 1) s _ w e q.ran near elsewhere f word does
            (ap (λ (z : List ℕ). fast_state (applied e w s).registers (applied e w s).previous (applied e w s).clock z) b) refl;
        within = omega arith;
        room = omega arith;
      }

-- the time at a clock value, with the slot and the alarm as they are
abbrev time_at : Time → ℕ → Time
time_at t clock = record { clock = clock; slot = t.slot; alarm = t.alarm }

module _ (S : Setting) where
  -- a machine whose registers are lent, from which time only goes on up to a clock value
  module _
      (rs saved mem : List ℕ) (c : Control) (until stop_pc : ℕ) (masked held : Bool) (no_event : NoEventUntil S masked c.time until)
      (halting : c.halted ≡ true → until ≡ 0) (holding : held ≡ is_held c.context)
      (gie_clear_first : masked ≡ true → gie (get_or rs 2 0) ≡ false) where
    -- the machine after k fast steps
    abbrev machine_at : ℕ → FastState → State
    machine_at k s =
        record {
          registers = s.registers;
          previous = s.previous;
          time = time_at c.time s.clock;
          context = c.context;
          saved = saved_after k c.context saved;
          halted = c.halted;
        }

    -- what holds there
    record Follows (k : ℕ) (s : FastState) : Type 0 where
      ran : RanSteps S stop_pc (world (with_registers rs saved c) mem) k (world (machine_at k s) s.memory)
      going : NoEventUntil S masked (time_at c.time s.clock) until
      gie_clear : masked ≡ true → gie (get_or s.registers 2 0) ≡ false

    module _
        (k : ℕ) (s : FastState) (q : Follows k s) (near : s.clock + most_fast_cycles ≤ until)
        (elsewhere : get_or s.registers 0 0 ≡ stop_pc → ⊥) (f : fetchable S.layout held s.previous (get_or s.registers 0 0) ≡ true) (w : ℕ)
        (word : w ≡ word_at s.memory (get_or s.registers 0 0)) (e : Effect) (does : fast_at S.layout s w ≡ Some e) (n : ℕ)
        (count : n ≡ k + 1) where
      -- the machine runs
      awake : c.halted ≡ false
      awake = grind arith

      fits : Acting S.layout (is_held c.context) s.registers s.memory (begun w)
          (register s.registers (w / 256 % 16)) (register s.registers (w % 16)) e
      fits = acting_at S.layout (is_held c.context) s w e does

      few : (1 ≤ e.cycles) × (e.cycles ≤ most_fast_cycles)
      few = effect_few S.layout held s w e does

      judging : judged S (world (machine_at k s) s.memory)
          ≡ judge_first S.layout (is_held c.context) s.registers s.memory (begun w)
      unfolding register
      judging =
          fetched_judged S.layout (is_held c.context) s.registers s.memory s.previous
          (ap (λ (h : Bool). fetchable S.layout h s.previous (get_or s.registers 0 0)) (sym holding) ∙ f)
          ∙ ap (λ (z : ℕ). judge_first S.layout (is_held c.context) s.registers s.memory (begun z)) (sym word)

      goes_on : pass S e.cycles (time_at c.time s.clock) ≡ later e.cycles (time_at c.time s.clock)
      goes_on = q.going.passes e.cycles few.0 (omega (arith, few.1))

      nothing_pending : masked ≡ false → c.time.slot ≡ None
      nothing_pending = q.going.empty e.cycles few.0 (omega (arith, few.1))

      stays_gie_clear : masked ≡ true → gie (sr (after_effect e (machine_at k s)).registers) ≡ false
      unfolding register
      stays_gie_clear =
          acting_gie_clear S (machine_at k s) s.memory awake (begun w) _ _ e fits judging goes_on masked q.gie_clear nothing_pending

      fast_ran_once : step S (machine_at k s) s.memory
          ≡ gives (after_effect e (machine_at k s)) (applied e w s).memory Ran
      unfolding register
      fast_ran_once =
          acting_step S (machine_at k s) s.memory awake (begun w) _ _ e fits judging goes_on masked q.gie_clear nothing_pending

      applied_after : machine_at n (applied e w s) ≡ after_effect e (machine_at k s)
      unfolding register
      applied_after =
          let g = fits.digit in
          let d : e.number % 16 ≡ e.number = omega arith in
          rw (d, saved_on c.context saved k n count, awake)

      -- one more fast step
      follows_on : Follows n (applied e w s)
      unfolding register
      follows_on =
          let h = few.1 in
          let u = no_event.bounded in
          record {
            ran =
                on k n _ _ q.ran awake (omega arith) elsewhere
                (fast_ran_once ∙ ap (λ (z : State). gives z (applied e w s).memory Ran) (sym applied_after)) count;
            going = no_event_later S masked (time_at c.time s.clock) until e.cycles q.going few.0 (omega arith);
            gie_clear = λ l. ap (λ (z : State). gie (sr z.registers)) applied_after ∙ stays_gie_clear l;
          }

    follows : (k : ℕ) (s : FastState) → FastSteps S.layout held until stop_pc (fast_state rs c.previous c.time.clock mem) k s → Follows k s
    unfolding saved_after when◌then◌else◌
    follows k s no_step = record { ran = none; going = no_event; gie_clear = gie_clear_first }
    follows k s (one_more j n v next w e p near elsewhere f word does eq count) =
        subst (Follows n) (sym eq) (follows_on j v (follows j v p) near elsewhere f w word e does n count)

    -- fast steps are steps
    pub fast_steps_ran : (k : ℕ) (s : FastState) → FastSteps S.layout held until stop_pc (fast_state rs c.previous c.time.clock mem) k s
        → RanSteps S stop_pc (world (with_registers rs saved c) mem) k (world (machine_at k s) s.memory)
    fast_steps_ran k s p = (follows k s p).ran
