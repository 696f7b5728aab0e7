-- The frame holds at the start and after every step: after one call, only refusals 5, 11 and 6 are left. Assumes nothing.
use Rattle.std.proofs.Common.{Option, Some, ◌≡◌, refl, sym, ◌∙◌, ap, Bool, true, List, ℕ, ◌≤◌, arith, leb, eqb, eqb-true, eq-eqb}
use Rattle.std.proofs.lemmas.Bool.Decides.{nat_tests}
use Rattle.base.specs.Test.{all}
use Rattle.base.specs.Limits.{memory_bytes}
use Rattle.base.specs.FirstFailure.{first_failure}
use Rattle.base.specs.Word.{is_even, difference16}
use Rattle.base.proofs.Tests.{each, every, choose, choices}
use Rattle.isa.specs.declared.instruction.Instruction.{Instruction}
use Rattle.layout.specs.Sections.{inside}
use Rattle.layout.specs.Rules.{accepted}
use Rattle.layout.proofs.RuleLaws.{accepted_rules}
use Rattle.alu.specs.Status.{gie}
use Rattle.definition.specs.Setting.{Setting}
use Rattle.definition.specs.declared.state.Time.{Time}
use Rattle.definition.specs.declared.state.SavedContext.{SavedContext}
use Rattle.definition.specs.declared.state.State.{State}
use Rattle.answers.specs.declared.answer.Cause.{Cause}
use Rattle.definition.specs.Registers.{sp, sr, cleared}
use Rattle.definition.specs.Time.{pass, emptied}
use Rattle.definition.specs.State.{World, world, reset_address, start, framed_context, framed, from_vector, held_visit}
use Rattle.definition.specs.Interrupt.{Step, age_of, due, reset, plain, padded, chained, back}
use Rattle.definition.specs.Step.{saved_for, executed}
use Rattle.definition.specs.Run.{step_of, world_after}
use Rattle.definition.specs.Calls.{whole_memory, timetable, trace_fits}
use Rattle.definition.specs.Laws.{FramedAtStart, FrameKept, LengthKept, ReadyToRun, OnlyDistanceLandmarkOrClock}
use Rattle.definition.proofs.instruction.InstructionLaws.{halts_or_alarms}
use Rattle.definition.proofs.step.StepLaws.{next, after_return, Way, resets, halts, runs, serves, pads, chains, returns, pads_again, step_case}
use Rattle.definition.proofs.step.GieLaws.{due_at}
use Rattle.definition.proofs.step.TouchLaws.{length_kept}
use Rattle.definition.proofs.frame.RegisterFrame.{FramedRegisters, set_framed, registers_framed, cleared_framed}
use Rattle.definition.proofs.frame.TimeFrame.{FramedTime, pass_framed, emptied_framed, alarm_framed}
use Rattle.isa.specs.Cycles.{cycles_of}
use Rattle.isa.specs.declared.instruction.Instruction.TheVariants.{Reti}

-- the frame's parts
pub record Framed (S : Setting) (m : State) : Type 0 where
  pub registers : FramedRegisters m.registers
  pub previous : is_even m.previous ≡ true
  pub time : FramedTime m.time
  pub context : framed_context S.layout m.saved m.context ≡ true

pub frame_parts : (S : Setting) (m : State) → framed S m ≡ true → Framed S m
unfolding framed
frame_parts S m e =
    let h = each _ e in
    record {
      registers = h.0;
      previous = h.1.0;
      time = record { slot = h.1.1.0; alarm = h.1.1.1.0 };
      context = h.1.1.1.1.0;
    }

pub frame_whole : (S : Setting) (m : State) → Framed S m → framed S m ≡ true
unfolding framed all
frame_whole S m f = grind (arith, choices)

-- and those of a held visit
pub record FramedHeld (S : Setting) (saved : List ℕ) (previous age : ℕ) : Type 0 where
  pub age_bound : age ≤ 6
  pub registers : FramedRegisters saved
  pub gie_set : gie (sr saved) ≡ true
  pub previous_inside : inside S.layout previous ≡ true
  pub previous_even : is_even previous ≡ true

pub held_framed : (S : Setting) (m : State) (previous age : ℕ) → framed S m ≡ true → m.context ≡ held_visit previous age
    → FramedHeld S m.saved previous age
unfolding all
held_framed S m previous age f e = let c = (frame_parts S m f).context in grind (arith, choices, nat_tests)

-- ---- the start

vector_even : (mem : List ℕ) → is_even (reset_address mem) ≡ true
unfolding reset_address
vector_even mem = grind (arith, nat_tests)

pub framed_at_start : FramedAtStart
unfolding FramedAtStart start framed all
framed_at_start S mem = grind (arith, choices, cleared_framed, vector_even)

-- ---- a step

-- an age is at most 6
age_framed : (clock stamp : ℕ) → leb (age_of clock stamp) 6 ≡ true
unfolding age_of
age_framed clock stamp = grind (arith, nat_tests)

module _ (S : Setting) (v : accepted S.layout ≡ true) where
  service_even : is_even S.layout.service ≡ true
  service_even = eq-eqb _ _ (accepted_rules S.layout v).service_even

  reset_framed : (c : Cause) (m : State) (mem : List ℕ) → FramedTime m.time → Framed S (reset S c m mem).state
  unfolding reset
  reset_framed c m mem t = grind (arith, cleared_framed, vector_even, pass_framed S 4, emptied_framed)

  -- a service that starts with its registers cleared
  served_framed : (t : Time) (context : Option SavedContext) (saved : List ℕ) → FramedTime t → framed_context S.layout saved context ≡ true
      → Framed S (from_vector (cleared S.layout.service) (pass S 6 (emptied t)) context saved)
  served_framed t context saved f h = grind (arith, cleared_framed, service_even, pass_framed S 6, emptied_framed)

  padded_framed : (s : ℕ) (m : State) (mem : List ℕ) → due m ≡ Some s → inside S.layout m.previous ≡ true → Framed S m
      → Framed S (padded S s m mem).state
  unfolding padded
  padded_framed s m mem d h f =
      served_framed _ _ _ (pass_framed S _ _ f.time)
      (every _ (age_framed _ s, (f.registers, ((due_at m s d).0, (h, (f.previous, tt))))))

  plain_framed : (m : State) (mem : List ℕ) → Framed S m → Framed S (plain S m mem).state
  unfolding plain
  plain_framed m mem f =
      let low = difference16 (sp m.registers) 4 in
      choose (λ (s : Step). Framed S s.state) _
      (λ e. record {
        registers = set_framed _ 0 S.layout.service (omega (arith, eqb-true, service_even))
            (set_framed _ 2 0 (omega arith) (set_framed _ 1 low (omega (arith, eqb-true, (each _ f.registers).1.0)) f.registers));
        previous = refl;
        time = pass_framed S 6 _ (emptied_framed _ f.time);
        context = f.context;
      })
      (λ e. reset_framed _ m mem f.time)

  saved_framed : (context : Option SavedContext) (saved : List ℕ) → framed_context S.layout saved context ≡ true
      → framed_context S.layout (saved_for context saved) context ≡ true
  saved_framed context saved e = grind arith

  module _ (m : State) (mem : List ℕ) (e : framed S m ≡ true) where
    parts : Framed S m
    parts = frame_parts S m e

    pub next_framed : (i : Instruction) → Framed S (next S m mem i)
    unfolding executed
    next_framed i =
        let t = pass_framed S _ _ parts.time in
        record {
          registers = registers_framed _ _ _ mem i parts.registers;
          previous = (each _ parts.registers).0;
          time = halts_or_alarms _ _ (λ (h : Bool). FramedTime) i t (λ p. (t, λ w. alarm_framed w _ t));
          context = saved_framed m.context m.saved parts.context;
        }

    return_framed : (previous age : ℕ) → m.context ≡ held_visit previous age → Framed S (after_return S m previous age)
    unfolding back
    return_framed previous age v =
        let held = held_framed S m previous age e v in
        grind (arith, parts, pass_framed S age, pass_framed S (cycles_of Reti) m.time)

    way_framed : (s : Step) → Way S m mem s → Framed S s.state
    unfolding executed chained back
    way_framed s (resets c e) = reset_framed c m mem parts.time
    way_framed s (halts i e h) = next_framed i
    way_framed s (runs i r d) = next_framed i
    way_framed s (serves i u r o d) = plain_framed _ _ (next_framed i)
    way_framed s (pads i u r o d) = padded_framed u _ _ d o (next_framed i)
    way_framed s (chains p a u r d) =
        served_framed _ _ _ (pass_framed S _ _ parts.time) (sym (ap (framed_context S.layout m.saved) r.holding) ∙ parts.context)
    way_framed s (returns p a r n d) = return_framed p a r.holding
    way_framed s (pads_again p a u r n d) =
        padded_framed u _ mem d (held_framed S m p a e r.holding).previous_inside (return_framed p a r.holding)

pub frame_kept : FrameKept
unfolding FrameKept
frame_kept S m mem v e =
    frame_whole S _
    (step_case S m mem (λ (s : Step). Framed S s.state) (λ h. frame_parts S m e) (way_framed S v m mem e))

-- ---- calls

-- a world is ready to run at the start, and stays so
pub ready_at_start : (S : Setting) (mem : List ℕ) → whole_memory mem ≡ true → accepted S.layout ≡ true → timetable S.stamps ≡ true
    → trace_fits S.trace ≡ true → ReadyToRun S (world (start mem) mem)
unfolding FramedAtStart
ready_at_start S mem w v t u = record { memory = w; layout = v; timetable = t; trace = u; frame = framed_at_start S mem }

pub ready_kept : (S : Setting) (w : World) → ReadyToRun S w → ReadyToRun S (world_after (step_of S w))
unfolding LengthKept FrameKept
ready_kept S w s =
    record {
      memory = ap (λ (n : ℕ). eqb n memory_bytes) (length_kept S w.state w.memory) ∙ s.memory;
      layout = s.layout;
      timetable = s.timetable;
      trace = s.trace;
      frame = frame_kept S w.state w.memory s.layout s.frame;
    }

pub only_distance_landmark_or_clock : OnlyDistanceLandmarkOrClock
unfolding OnlyDistanceLandmarkOrClock first_failure
only_distance_landmark_or_clock S w stop budget s = grind (arith, choices)
