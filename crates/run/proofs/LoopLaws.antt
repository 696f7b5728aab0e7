-- What each turn of a run's loop does and keeps: what is left to do from here lands where the whole run lands. Assumes nothing.
use Rattle.std.proofs.Common.{◌≡◌, ℕ, zero, suc, ◌+◌, ◌-◌, ◌≤◌, ◌<◌, true, false, length, sym, ◌∙◌, ap, subst, arith, lt-ltb, le-ltb}
use Rattle.base.proofs.Tests.{when_true, when_false}
use Rattle.base.specs.Limits.{last_clock}
use Rattle.layout.specs.declared.sections.Layout.{Layout}
use Rattle.definition.specs.Setting.{Setting}
use Rattle.definition.specs.declared.state.State.{State}
use Rattle.definition.specs.declared.stop_address.StopAddress.{StopAddress}
use Rattle.answers.specs.declared.answer.End.{End}
use Rattle.answers.specs.declared.answer.End.TheVariants.{Halted, Clock, Address, Spent}
use Rattle.definition.specs.Registers.{pc}
use Rattle.definition.specs.State.{World}
use Rattle.definition.specs.Run.{goes, stops, at_stop, ending, run_from, run, stop_or}
use Rattle.clock.specs.declared.time.Requests.{Requests}
use Rattle.definition.specs.Calls.{timetable, trace_fits}
use Rattle.clock.specs.Upcoming.{IsUpcoming, step_room}
use Rattle.clock.specs.Requests.{setting_by, setting_with, Tested, HasPassed, AtClock, CanPass}
use Rattle.clock.proofs.UpcomingLaws.{requests_later, can_step}

-- why the loop leaves, and where it does not
module _ (stop : StopAddress) (m : State) where
  pub ending_halted : m.halted ≡ true → ending stop m ≡ stops Halted
  unfolding ending
  ending_halted h = when_true _ _ _ h

  pub ending_clock : m.halted ≡ false → last_clock < m.time.clock → ending stop m ≡ stops Clock
  unfolding ending
  ending_clock h k = when_false _ _ _ h ∙ when_true _ _ _ (lt-ltb _ _ k)

  pub ending_address : m.halted ≡ false → m.time.clock ≤ last_clock → at_stop stop (pc m.registers) ≡ true → ending stop m ≡ stops Address
  unfolding ending
  ending_address h k a = when_false _ _ _ h ∙ when_false _ _ _ (le-ltb _ _ k) ∙ when_true _ _ _ a

  pub ending_goes : m.halted ≡ false → m.time.clock ≤ last_clock → at_stop stop (pc m.registers) ≡ false → ending stop m ≡ goes
  unfolding ending
  ending_goes h k a = when_false _ _ _ h ∙ when_false _ _ _ (le-ltb _ _ k) ∙ when_false _ _ _ a

module _ (S : Setting) (stop : StopAddress) where
  -- what a turn of the loop does: k steps of those that are left, and what is left then lands where the run does
  pub record LoopStep (left : ℕ) (w : World) (k : ℕ) (next : World) : Type 0 where
    pub some : 1 ≤ k
    pub within : k ≤ left
    pub rises : w.state.time.clock ≤ next.state.time.clock
    pub lands : (n : ℕ) → run_from S stop n left w ≡ run_from S stop (n + k) (left - k) next

  -- a run of tested lists that has made n steps of its budget and is at this world and these upcoming indices
  pub record LoopKeeps (budget : ℕ) (from w : World) (n upcoming upcoming_record : ℕ) : Type 0 where
    pub upcoming_here : IsUpcoming S.stamps w.state.time.clock upcoming
    pub record_here : IsUpcoming S.trace.stamps w.state.time.clock upcoming_record
    pub lands : run S stop budget from ≡ run_from S stop n (budget - n) w

  -- a run, whatever its lists
  pub record RunKeeps (budget : ℕ) (from w : World) (n upcoming upcoming_record : ℕ) : Type 0 where
    pub size : length w.memory ≡ length from.memory
    pub within : n ≤ budget
    pub timed : timetable S.stamps ≡ true → trace_fits S.trace ≡ true → LoopKeeps budget from w n upcoming upcoming_record

  pub loop_first : (budget : ℕ) (w : World) (upcoming upcoming_record : ℕ)
      → IsUpcoming S.stamps w.state.time.clock upcoming → IsUpcoming S.trace.stamps w.state.time.clock upcoming_record
      → LoopKeeps budget w w 0 upcoming upcoming_record
  unfolding run
  loop_first budget w upcoming upcoming_record p q =
      let e : budget - 0 ≡ budget = omega arith in
      record { upcoming_here = p; record_here = q; lands = rw e }

  module _ (budget : ℕ) (from w : World) (n upcoming upcoming_record : ℕ) (t : LoopKeeps budget from w n upcoming upcoming_record) where
    -- a step of the loop
    pub loop_next : (k : ℕ) (next : World) → LoopStep (budget - n) w k next → (further further_record : ℕ)
        → IsUpcoming S.stamps next.state.time.clock further → IsUpcoming S.trace.stamps next.state.time.clock further_record
        → LoopKeeps budget from next (n + k) further further_record
    loop_next k next u further further_record p q =
        let e : budget - n - k ≡ budget - (n + k) = omega arith in
        record {
          upcoming_here = p;
          record_here = q;
          lands = t.lands ∙ u.lands n ∙ ap (λ (z : ℕ). run_from S stop (n + k) z next) e;
        }

    -- a machine that stops, whatever is left
    stopping : (left : ℕ) (e : End) → ending stop w.state ≡ stops e
        → run_from S stop n left w ≡ record { state = w.state; memory = w.memory; end = e; steps = n }
    unfolding run_from
    stopping zero e g = ap (stop_or n w _) g
    stopping (suc left) e g = ap (stop_or n w _) g

    pub loop_stops : (e : End) → ending stop w.state ≡ stops e
        → run S stop budget from ≡ record { state = w.state; memory = w.memory; end = e; steps = n }
    loop_stops e g = t.lands ∙ stopping _ e g

    -- a budget that is spent
    spending : (left : ℕ) → left ≡ 0 → ending stop w.state ≡ goes
        → run_from S stop n left w ≡ record { state = w.state; memory = w.memory; end = Spent; steps = n }
    unfolding run_from
    spending left e g = rw e (ap (stop_or n w _) g)

    pub loop_spent : n ≡ budget → w.state.halted ≡ false → w.state.time.clock ≤ last_clock
        → at_stop stop (pc w.state.registers) ≡ false
        → run S stop budget from ≡ record { state = w.state; memory = w.memory; end = Spent; steps = n }
    loop_spent e h k a = t.lands ∙ spending _ (omega arith) (ending_goes stop _ h k a)

-- the same of requests: at the indices that go along with a run's clock
module _ (L : Layout) (stop : StopAddress) (budget : ℕ) (from w : World) (n : ℕ) (r : Requests) (h : Tested r.lists)
    (t : LoopKeeps (setting_with L r) stop budget from w n r.upcoming r.upcoming_record) where
  pub loop_here : AtClock r w.state.time.clock
  loop_here = record { tested = h; stamps = t.upcoming_here; records = t.record_here }

  -- what a step asks for
  pub loop_can_pass : w.state.time.clock ≤ last_clock → CanPass r w.state.time.clock step_room
  loop_can_pass k = can_step r w.state.time.clock k loop_here

  -- and what finding the next upcoming stamps asks for
  pub loop_passed : (clock : ℕ) → w.state.time.clock ≤ clock → HasPassed r clock
  loop_passed clock g = requests_later r w.state.time.clock clock g loop_here

  -- a step of the loop, and requests of the same lists at its clock value
  pub loop_goes_on : (k : ℕ) (next : World) → LoopStep (setting_with L r) stop (budget - n) w k next
      → (further : Requests) → further.lists ≡ r.lists → AtClock further next.state.time.clock
      → LoopKeeps (setting_with L further) stop budget from next (n + k) further.upcoming further.upcoming_record
  loop_goes_on k next u further e p =
      let same : setting_with L r ≡ setting_with L further = ap (setting_by L) (sym e) in
      loop_next (setting_with L further) stop budget from w n r.upcoming r.upcoming_record
      (subst (λ (z : Setting). LoopKeeps z stop budget from w n r.upcoming r.upcoming_record) same t) k next
      (subst (λ (z : Setting). LoopStep z stop (budget - n) w k next) same u)
      further.upcoming further.upcoming_record p.stamps p.records
