-- Up to what clock value nothing happens. Assumes nothing.
use Rattle.std.proofs.Common.{◌≡◌, ℕ, ◌+◌, ◌≤◌, Bool, true, false, sym, ap, ◌∙◌, arith, Option, None, Some}
use Rattle.base.proofs.Tests.{choices}
use Rattle.base.specs.Limits.{last_clock}
use Rattle.definition.specs.Setting.{Setting}
use Rattle.definition.specs.declared.state.Time.{Time}
use Rattle.definition.specs.Time.{happening, earlier, request, filled_by, alarm_left, pass}
use Rattle.definition.specs.Calls.{timetable}
use Rattle.clock.specs.Upcoming.{stamp_at, IsUpcoming}
use Rattle.clock.specs.NoEvent.{later, NotHappeningUntil, NoEventUntil}
use Rattle.definition.specs.Laws.{PassAdds}
use Rattle.definition.proofs.time.PassLaws.{pass_adds, filled_never}
use Rattle.clock.proofs.UpcomingLaws.{upcoming_earliest}

-- an alarm that does not happen stays
alarm_stays : (a b : ℕ) (alarm : Option ℕ) → happening a b alarm ≡ None → alarm_left a b alarm ≡ alarm
unfolding happening alarm_left
alarm_stays a b alarm e = grind (arith, choices)

-- a filled slot stays
filled_stays : (slot : Option ℕ) (s : ℕ) → slot ≡ Some s → (r : Option ℕ) → filled_by slot r ≡ slot
unfolding filled_by
filled_stays slot s e r = rw e

module _ (S : Setting) (masked : Bool) (t : Time) where
  -- a pending request of a masked machine, and the alarm does not happen
  pub no_event_pending : (s until : ℕ) → t.slot ≡ Some s → until ≤ last_clock → NotHappeningUntil t.clock t.alarm until
      → (masked ≡ false → until ≡ 0) → NoEventUntil S masked t until
  unfolding pass
  no_event_pending s until e small a z =
      record {
        bounded = small;
        empty = λ n h k l. absurd (omega (arith, z l));
        passes = λ n h k.
            rw (filled_stays t.slot s e, alarm_stays t.clock (t.clock + n) t.alarm (a _ k));
      }

  -- an empty slot, and neither the alarm nor the upcoming stamp nor the upcoming record happens
  module _ (upcoming upcoming_record until : ℕ) (e : t.slot ≡ None) (small : until ≤ last_clock)
      (timed : timetable S.stamps ≡ true) (traced : timetable S.trace.stamps ≡ true)
      (p : IsUpcoming S.stamps t.clock upcoming) (q : IsUpcoming S.trace.stamps t.clock upcoming_record)
      (a : NotHappeningUntil t.clock t.alarm until) (s : NotHappeningUntil t.clock (stamp_at S.stamps upcoming) until)
      (r : NotHappeningUntil t.clock (stamp_at S.trace.stamps upcoming_record) until) where
    none_requested : (b : ℕ) → b ≤ until → request S t.alarm t.clock b ≡ None
    unfolding request earlier
    none_requested b h =
        rw (
          upcoming_earliest t.clock b S.stamps upcoming timed p,
          upcoming_earliest t.clock b S.trace.stamps upcoming_record traced q,
          s b h,
          r b h,
          a b h,
        )

    pub no_event_by : NoEventUntil S masked t until
    unfolding pass
    no_event_by =
        record {
          bounded = small;
          empty = λ n h k l. e;
          passes = λ n h k.
              rw (none_requested (t.clock + n) k, filled_never t.slot, alarm_stays t.clock (t.clock + n) t.alarm (a _ k));
        }

  -- what holds up to a clock value holds on the way there
  pub no_event_later : (until n : ℕ) → NoEventUntil S masked t until → 1 ≤ n → t.clock + n ≤ until → NoEventUntil S masked (later n t) until
  unfolding PassAdds
  no_event_later until n s h k =
      record {
        bounded = s.bounded;
        empty = λ m i j l. s.empty n h k l;
        passes = λ m i j.
            ap (pass S m) (sym (s.passes n h k)) ∙ pass_adds S n m t ∙ s.passes (n + m) (omega arith) (omega arith)
            ∙ sooner_later m;
      }
    where
      sooner_later : (m : ℕ) → later (n + m) t ≡ later m (later n t)
      sooner_later m =
          let e : t.clock + (n + m) ≡ t.clock + n + m = omega arith in
          ap (λ (c : ℕ). at c) e
        where
          at : ℕ → Time
          at c = record { clock = c; slot = t.slot; alarm = t.alarm }
