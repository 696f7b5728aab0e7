-- The requests of a run's lists, as the clock goes on.
use Rattle.std.specs.Prelude.{◌≡◌, ℕ, ◌+◌, ◌≤◌, true}
use Rattle.layout.specs.declared.sections.Layout.{Layout}
use Rattle.definition.specs.Setting.{Setting, setting_of}
use Rattle.definition.specs.Calls.{timetable, trace_fits}
use Rattle.clock.specs.declared.lists.RequestLists.{RequestLists}
use Rattle.clock.specs.declared.time.Requests.{Requests}
use Rattle.clock.specs.Trace.{lent_trace}
use Rattle.clock.specs.Upcoming.{StampsPassed, IsUpcoming, clock_room}

-- the setting of a layout and a run's lists
abbrev pub setting_by : Layout → RequestLists → Setting
setting_by L lists = setting_of L lists.stamps.now (lent_trace lists.trace)

-- the setting of a layout and the requests' lists
abbrev pub setting_with : Layout → Requests → Setting
setting_with L r = setting_by L r.lists

-- the lists are a timetable and a trace, as a call has tested
pub record Tested (lists : RequestLists) : Type 0 where
  pub timed : timetable lists.stamps.now ≡ true
  pub traced : trace_fits (lent_trace lists.trace) ≡ true

-- the clock has passed the stamps before both indices, of lists that are tested
pub record HasPassed (r : Requests) (clock : ℕ) : Type 0 where
  pub tested : Tested r.lists
  pub stamps : StampsPassed r.lists.stamps.now clock r.upcoming
  pub records : StampsPassed r.lists.trace.stamps.now clock r.upcoming_record

-- the indices are those of the upcoming stamp and of the upcoming record at this clock value, of lists that are tested
pub record AtClock (r : Requests) (clock : ℕ) : Type 0 where
  pub tested : Tested r.lists
  pub stamps : IsUpcoming r.lists.stamps.now clock r.upcoming
  pub records : IsUpcoming r.lists.trace.stamps.now clock r.upcoming_record

-- n cycles can pass: from indices before which the clock has passed all stamps, within the clock's room
pub record CanPass (r : Requests) (clock n : ℕ) : Type 0 where
  pub passed : HasPassed r clock
  pub room : clock + n ≤ clock_room
