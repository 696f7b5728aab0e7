-- What holds of every sheet that is read: the statement of the law.
use Rattle.std.specs.Prelude.{ℕ, ◌≤◌, ◌≡◌, true, List, Ok, length}
use Rattle.base.specs.Limits.{most_budget}
use Rattle.layout.specs.Rules.{accepted}
use Rattle.definition.specs.Setting.{Trace}
use Rattle.definition.specs.Calls.{timetable, trace_fits}
use Rattle.sheet.specs.declared.reader.Setup.{Setup}
use Rattle.sheet.specs.Sheet.{sheet_answer}
use Rattle.loader.specs.Setup.{sheet_stamps, sheet_trace}

-- a setup that the machine takes: its layout, its timetable and its trace, as many stamps and records as it says, its budget
pub record Runnable (setup : Setup) (stamps : List ℕ) (trace : Trace) : Type 0 where
  pub fence : accepted setup.layout ≡ true
  pub rising : timetable stamps ≡ true
  pub counted : setup.stamps ≡ length stamps
  pub traced : trace_fits trace ≡ true
  pub records_counted : setup.records ≡ length trace.stamps
  pub budget_allowed : setup.budget ≤ most_budget

-- what a sheet sets up, the machine takes
unfoldable pub ReadIsRunnable : Type 0
ReadIsRunnable =
    (sheet : List ℕ) (setup : Setup) → sheet_answer sheet ≡ Ok setup → Runnable setup (sheet_stamps sheet) (sheet_trace sheet)
