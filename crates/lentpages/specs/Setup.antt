-- What the sheet reader tells, and what it leaves in what it is lent.
use Rattle.std.specs.Prelude.{ℕ, List, [], Ok, Err, ◌≡◌}
use Rattle.std.proofs.lemmas.List.Edits.{sets}
use Rattle.base.specs.Kept.{unless_refused}
use Rattle.definition.specs.Setting.{Trace}
use Rattle.loader.specs.Setup.{sheet_memory, sheet_stamps, sheet_trace, trace_put}
use Rattle.sheet.specs.Sheet.{Answer, sheet_refusal, refused_line, sheet_answer}
use Rattle.lentlayout.specs.Layout.{layout_fields}

-- the five addresses; none of a refusal
abbrev pub set_layout : Answer → List ℕ
set_layout (Ok setup) = layout_fields setup.layout
set_layout (Err r) = []

-- the count of stamps; none of a refusal
abbrev pub set_count : Answer → ℕ
set_count (Ok setup) = setup.stamps
set_count (Err r) = 0

-- the count of records; none of a refusal
abbrev pub set_records : Answer → ℕ
set_records (Ok setup) = setup.records
set_records (Err r) = 0

-- the budget; none of a refusal
abbrev pub set_budget : Answer → ℕ
set_budget (Ok setup) = setup.budget
set_budget (Err r) = 0

-- what is lent for a sheet's setup
pub record SetupRoom : Type 0 where
  pub memory : List ℕ
  pub stamps : List ℕ
  pub trace : Trace
  pub layout : List ℕ
  pub count : ℕ
  pub records : ℕ
  pub budget : ℕ
  pub line : ℕ

-- memory, stamps, trace, layout, count, records, budget and line, in this order
abbrev pub setup_room : List ℕ → List ℕ → Trace → List ℕ → ℕ → ℕ → ℕ → ℕ → SetupRoom
setup_room memory stamps trace layout count records budget line =
    record {
      memory = memory;
      stamps = stamps;
      trace = trace;
      layout = layout;
      count = count;
      records = records;
      budget = budget;
      line = line;
    }

-- what the sheet reader promises of the number that it answers and of what is lent after it: a refusal writes its line alone
pub record SheetReturns (sheet : List ℕ) (before after : SetupRoom) (answered : ℕ) : Type 0 where
  pub number : answered ≡ sheet_refusal (sheet_answer sheet)
  pub memory : after.memory ≡ unless_refused answered (sheet_memory sheet) before.memory
  pub stamps : after.stamps ≡ unless_refused answered (sets before.stamps 0 (sheet_stamps sheet)) before.stamps
  pub trace : after.trace ≡ unless_refused answered (trace_put before.trace (sheet_trace sheet)) before.trace
  pub layout : after.layout ≡ unless_refused answered (set_layout (sheet_answer sheet)) before.layout
  pub count : after.count ≡ unless_refused answered (set_count (sheet_answer sheet)) before.count
  pub records : after.records ≡ unless_refused answered (set_records (sheet_answer sheet)) before.records
  pub budget : after.budget ≡ unless_refused answered (set_budget (sheet_answer sheet)) before.budget
  pub line : after.line ≡ unless_refused answered before.line (refused_line (sheet_answer sheet))
