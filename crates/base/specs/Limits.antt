-- The limits of document 01, each named once.
use Rattle.std.specs.Prelude.{ℕ}

-- memory is 65,536 bytes
abbrev pub memory_bytes : ℕ
memory_bytes = 65536

-- the last stamp, and the last clock value from which a machine steps: 2^62
abbrev pub last_clock : ℕ
last_clock = 0x4000_0000_0000_0000

-- a timetable has at most 4,096 stamps, and a trace as many records
abbrev pub most_stamps : ℕ
most_stamps = 4096

-- a run has a budget of at most 1,000,000 steps
abbrev pub most_budget : ℕ
most_budget = 1000000

-- a sheet has at most 32,768 bytes
abbrev pub most_sheet_bytes : ℕ
most_sheet_bytes = 32768
