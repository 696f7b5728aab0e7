-- Two machines of which the theorem speaks: their modules differ, a request breaks into them at different instructions, and outside
-- code sees the same.
use Rattle.std.specs.Prelude.{ℕ, ◌≡◌, true, List, [], ◌∷◌, ◌++◌, length}
use Rattle.base.specs.Verdict.{unrefused}
use Rattle.definition.specs.Setting.{trace_of, Setting, setting_of}
use Rattle.definition.specs.declared.stop_address.StopAddress.TheVariants.{Nowhere, At}
use Rattle.layout.specs.declared.sections.Layout.{Layout}
use Rattle.layout.specs.Sections.{outside}
use Rattle.answers.specs.declared.answer.Outcome.TheVariants.{Ran, Padded, Back, Halted}
use Rattle.answers.specs.declared.answer.End.TheVariants.{Address}
use Rattle.definition.specs.Memory.{byte_at}
use Rattle.definition.specs.Run.{Move, run}
use Rattle.definition.specs.Calls.{start_call}
use Rattle.witness.specs.Lines.{MLine, M, memory_of, StepLine, line, lines_of}
use Rattle.secrecy.specs.Calls.{running, run_of}
use Rattle.secrecy.specs.Sighting.{sightings}
use Rattle.secrecy.specs.Visit.{away, visits}
use Rattle.secrecy.specs.Secrecy.{start_world, Premise}

-- code at 0040, data at 0050, the service routine at 0020
abbrev pub example_layout : Layout
example_layout = record { code = record { start = 0x0040; end = 0x004A }; «data» = record { start = 0x0050; end = 0x0054 }; service = 0x0020 }

-- one request, a record's at stamp 5, and a stamp of the timetable that the run does not come to
abbrev pub example_setting : Setting
example_setting = setting_of example_layout (1000 ∷ []) (trace_of (5 ∷ []) (0x1234 ∷ []))

-- outside: GIE is set, the module is entered; later some NOPs and HLT. The service routine: two NOPs and RETI
abbrev pub outside_lines : List MLine
outside_lines =
    M 0xFFFE 0x0010 ∷ M 0x0010 0x4032 ∷ M 0x0012 0x0008 ∷ M 0x0014 0x4030 ∷ M 0x0016 0x0040
    ∷ M 0x0020 0x4303 ∷ M 0x0022 0x4303 ∷ M 0x0024 0x1300
    ∷ M 0x0030 0x4303 ∷ M 0x0032 0x4303 ∷ M 0x0034 0x4303 ∷ M 0x0036 0x4303 ∷ M 0x0038 0x4303 ∷ M 0x003A 0x0001 ∷ []

-- how the module leaves: MOV #0030 6, JMP &6
abbrev pub leaving_lines : List MLine
leaving_lines = M 0x0044 0x4036 ∷ M 0x0046 0x0030 ∷ M 0x0048 0x4600 ∷ []

-- one module begins with two NOPs: two cycles
abbrev pub module_a : List MLine
module_a = M 0x0040 0x4303 ∷ M 0x0042 0x4303 ∷ leaving_lines

-- the other with MOV #0 7: two cycles too
abbrev pub module_b : List MLine
module_b = M 0x0040 0x4037 ∷ M 0x0042 0x0000 ∷ leaving_lines

-- the memory of the one
unfoldable pub memory_a : List ℕ
memory_a = memory_of outside_lines module_a

-- the memory of the other
unfoldable pub memory_b : List ℕ
memory_b = memory_of outside_lines module_b

-- both runs, with a request at stamp 5: to the address where the module is left, and on from there
unfoldable pub example_run : List ℕ → List Move
example_run mem = run_of example_setting (start_world mem) (running (At 0x0030) 40 ∷ running Nowhere 40 ∷ [])

-- the lines of both runs up to where the module is left, and from there on
abbrev pub lines_before : List StepLine
lines_before =
    line Ran 2 0x0014 8 0 ∷ line Ran 4 0x0040 8 0 ∷ line Padded 17 0x0020 0 0 ∷ line Ran 18 0x0022 0 0 ∷ line Ran 19 0x0024 0 0 ∷ []

-- from where both are in step again
abbrev pub lines_later : List StepLine
lines_later =
    line Ran 27 0x0048 8 0 ∷ line Ran 29 0x0030 8 0 ∷ line Ran 30 0x0032 8 0 ∷ line Ran 31 0x0034 8 0 ∷ line Ran 32 0x0036 8 0
    ∷ line Ran 33 0x0038 8 0 ∷ line Ran 34 0x003A 8 0 ∷ line Halted 35 0x003C 8 0 ∷ []

-- they differ in the module only, the premise holds of them, they are broken into at different instructions (the one goes back to
-- 0042 at 24, the other to 0044 at 25), each comes to the address, and each has eleven sightings, a resumption among them
pub record NotVacuous : Type 0 where
  pub starts_a : (start_call memory_a).answer ≡ unrefused
  pub starts_b : (start_call memory_b).answer ≡ unrefused
  pub same : (a : ℕ) → outside example_layout a ≡ true → byte_at memory_a a ≡ byte_at memory_b a
  pub run_a : lines_of (example_run memory_a) ≡ lines_before ++ (line Back 24 0x0042 8 0 ∷ line Ran 25 0x0044 8 0 ∷ lines_later)
  pub run_b : lines_of (example_run memory_b) ≡ lines_before ++ (line Back 25 0x0044 8 0 ∷ lines_later)
  pub stops_a : (run example_setting (At 0x0030) 40 (start_world memory_a)).end ≡ Address
  pub stops_b : (run example_setting (At 0x0030) 40 (start_world memory_b)).end ≡ Address
  pub premise : Premise 100 (visits example_setting away (example_run memory_a)) (visits example_setting away (example_run memory_b))
  pub seen_a : length (sightings example_setting 100 (example_run memory_a)) ≡ 11
  pub seen_b : length (sightings example_setting 100 (example_run memory_b)) ≡ 11
