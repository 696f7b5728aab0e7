-- What is claimed of the machine.
use Rattle.std.specs.Prelude.{◌≡◌, Bool, true, false, ◌⊎◌, List, [], ◌∷◌, ◌++◌, ℕ, ◌+◌, ◌-◌, ◌≤◌, ◌<◌, length, get_or, Option, None, Some, Ok, Err}
use Rattle.std.specs.List.{All, Contains}
use Rattle.base.specs.declared.refusal.Refusal.{Refusal}
use Rattle.base.specs.declared.refusal.Refusal.TheVariants.{Distance, Landmark, Clock}
use Rattle.base.specs.Refusal.{refusal_number}
use Rattle.base.specs.FirstFailure.{Test}
use Rattle.base.specs.Limits.{last_clock}
use Rattle.base.specs.Verdict.{verdict, unrefused}
use Rattle.base.specs.Test.{all}
use Rattle.base.specs.Word.{drop_bit0, sum16}
use Rattle.rows.specs.Words.{begun, two_words}
use Rattle.isa.specs.declared.instruction.Instruction.{Instruction}
use Rattle.isa.specs.declared.instruction.Instruction.TheVariants.{Reti}
use Rattle.isa.specs.Cycles.{cycles_of}
use Rattle.layout.specs.declared.sections.Layout.{Layout}
use Rattle.layout.specs.declared.access.Right.TheVariants.{Execute as execute}
use Rattle.layout.specs.declared.sections.Section.{Section}
use Rattle.layout.specs.declared.sections.Section.TheVariants.{Outside, Data}
use Rattle.layout.specs.Sections.{section, inside, outside, same_side}
use Rattle.layout.specs.Rules.{accepted}
use Rattle.layout.specs.Access.{may}
use Rattle.alu.specs.Status.{gie}
use Rattle.definition.specs.Setting.{trace_of, no_trace, Setting, setting_of}
use Rattle.definition.specs.declared.state.Time.{Time}
use Rattle.definition.specs.declared.state.State.{State}
use Rattle.definition.specs.declared.stop_address.StopAddress.{StopAddress}
use Rattle.definition.specs.declared.stop_address.StopAddress.TheVariants.{Nowhere, At}
use Rattle.answers.specs.declared.answer.Cause.{Cause}
use Rattle.answers.specs.declared.answer.Cause.TheVariants.{Execute, Reentry, SecondSide, Inside}
use Rattle.answers.specs.declared.answer.Outcome.{Outcome}
use Rattle.answers.specs.declared.answer.Outcome.TheVariants.{Ran, Plain, Padded, Chained, Back, Reset, Halted}
use Rattle.answers.specs.declared.answer.End.TheVariants.{Halted as HaltedEnd, Clock as ClockEnd, Address as AddressEnd, Spent}
use Rattle.definition.specs.Memory.{byte_at, word_at}
use Rattle.definition.specs.Registers.{pc, sr}
use Rattle.definition.specs.Time.{request, pass, emptied, no_record, device_word}
use Rattle.definition.specs.WithoutTrace.{request_without_trace, pass_without_trace, device_word_without_trace}
use Rattle.definition.specs.State.{World, world, is_held, reset_address, start, framed, held_visit}
use Rattle.definition.specs.Judge.{reads, writes, privileged, is_reti, judge_act, judge}
use Rattle.definition.specs.Act.{registers_after, memory_after}
use Rattle.definition.specs.Interrupt.{Step, gives, padded, back}
use Rattle.definition.specs.Step.{executed, judged, step}
use Rattle.definition.specs.Run.{at_stop, Stop, Move, world_after, step_of, run, moves}
use Rattle.definition.specs.WithoutStopAddress.{run_without_stop, moves_without_stop, run_call_without_stop}
use Rattle.definition.specs.Answers.{run_refusal, step_refusal}
use Rattle.definition.specs.Promises.{Untouched}
use Rattle.definition.specs.Calls.{whole_memory, timetable, trace_fits, start_tests, step_tests, run_tests, step_call, run_call}

-- ---- time

-- passing n and then m cycles is passing n + m
unfoldable pub PassAdds : Type 0
PassAdds = (S : Setting) (n m : ℕ) (t : Time) → pass S m (pass S n t) ≡ pass S (n + m) t

-- a trace without a record: requests, passing time and device are those of the machine that knew no trace
unfoldable pub EmptyTrace : Type 0
EmptyTrace =
    (S : Setting) → no_record S.trace.stamps ≡ true
    → ((alarm : Option ℕ) (a b : ℕ) → request S alarm a b ≡ request_without_trace S alarm a b)
    × ((n : ℕ) (t : Time) → pass S n t ≡ pass_without_trace S n t)
    × ((t : Time) → device_word S t ≡ device_word_without_trace S t)

-- a record is a request as a stamp of the timetable is: either list may hold it
unfoldable pub RecordsAreRequests : Type 0
RecordsAreRequests =
    (L : Layout) (stamps words : List ℕ) (alarm : Option ℕ) (a b : ℕ)
    → request (setting_of L [] (trace_of stamps words)) alarm a b ≡ request_without_trace (setting_of L stamps no_trace) alarm a b

-- records whose stamps stand in the timetable add no request
unfoldable pub RecordsCountOnce : Type 0
RecordsCountOnce =
    (S : Setting) → All (Contains S.stamps) S.trace.stamps → (alarm : Option ℕ) (a b : ℕ)
    → request S alarm a b ≡ request_without_trace S alarm a b

-- IN reads the last record that the clock has come to: the one with this index, where the next, if there is one, is still ahead
unfoldable pub LastRecordRead : Type 0
LastRecordRead =
    (S : Setting) (t : Time) (i : ℕ) → trace_fits S.trace ≡ true → i < length S.trace.stamps
    → get_or S.trace.stamps i 0 ≤ t.clock
    → (i + 1 < length S.trace.stamps → t.clock < get_or S.trace.stamps (i + 1) 0)
    → device_word S t ≡ get_or S.trace.words i 0

-- and 0 where all records are still ahead
unfoldable pub NoRecordYet : Type 0
NoRecordYet =
    (S : Setting) (t : Time) → trace_fits S.trace ≡ true → 0 < length S.trace.stamps → t.clock < get_or S.trace.stamps 0 0
    → device_word S t ≡ 0

-- a step of a running machine adds 1 to 23 cycles
unfoldable pub StepCycles : Type 0
StepCycles =
    (S : Setting) (m : State) (mem : List ℕ) → framed S m ≡ true → m.halted ≡ false
    → (m.time.clock + 1 ≤ (step S m mem).state.time.clock)
    × ((step S m mem).state.time.clock ≤ m.time.clock + 23)

-- a step of a halted machine changes nothing
unfoldable pub HaltedStays : Type 0
HaltedStays =
    (S : Setting) (m : State) (mem : List ℕ) → m.halted ≡ true → step S m mem ≡ gives m mem Halted

-- ---- the frame

-- the start state is framed
unfoldable pub FramedAtStart : Type 0
FramedAtStart = (S : Setting) (mem : List ℕ) → framed S (start mem) ≡ true

-- every step of an accepted machine keeps the frame
unfoldable pub FrameKept : Type 0
FrameKept =
    (S : Setting) (m : State) (mem : List ℕ) → accepted S.layout ≡ true → framed S m ≡ true
    → framed S (step S m mem).state ≡ true

-- memory keeps its length
unfoldable pub LengthKept : Type 0
LengthKept = (S : Setting) (m : State) (mem : List ℕ) → length (step S m mem).memory ≡ length mem

-- the tests that every call passes which follows another
pub record ReadyToRun (S : Setting) (w : World) : Type 0 where
  pub memory : whole_memory w.memory ≡ true
  pub layout : accepted S.layout ≡ true
  pub timetable : timetable S.stamps ≡ true
  pub trace : trace_fits S.trace ≡ true
  pub frame : framed S w.state ≡ true

-- of a world that passes them, only refusals 5, 11 and 6 can happen
unfoldable pub OnlyDistanceLandmarkOrClock : Type 0
OnlyDistanceLandmarkOrClock =
    (S : Setting) (w : World) (stop : StopAddress) (budget : ℕ) → ReadyToRun S w
    → (verdict (run_tests S stop budget w) ≡ unrefused)
    ⊎ ((verdict (run_tests S stop budget w) ≡ Err Distance)
    ⊎ ((verdict (run_tests S stop budget w) ≡ Err Landmark) ⊎ (verdict (run_tests S stop budget w) ≡ Err Clock)))

-- ---- the module

-- code inside never alters GIE
unfoldable pub GieKeptInside : Type 0
GieKeptInside =
    (rs mem : List ℕ) (device : ℕ) (i : Instruction) → gie (sr (registers_after true rs device mem i)) ≡ gie (sr rs)

-- where GIE is set the slot is empty
abbrev pub NothingDue : State → Type 0
NothingDue m = gie (sr m.registers) ≡ true → m.time.slot ≡ None

-- so at the start, and after every step of a machine with nothing due
unfoldable pub NothingDueAtStart : Type 0
NothingDueAtStart = (mem : List ℕ) → NothingDue (start mem)

-- and after every step
unfoldable pub NothingDueKept : Type 0
NothingDueKept =
    (S : Setting) (m : State) (mem : List ℕ) → framed S m ≡ true → m.halted ≡ false → NothingDue m
    → (step S m mem).state.halted ≡ false → NothingDue (step S m mem).state

-- the age that a padded service of a machine with nothing due holds is at most 5
unfoldable pub AgeAtMostFive : Type 0
AgeAtMostFive =
    (S : Setting) (m : State) (mem : List ℕ) (previous age : ℕ) → framed S m ≡ true → NothingDue m
    → (step S m mem).outcome ≡ Padded → (step S m mem).state.context ≡ held_visit previous age → age ≤ 5

-- a step inside writes only code and data, a step elsewhere only outside
unfoldable pub WritesOwnSide : Type 0
WritesOwnSide =
    (S : Setting) (m : State) (mem : List ℕ) (a : ℕ) → accepted S.layout ≡ true
    → (inside S.layout (pc m.registers) ≡ true → outside S.layout a ≡ true → byte_at (step S m mem).memory a ≡ byte_at mem a)
    × (inside S.layout (pc m.registers) ≡ false → outside S.layout a ≡ false → byte_at (step S m mem).memory a ≡ byte_at mem a)

-- every word of these addresses lies in the section
abbrev pub AllIn : Layout → Section → List ℕ → Type 0
AllIn L s [] = Unit {0}
AllIn L s (a ∷ addresses) = (section L (drop_bit0 a) ≡ s) × AllIn L s addresses

-- an instruction that acts reads and writes data if it is inside, and outside if it is not, unless it returns to a held visit, which
-- touches no memory
unfoldable pub TouchesOwnSide : Type 0
TouchesOwnSide =
    (L : Layout) (held : Bool) (rs mem : List ℕ) (previous : ℕ) (i : Instruction) → judge L held rs mem previous ≡ Ok i
    → all (held ∷ is_reti i ∷ []) ≡ false
    → (inside L (pc rs) ≡ true → AllIn L Data (reads rs i) × AllIn L Data (writes rs i))
    × (inside L (pc rs) ≡ false → AllIn L Outside (reads rs i) × AllIn L Outside (writes rs i))

-- ---- the twelve-cycle law

-- a request that fills the slot during an instruction inside, GIE set, reaches service 12 cycles after its stamp
unfoldable pub TwelveInside : Type 0
TwelveInside =
    (S : Setting) (m : State) (mem : List ℕ) (i : Instruction) (s : ℕ)
    → m.halted ≡ false → inside S.layout (pc m.registers) ≡ true → m.context ≡ None
    → judged S (world m mem) ≡ Ok i
    → gie (sr m.registers) ≡ true → m.time.slot ≡ None → (executed S m mem i).time.slot ≡ Some s
    → ((step S m mem).outcome ≡ Padded) × ((step S m mem).state.time.clock ≡ s + 12)

-- and one that does so in return padding
unfoldable pub TwelveInReturn : Type 0
TwelveInReturn =
    (S : Setting) (m : State) (mem : List ℕ) (previous age s : ℕ)
    → m.halted ≡ false → framed S m ≡ true → m.context ≡ held_visit previous age
    → judged S (world m mem) ≡ Ok Reti
    → (pass S (cycles_of Reti) m.time).slot ≡ None
    → (pass S age (pass S (cycles_of Reti) m.time)).slot ≡ Some s
    → ((step S m mem).outcome ≡ Padded) × ((step S m mem).state.time.clock ≡ s + 12)

-- the time at which a padded service starts is decided by the stamp alone, not by the instruction that it broke into
unfoldable pub PaddedByStamp : Type 0
PaddedByStamp =
    (S : Setting) (m : State) (mem : List ℕ) (t : Time) (n s : ℕ)
    → t.slot ≡ None → n ≤ 6 → m.time ≡ pass S n t → m.time.slot ≡ Some s
    → (padded S s m mem).state.time ≡ pass S 6 (emptied (pass S (s + 6 - t.clock) t))

-- the wait before a padded service and the wait after its return come to 6 cycles, whatever the age; 6 more start the service
unfoldable pub PaddingSum : Type 0
PaddingSum =
    (S : Setting) (s : ℕ) (m : State) (mem : List ℕ) (t : Time) (previous age : ℕ) (saved : List ℕ)
    → (padded S s m mem).state.context ≡ held_visit previous age
    → (padded S s m mem).state.time.clock + (back S t previous age saved).time.clock
    ≡ m.time.clock + 6 + 6 + t.clock

-- ---- the causes and the ways to serve

-- a word that may not be executed is not read, nor is anything else
unfoldable pub BarredUnread : Type 0
BarredUnread =
    (L : Layout) (held : Bool) (rs mem : List ℕ) (previous : ℕ) → may L previous execute (pc rs) ≡ false
    → judge L held rs mem previous ≡ Err Execute

-- the module may not be entered again while a visit is held
unfoldable pub NoReentry : Type 0
NoReentry =
    (L : Layout) (rs mem : List ℕ) (previous : ℕ) → may L previous execute (pc rs) ≡ true → inside L (pc rs) ≡ true
    → judge L true rs mem previous ≡ Err Reentry

-- a second word on another side is not read, nor is anything that it would tell
unfoldable pub SecondElsewhereUnread : Type 0
SecondElsewhereUnread =
    (L : Layout) (held : Bool) (rs mem : List ℕ) (previous : ℕ)
    → may L previous execute (pc rs) ≡ true → all (inside L (pc rs) ∷ held ∷ []) ≡ false
    → two_words (begun (word_at mem (pc rs))) ≡ true → same_side L (pc rs) (sum16 (pc rs) 2) ≡ false
    → judge L held rs mem previous ≡ Err SecondSide

-- HLT, IN and OUT inside reset by that name, whatever they would do
unfoldable pub PrivilegedInside : Type 0
PrivilegedInside =
    (L : Layout) (held : Bool) (rs : List ℕ) (i : Instruction) → inside L (pc rs) ≡ true → privileged i ≡ true
    → judge_act L held rs i ≡ Err Inside

-- RETI while a visit is held chains if the slot is filled, whatever GIE is
unfoldable pub ChainsWhateverGie : Type 0
ChainsWhateverGie =
    (S : Setting) (m : State) (mem : List ℕ) (previous age s : ℕ)
    → m.halted ≡ false → m.context ≡ held_visit previous age
    → judged S (world m mem) ≡ Ok Reti
    → (pass S (cycles_of Reti) m.time).slot ≡ Some s
    → (step S m mem).outcome ≡ Chained

-- what a reset leaves: pc is the reset vector's word in the memory that the step leaves, the slot is empty, no visit is held
pub record AfterReset (s : Step) : Type 0 where
  pub address : pc s.state.registers ≡ reset_address s.memory
  pub slot : s.state.time.slot ≡ None
  pub context : s.state.context ≡ None

-- so of every step that resets
unfoldable pub ResetAfterStore : Type 0
ResetAfterStore =
    (S : Setting) (m : State) (mem : List ℕ) (c : Cause) → (step S m mem).outcome ≡ Reset c
    → AfterReset (step S m mem)

-- ---- run

-- the count is the number of steps made
unfoldable pub RunCounts : Type 0
RunCounts =
    (S : Setting) (stop : StopAddress) (budget : ℕ) (w : World) → (run S stop budget w).steps ≡ length (moves S stop budget w)

-- an end is said exactly when it is so: halted first, then the clock, then the stop address, then the budget
pub record EndsSo (stop : StopAddress) (s : Stop) (budget : ℕ) : Type 0 where
  pub within : s.steps ≤ budget
  pub halted : s.end ≡ HaltedEnd → s.state.halted ≡ true
  pub clock : s.end ≡ ClockEnd → (s.state.halted ≡ false) × (last_clock < s.state.time.clock)
  pub address : s.end ≡ AddressEnd
      → (s.state.halted ≡ false) × (s.state.time.clock ≤ last_clock) × (at_stop stop (pc s.state.registers) ≡ true)
  pub spent : s.end ≡ Spent
      → (s.state.halted ≡ false) × (s.state.time.clock ≤ last_clock) × (at_stop stop (pc s.state.registers) ≡ false) × (s.steps ≡ budget)

-- so of every run
unfoldable pub RunEnds : Type 0
RunEnds = (S : Setting) (stop : StopAddress) (budget : ℕ) (w : World) → EndsSo stop (run S stop budget w) budget

-- where a run stops not halted, its clock not above 2^62, and at its stop address, it says "address"
unfoldable pub AddressSaid : Type 0
AddressSaid =
    (S : Setting) (stop : StopAddress) (budget : ℕ) (w : World) → (run S stop budget w).state.halted ≡ false
    → (run S stop budget w).state.time.clock ≤ last_clock → at_stop stop (pc (run S stop budget w).state.registers) ≡ true
    → (run S stop budget w).end ≡ AddressEnd

-- no step of a run begins at its stop address
unfoldable pub NoStepAtStop : Type 0
NoStepAtStop =
    (S : Setting) (a budget : ℕ) (w : World)
    → All (λ (v : Move). pc v.before.state.registers ≡ a → ⊥) (moves S (At a) budget w)

-- without a stop address, where a run stops, its steps and the answer to its caller are those of a machine whose runs know none
unfoldable pub NoStopAddress : Type 0
NoStopAddress =
    (S : Setting) (budget : ℕ) (w : World)
    → (run S Nowhere budget w ≡ run_without_stop S budget w)
    × (moves S Nowhere budget w ≡ moves_without_stop S budget w)
    × (run_call S Nowhere budget w ≡ run_call_without_stop S budget w)

-- the world where a run stopped
abbrev pub world_at : Stop → World
world_at s = world s.state s.memory

-- a stop with n steps before it
abbrev pub after_steps : ℕ → Stop → Stop
after_steps n s = record { state = s.state; memory = s.memory; end = s.end; steps = n + s.steps }

-- running n and then k is running n + k, where the first does not stop early
unfoldable pub RunAdds : Type 0
RunAdds =
    (S : Setting) (stop : StopAddress) (n k : ℕ) (w : World) → (run S stop n w).end ≡ Spent
    → run S stop (n + k) w ≡ after_steps n (run S stop k (world_at (run S stop n w)))

-- a run to a stop address and on from there, with the budget that is left, is the run without the address: where it stops, and its steps
unfoldable pub RunGoesOn : Type 0
RunGoesOn =
    (S : Setting) (stop : StopAddress) (budget : ℕ) (w : World)
    → (run S Nowhere budget w
    ≡ after_steps (run S stop budget w).steps
    (run S Nowhere (budget - (run S stop budget w).steps) (world_at (run S stop budget w))))
    × (moves S Nowhere budget w
    ≡ moves S stop budget w ++ moves S Nowhere (budget - (run S stop budget w).steps) (world_at (run S stop budget w)))

-- ---- refusals

-- the refusals of a list of tests, by their numbers
abbrev pub refusal_numbers : List (Test Refusal) → List ℕ
refusal_numbers [] = []
refusal_numbers (t ∷ tests) = refusal_number t.failure ∷ refusal_numbers tests

-- every call makes its tests in the order of their numbers, but 10 right after 3 and 11 right after 5
unfoldable pub RefusalsInOrder : Type 0
RefusalsInOrder =
    (S : Setting) (stop : StopAddress) (budget : ℕ) (w : World)
    → (refusal_numbers (start_tests w.memory) ≡ 1 ∷ [])
    × (refusal_numbers (step_tests S w) ≡ 1 ∷ 2 ∷ 3 ∷ 10 ∷ 4 ∷ 6 ∷ [])
    × (refusal_numbers (run_tests S stop budget w) ≡ 1 ∷ 2 ∷ 3 ∷ 10 ∷ 4 ∷ 5 ∷ 11 ∷ 6 ∷ [])

-- a call that is refused leaves the machine and every byte as they came
unfoldable pub RefusedUntouched : Type 0
RefusedUntouched =
    (S : Setting) (stop : StopAddress) (budget : ℕ) (w : World)
    → Untouched (step_refusal (step_call S w).answer) w
    (world (step_call S w).state (step_call S w).memory)
    × Untouched (run_refusal (run_call S stop budget w).answer) w
    (world (run_call S stop budget w).state (run_call S stop budget w).memory)

-- ---- what is seen from outside

-- two memories with the same outside bytes
pub record SameOutside (S : Setting) (mem bytes : List ℕ) : Type 0 where
  pub long : length mem ≡ length bytes
  pub same : (a : ℕ) → outside S.layout a ≡ true → byte_at mem a ≡ byte_at bytes a

-- two worlds that are seen alike: registers, time, outside bytes, and whether a visit is held; not what is held, nor the previous
-- address
pub record SameView (S : Setting) (w v : World) : Type 0 where
  pub registers : w.state.registers ≡ v.state.registers
  pub time : w.state.time ≡ v.state.time
  pub held : is_held w.state.context ≡ is_held v.state.context
  pub halted : w.state.halted ≡ v.state.halted
  pub memory : SameOutside S w.memory v.memory

-- two steps that end seen alike, with the same previous address and the same outcome
pub record SameStep (S : Setting) (a b : Step) : Type 0 where
  pub view : SameView S (world_after a) (world_after b)
  pub previous : a.state.previous ≡ b.state.previous
  pub outcome : a.outcome ≡ b.outcome

-- a RETI that resumes the module: back, or a padded service at once
abbrev pub is_resuming : Outcome → Bool
is_resuming Ran = false
is_resuming Plain = false
is_resuming Padded = true
is_resuming Chained = false
is_resuming Back = true
is_resuming (Reset c) = false
is_resuming Halted = false

-- alike, or both resume the module
pub data SeenAlike (S : Setting) (a b : Step) : Type 0 where
  alike : SameStep S a b → SeenAlike S a b
  resuming : is_resuming a.outcome ≡ true → is_resuming b.outcome ≡ true → SeenAlike S a b

-- a step of a running machine that begins outside is decided by what is seen from outside
unfoldable pub OutsideLocal : Type 0
OutsideLocal =
    (S : Setting) (w v : World) → accepted S.layout ≡ true → framed S w.state ≡ true → framed S v.state ≡ true
    → w.state.halted ≡ false → SameView S w v → outside S.layout (pc w.state.registers) ≡ true
    → SeenAlike S (step_of S w) (step_of S v)

-- an instruction inside passes only its cycles and keeps the outside bytes
pub record Confined (S : Setting) (m : State) (mem : List ℕ) (i : Instruction) : Type 0 where
  pub time : (executed S m mem i).time ≡ pass S (cycles_of i) m.time
  pub memory : SameOutside S mem (memory_after m.registers mem i)
  pub enabled : gie (sr (executed S m mem i).registers) ≡ gie (sr m.registers)

-- so of every instruction that acts inside, none being held
unfoldable pub InsideConfined : Type 0
InsideConfined =
    (S : Setting) (m : State) (mem : List ℕ) (i : Instruction) → accepted S.layout ≡ true
    → inside S.layout (pc m.registers) ≡ true → m.context ≡ None
    → judged S (world m mem) ≡ Ok i
    → Confined S m mem i
