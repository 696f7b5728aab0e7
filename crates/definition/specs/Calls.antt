-- What callers get: the first refusal in order, with the machine and memory as they came; or the definition's result.
use Rattle.std.specs.Prelude.{ℕ, Bool, true, false, List, [], ◌∷◌, ◌++◌, leb, ltb, eqb, length, Result, Ok, Err}
use Rattle.answers.specs.Outcome.{stopped}
use Rattle.answers.specs.declared.answer.Stopped.{Stopped}
use Rattle.answers.specs.declared.answer.Outcome.{Outcome}
use Rattle.base.specs.Test.{when◌then◌else◌, all}
use Rattle.base.specs.FirstFailure.{Test, test}
use Rattle.base.specs.Limits.{memory_bytes, last_clock, most_stamps, most_budget}
use Rattle.base.specs.Word.{is_even}
use Rattle.base.specs.Verdict.{verdict, unrefused}
use Rattle.base.specs.declared.refusal.Refusal.{Refusal}
use Rattle.base.specs.declared.refusal.Refusal.TheVariants.{Map, Fence, Timetable, Trace as TraceRefusal, Frame, Distance, Landmark, Clock}
use Rattle.definition.specs.Setting.{Trace, Setting}
use Rattle.layout.specs.Rules.{accepted}
use Rattle.definition.specs.declared.state.State.{State}
use Rattle.definition.specs.declared.stop_address.StopAddress.{StopAddress}
use Rattle.definition.specs.declared.stop_address.StopAddress.TheVariants.{Nowhere, At}
use Rattle.definition.specs.State.{World, start, framed}
use Rattle.definition.specs.Run.{step_of, run}

-- memory is 65,536 bytes
abbrev pub whole_memory : List ℕ → Bool
whole_memory mem = eqb (length mem) memory_bytes

-- each stamp is above the one before it and at most 2^62
unfoldable pub rising_from : ℕ → List ℕ → Bool
rising_from a [] = true
rising_from a (s ∷ stamps) = when all (ltb a s ∷ leb s last_clock ∷ []) then rising_from s stamps else false

-- at most 4,096 stamps, strictly rising, each 1 to 2^62
unfoldable pub timetable : List ℕ → Bool
timetable stamps = all (leb (length stamps) most_stamps ∷ rising_from 0 stamps ∷ [])

-- a trace: each stamp has its word, and the stamps are as those of a timetable
unfoldable pub trace_fits : Trace → Bool
trace_fits t = all (eqb (length t.stamps) (length t.words) ∷ timetable t.stamps ∷ [])

-- a stop address, where one is given, is even
abbrev pub stop_fits : StopAddress → Bool
stop_fits Nowhere = true
stop_fits (At a) = is_even a

-- the tests of start
abbrev pub start_tests : List ℕ → List (Test Refusal)
start_tests mem = test Map (whole_memory mem) ∷ []

-- the tests of a call on a machine, by what each finds: 1 to 3, 10, 4, then the call's own, then 6
abbrev pub tests_found : Bool → Bool → Bool → Bool → Bool → List (Test Refusal) → Bool → List (Test Refusal)
tests_found whole fence rising traced frame own early =
    test Map whole ∷ test Fence fence ∷ test Timetable rising ∷ test TraceRefusal traced ∷ test Frame frame
    ∷ (own ++ (test Clock early ∷ []))

-- the budget's test
abbrev pub budget_tests : Bool → List (Test Refusal)
budget_tests near = test Distance near ∷ []

-- a run's own tests: the budget's, then the stop address's
abbrev pub budget_and_stop_tests : Bool → Bool → List (Test Refusal)
budget_and_stop_tests near even = budget_tests near ++ (test Landmark even ∷ [])

module _ (S : Setting) where
  -- the tests of a call on a world
  abbrev pub call_tests : World → List (Test Refusal) → List (Test Refusal)
  call_tests w own =
      tests_found (whole_memory w.memory) (accepted S.layout) (timetable S.stamps) (trace_fits S.trace) (framed S w.state) own
      (leb w.state.time.clock last_clock)

  -- run: 1 to 6, with 10 after 3 and 11 after 5
  abbrev pub run_tests : StopAddress → ℕ → World → List (Test Refusal)
  run_tests stop budget w = call_tests w (budget_and_stop_tests (leb budget most_budget) (stop_fits stop))

  -- a run's transcript: those of run without the stop address's, which it has not, and the clock's: one that ends by it has a line to come
  abbrev pub transcript_tests : ℕ → World → List (Test Refusal)
  transcript_tests budget w =
      tests_found (whole_memory w.memory) (accepted S.layout) (timetable S.stamps) (trace_fits S.trace) (framed S w.state)
      (budget_tests (leb budget most_budget)) true

  -- step: those of run without its own
  abbrev pub step_tests : World → List (Test Refusal)
  step_tests w = call_tests w []

-- what a call leaves: the machine, the memory and the answer
pub record Called (A : Type 0) : Type 0 where
  pub state : State
  pub memory : List ℕ
  pub answer : A

-- a machine, memory and answer
abbrev pub called : {A : Type 0} → State → List ℕ → A → Called A
called m mem a = record { state = m; memory = mem; answer = a }

-- what start leaves, by the verdict
abbrev pub start_answered : List ℕ → Result (Unit {0}) Refusal → Called (Result (Unit {0}) Refusal)
start_answered mem (Ok _) = called (start mem) mem unrefused
start_answered mem (Err r) = called (start []) mem (Err r)

-- start takes the memory only; where it is refused, the machine handed back is the start state of an empty memory
unfoldable pub start_call : List ℕ → Called (Result (Unit {0}) Refusal)
start_call mem = start_answered mem (verdict (start_tests mem))

module _ (S : Setting) where
  -- what a step call leaves, by the verdict
  abbrev pub step_answered : World → Result (Unit {0}) Refusal → Called (Result Outcome Refusal)
  step_answered w (Ok _) =
      let s = step_of S w in called s.state s.memory (Ok s.outcome)
  step_answered w (Err r) = called w.state w.memory (Err r)

  -- step
  unfoldable pub step_call : World → Called (Result Outcome Refusal)
  step_call w = step_answered w (verdict (step_tests S w))

  -- what a run call leaves, by the verdict
  abbrev pub run_answered : StopAddress → ℕ → World → Result (Unit {0}) Refusal → Called (Result Stopped Refusal)
  run_answered stop budget w (Ok _) =
      let s = run S stop budget w in called s.state s.memory (Ok (stopped s.end s.steps))
  run_answered stop budget w (Err r) = called w.state w.memory (Err r)

  -- run
  unfoldable pub run_call : StopAddress → ℕ → World → Called (Result Stopped Refusal)
  run_call stop budget w = run_answered stop budget w (verdict (run_tests S stop budget w))
