-- Demand 3, as one statement over two whole lists of calls.
use Rattle.std.specs.Prelude.{ℕ, ◌≡◌, Bool, true, List, [], ◌∷◌, ltb, length}
use Rattle.base.specs.Verdict.{unrefused}
use Rattle.base.specs.Test.{any}
use Rattle.layout.specs.Sections.{outside}
use Rattle.definition.specs.Setting.{Setting}
use Rattle.definition.specs.Memory.{byte_at}
use Rattle.definition.specs.State.{World, world}
use Rattle.definition.specs.Run.{Move}
use Rattle.definition.specs.Calls.{start_call}
use Rattle.secrecy.specs.Calls.{Call, run_of, left_by_all}
use Rattle.secrecy.specs.Sighting.{Sighting, sightings}
use Rattle.secrecy.specs.Visit.{VisitEnd, Fate, unended, ended, away, Visit, visits, fate_at, ended_by}

-- what start gives for a memory
abbrev pub start_world : List ℕ → World
start_world mem = world (start_call mem).state (start_call mem).memory

-- two ends have equal own cycles, way and registers; the clock is not asked
abbrev pub EqualEnds : VisitEnd → VisitEnd → Type 0
EqualEnds e f = (e.own ≡ f.own) × (e.way ≡ f.way) × (e.registers ≡ f.registers)

-- two fates are ends, and so related
abbrev pub BothEnded : (VisitEnd → VisitEnd → Type 0) → Fate → Fate → Type 0
BothEnded Related unended f = ⊥
BothEnded Related (ended e) unended = ⊥
BothEnded Related (ended e) (ended f) = Related e f

-- every visit that ended in either run at T or below ended in both, and their ends are so related
abbrev pub EndsRelated : (VisitEnd → VisitEnd → Type 0) → ℕ → List Visit → List Visit → Type 0
EndsRelated Related T vs us =
    (k : ℕ) → any (ended_by T (fate_at vs k) ∷ ended_by T (fate_at us k) ∷ []) ≡ true → BothEnded Related (fate_at vs k) (fate_at us k)

-- the premise: every visit that ended in either run at T or below ended in both, alike
abbrev pub Premise : ℕ → List Visit → List Visit → Type 0
Premise T vs us = EndsRelated EqualEnds T vs us

-- two lists are equal, first to first and so on, as far as both go
abbrev pub AgreeAsFar : List Sighting → List Sighting → Type 0
AgreeAsFar [] ys = Unit {0}
AgreeAsFar (x ∷ xs) [] = Unit {0}
AgreeAsFar (x ∷ xs) (y ∷ ys) = (x ≡ y) × AgreeAsFar xs ys

-- the run ends above the clock value or halted
abbrev pub complete : ℕ → World → Bool
complete T w = any (ltb T w.state.time.clock ∷ w.state.halted ∷ [])

-- the conclusion: the sightings agree as far as both go, and are equally many where each run is complete
pub record Agree (T : ℕ) (end_a end_b : World) (xs ys : List Sighting) : Type 0 where
  pub as_far : AgreeAsFar xs ys
  pub equally_many : complete T end_a ≡ true → complete T end_b ≡ true → length xs ≡ length ys

-- secrecy under a premise on two runs: any layout, timetable and trace, two memories equal at each outside address, two lists of calls, any
-- clock value
unfoldable pub SecrecyUnder : (Setting → ℕ → List Move → List Move → Type 0) → Type 0
SecrecyUnder Premised =
    (S : Setting) (mem_a mem_b : List ℕ) (calls_a calls_b : List Call) (T : ℕ)
    → (start_call mem_a).answer ≡ unrefused → (start_call mem_b).answer ≡ unrefused
    → ((a : ℕ) → outside S.layout a ≡ true → byte_at mem_a a ≡ byte_at mem_b a)
    → Premised S T (run_of S (start_world mem_a) calls_a) (run_of S (start_world mem_b) calls_b)
    → Agree T (left_by_all S (start_world mem_a) calls_a) (left_by_all S (start_world mem_b) calls_b)
    (sightings S T (run_of S (start_world mem_a) calls_a)) (sightings S T (run_of S (start_world mem_b) calls_b))

-- secrecy: the premise is on the visits of the two runs
unfoldable pub Secrecy : Type 0
Secrecy = SecrecyUnder (λ S T vs us. Premise T (visits S away vs) (visits S away us))
