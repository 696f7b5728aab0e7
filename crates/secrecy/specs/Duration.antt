-- How long a visit lasts: its own instruction cycles, and what interrupts add; and when a request is served.
use Rattle.std.specs.Prelude.{ℕ, ◌+◌, ◌≡◌, true, List, [], ◌∷◌, ◌++◌, None, Some, Ok}
use Rattle.base.specs.Verdict.{unrefused}
use Rattle.base.specs.Test.{when◌then◌else◌}
use Rattle.isa.specs.declared.instruction.Instruction.{Instruction}
use Rattle.isa.specs.declared.instruction.Instruction.TheVariants.{Reti}
use Rattle.isa.specs.Cycles.{cycles_of}
use Rattle.layout.specs.Sections.{inside}
use Rattle.alu.specs.Status.{gie}
use Rattle.definition.specs.Setting.{Setting}
use Rattle.answers.specs.declared.answer.Outcome.{Outcome}
use Rattle.answers.specs.declared.answer.Outcome.TheVariants.{Ran, Plain, Padded, Chained, Back, Reset, Halted}
use Rattle.definition.specs.Registers.{pc, sr}
use Rattle.answers.specs.Outcome.{is_reset}
use Rattle.definition.specs.Time.{pass}
use Rattle.definition.specs.State.{is_held, held_visit}
use Rattle.definition.specs.Step.{executed, judged}
use Rattle.definition.specs.Run.{Move}
use Rattle.definition.specs.Calls.{start_call}
use Rattle.secrecy.specs.Calls.{Call, run_of}
use Rattle.secrecy.specs.Sighting.{begins_outside}
use Rattle.secrecy.specs.Visit.{VisitEnd, ended, away, starts_visit, visits, fate_at, own_cycles}
use Rattle.secrecy.specs.Secrecy.{start_world}

-- what a step of a service routine adds: 17 if it ends in a padded interrupt, 11 if it chains, 6 and its own cycles if it ends in
-- a plain interrupt, nothing of its own if it returns, else its own cycles
abbrev pub service_adds : Outcome → ℕ → ℕ
service_adds Ran n = n
service_adds Plain n = n + 6
service_adds Padded n = 17
service_adds Chained n = 11
service_adds Back n = 0
service_adds (Reset c) n = n
service_adds Halted n = n

-- what an instruction of the module adds beside its own cycles: 17 if a padded interrupt breaks in
abbrev pub inside_adds : Outcome → ℕ
inside_adds Ran = 0
inside_adds Plain = 0
inside_adds Padded = 17
inside_adds Chained = 0
inside_adds Back = 0
inside_adds (Reset c) = 0
inside_adds Halted = 0

-- what the steps of a visit add beside its own cycles, up to its end
unfoldable pub meanwhile : Setting → List Move → ℕ
meanwhile S [] = 0
meanwhile S (v ∷ vs) =
    when is_held v.before.state.context then
    when is_reset v.after.outcome then 0 else service_adds v.after.outcome (own_cycles S v) + meanwhile S vs
    else when begins_outside S v then 0
    else when is_reset v.after.outcome then 0
    else inside_adds v.after.outcome + meanwhile S vs

-- an ended visit lasted its own instruction cycles, plus 17 per padded interrupt, 11 per chained, 6 per plain one meanwhile, plus
-- service instructions other than RETIs that chain or resume; from the start state, for every list of calls
unfoldable pub Duration : Type 0
Duration =
    (S : Setting) (mem : List ℕ) (calls : List Call) (earlier : List Move) (v : Move) (later : List Move) (e : VisitEnd)
    → (start_call mem).answer ≡ unrefused → run_of S (start_world mem) calls ≡ earlier ++ (v ∷ later)
    → starts_visit S v.before.state ≡ true → fate_at (visits S away (v ∷ later)) 0 ≡ ended e
    → e.clock ≡ v.before.state.time.clock + e.own + meanwhile S (v ∷ later)

-- the step ends in the service of the request with stamp s, 12 cycles after it
abbrev pub Served : ℕ → Move → Type 0
Served s v = (v.after.outcome ≡ Padded) × (v.after.state.time.clock ≡ s + 12)

-- from the start state, for every list of calls: a request that fills the slot during an instruction inside (not a reset), GIE set,
-- or in return padding, reaches service exactly 12 cycles after its stamp
unfoldable pub Twelve : Type 0
Twelve =
    (S : Setting) (mem : List ℕ) (calls : List Call) (earlier : List Move) (v : Move) (later : List Move) (s : ℕ)
    → (start_call mem).answer ≡ unrefused → run_of S (start_world mem) calls ≡ earlier ++ (v ∷ later)
    → ((i : Instruction) → inside S.layout (pc v.before.state.registers) ≡ true → judged S v.before ≡ Ok i
    → gie (sr v.before.state.registers) ≡ true
    → (executed S v.before.state v.before.memory i).time.slot ≡ Some s → Served s v)
    × ((previous age : ℕ) → v.before.state.context ≡ held_visit previous age → judged S v.before ≡ Ok Reti
    → (pass S (cycles_of Reti) v.before.state.time).slot ≡ None
    → (pass S age (pass S (cycles_of Reti) v.before.state.time)).slot ≡ Some s → Served s v)
