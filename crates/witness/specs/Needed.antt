-- What the premise of secrecy asks is needed: secrecy with less asked is false.
use Rattle.std.specs.Prelude.{ℕ, ◌-◌, ◌≡◌}
use Rattle.definition.specs.Setting.{Setting}
use Rattle.definition.specs.Run.{Move}
use Rattle.secrecy.specs.Visit.{VisitEnd, away, visits_by, own_cycles}
use Rattle.secrecy.specs.Secrecy.{EqualEnds, EndsRelated, SecrecyUnder}

-- secrecy, by what each step's own cycles are and by how the ends of visits are to be related
abbrev pub SecrecyBy : (Setting → Move → ℕ) → (VisitEnd → VisitEnd → Type 0) → Type 0
SecrecyBy own Related = SecrecyUnder (λ S T vs us. EndsRelated Related T (visits_by own S away vs) (visits_by own S away us))

-- equal own cycles and registers: the way is not asked
abbrev pub EqualButWay : VisitEnd → VisitEnd → Type 0
EqualButWay e f = (e.own ≡ f.own) × (e.registers ≡ f.registers)

-- equal own cycles and way: the registers are not asked
abbrev pub EqualButRegisters : VisitEnd → VisitEnd → Type 0
EqualButRegisters e f = (e.own ≡ f.own) × (e.way ≡ f.way)

-- equal way and registers: the own cycles are not asked
abbrev pub EqualButOwn : VisitEnd → VisitEnd → Type 0
EqualButOwn e f = (e.way ≡ f.way) × (e.registers ≡ f.registers)

-- all cycles of a step, its waits counted
abbrev pub cycles_and_waits : Setting → Move → ℕ
cycles_and_waits S v = v.after.state.time.clock - v.before.state.time.clock

-- without the way: an own reset empties the slot, leaving for the reset vector's address does not
unfoldable pub WayNeeded : Type 0
WayNeeded = ¬ SecrecyBy own_cycles EqualButWay

-- without the registers: a module leaves its secret in one
unfoldable pub RegistersNeeded : Type 0
RegistersNeeded = ¬ SecrecyBy own_cycles EqualButRegisters

-- without the own cycles: a module takes longer
unfoldable pub OwnCyclesNeeded : Type 0
OwnCyclesNeeded = ¬ SecrecyBy own_cycles EqualButOwn

-- with own cycles that count the waits: one cycle more of work and one less of padding
unfoldable pub WaitsNotOwn : Type 0
WaitsNotOwn = ¬ SecrecyBy cycles_and_waits EqualEnds
