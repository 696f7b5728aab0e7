-- Two machines written out, whose visits are so related and whose sightings differ, refute secrecy. Assumes nothing.
use Rattle.std.proofs.Common.{◌≡◌, refl, sym, ◌∙◌, ap, subst₂, Bool, true, false, true≢false, List, [], ◌∷◌, ℕ, zero, suc, eqb, arith}
use Rattle.std.proofs.lemmas.Bool.Decides.{nat_tests}
use Rattle.base.specs.Test.{when◌then◌else◌, any}
use Rattle.base.proofs.Tests.{choices}
use Rattle.layout.specs.declared.sections.Layout.{Layout}
use Rattle.layout.specs.Rules.{accepted}
use Rattle.definition.specs.Setting.{Setting}
use Rattle.definition.specs.declared.stop_address.StopAddress.TheVariants.{Nowhere}
use Rattle.definition.specs.Run.{Move}
use Rattle.secrecy.specs.Calls.{running, run_of}
use Rattle.secrecy.specs.Sighting.{View, Sighting, seen, resumes, sightings}
use Rattle.secrecy.specs.Visit.{VisitEnd, ended, away, Visit, own_cycles, visits_by}
use Rattle.secrecy.specs.Secrecy.{start_world, EqualEnds, EndsRelated, AgreeAsFar, SecrecyUnder, Secrecy}
use Rattle.witness.specs.Lines.{MLine, memory_of}
use Rattle.witness.specs.Needed.{SecrecyBy}
use Rattle.witness.proofs.Computes.{computes}
use Rattle.witness.proofs.Loaded.{starts, hidden, same_outside}

-- a module: its words, and how many steps the machine with it runs
pub record Module : Type 0 where
  pub words : List MLine
  pub steps : ℕ

-- two machines: layout and timetable, no trace, the words outside, the two modules, a clock value
pub record Pair : Type 0 where
  pub setting : Setting
  pub outer : List MLine
  pub module_a : Module
  pub module_b : Module
  pub last : ℕ

-- the layout of every pair: code at 0040, data at 0050, the service routine at 0020
abbrev pub pair_layout : Layout
pair_layout = record { code = record { start = 0x0040; end = 0x0048 }; «data» = record { start = 0x0050; end = 0x0054 }; service = 0x0020 }

-- the memory of the machine with one of the modules
abbrev memory_with : Pair → Module → List ℕ
memory_with p i = memory_of p.outer i.words

-- its run
unfoldable pub run_with : Pair → Module → List Move
run_with p i = run_of p.setting (start_world (memory_with p i)) (running Nowhere i.steps ∷ [])

-- what was before the step of a sighting
abbrev view_before : Sighting → View
view_before (seen before after o) = before
view_before (resumes before) = before

-- a number that is seen before each step outside
unfoldable pub seen_by : (View → ℕ) → List Sighting → List ℕ
seen_by number [] = []
seen_by number (x ∷ xs) = number (view_before x) ∷ seen_by number xs

-- what is shown of a run: its visits, and the numbers that are seen
pub record Shown : Type 0 where
  pub visits : List Visit
  pub seen : List ℕ

-- what the machine with one of the modules shows
unfoldable pub shown : (Setting → Move → ℕ) → (View → ℕ) → Pair → Module → Shown
shown own number p i =
    let vs = run_with p i in
    record { visits = visits_by own p.setting away vs; seen = seen_by number (sightings p.setting p.last vs) }

-- the clock before each step outside
abbrev pub clock_seen : View → ℕ
clock_seen v = v.clock

-- one name that opens what is shown
unfoldable pub shown_computes : Unit {0}
unfolding computes hidden run_with seen_by shown
shown_computes = tt

-- numbers are equal, first to first and so on, as far as both lists go
unfoldable pub equal_as_far : List ℕ → List ℕ → Bool
equal_as_far [] ys = true
equal_as_far (x ∷ xs) [] = true
equal_as_far (x ∷ xs) (y ∷ ys) = when eqb x y then equal_as_far xs ys else false

seen_equal : (number : View → ℕ) (xs ys : List Sighting) → AgreeAsFar xs ys
    → equal_as_far (seen_by number xs) (seen_by number ys) ≡ true
unfolding seen_by equal_as_far
seen_equal number [] ys h = refl
seen_equal number (x ∷ xs) [] h = refl
seen_equal number (x ∷ xs) (y ∷ ys) h = grind (arith, choices, nat_tests, seen_equal number xs ys)

-- one visit each, ended so related
pub one_visit : (Related : VisitEnd → VisitEnd → Type 0) (T s u : ℕ) (e f : VisitEnd) → Related e f
    → EndsRelated Related T (record { start = s; fate = ended e } ∷ []) (record { start = u; fate = ended f } ∷ [])
unfolding any
one_visit Related T s u e f r zero h = r
one_visit Related T s u e f r (suc k) h = grind (arith, choices)

-- with all that the premise asks it is secrecy itself
with_all : Secrecy → SecrecyBy own_cycles EqualEnds
unfolding Secrecy
with_all s = s

-- the two machines refute secrecy
pub refuted : (own : Setting → Move → ℕ) (Related : VisitEnd → VisitEnd → Type 0) (number : View → ℕ) (p : Pair) (a b : Shown)
    → accepted p.setting.layout ≡ true → hidden p.setting.layout p.module_a.words ≡ true → hidden p.setting.layout p.module_b.words ≡ true
    → shown own number p p.module_a ≡ a → shown own number p p.module_b ≡ b
    → EndsRelated Related p.last a.visits b.visits → equal_as_far a.seen b.seen ≡ false
    → ¬ SecrecyBy own Related
unfolding SecrecyUnder shown run_with
refuted own Related number p a b fit ha hb ea eb r d secrecy =
    true≢false
    (sym (seen_equal number _ _
    (secrecy p.setting (memory_with p p.module_a) (memory_with p p.module_b)
    (running Nowhere p.module_a.steps ∷ []) (running Nowhere p.module_b.steps ∷ []) p.last
    (starts p.outer p.module_a.words) (starts p.outer p.module_b.words)
    (same_outside p.setting.layout fit p.outer p.module_a.words p.module_b.words ha hb)
    (subst₂ (EndsRelated Related p.last) (sym (ap (λ (x : Shown). x.visits) ea)) (sym (ap (λ (x : Shown). x.visits) eb)) r)
    ).as_far)
    ∙ subst₂ (λ (x y : List ℕ). equal_as_far x y ≡ false)
    (sym (ap (λ (x : Shown). x.seen) ea)) (sym (ap (λ (x : Shown). x.seen) eb)) d)
