-- The duration law and the twelve-cycle law, of every run from the start. Assumes nothing.
use Rattle.std.proofs.Common.{Option, None, Some, Result, Ok, Err, ◌≡◌, refl, sym, ◌∙◌, ap, subst₂, true, false, not, List, [], ◌∷◌, ◌++◌, ℕ, ◌+◌, arith, eqb-true}
use Rattle.std.proofs.lemmas.Bool.{not-true}
use Rattle.base.specs.declared.refusal.Refusal.{Refusal}
use Rattle.base.proofs.Tests.{cases, each}
use Rattle.base.specs.Verdict.{verdict}
use Rattle.isa.specs.declared.instruction.Instruction.{Instruction}
use Rattle.isa.specs.declared.instruction.Instruction.TheVariants.{Reti}
use Rattle.isa.specs.Cycles.{cycles_of}
use Rattle.layout.specs.Sections.{entry, inside, outside}
use Rattle.layout.specs.Rules.{accepted}
use Rattle.layout.proofs.LayoutLaws.{entry_section}
use Rattle.layout.proofs.SectionLaws.{section_inside, inside_not_outside}
use Rattle.alu.specs.Status.{gie}
use Rattle.definition.specs.Setting.{Setting}
use Rattle.definition.specs.declared.state.SavedContext.{SavedContext}
use Rattle.definition.specs.Registers.{pc, sr}
use Rattle.definition.specs.Time.{pass}
use Rattle.definition.specs.State.{World, is_held, held_visit}
use Rattle.definition.specs.Step.{executed, judged}
use Rattle.definition.specs.Run.{Move}
use Rattle.definition.specs.Calls.{start_tests, start_answered, start_call}
use Rattle.definition.specs.Laws.{TwelveInside, TwelveInReturn}
use Rattle.definition.proofs.cause.JudgeLaws.{acts_unheld}
use Rattle.definition.proofs.step.TwelveLaws.{twelve_inside, twelve_in_return}
use Rattle.secrecy.specs.Visit.{VisitEnd, ended, away, visits, fate_at, starts_visit}
use Rattle.secrecy.specs.Secrecy.{start_world}
use Rattle.secrecy.proofs.Lasting.{owed, Lasts, lasting}
use Rattle.secrecy.proofs.Chain.{moved, Chain, done, more, run_chain, none_run}
use Rattle.secrecy.proofs.Ways.{Steady, start_steady, steady_next}
use Rattle.secrecy.proofs.Visiting.{good_away, phase_entry}
use Rattle.secrecy.specs.Duration.{meanwhile, Duration, Served, Twelve}

-- the visit that a step starts, if it ends
abbrev Lasted : Setting → Move → List Move → Type 0
Lasted S v later =
    (e : VisitEnd) → starts_visit S v.before.state ≡ true → fate_at (visits S away (v ∷ later)) 0 ≡ ended e
    → e.clock ≡ v.before.state.time.clock + e.own + meanwhile S (v ∷ later)

unheld_of : (v : Option SavedContext) → not (is_held v) ≡ true → v ≡ None
unheld_of None h = refl
unheld_of (Some _) h = absurd (cc)

module _ (S : Setting) (fit : accepted S.layout ≡ true) where
  first_lasted : {w : World} {vs : List Move} → Chain S w (moved S w ∷ vs) → Steady S w.state
      → Lasted S (moved S w) vs
  unfolding Lasts
  first_lasted {w} {vs} c s e h f =
      let t = each _ h in
      let free = unheld_of w.state.context t.0 in
      let out : inside S.layout w.state.previous ≡ false = not-true _ t.1.1.0 in
      let here : outside S.layout (pc w.state.registers) ≡ false
      = ap (outside S.layout) (eqb-true _ _ t.1.0) ∙ inside_not_outside S.layout (entry S.layout) (section_inside S.layout (entry S.layout) (entry_section S.layout fit)) in
      let k = lasting S fit away w.state.time.clock 0 c (good_away S w.state s free out)
      (phase_entry S w.state away free here t.1.0 out) in
      let l : Lasts (w.state.time.clock + owed w.state.context) 0 (meanwhile S (moved S w ∷ vs)) (ended e) = rw f at k in
      omega (arith, l, ap owed free)

none : {A : Type 0} (us : List Move) (v : Move) (later : List Move) → [] ≡ us ++ (v ∷ later) → A
none [] v later e = absurd (cc)
none (u ∷ us) v later e = absurd (cc)

-- what holds of the first step of every chain from a steady machine holds of each step of a run
each_step : (S : Setting) → accepted S.layout ≡ true → (Q : Move → List Move → Type 0)
    → ((w : World) (vs : List Move) → Chain S w (moved S w ∷ vs) → Steady S w.state → w.state.halted ≡ false → Q (moved S w) vs)
    → {w : World} {run : List Move} → Chain S w run → Steady S w.state → (us : List Move) (v : Move) (later : List Move)
    → run ≡ us ++ (v ∷ later) → Q v later
each_step S fit Q q done s us v later e = none us v later e
each_step S fit Q q {w} (more {vs = vs} r c) s [] v later e = subst₂ Q (cc) (cc) (q w vs (more r c) s r)
each_step S fit Q q {w} (more r c) s (u ∷ us) v later e =
    each_step S fit Q q c (steady_next S w.state w.memory fit r s) us v later (cc)

start_world_lem : (S : Setting) (mem : List ℕ) → Steady S (start_world mem).state
unfolding start_call
start_world_lem S mem = go (verdict (start_tests mem))
  where
    go : (v : Result (Unit {0}) Refusal) → Steady S (start_answered mem v).state
    go (Ok _) = start_steady S mem
    go (Err r) = start_steady S []

pub duration : Duration
unfolding Duration
duration S mem calls us v later e made run h f =
    cases (accepted S.layout)
    (λ fit. each_step S fit (Lasted S) (λ w vs c s r. first_lasted S fit c s) (run_chain S (start_world mem) calls) (start_world_lem S mem) us v later run e h f)
    (λ n. none us v later (sym (none_run S n (start_world mem) calls) ∙ run))

-- the two halves of the twelve-cycle law, of one step
abbrev Soon : Setting → ℕ → Move → Type 0
Soon S s v =
    ((i : Instruction) → inside S.layout (pc v.before.state.registers) ≡ true → judged S v.before ≡ Ok i
    → gie (sr v.before.state.registers) ≡ true
    → (executed S v.before.state v.before.memory i).time.slot ≡ Some s → Served s v)
    × ((previous age : ℕ) → v.before.state.context ≡ held_visit previous age → judged S v.before ≡ Ok Reti
    → (pass S (cycles_of Reti) v.before.state.time).slot ≡ None
    → (pass S age (pass S (cycles_of Reti) v.before.state.time)).slot ≡ Some s → Served s v)

soon : (S : Setting) (s : ℕ) (w : World) → Steady S w.state → w.state.halted ≡ false
    → Soon S s (moved S w)
unfolding TwelveInside TwelveInReturn
soon S s w k r = (
  (λ i h e g f.
      twelve_inside S w.state w.memory i s r h
      (unheld_of w.state.context (ap not (acts_unheld S.layout _ w.state.registers w.memory w.state.previous i e h))) e g (k.nothing_due r g) f),
  (λ p a h e n f. twelve_in_return S w.state w.memory p a s r k.frame h e n f),
)

pub twelve : Twelve
unfolding Twelve
twelve S mem calls us v later s made run =
    cases (accepted S.layout)
    (λ fit. each_step S fit (λ v later. Soon S s v) (λ w vs c k r. soon S s w k r) (run_chain S (start_world mem) calls) (start_world_lem S mem) us v later run)
    (λ n. none us v later (sym (none_run S n (start_world mem) calls) ∙ run))
