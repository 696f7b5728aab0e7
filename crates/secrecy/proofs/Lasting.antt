-- What each step adds to a visit: from where it is, a visit that ends lasts its own cycles and what its interrupts add. Assumes nothing.
use Rattle.std.proofs.Common.{Option, None, Ok, Some, ◌≡◌, refl, sym, ◌∙◌, ap, Bool, true, false, List, ◌∷◌, ℕ, ◌+◌, arith}
use Rattle.base.proofs.Tests.{cases, choices}
use Rattle.isa.specs.declared.instruction.Instruction.{Instruction}
use Rattle.layout.specs.Sections.{inside, outside}
use Rattle.layout.specs.Rules.{accepted}
use Rattle.definition.specs.Setting.{Setting}
use Rattle.definition.specs.declared.state.Time.{Time}
use Rattle.definition.specs.declared.state.SavedContext.{SavedContext}
use Rattle.definition.specs.declared.state.State.{State}
use Rattle.answers.specs.declared.answer.Outcome.TheVariants.{Plain}
use Rattle.definition.specs.Registers.{pc}
use Rattle.answers.specs.Outcome.{is_reset}
use Rattle.definition.specs.Time.{pass, emptied}
use Rattle.definition.specs.State.{World, is_held, world, held_visit}
use Rattle.definition.specs.Interrupt.{Step, age_of, plain, padded, chained, back, reset}
use Rattle.definition.specs.Step.{executed, judged}
use Rattle.definition.specs.Run.{Move, step_of}
use Rattle.definition.proofs.step.StepLaws.{next, bytes, next_clock, after_return, Way, resets, halts, runs, serves, pads, chains, returns, pads_again, way}
use Rattle.secrecy.specs.Sighting.{begins_outside}
use Rattle.secrecy.specs.Visit.{Fate, unended, ended, Phase, away, visiting, judged_cycles, own_cycles, visits_by, visits, fate_at}
use Rattle.secrecy.proofs.Chain.{moved, next as after, Chain, done, more}
use Rattle.secrecy.proofs.Ways.{Steady, steady_next, Service, kept, was_reset, resuming, Inner, failed, acted, acting_inside, acting_held, inner_step, held_step}
use Rattle.secrecy.proofs.Visiting.{phase_at, held_drops, held_goes, leaves, Good, good_held, phase_held, phase_outside, phase_visiting, reset_visit, continued_visit, inside_good, inside_outcome}
use Rattle.secrecy.specs.Duration.{service_adds, inside_adds, meanwhile}

-- what a held visit still owes of the 17 cycles of its padded interrupt: RETI's 5 and the return padding
abbrev pub owed : Option SavedContext → ℕ
owed None = 0
owed (Some visit) = 5 + visit.age

-- the clock after a step from the clock c, with what it leaves owed, is what came before and n more
abbrev After : ℕ → ℕ → Step → Type 0
After c n s = s.state.time.clock + owed s.state.context ≡ c + n

module _ (S : Setting) where
  padded_adds : (stamp : ℕ) (x : State) (mem : List ℕ) → After x.time.clock 17 (padded S stamp x mem)
  unfolding padded age_of pass emptied
  padded_adds stamp x mem = omega arith

  module _ (m : State) (mem : List ℕ) where
    abbrev own : ℕ
    own = judged_cycles (judged S (world m mem))

    -- the clock after RETI and the return padding
    returned_clock : (previous age : ℕ) → (after_return S m previous age).time.clock ≡ m.time.clock + 5 + age
    unfolding back pass
    returned_clock previous age = refl

    -- a plain interrupt that does not reset
    plain_adds : (x : State) (bytes : List ℕ) → is_reset (plain S x bytes).outcome ≡ false
        → ((plain S x bytes).state.time.clock ≡ x.time.clock + 6)
        × ((plain S x bytes).state.context ≡ x.context) × ((plain S x bytes).outcome ≡ Plain)
    unfolding plain pass emptied reset
    plain_adds x bytes = grind (arith, choices)

    -- the machine after an instruction holds what it held, its cycles later
    next_after : (i : Instruction) → judged S (world m mem) ≡ Ok i
        → ((next S m mem i).context ≡ m.context) × ((next S m mem i).time.clock ≡ m.time.clock + own)
    next_after i e =
        (unfold executed in refl, next_clock S m mem i ∙ ap (λ (n : ℕ). m.time.clock + n) (sym (ap judged_cycles e)))

    -- a step of a service routine
    service_adds_lem : ((i : Instruction) → judged S (world m mem) ≡ Ok i → inside S.layout (pc m.registers) ≡ false) → (s : Step)
        → Way S m mem s → is_reset s.outcome ≡ false
        → After (m.time.clock + owed m.context) (service_adds s.outcome own) s
    unfolding reset chained back pass emptied padded
    service_adds_lem out s (resets c e) r = absurd (cc)
    service_adds_lem out s (halts i e h) r = let a = next_after i e in omega (arith, a.1, ap owed a.0)
    service_adds_lem out s (runs i u d) r = let a = next_after i u.acting in omega (arith, a.1, ap owed a.0)
    service_adds_lem out s (serves i k u n d) r =
        let a = next_after i u.acting in
        let p = plain_adds (next S m mem i) _ r in
        rw p.2 (omega (arith, p.0, ap owed p.1, a.1, ap owed a.0))
    service_adds_lem out s (pads i k u n d) r = absurd (cc (out i u.acting))
    service_adds_lem out s (chains p a k u e) r = omega (arith, ap owed u.holding)
    service_adds_lem out s (returns p a u e d) r = omega (arith, ap owed u.holding)
    service_adds_lem out s (pads_again p a k u e d) r =
        omega (arith, padded_adds k (after_return S m p a) mem, returned_clock p a, ap owed u.holding)

    -- an instruction of the module, none being held
    inside_adds_lem : ((i : Instruction) → judged S (world m mem) ≡ Ok i → inside S.layout (pc m.registers) ≡ true) → m.context ≡ None → (s : Step)
        → Way S m mem s → is_reset s.outcome ≡ false → After (m.time.clock + own) (inside_adds s.outcome) s
    unfolding reset padded
    inside_adds_lem ins free s (resets c e) r = absurd (cc)
    inside_adds_lem ins free s (halts i e h) r = let a = next_after i e in omega (arith, a.1, ap owed (a.0 ∙ free))
    inside_adds_lem ins free s (runs i u d) r = let a = next_after i u.acting in omega (arith, a.1, ap owed (a.0 ∙ free))
    inside_adds_lem ins free s (serves i k u n d) r = absurd (cc (ins i u.acting))
    inside_adds_lem ins free s (pads i k u n d) r =
        let a = next_after i u.acting in
        omega (arith, padded_adds k (next S m mem i) (bytes m mem i), a.1)
    inside_adds_lem ins free s (chains p a k u e) r = absurd (cc)
    inside_adds_lem ins free s (returns p a u e d) r = absurd (cc)
    inside_adds_lem ins free s (pads_again p a k u e d) r = absurd (cc)

-- ---- what a first step adds

module _ (S : Setting) (v : Move) (vs : List Move) where
  held_adds : is_held v.before.state.context ≡ true → is_reset v.after.outcome ≡ false
      → meanwhile S (v ∷ vs) ≡ service_adds v.after.outcome (own_cycles S v) + meanwhile S vs
  unfolding meanwhile
  held_adds h r = grind (arith, choices)

  left_adds : is_held v.before.state.context ≡ false → begins_outside S v ≡ true → meanwhile S (v ∷ vs) ≡ 0
  unfolding meanwhile
  left_adds h o = grind (arith, choices)

  reset_adds : is_held v.before.state.context ≡ false → begins_outside S v ≡ false → is_reset v.after.outcome ≡ true
      → meanwhile S (v ∷ vs) ≡ 0
  unfolding meanwhile
  reset_adds h o r = grind (arith, choices)

  inner_adds : is_held v.before.state.context ≡ false → begins_outside S v ≡ false → is_reset v.after.outcome ≡ false
      → meanwhile S (v ∷ vs) ≡ inside_adds v.after.outcome + meanwhile S vs
  unfolding meanwhile
  inner_adds h o r = grind (arith, choices)

-- ---- a visit from where it is to its end

-- a visit at this clock, with what is owed and its own cycles so far, ends so if it ends
unfoldable pub Lasts : ℕ → ℕ → ℕ → Fate → Type 0
Lasts clock k n unended = Unit {0}
Lasts clock k n (ended e) = e.clock + k ≡ clock + e.own + n

lasts_on : (c d own k m n : ℕ) (f : Fate) → d + k + m ≡ c + own + n → Lasts c k n f → Lasts d own m f
unfolding Lasts
lasts_on c d own k m n f e h = grind arith

module _ (S : Setting) (fit : accepted S.layout ≡ true) where
  -- the clock of a world with what its held visit owes
  abbrev ahead : World → ℕ
  ahead w = w.state.time.clock + owed w.state.context

  -- one step of a visit: what holds where it goes on, holds before it
  module _ (w : World) (vs : List Move) (start own : ℕ) (r : w.state.halted ≡ false) (steady : Steady S w.state)
      (on : (n : ℕ) → Good S (after S w).state (visiting start n)
      → Lasts (ahead (after S w)) n (meanwhile S vs) (fate_at (visits S (visiting start n) vs) 0)) where
    abbrev v : Move
    v = moved S w

    abbrev s : Step
    s = step_of S w

    now : Way S w.state w.memory s
    now = way S w.state w.memory r

    steady_after : Steady S s.state
    steady_after = steady_next S w.state w.memory fit r steady

    held_on : (previous age : ℕ) → w.state.context ≡ held_visit previous age → is_reset s.outcome ≡ false
        → Service S w.state w.memory s → Good S s.state (visiting start own)
    held_on previous age h n (kept k p q x) = good_held S _ steady_after start own previous age (k ∙ h)
    held_on previous age h n (was_reset k p q x) = absurd (cc)
    held_on previous age h n (resuming q a k x y f g) = inside_good S _ _ _ _ start own s steady_after g

    held_lasts : (previous age : ℕ) → w.state.context ≡ held_visit previous age
        → Lasts (ahead w) own (meanwhile S (v ∷ vs)) (fate_at (visits S (visiting start own) (v ∷ vs)) 0)
    held_lasts previous age h =
        cases (is_reset s.outcome)
        (λ q. rw (held_drops S (visiting start own) v vs (ap is_held h) q) (unfold Lasts in tt))
        (λ q.
        let k = service_adds_lem S w.state w.memory
        (acting_held S fit w.state w.memory (ap is_held h)) s now q in
        rw (held_goes S (visiting start own) v vs (ap is_held h) q, held_adds S v vs (ap is_held h) q)
        (lasts_on (ahead (after S w)) (ahead w) own own _ (meanwhile S vs) _ (omega arith)
        (on own (held_on previous age h q (held_step S fit w.state w.memory steady r (ap is_held h))))))

    left_lasts : w.state.context ≡ None → outside S.layout (pc w.state.registers) ≡ true
        → Lasts (ahead w) own (meanwhile S (v ∷ vs)) (fate_at (visits S (visiting start own) (v ∷ vs)) 0)
    left_lasts h o =
        rw (leaves S (visiting start own) v vs (ap is_held h) o, left_adds S v vs (ap is_held h) o)
        (unfold Lasts in omega (arith, ap owed h))

    inner_lasts : (p : Phase) → w.state.context ≡ None → outside S.layout (pc w.state.registers) ≡ false
        → phase_at S w.state p ≡ visiting start own → Inner S w.state w.memory s
        → Lasts (ahead w) own (meanwhile S (v ∷ vs)) (fate_at (visits S p (v ∷ vs)) 0)
    inner_lasts p h o e (failed f x) =
        rw (reset_visit S w s p vs start own 4 h o e f x.outcome, reset_adds S v vs (ap is_held h) o x.outcome)
        (unfold Lasts in unfold pass emptied in omega (arith, ap (λ (t : Time). t.clock) x.time, ap owed h))
    inner_lasts p h o e (acted n f g) =
        let q = inside_outcome S _ _ _ _ s g in
        let k = inside_adds_lem S w.state w.memory
        (λ i j. acting_inside S fit w.state w.memory i o j) h s now q in
        rw (continued_visit S w s p vs start own n h o e f q, inner_adds S v vs (ap is_held h) o q)
        (lasts_on (ahead (after S w)) (ahead w) own (own + n) _ (meanwhile S vs) _ (omega (arith, f, ap owed h))
        (on (own + n) (inside_good S _ _ _ _ start (own + n) s steady_after g)))

  pub lasting : {w : World} {vs : List Move} (p : Phase) (start own : ℕ) → Chain S w vs → Good S w.state p
      → phase_at S w.state p ≡ visiting start own → Lasts (ahead w) own (meanwhile S vs) (fate_at (visits S p vs) 0)
  unfolding visits_by Lasts
  lasting away start own done g e = tt
  lasting (visiting s k) start own done g e = tt
  lasting {w} p start own (more {vs = vs} r c) g e =
      go w.state.context refl (outside S.layout (pc w.state.registers)) refl
      (λ n h. lasting (visiting start n) start n c h (phase_visiting S _ start n h.phase))
    where
      go : (h : Option SavedContext) → w.state.context ≡ h → (b : Bool) → outside S.layout (pc w.state.registers) ≡ b
          → ((n : ℕ) → Good S (after S w).state (visiting start n)
          → Lasts (ahead (after S w)) n (meanwhile S vs) (fate_at (visits S (visiting start n) vs) 0))
          → Lasts (ahead w) own (meanwhile S (moved S w ∷ vs)) (fate_at (visits S p (moved S w ∷ vs)) 0)
      go (Some visit) h b o on =
          rw (sym (phase_held S w.state p (ap is_held h)) ∙ e) (held_lasts w vs start own r g.steady on visit.previous visit.age h)
      go None h true o on =
          rw (sym (phase_outside S w.state p o) ∙ e) (left_lasts w vs start own r g.steady on h o)
      go None h false o on =
          inner_lasts w vs start own r g.steady on p h o e (inner_step S fit w.state w.memory g.steady r h o)
