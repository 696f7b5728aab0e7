-- Visits and sightings by a first step, one equation for each branch; a visit's least own cycles; silence above T. Assumes nothing.
use Rattle.std.proofs.Common.{Option, None, Some, ◌≡◌, refl, sym, ◌∙◌, ap, Bool, true, false, List, [], ◌∷◌, ◌++◌, ℕ, ◌+◌, ◌≤◌, ◌<◌, arith, eqb}
use Rattle.base.specs.Test.{when◌then◌else◌, all}
use Rattle.base.proofs.Tests.{choices}
use Rattle.layout.specs.Sections.{inside, outside, entry}
use Rattle.layout.specs.Rules.{accepted}
use Rattle.definition.specs.Setting.{Setting}
use Rattle.definition.specs.declared.state.Time.{Time}
use Rattle.definition.specs.declared.state.SavedContext.{SavedContext}
use Rattle.definition.specs.declared.state.State.{State}
use Rattle.definition.specs.Registers.{pc}
use Rattle.answers.specs.Outcome.{is_reset}
use Rattle.definition.specs.State.{World, is_held, held_visit}
use Rattle.definition.specs.Interrupt.{Step}
use Rattle.definition.specs.Run.{Move, world_after, step_of}
use Rattle.definition.specs.Laws.{StepCycles}
use Rattle.definition.proofs.step.CycleLaws.{step_cycles}
use Rattle.definition.specs.Step.{judged}
use Rattle.secrecy.specs.Sighting.{Sighting, view_of, sighting_of, begins_outside, sightings}
use Rattle.secrecy.specs.Visit.{Way, leaving, own_reset, Fate, unended, ended, Visit, Phase, away, visiting, judged_cycles, own_cycles, starts_visit, unended_visit, closed, longer, visits_by, visits, fate_at}
use Rattle.secrecy.proofs.Chain.{moved, Chain, done, more}
use Rattle.secrecy.proofs.Ways.{Steady, steady_next, InsideStep, continued, broken_into, Service, kept, was_reset, resuming, Inner, failed, acted, inner_step, held_step}

-- a step of a world
abbrev pub move_of : World → Step → Move
move_of w s = record { before = w; after = s }

-- ---- the sightings of a first step

-- what is seen of a step
abbrev pub sighting_at : Setting → Move → Sighting
sighting_at S v = sighting_of (view_of S v.before) (view_of S (world_after v.after)) v.after.outcome

module _ (S : Setting) (T : ℕ) (v : Move) (vs : List Move) where
  pub unseen : begins_outside S v ≡ false → sightings S T (v ∷ vs) ≡ sightings S T vs
  unfolding sightings all
  unseen o = grind (arith, choices)

  unseen_late : T < v.before.state.time.clock → sightings S T (v ∷ vs) ≡ sightings S T vs
  unfolding sightings all
  unseen_late h = grind (arith, choices)

  pub sighted : begins_outside S v ≡ true → v.before.state.time.clock ≤ T
      → sightings S T (v ∷ vs) ≡ sighting_at S v ∷ sightings S T vs
  unfolding sightings all
  sighted o h = grind (arith, choices)

-- ---- the visits of a first step

-- the phase that a step begins in: a step that enters the module starts a visit
unfoldable pub phase_at : Setting → State → Phase → Phase
phase_at S m p =
    when is_held m.context then p else when outside S.layout (pc m.registers) then p
    else when starts_visit S m then visiting m.time.clock 0 else p

-- the end of a visit that is left by this step, and by its own reset
abbrev pub left_end : Phase → Move → List Visit
left_end p v = closed p v.before.state.time.clock 0 leaving v.before.state.registers

abbrev pub reset_end : Setting → Phase → Move → List Visit
reset_end S p v = closed p v.after.state.time.clock (own_cycles S v) own_reset v.after.state.registers

module _ (S : Setting) (p : Phase) (v : Move) (vs : List Move) where
  pub held_drops : is_held v.before.state.context ≡ true → is_reset v.after.outcome ≡ true
      → visits S p (v ∷ vs) ≡ unended_visit p ++ visits S away vs
  unfolding visits_by
  held_drops h r = grind (arith, choices)

  pub held_goes : is_held v.before.state.context ≡ true → is_reset v.after.outcome ≡ false
      → visits S p (v ∷ vs) ≡ visits S p vs
  unfolding visits_by
  held_goes h r = grind (arith, choices)

  pub leaves : is_held v.before.state.context ≡ false → begins_outside S v ≡ true
      → visits S p (v ∷ vs) ≡ left_end p v ++ visits S away vs
  unfolding visits_by
  leaves h o = grind (arith, choices)

  pub resets_own : is_held v.before.state.context ≡ false → begins_outside S v ≡ false → is_reset v.after.outcome ≡ true
      → visits S p (v ∷ vs) ≡ reset_end S (phase_at S v.before.state p) v ++ visits S away vs
  unfolding visits_by phase_at
  resets_own h o r = grind (arith, choices)

  pub inner_goes : is_held v.before.state.context ≡ false → begins_outside S v ≡ false → is_reset v.after.outcome ≡ false
      → visits S p (v ∷ vs) ≡ visits S (longer (phase_at S v.before.state p) (own_cycles S v)) vs
  unfolding visits_by phase_at
  inner_goes h o r = grind (arith, choices)

-- ---- a machine and its phase

-- away: none held, and the previous address is not inside; visiting: one is held, or the previous address is inside
unfoldable pub InPhase : Setting → Option SavedContext → ℕ → Phase → Type 0
InPhase S None previous away = inside S.layout previous ≡ false
InPhase S None previous (visiting start own) = inside S.layout previous ≡ true
InPhase S (Some _) previous away = ⊥
InPhase S (Some _) previous (visiting start own) = Unit {0}

pub record Good (S : Setting) (m : State) (p : Phase) : Type 0 where
  pub steady : Steady S m
  pub phase : InPhase S m.context m.previous p

module _ (S : Setting) (m : State) (steady : Steady S m) where
  pub good_away : m.context ≡ None → inside S.layout m.previous ≡ false → Good S m away
  unfolding InPhase
  good_away h n = record { steady = steady; phase = rw h n }

  pub good_held : (start own previous age : ℕ) → m.context ≡ held_visit previous age → Good S m (visiting start own)
  unfolding InPhase
  good_held start own previous age h = record { steady = steady; phase = rw h tt }

  pub good_inner : (start own : ℕ) → m.context ≡ None → inside S.layout m.previous ≡ true → Good S m (visiting start own)
  unfolding InPhase
  good_inner start own h n = record { steady = steady; phase = rw h n }

-- no visit goes on: the previous address is not inside
pub away_previous : (S : Setting) (m : State) (p : Phase) → Good S m p → m.context ≡ None → p ≡ away
    → inside S.layout m.previous ≡ false
unfolding InPhase
away_previous S m p g h e = rw (h, e) at g.phase

module _ (S : Setting) (m : State) where
  pub phase_held : (p : Phase) → is_held m.context ≡ true → phase_at S m p ≡ p
  unfolding phase_at
  phase_held p h = grind (arith, choices)

  pub phase_outside : (p : Phase) → outside S.layout (pc m.registers) ≡ true → phase_at S m p ≡ p
  unfolding phase_at
  phase_outside p o = grind (arith, choices)

  phase_inner : (p : Phase) → inside S.layout m.previous ≡ true → phase_at S m p ≡ p
  unfolding phase_at all
  phase_inner p i = grind (arith, choices)

  -- a visit that goes on is not started anew
  pub phase_visiting : (start own : ℕ) → InPhase S m.context m.previous (visiting start own)
      → phase_at S m (visiting start own) ≡ visiting start own
  unfolding InPhase
  phase_visiting start own h = grind (arith, phase_inner (visiting start own), phase_held (visiting start own))

  -- the entry starts one
  pub phase_entry : (p : Phase) → m.context ≡ None → outside S.layout (pc m.registers) ≡ false → eqb (pc m.registers) (entry S.layout) ≡ true
      → inside S.layout m.previous ≡ false → phase_at S m p ≡ visiting m.time.clock 0
  unfolding phase_at all
  phase_entry p h o e n = grind (arith, choices)

  -- elsewhere none starts
  pub phase_away : eqb (pc m.registers) (entry S.layout) ≡ false → phase_at S m away ≡ away
  unfolding phase_at all
  phase_away e = grind (arith, choices)

-- ---- the visits of a step in code or data, none being held, by its own cycles

module _ (S : Setting) (w : World) (s : Step) (p : Phase) (vs : List Move) (start own n : ℕ)
    (h : w.state.context ≡ None) (o : outside S.layout (pc w.state.registers) ≡ false)
    (e : phase_at S w.state p ≡ visiting start own) (f : judged_cycles (judged S w) ≡ n) where
  pub reset_visit : is_reset s.outcome ≡ true
      → visits S p (move_of w s ∷ vs)
      ≡ record {
        start = start;
        fate = ended (record { clock = s.state.time.clock; own = own + n; way = own_reset; registers = s.state.registers });
      } ∷ visits S away vs
  reset_visit r = rw (resets_own S p (move_of w s) vs (ap is_held h) o r, e, f)

  pub continued_visit : is_reset s.outcome ≡ false → visits S p (move_of w s ∷ vs) ≡ visits S (visiting start (own + n)) vs
  continued_visit r = rw (inner_goes S p (move_of w s) vs (ap is_held h) o r, e, f)

-- ---- the least own cycles

-- what the way to end costs of its own
abbrev pub way_cycles : Way → ℕ
way_cycles leaving = 0
way_cycles own_reset = 4

-- a visit that has these own cycles ends with no fewer
unfoldable pub Least : ℕ → Fate → Type 0
Least own unended = Unit {0}
Least own (ended e) = own + way_cycles e.way ≤ e.own

least_less : (i j : ℕ) (f : Fate) → i ≤ j → Least j f → Least i f
unfolding Least
least_less i j f h k = grind arith

module _ (S : Setting) where
  -- one step of a visit: it ends, or it goes on
  data Course (w : World) (p : Phase) (vs : List Move) (start own : ℕ) (s : Step) : Type 0 where
    closes : (x : Visit) → visits S p (move_of w s ∷ vs) ≡ x ∷ visits S away vs → Least own x.fate → Course w p vs start own s
    goes : (n : ℕ) → own ≤ n → visits S p (move_of w s ∷ vs) ≡ visits S (visiting start n) vs
        → Good S s.state (visiting start n) → Course w p vs start own s

module _ (S : Setting) where
  -- a step that goes on in the module, or is broken into there, is in its visit
  pub inside_good : (t : Time) (g : Bool) (mem : List ℕ) (n start own : ℕ) (s : Step) → Steady S s.state
      → InsideStep S t g mem n s → Good S s.state (visiting start own)
  inside_good t g mem n start own s steady (continued x) = good_inner S _ steady start own x.context x.previous
  inside_good t g mem n start own s steady (broken_into stamp on x) = good_held S _ steady start own x.previous x.age x.context

  pub inside_outcome : (t : Time) (g : Bool) (mem : List ℕ) (n : ℕ) (s : Step) → InsideStep S t g mem n s
      → is_reset s.outcome ≡ false
  inside_outcome t g mem n s (continued x) = x.outcome
  inside_outcome t g mem n s (broken_into stamp on x) = x.outcome

  module _ (w : World) (vs : List Move) (start own : ℕ) (s : Step) (steady : Steady S s.state) where
    held_course : (previous age : ℕ) → w.state.context ≡ held_visit previous age → Service S w.state w.memory s
        → Course S w (visiting start own) vs start own s
    unfolding Least
    held_course previous age e (kept h n r x) =
        goes own (omega arith) (held_goes S _ _ vs (ap is_held e) r) (good_held S _ steady start own previous age (h ∙ e))
    held_course previous age e (was_reset h n r x) = closes _ (held_drops S _ _ vs (ap is_held e) r) tt
    held_course previous age e (resuming q a h r x f g) =
        goes own (omega arith) (held_goes S _ _ vs (ap is_held e) r) (inside_good _ _ _ _ start own s steady g)

    left_course : w.state.context ≡ None → outside S.layout (pc w.state.registers) ≡ true
        → Course S w (visiting start own) vs start own s
    unfolding Least
    left_course e o = closes _ (leaves S _ (move_of w s) vs (ap is_held e) o) (omega arith)

    inner_course : (p : Phase) → w.state.context ≡ None → outside S.layout (pc w.state.registers) ≡ false
        → phase_at S w.state p ≡ visiting start own → Inner S w.state w.memory s → Course S w p vs start own s
    unfolding Least
    inner_course p h o e (failed f x) = closes _ (reset_visit S w s p vs start own 4 h o e f x.outcome) (omega arith)
    inner_course p h o e (acted n f g) =
        goes (own + n) (omega arith) (continued_visit S w s p vs start own n h o e f (inside_outcome _ _ _ _ s g))
        (inside_good _ _ _ _ start (own + n) s steady g)

  module _ (fit : accepted S.layout ≡ true) where
    course : (w : World) (p : Phase) (vs : List Move) (start own : ℕ) → Good S w.state p → w.state.halted ≡ false
        → phase_at S w.state p ≡ visiting start own → Course S w p vs start own (step_of S w)
    course w p vs start own g r e = go w.state.context refl (outside S.layout (pc w.state.registers)) refl
      where
        after : Steady S (step_of S w).state
        after = steady_next S w.state w.memory fit r g.steady

        go : (h : Option SavedContext) → w.state.context ≡ h → (b : Bool) → outside S.layout (pc w.state.registers) ≡ b
            → Course S w p vs start own (step_of S w)
        go (Some visit) h b o =
            rw (sym (phase_held S w.state p (ap is_held h)) ∙ e) (held_course w vs start own _ after visit.previous visit.age h (held_step S fit w.state w.memory g.steady r (ap is_held h)))
        go None h true o =
            rw (sym (phase_outside S w.state p o) ∙ e) (left_course w vs start own _ after h o)
        go None h false o =
            inner_course w vs start own _ after p h o e (inner_step S fit w.state w.memory g.steady r h o)

    -- a visit ends with no fewer own cycles than it has
    pub least : {w : World} {vs : List Move} (p : Phase) (start own : ℕ) → Chain S w vs → Good S w.state p
        → phase_at S w.state p ≡ visiting start own → Least own (fate_at (visits S p vs) 0)
    unfolding visits_by Least
    least away start own done g e = tt
    least (visiting s k) start own done g e = tt
    least {w} p start own (more {vs = vs} r c) g e =
        go (course w p vs start own g r e)
        (λ n h. least (visiting start n) start n c h (phase_visiting S _ start n h.phase))
      where
        go : Course S w p vs start own (step_of S w)
            → ((n : ℕ) → Good S (step_of S w).state (visiting start n)
            → Least n (fate_at (visits S (visiting start n) vs) 0))
            → Least own (fate_at (visits S p (moved S w ∷ vs)) 0)
        go (closes x a l) k = rw a l
        go (goes n l a h) k = rw a (least_less own n (fate_at (visits S (visiting start n) vs) 0) l (k n h))

    -- above T nothing is seen any more
    pub silent : {w : World} {vs : List Move} (T : ℕ) → Chain S w vs → Steady S w.state → T < w.state.time.clock
        → sightings S T vs ≡ []
    unfolding sightings StepCycles
    silent T done s h = refl
    silent {w} T (more {vs = vs} r c) s h =
        let a = (step_cycles S w.state w.memory s.frame r).0 in
        unseen_late S T (moved S w) vs h ∙ silent T c (steady_next S _ _ fit r s) (omega arith)
