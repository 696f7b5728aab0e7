-- How one step goes, seen from the visits, as data types of few cases. Assumes nothing.
use Rattle.std.proofs.Common.{None, Some, Ok, ◌≡◌, refl, sym, ap, Bool, true, false, List, ℕ, ◌+◌, ◌-◌, ◌≤◌, ◌<◌, min, arith}
use Rattle.base.proofs.Tests.{choose}
use Rattle.isa.specs.declared.instruction.Instruction.{Instruction}
use Rattle.isa.specs.declared.instruction.Instruction.TheVariants.{Reti}
use Rattle.isa.specs.Cycles.{cycles_of}
use Rattle.layout.specs.declared.sections.Section.{Section}
use Rattle.layout.specs.declared.sections.Section.TheVariants.{Data}
use Rattle.layout.specs.Sections.{is_code, is_outside, inside, outside, entry}
use Rattle.layout.specs.Rules.{accepted}
use Rattle.layout.proofs.SectionLaws.{section_outside, outside_not_inside}
use Rattle.layout.proofs.LayoutLaws.{vector_outside}
use Rattle.layout.proofs.AccessLaws.{entered_at_entry, data_not_executed}
use Rattle.alu.specs.Status.{gie}
use Rattle.definition.specs.Setting.{Setting}
use Rattle.definition.specs.declared.state.Time.{Time}
use Rattle.definition.specs.declared.state.State.{State}
use Rattle.answers.specs.declared.answer.Cause.{Cause}
use Rattle.answers.specs.declared.answer.Outcome.{Outcome}
use Rattle.definition.specs.Registers.{pc, sr, cleared}
use Rattle.answers.specs.Outcome.{is_reset}
use Rattle.definition.specs.Time.{pass, emptied}
use Rattle.definition.specs.State.{vector, is_held, reset_address, framed, start, world, held_visit}
use Rattle.definition.specs.Interrupt.{Step, gives, age_of, due, reset, plain, padded, chained, back}
use Rattle.definition.specs.Step.{executed, step, judged}
use Rattle.definition.specs.Laws.{FramedAtStart, FrameKept, NothingDue, NothingDueAtStart, NothingDueKept, PaddedByStamp, SameOutside, is_resuming, Confined, InsideConfined}
use Rattle.definition.proofs.time.PassLaws.{pass_clock, pass_filled}
use Rattle.definition.proofs.cause.JudgeLaws.{acts_executable, acts_unheld}
use Rattle.definition.proofs.instruction.InstructionLaws.{cycles_range}
use Rattle.definition.proofs.step.StepLaws.{next, after_reti, after_return, Way, resets, halts, runs, serves, pads, chains, returns, pads_again, way, runs_inside}
use Rattle.definition.proofs.step.GieLaws.{due_at}
use Rattle.definition.proofs.step.NothingDueLaws.{nothing_due_at_start, nothing_due_kept}
use Rattle.definition.proofs.frame.FrameLaws.{framed_at_start, frame_kept, held_framed}
use Rattle.definition.proofs.step.TwelveLaws.{padded_by_stamp}
use Rattle.definition.proofs.separation.ConfinedLaws.{inside_confined}
use Rattle.definition.proofs.separation.ViewLaws.{same_refl}
use Rattle.secrecy.specs.Visit.{judged_cycles}

-- the reset vector is in no section
pub vector_public : (S : Setting) → accepted S.layout ≡ true → outside S.layout vector ≡ true
vector_public S fit = section_outside S.layout vector (vector_outside S.layout vector fit (omega arith))

pub vector_free : (S : Setting) → accepted S.layout ≡ true → inside S.layout vector ≡ false
vector_free S fit = outside_not_inside S.layout vector (vector_public S fit)

-- ---- what every machine of a run is

-- framed, and where GIE is set the slot is empty
pub record Steady (S : Setting) (m : State) : Type 0 where
  pub frame : framed S m ≡ true
  pub nothing_due : m.halted ≡ false → NothingDue m

pub start_steady : (S : Setting) (mem : List ℕ) → Steady S (start mem)
unfolding FramedAtStart NothingDueAtStart
start_steady S mem = record { frame = framed_at_start S mem; nothing_due = λ r. nothing_due_at_start mem }

pub steady_next : (S : Setting) (m : State) (mem : List ℕ) → accepted S.layout ≡ true → m.halted ≡ false → Steady S m
    → Steady S (step S m mem).state
unfolding FrameKept NothingDueKept
steady_next S m mem fit r s =
    record { frame = frame_kept S m mem fit s.frame; nothing_due = nothing_due_kept S m mem s.frame r (s.nothing_due r) }

module _ (S : Setting) where
  -- ---- in the module, n cycles on from a time t

  -- it has continued: none is held, GIE is g, and outside bytes are as they were
  pub record Onward (t : Time) (g : Bool) (mem : List ℕ) (n : ℕ) (s : Step) : Type 0 where
    pub time : s.state.time ≡ pass S n t
    pub context : s.state.context ≡ None
    pub running : s.state.halted ≡ false
    pub enabled : gie (sr s.state.registers) ≡ g
    pub previous : inside S.layout s.state.previous ≡ true
    pub memory : SameOutside S mem s.memory
    pub outcome : is_reset s.outcome ≡ false

  -- a request is found in the slot and is served, at a time that its stamp alone decides
  pub record BrokenInto (t : Time) (mem : List ℕ) (n stamp : ℕ) (s : Step) : Type 0 where
    pub slot : (pass S n t).slot ≡ Some stamp
    pub after : t.clock < stamp
    pub time : s.state.time ≡ pass S 6 (emptied (pass S (stamp + 6 - t.clock) t))
    pub previous : ℕ
    pub age : ℕ
    pub context : s.state.context ≡ held_visit previous age
    pub aged : stamp + age ≡ t.clock + n
    pub registers : s.state.registers ≡ cleared S.layout.service
    pub running : s.state.halted ≡ false
    pub memory : SameOutside S mem s.memory
    pub outcome : is_reset s.outcome ≡ false

  -- GIE being g, it is the one or the other
  pub data InsideStep (t : Time) (g : Bool) (mem : List ℕ) (n : ℕ) (s : Step) : Type 0 where
    continued : Onward t g mem n s → InsideStep t g mem n s
    broken_into : (stamp : ℕ) → g ≡ true → BrokenInto t mem n stamp s → InsideStep t g mem n s

  -- the padded check of a machine in the module, n cycles on from t
  module _ (t : Time) (g : Bool) (mem : List ℕ) (n : ℕ) (x : State) (mem' : List ℕ) (short : n ≤ 6)
      (empty : g ≡ true → t.slot ≡ None) (time : x.time ≡ pass S n t)
      (enabled : gie (sr x.registers) ≡ g) (memory : SameOutside S mem mem') where
    check_continues : (o : Outcome) → is_reset o ≡ false → x.context ≡ None → x.halted ≡ false → inside S.layout x.previous ≡ true
        → InsideStep t g mem n (gives x mem' o)
    check_continues o r v h p =
        continued (grind arith)

    check_breaks_in : (stamp : ℕ) → due x ≡ Some stamp → InsideStep t g mem n (padded S stamp x mem')
    unfolding padded age_of PaddedByStamp
    check_breaks_in stamp d =
        let e = due_at x stamp d in
        let on : g ≡ true = cc in
        let filled : (pass S n t).slot ≡ Some stamp = cc in
        let w = pass_filled S n t stamp (empty on) filled in
        let c : x.time.clock ≡ t.clock + n = cc (pass_clock S n t) in
        broken_into stamp on
        (record {
          slot = filled;
          after = w.0;
          time = padded_by_stamp S x mem' t n stamp (empty on) short time e.1;
          previous = x.previous;
          age = min (x.time.clock - stamp) 6;
          context = refl;
          aged = let w0 = w.0 in let w1 = w.1 in omega arith;
          registers = refl;
          running = refl;
          memory = memory;
          outcome = refl;
        })

  -- ---- the ways

  -- a reset, whatever its cause, that no instruction went before
  pub record ResetAtOnce (m : State) (mem : List ℕ) (s : Step) : Type 0 where
    pub registers : s.state.registers ≡ cleared (reset_address mem)
    pub previous : inside S.layout s.state.previous ≡ false
    pub time : s.state.time ≡ emptied (pass S 4 m.time)
    pub context : s.state.context ≡ None
    pub running : s.state.halted ≡ false
    pub memory : s.memory ≡ mem
    pub outcome : is_reset s.outcome ≡ true

  -- a step that begins outside, or while a visit is held: the visit stays as it is, a reset drops it, or RETI resumes the module,
  -- where the return padding goes on from the time after RETI's cycles
  pub data Service (m : State) (mem : List ℕ) (s : Step) : Type 0 where
    kept : s.state.context ≡ m.context → inside S.layout s.state.previous ≡ false → is_reset s.outcome ≡ false
        → is_resuming s.outcome ≡ false → Service m mem s
    was_reset : s.state.context ≡ None → inside S.layout s.state.previous ≡ false → is_reset s.outcome ≡ true
        → is_resuming s.outcome ≡ false → Service m mem s
    resuming : (previous age : ℕ) → m.context ≡ held_visit previous age → is_reset s.outcome ≡ false → is_resuming s.outcome ≡ true
        → (after_reti S m).slot ≡ None → InsideStep (after_reti S m) true mem age s → Service m mem s

  -- a step in code or data, none being held: a reset, or an instruction inside
  pub data Inner (m : State) (mem : List ℕ) (s : Step) : Type 0 where
    failed : judged_cycles (judged S (world m mem)) ≡ 4 → ResetAtOnce m mem s → Inner m mem s
    acted : (n : ℕ) → judged_cycles (judged S (world m mem)) ≡ n → InsideStep m.time (gie (sr m.registers)) mem n s → Inner m mem s

-- the time after RETI's cycles is one of the time before them
pub return_time : (S : Setting) (m n : State) → m.time ≡ n.time → after_reti S m ≡ after_reti S n
return_time S m n e = ap (pass S (cycles_of Reti)) e

-- ---- where an instruction acts

neither : (s : Section) → is_outside s ≡ false → is_code s ≡ false → s ≡ Data
neither s o c = grind arith

module _ (S : Setting) (fit : accepted S.layout ≡ true) (m : State) (mem : List ℕ) where
  -- in code or data only code
  pub acting_inside : (i : Instruction) → outside S.layout (pc m.registers) ≡ false → judged S (world m mem) ≡ Ok i
      → inside S.layout (pc m.registers) ≡ true
  unfolding inside outside
  acting_inside i o e = grind (arith, neither _ o, acts_executable S.layout _ _ mem _ i e, data_not_executed S.layout m.previous)

  -- outside, or while a visit is held, nothing inside
  pub acting_outside : outside S.layout (pc m.registers) ≡ true → (i : Instruction) → judged S (world m mem) ≡ Ok i
      → inside S.layout (pc m.registers) ≡ false
  acting_outside o i e = outside_not_inside S.layout _ o

  pub acting_held : is_held m.context ≡ true → (i : Instruction) → judged S (world m mem) ≡ Ok i → inside S.layout (pc m.registers) ≡ false
  acting_held h i e = grind (arith, acts_unheld S.layout _ _ mem _ i e)

  -- while a visit is held nothing in code or data acts
  none_held : is_held m.context ≡ true → outside S.layout (pc m.registers) ≡ false → (i : Instruction) → judged S (world m mem) ≡ Ok i → ⊥
  none_held h o i e = cc (acting_inside i o e, acting_held h i e)

  -- from elsewhere nothing in code or data acts but the entry
  none_away : inside S.layout m.previous ≡ false → outside S.layout (pc m.registers) ≡ false → (pc m.registers ≡ entry S.layout → ⊥)
      → (i : Instruction) → judged S (world m mem) ≡ Ok i → ⊥
  none_away n o not_entry i e = not_entry (entered_at_entry S.layout _ _ n o (acts_executable S.layout _ _ mem _ i e))

  -- ---- the steps

  reset_at_once : (c : Cause) → ResetAtOnce S m mem (reset S c m mem)
  unfolding reset
  reset_at_once c = grind (arith, vector_free S fit)

  resets_at_once : ((i : Instruction) → judged S (world m mem) ≡ Ok i → ⊥) → (s : Step) → Way S m mem s → ResetAtOnce S m mem s
  resets_at_once none s (resets c e) = reset_at_once c
  resets_at_once none s (halts i e h) = absurd (none i e)
  resets_at_once none s (runs i r d) = absurd (none i r.acting)
  resets_at_once none s (serves i u r n d) = absurd (none i r.acting)
  resets_at_once none s (pads i u r n d) = absurd (none i r.acting)
  resets_at_once none s (chains p a u r e) = absurd (none Reti r.acting)
  resets_at_once none s (returns p a r e d) = absurd (none Reti r.acting)
  resets_at_once none s (pads_again p a u r e d) = absurd (none Reti r.acting)

  plain_serves : (x : State) (mem' : List ℕ) → x.context ≡ m.context → Service S m mem (plain S x mem')
  unfolding plain reset
  plain_serves x mem' h =
      choose (Service S m mem) _ (λ e. kept h (vector_free S fit) refl refl) (λ e. was_reset refl (vector_free S fit) refl refl)

  module _ (steady : Steady S m)
      (elsewhere : (i : Instruction) → judged S (world m mem) ≡ Ok i → inside S.layout (pc m.registers) ≡ false) where
    service_of : (s : Step) → Way S m mem s → Service S m mem s
    unfolding reset executed chained padded back
    service_of s (resets c e) = was_reset refl (vector_free S fit) refl refl
    service_of s (halts i e h) = kept refl (elsewhere i e) refl refl
    service_of s (runs i r d) = kept refl (elsewhere i r.acting) refl refl
    service_of s (serves i u r n d) = plain_serves _ _ refl
    service_of s (pads i u r n d) = absurd (cc (elsewhere i r.acting))
    service_of s (chains p a u r e) = kept (sym r.holding) (vector_free S fit) refl refl
    service_of s (returns p a r e d) =
        let h = held_framed S m p a steady.frame r.holding in
        resuming p a r.holding refl refl e
        (check_continues S (after_reti S m) true mem a (after_return S m p a) mem
        h.age_bound (λ _. e) refl h.gie_set (same_refl S mem) _ refl refl refl h.previous_inside)
    service_of s (pads_again p a u r e d) =
        let h = held_framed S m p a steady.frame r.holding in
        resuming p a r.holding refl refl e
        (check_breaks_in S (after_reti S m) true mem a (after_return S m p a) mem
        h.age_bound (λ _. e) refl h.gie_set (same_refl S mem) u d)

  module _ (steady : Steady S m) (running : m.halted ≡ false) (free : m.context ≡ None)
      (o : outside S.layout (pc m.registers) ≡ false) where
    confined : (i : Instruction) → judged S (world m mem) ≡ Ok i → Confined S m mem i
    unfolding InsideConfined
    confined i e = inside_confined S m mem i fit (acting_inside i o e) free e

    few : (i : Instruction) → cycles_of i ≤ 6
    few i = omega (arith, cycles_range)

    inner_of : (s : Step) → Way S m mem s → Inner S m mem s
    inner_of s (resets c e) = failed (ap judged_cycles e) (reset_at_once c)
    inner_of s (halts i e h) = absurd (cc (runs_inside S m mem i e (acting_inside i o e)).going)
    inner_of s (runs i r d) =
        let c = confined i r.acting in
        acted (cycles_of i) (ap judged_cycles r.acting)
        (check_continues S m.time _ mem (cycles_of i) (next S m mem i) _ (few i) (steady.nothing_due running)
        c.time c.enabled c.memory _ refl (unfold executed in free) (unfold executed in r.going)
        (unfold executed in acting_inside i o r.acting))
    inner_of s (serves i u r n d) = absurd (cc (acting_inside i o r.acting))
    inner_of s (pads i u r n d) =
        let c = confined i r.acting in
        acted (cycles_of i) (ap judged_cycles r.acting)
        (check_breaks_in S m.time _ mem (cycles_of i) (next S m mem i) _ (few i) (steady.nothing_due running)
        c.time c.enabled c.memory u d)
    inner_of s (chains p a u r e) = absurd (cc)
    inner_of s (returns p a r e d) = absurd (cc)
    inner_of s (pads_again p a u r e d) = absurd (cc)

    pub inner_step : Inner S m mem (step S m mem)
    inner_step = inner_of _ (way S m mem running)

  module _ (steady : Steady S m) (running : m.halted ≡ false) where
    pub outside_step : outside S.layout (pc m.registers) ≡ true → Service S m mem (step S m mem)
    outside_step o = service_of steady (acting_outside o) _ (way S m mem running)

    pub held_step : is_held m.context ≡ true → Service S m mem (step S m mem)
    held_step h = service_of steady (acting_held h) _ (way S m mem running)

  module _ (running : m.halted ≡ false) where
    pub held_resets : is_held m.context ≡ true → outside S.layout (pc m.registers) ≡ false → ResetAtOnce S m mem (step S m mem)
    held_resets h o = resets_at_once (none_held h o) _ (way S m mem running)

    pub away_resets : inside S.layout m.previous ≡ false → outside S.layout (pc m.registers) ≡ false → (pc m.registers ≡ entry S.layout → ⊥)
        → ResetAtOnce S m mem (step S m mem)
    away_resets n o not_entry = resets_at_once (none_away n o not_entry) _ (way S m mem running)
