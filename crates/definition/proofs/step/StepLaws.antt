-- How a step goes: its equation where it is known what the machine does, and the ways that there are. Assumes nothing.
use Rattle.std.proofs.Common.{Option, None, Some, Result, Ok, Err, ◌≡◌, refl, sym, ◌∙◌, ap, subst, Bool, true, false, List, ℕ, ◌+◌, arith}
use Rattle.base.specs.Test.{when◌then◌else◌, all}
use Rattle.base.proofs.Tests.{choose, choices}
use Rattle.isa.specs.declared.instruction.Instruction.{Instruction}
use Rattle.isa.specs.declared.instruction.Instruction.TheVariants.{Reti}
use Rattle.isa.specs.Cycles.{cycles_of}
use Rattle.layout.specs.Sections.{inside}
use Rattle.definition.specs.Setting.{Setting}
use Rattle.definition.specs.declared.state.Time.{Time}
use Rattle.definition.specs.declared.state.SavedContext.{SavedContext}
use Rattle.definition.specs.declared.state.State.{State}
use Rattle.answers.specs.declared.answer.Cause.{Cause}
use Rattle.answers.specs.declared.answer.Outcome.TheVariants.{Ran, Back, Halted}
use Rattle.definition.specs.Registers.{pc}
use Rattle.definition.specs.Time.{pass}
use Rattle.definition.specs.State.{is_held, world, held_visit}
use Rattle.definition.specs.Judge.{privileged, is_reti}
use Rattle.definition.specs.Act.{memory_after}
use Rattle.definition.specs.Interrupt.{Step, gives, due, reset, plain, padded, interrupted, chained, back, resumed}
use Rattle.definition.specs.Step.{is_hlt, executed, judged, ordinary, performed, step_judged, step}
use Rattle.definition.proofs.time.PassLaws.{pass_clock}
use Rattle.definition.proofs.cause.JudgeLaws.{first_fails, second_fails, resuming, acts_unheld, acts_unprivileged}
use Rattle.definition.proofs.instruction.InstructionLaws.{is_reti_lem, alarmed_else, unprivileged}

-- the age of a held visit, 0 where none is held
abbrev pub held_age : Option SavedContext → ℕ
held_age None = 0
held_age (Some visit) = visit.age

-- a held visit has one age
pub same_age : (previous age other_previous other_age : ℕ) → held_visit previous age ≡ held_visit other_previous other_age → age ≡ other_age
same_age previous age other_previous other_age e = ap held_age e

-- the memory after an instruction
abbrev pub bytes : State → List ℕ → Instruction → List ℕ
bytes m mem i = memory_after m.registers mem i

-- the time after RETI's cycles, and the machine that it returns to
abbrev pub after_reti : Setting → State → Time
after_reti S m = pass S (cycles_of Reti) m.time

abbrev pub after_return : Setting → State → ℕ → ℕ → State
after_return S m previous age = back S (after_reti S m) previous age m.saved

module _ (S : Setting) (m : State) (mem : List ℕ) where
  -- the machine after an instruction
  abbrev pub next : Instruction → State
  next i = executed S m mem i

  -- an instruction acts that neither returns to a held visit nor halts
  pub record Runs (i : Instruction) : Type 0 where
    pub acting : judged S (world m mem) ≡ Ok i
    pub staying : resuming (is_held m.context) i ≡ false
    pub going : is_hlt i ≡ false

  -- RETI acts while a visit is held
  pub record Returns (previous age : ℕ) : Type 0 where
    pub holding : m.context ≡ held_visit previous age
    pub acting : judged S (world m mem) ≡ Ok Reti

  -- the ways in which a step goes
  pub data Way : Step → Type 0 where
    resets : (c : Cause) → judged S (world m mem) ≡ Err c → Way (reset S c m mem)
    halts : (i : Instruction) → judged S (world m mem) ≡ Ok i → is_hlt i ≡ true → Way (gives (next i) (bytes m mem i) Halted)
    runs : (i : Instruction) → Runs i → due (next i) ≡ None → Way (gives (next i) (bytes m mem i) Ran)
    serves : (i : Instruction) (s : ℕ) → Runs i → inside S.layout (pc m.registers) ≡ false → due (next i) ≡ Some s
        → Way (plain S (next i) (bytes m mem i))
    pads : (i : Instruction) (s : ℕ) → Runs i → inside S.layout (pc m.registers) ≡ true → due (next i) ≡ Some s
        → Way (padded S s (next i) (bytes m mem i))
    chains : (previous age s : ℕ) → Returns previous age → (after_reti S m).slot ≡ Some s
        → Way (chained S (after_reti S m) (held_visit previous age) m.saved mem)
    returns : (previous age : ℕ) → Returns previous age → (after_reti S m).slot ≡ None
        → due (after_return S m previous age) ≡ None
        → Way (gives (after_return S m previous age) mem Back)
    pads_again : (previous age s : ℕ) → Returns previous age → (after_reti S m).slot ≡ None
        → due (after_return S m previous age) ≡ Some s
        → Way (padded S s (after_return S m previous age) mem)

  performed_ordinary : (v : Option SavedContext) (i : Instruction) → resuming (is_held v) i ≡ false
      → performed S m mem v i ≡ ordinary S m mem i
  unfolding performed all
  performed_ordinary v i e = grind (arith, choices)

  interrupted_way : (i : Instruction) → Runs i → (t : Bool) → inside S.layout (pc m.registers) ≡ t → (d : Option ℕ) → due (next i) ≡ d
      → Way (interrupted S t Ran (next i) (bytes m mem i) d)
  unfolding interrupted
  interrupted_way i r t h None e = runs i r e
  interrupted_way i r true h (Some s) e = pads i s r h e
  interrupted_way i r false h (Some s) e = serves i s r h e

  ordinary_way : (i : Instruction) → judged S (world m mem) ≡ Ok i → resuming (is_held m.context) i ≡ false
      → Way (ordinary S m mem i)
  unfolding ordinary executed
  ordinary_way i e n =
      choose Way (is_hlt i) (λ h. halts i e h)
      (λ h. interrupted_way i (record { acting = e; staying = n; going = h }) _ refl _ refl)

  return_way : (previous age : ℕ) → Returns previous age → (after_reti S m).slot ≡ None
      → (d : Option ℕ) → due (after_return S m previous age) ≡ d
      → Way (interrupted S true Back (after_return S m previous age) mem d)
  unfolding interrupted
  return_way previous age r n None e = returns previous age r n e
  return_way previous age r n (Some s) e = pads_again previous age s r n e

  resumed_way : (previous age : ℕ) → Returns previous age → (d : Option ℕ) → (after_reti S m).slot ≡ d
      → Way (resumed S (after_reti S m) previous age m.saved mem d)
  unfolding resumed
  resumed_way previous age r None e = return_way previous age r e _ refl
  resumed_way previous age r (Some s) e = chains previous age s r e

  performed_way : (v : Option SavedContext) → m.context ≡ v → (i : Instruction) → judged S (world m mem) ≡ Ok i → Way (performed S m mem v i)
  unfolding performed all when◌then◌else◌
  performed_way None h i e = ordinary_way i e (ap (λ (v : Option SavedContext). resuming (is_held v) i) h)
  performed_way (Some visit) h i e =
      choose Way (is_reti i)
      (λ r. rw (is_reti_lem i r) (resumed_way visit.previous visit.age (record { holding = h; acting = e ∙ ap Ok (is_reti_lem i r) }) _ refl))
      (λ r. ordinary_way i e (second_fails (is_held m.context) (is_reti i) r))

  judged_way : (j : Result Instruction Cause) → judged S (world m mem) ≡ j → Way (step_judged S m mem j)
  unfolding step_judged
  judged_way (Err c) e = resets c e
  judged_way (Ok i) e = performed_way m.context refl i e

  -- what holds of a halted machine as it is, and of every way, holds of a step
  pub step_case : (P : Step → Type 0) → (m.halted ≡ true → P (gives m mem Halted)) → ((s : Step) → Way s → P s)
      → P (step S m mem)
  unfolding step
  step_case P p q = choose P m.halted p (λ r. q _ (judged_way _ refl))

  -- an instruction adds its cycles; the slot is as they leave it, and inside the alarm too
  pub next_clock : (i : Instruction) → (next i).time.clock ≡ m.time.clock + cycles_of i
  unfolding executed
  next_clock i = grind (arith, alarmed_else m.registers, pass_clock S (cycles_of i) m.time)

  pub next_slot : (i : Instruction) → (next i).time.slot ≡ (pass S (cycles_of i) m.time).slot
  unfolding executed
  next_slot i = (alarmed_else m.registers _ i).1

  module _ (i : Instruction) (e : judged S (world m mem) ≡ Ok i) (h : inside S.layout (pc m.registers) ≡ true) where
    unprivileged_inside : privileged i ≡ false
    unprivileged_inside = acts_unprivileged S.layout _ m.registers mem m.previous i e h

    pub next_inside : (next i).time ≡ pass S (cycles_of i) m.time
    unfolding executed
    next_inside = (unprivileged m.registers _ i unprivileged_inside).1

    -- no instruction inside halts, and none returns while a visit is held
    pub runs_inside : Runs i
    runs_inside =
        record {
          acting = e;
          staying = first_fails _ _ (acts_unheld S.layout _ m.registers mem m.previous i e h);
          going = (unprivileged m.registers m.time i unprivileged_inside).0;
        }

  module _ (running : m.halted ≡ false) where
    running_step : step S m mem ≡ step_judged S m mem (judged S (world m mem))
    unfolding step
    running_step = grind (arith, choices)

    -- a step of a running machine goes one of these ways
    pub way : Way (step S m mem)
    way = subst Way (sym running_step) (judged_way (judged S (world m mem)) refl)

    -- the equation of each way
    pub step_acts : (i : Instruction) → judged S (world m mem) ≡ Ok i → step S m mem ≡ performed S m mem m.context i
    unfolding step_judged
    step_acts i e = grind (arith, running_step)

    pub step_runs : (i : Instruction) → Runs i
        → step S m mem ≡ interrupted S (inside S.layout (pc m.registers)) Ran (next i) (bytes m mem i) (due (next i))
    unfolding ordinary executed
    step_runs i r = grind (arith, choices, step_acts i, performed_ordinary)

    -- an instruction inside, into which a request breaks
    pub step_pads : (i : Instruction) (s : ℕ) → judged S (world m mem) ≡ Ok i → inside S.layout (pc m.registers) ≡ true → due (next i) ≡ Some s
        → step S m mem ≡ padded S s (next i) (bytes m mem i)
    unfolding interrupted
    step_pads i s e h d = grind (arith, step_runs i (runs_inside i e h))

    pub step_returns : (previous age : ℕ) → Returns previous age
        → step S m mem ≡ resumed S (after_reti S m) previous age m.saved mem (after_reti S m).slot
    unfolding performed all
    step_returns previous age r = grind (arith, choices, step_acts Reti)

    module _ (previous age s : ℕ) (r : Returns previous age) where
      pub step_chains : (after_reti S m).slot ≡ Some s
          → step S m mem ≡ chained S (after_reti S m) (held_visit previous age) m.saved mem
      unfolding resumed
      step_chains e = grind (arith, step_returns previous age r)

      -- a return, into whose padding a request breaks
      pub step_pads_again : (after_reti S m).slot ≡ None → due (after_return S m previous age) ≡ Some s
          → step S m mem ≡ padded S s (after_return S m previous age) mem
      unfolding interrupted resumed
      step_pads_again e d = grind (arith, step_returns previous age r)
