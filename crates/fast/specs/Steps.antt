-- Fast steps in a row: what each sets, and that steps of the definition lead from one world to another.
use Rattle.std.specs.Prelude.{◌≡◌, Bool, true, false, not, List, [], ◌∷◌, ℕ, ◌+◌, ◌/◌, ◌%◌, ◌≤◌, eqb, get_or, set, Option, Some}
use Rattle.base.specs.Test.{when◌then◌else◌, all}
use Rattle.base.specs.Limits.{last_clock}
use Rattle.layout.specs.declared.sections.Layout.{Layout}
use Rattle.layout.specs.declared.access.Right.TheVariants.{Execute as execute}
use Rattle.layout.specs.Sections.{inside}
use Rattle.layout.specs.Access.{may}
use Rattle.definition.specs.Setting.{Setting}
use Rattle.definition.specs.declared.state.SavedContext.{SavedContext}
use Rattle.definition.specs.declared.stop_address.StopAddress.{StopAddress}
use Rattle.definition.specs.declared.stop_address.StopAddress.TheVariants.{Nowhere, At}
use Rattle.answers.specs.declared.answer.Outcome.TheVariants.{Ran}
use Rattle.effect.specs.declared.effect.Effect.{Effect}
use Rattle.definition.specs.Memory.{word_at}
use Rattle.definition.specs.Registers.{pc}
use Rattle.definition.specs.State.{World}
use Rattle.definition.specs.Interrupt.{gives}
use Rattle.definition.specs.Step.{saved_for}
use Rattle.definition.specs.Run.{step_of}
use Rattle.effect.specs.Effect.{put_if, fast_effect}

-- the word at this address may be executed: causes 1 and 2 do not hold
unfoldable pub fetchable : Layout → Bool → ℕ → ℕ → Bool
fetchable L held previous a =
    when not (may L previous execute a) then false
    else not (all (inside L a ∷ held ∷ []))

-- what fast steps change: the registers, the previous address, the clock and memory
pub record FastState : Type 0 where
  pub registers : List ℕ
  pub previous : ℕ
  pub clock : ℕ
  pub memory : List ℕ

-- these four
abbrev pub fast_state : List ℕ → ℕ → ℕ → List ℕ → FastState
fast_state registers previous clock memory = record { registers = registers; previous = previous; clock = clock; memory = memory }

-- what the first word w at pc does
abbrev pub fast_at : Layout → FastState → ℕ → Option Effect
fast_at L s w =
    fast_effect (get_or s.registers 0 0) (get_or s.registers 2 0) L s.memory
    (get_or s.registers (w / 256 % 16) 0) (get_or s.registers (w % 16) 0) w

-- the state after an effect of the first word w: a word is put, registers are set
abbrev pub applied : Effect → ℕ → FastState → FastState
applied e w s =
    fast_state (set (set (set s.registers 0 e.to) (e.number % 16) e.word) 2 e.status) (get_or s.registers 0 0)
    (s.clock + e.cycles)
    (put_if e.puts s.memory (get_or s.registers (w % 16) 0) (get_or s.registers (w / 256 % 16) 0))

-- no fast step takes more cycles: the most that an instruction takes
abbrev pub most_fast_cycles : ℕ
most_fast_cycles = 5

-- the pc that a run stops at; where it has no stop address, a number that no pc is
abbrev pub stop_pc_of : StopAddress → ℕ
stop_pc_of Nowhere = 0x10000
stop_pc_of (At a) = a

module _ (L : Layout) (held : Bool) (until stop_pc : ℕ) where
  -- k fast steps, each begun early enough to be over at a clock value and at another pc than this, lead from one such state to another
  pub data FastSteps (from : FastState) : ℕ → FastState → Type 0 where
    no_step : FastSteps from 0 from
    one_more : (k n : ℕ) (s next : FastState) (w : ℕ) (e : Effect) → FastSteps from k s → s.clock + most_fast_cycles ≤ until
        → (get_or s.registers 0 0 ≡ stop_pc → ⊥)
        → fetchable L held s.previous (get_or s.registers 0 0) ≡ true → w ≡ word_at s.memory (get_or s.registers 0 0)
        → fast_at L s w ≡ Some e → next ≡ applied e w s → n ≡ k + 1 → FastSteps from n next

module _ (S : Setting) (stop_pc : ℕ) where
  -- k steps that only ran lead from one world to another, each from a machine that goes on and at another pc than this
  pub data RanSteps (from : World) : ℕ → World → Type 0 where
    none : RanSteps from 0 from
    on : (k n : ℕ) (w next : World) → RanSteps from k w → w.state.halted ≡ false → w.state.time.clock ≤ last_clock
        → (pc w.state.registers ≡ stop_pc → ⊥) → step_of S w ≡ gives next.state next.memory Ran → n ≡ k + 1 → RanSteps from n next

-- the saved copy after so many steps that only ran
unfoldable pub saved_after : ℕ → Option SavedContext → List ℕ → List ℕ
saved_after steps context saved = when eqb steps 0 then saved else saved_for context saved
