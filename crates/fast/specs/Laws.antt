-- What is claimed of fast steps: their effects are the table's, and none takes more cycles than a fast step is given.
use Rattle.std.specs.Prelude.{◌≡◌, ℕ, ◌≤◌, Some}
use Rattle.layout.specs.declared.sections.Layout.{Layout}
use Rattle.definition.specs.Memory.{word_at}
use Rattle.definition.specs.Registers.{pc, sr}
use Rattle.effect.specs.declared.effect.Effect.{Effect}
use Rattle.effect.specs.Effect.{second_address}
use Rattle.effect.specs.Laws.{ByTable}
use Rattle.fast.specs.Steps.{FastState, fast_at, most_fast_cycles}

-- wherever the fast way takes a first word
unfoldable pub FastByTable : Type 0
FastByTable =
    (L : Layout) (s : FastState) (w : ℕ) (e : Effect) → fast_at L s w ≡ Some e
    → ByTable (pc s.registers) (sr s.registers) w (word_at s.memory (second_address (pc s.registers))) e
    × (e.cycles ≤ most_fast_cycles)
