-- The clock values up to which time only goes on: no request happens, or it merges into one that is pending.
use Rattle.std.specs.Prelude.{◌≡◌, ℕ, ◌+◌, ◌≤◌, Bool, false, Option, None}
use Rattle.base.specs.Limits.{last_clock}
use Rattle.definition.specs.Setting.{Setting}
use Rattle.definition.specs.declared.state.Time.{Time}
use Rattle.definition.specs.Time.{happening, pass}

-- the time n cycles later, with the slot and the alarm as they are
abbrev pub later : ℕ → Time → Time
later n t = record { clock = t.clock + n; slot = t.slot; alarm = t.alarm }

-- a request with this stamp does not happen from one clock value up to another
abbrev pub NotHappeningUntil : ℕ → Option ℕ → ℕ → Type 0
NotHappeningUntil clock stamp until = (b : ℕ) → b ≤ until → happening clock b stamp ≡ None

-- up to this clock value time only goes on; nothing is pending, or interrupts are masked: GIE is clear
pub record NoEventUntil (S : Setting) (masked : Bool) (t : Time) (until : ℕ) : Type 0 where
  pub bounded : until ≤ last_clock
  pub empty : (n : ℕ) → 1 ≤ n → t.clock + n ≤ until → masked ≡ false → t.slot ≡ None
  pub passes : (n : ℕ) → 1 ≤ n → t.clock + n ≤ until → pass S n t ≡ later n t
