-- The upcoming stamp of a timetable or of a trace, by its index: the first that is above the clock.
use Rattle.std.specs.Prelude.{ℕ, ◌-◌, ◌^◌, ◌<◌, ◌≤◌, List, length, nat_eq, nat_lt, get_or, slice_index, Option, None, Some}
use Rattle.base.specs.Test.{when◌then◌else◌}

-- the stamp at an index, if there is one
unfoldable pub stamp_at : List ℕ → ℕ → Option ℕ
stamp_at stamps upcoming = when nat_lt upcoming (length stamps) then Some (slice_index stamps upcoming) else None

-- the word before an index, 0 at the first: where the index is that of a trace's upcoming record, the word of the last that is not ahead
unfoldable pub word_before : List ℕ → ℕ → ℕ
word_before words upcoming = when nat_eq upcoming 0 then 0 else get_or words (upcoming - 1) 0

-- the clock has passed the stamps before this index: none of them is above it
pub record StampsPassed (stamps : List ℕ) (clock upcoming : ℕ) : Type 0 where
  pub fits : upcoming ≤ length stamps
  pub gone : (i : ℕ) → i < upcoming → slice_index stamps i ≤ clock

-- the index of the upcoming stamp: the clock has passed those before it, and every stamp from it on is above the clock
pub record IsUpcoming (stamps : List ℕ) (clock upcoming : ℕ) : Type 0 where
  pub passed : StampsPassed stamps clock upcoming
  pub ahead : (i : ℕ) → upcoming ≤ i → i < length stamps → clock < slice_index stamps i

-- the end of the clock's room: a number below it has 64 bits, and every step from a clock that is not late ends below it
abbrev pub clock_room : ℕ
clock_room = 2 ^ 63

-- room for one step: RETI's 5 cycles, an age of 8 bits, 12 of a padded service; from a state that keeps the frame 23 are enough
abbrev pub step_room : ℕ
step_room = 300
