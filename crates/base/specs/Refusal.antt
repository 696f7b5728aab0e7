-- The numbered refusals.
use Rattle.std.specs.Prelude.{ℕ}
use Rattle.base.specs.declared.refusal.Refusal.{Refusal}
use Rattle.base.specs.declared.refusal.Refusal.TheVariants.{Map, Fence, Timetable, Frame, Distance, Clock, Line, Sheet, Word, Trace, Landmark}

-- the number of a refusal
abbrev pub refusal_number : Refusal → ℕ
refusal_number Map = 1
refusal_number Fence = 2
refusal_number Timetable = 3
refusal_number Frame = 4
refusal_number Distance = 5
refusal_number Clock = 6
refusal_number Line = 7
refusal_number Sheet = 8
refusal_number Word = 9
refusal_number Trace = 10
refusal_number Landmark = 11
