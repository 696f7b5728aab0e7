-- Whether a call is taken: it is refused by the first of its tests that fails.
use Rattle.std.specs.Prelude.{ℕ, List, Result, Err, Ok}
use Rattle.base.specs.FirstFailure.{Test, first_failure}
use Rattle.base.specs.Refusal.{refusal_number}
use Rattle.base.specs.declared.refusal.Refusal.{Refusal}

-- a call that is taken
abbrev pub unrefused : Result (Unit {0}) Refusal
unrefused = Ok tt

-- the verdict on a call by its tests
abbrev pub verdict : List (Test Refusal) → Result (Unit {0}) Refusal
verdict tests = first_failure unrefused Err tests

-- the number of the refusal, 0 where there is none
abbrev pub refused_by : Result (Unit {0}) Refusal → ℕ
refused_by (Ok _) = 0
refused_by (Err r) = refusal_number r
