-- What is known where a run goes on. Assumes nothing.
use Rattle.std.proofs.Common.{ℕ, ◌≤◌, ◌<◌, Bool, false, ◌≡◌, arith, None}
use Rattle.std.proofs.lemmas.Bool.Decides.{nat_tests}
use Rattle.base.specs.Limits.{last_clock}
use Rattle.base.proofs.Tests.{choices}
use Rattle.steplines.specs.internal.Course.{course}

pub course_told : (halted : Bool) (clock steps budget : ℕ) → course halted clock steps budget ≡ None
    → (halted ≡ false) × ((clock ≤ last_clock) × (steps < budget))
unfolding course
course_told halted clock steps budget e = grind (arith, choices, nat_tests)
