-- Numbers whose halted or held is neither 0 nor 1 are of no frame. Assumes nothing.
use Rattle.std.proofs.Common.{◌≡◌, true, List, ℕ, arith, get_or}
use Rattle.std.proofs.lemmas.Bool.{false_from_ne_true}
use Rattle.base.proofs.Tests.{choices}
use Rattle.definition.specs.State.{held_visit}
use Rattle.definition.proofs.frame.FrameLaws.{held_framed}
use Rattle.lentstate.specs.State.{odd_flag, context_of, machine_of}
use Rattle.lentstate.specs.Laws.{OddFlagUnframed}

-- they are read as a visit of age 255
odd_context : (fields : List ℕ) → odd_flag fields ≡ true → context_of fields ≡ held_visit (get_or fields 3 0) 255
unfolding context_of
odd_context fields h = grind (arith, choices)

pub odd_flag_unframed : OddFlagUnframed
unfolding OddFlagUnframed machine_of
odd_flag_unframed S n h =
    false_from_ne_true _ (λ f. omega (arith, (held_framed S (machine_of n) _ 255 f (odd_context n.control h)).age_bound))
