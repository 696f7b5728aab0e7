-- One name that opens every definition of arithmetic and the status word: a proof by computation says `unfolding computes`.
use Rattle.base.specs.Test.{all}
use Rattle.alu.specs.Status.{gie, zero, flags_of, without_flags, set_flags, keep_gie}

unfoldable pub computes : Unit {0}
unfolding all gie zero flags_of without_flags set_flags keep_gie
computes = tt
