-- Setting flags and keeping GIE leave the rest of the status alone. Assumes nothing.
use Rattle.std.proofs.Common.{arith}
use Rattle.std.proofs.lemmas.Bool.Decides.{nat_tests}
use Rattle.alu.specs.Status.{gie, zero, flags_of, without_flags, set_flags, keep_gie}
use Rattle.alu.specs.Laws.{FlagsOnly, GieKept}

pub flags_only : FlagsOnly
unfolding FlagsOnly without_flags set_flags flags_of gie zero
flags_only sr c = grind (arith, nat_tests)

pub gie_kept : GieKept
unfolding GieKept gie keep_gie
gie_kept old new = grind (arith, nat_tests)
