-- V is signed overflow: the rule by signs says that the exact signed sum or difference does not fit 16 bits. Assumes nothing.
use Rattle.std.proofs.Common.{arith}
use Rattle.std.proofs.lemmas.Int.{ints}
use Rattle.std.proofs.lemmas.Bool.Decides.{nat_tests}
use Rattle.base.specs.Test.{all}
use Rattle.base.proofs.Tests.{choices}
use Rattle.alu.specs.Laws.{signed, fits16, OverflowIsSigned}

pub overflow_is_signed : OverflowIsSigned
unfolding OverflowIsSigned signed fits16 all
overflow_is_signed s d hs hd = (grind (arith, choices, nat_tests, ints), grind (arith, choices, nat_tests, ints))
