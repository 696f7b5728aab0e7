-- Choices whose test is settled by numbers. Assumes nothing.
use Rattle.std.proofs.lemmas.Bool.Decides.{nat_tests}
use Rattle.base.proofs.Tests.{when_true, when_false}

-- a choice by a comparison is the side that the numbers take
pub ruleset choices = (when_true, when_false, nat_tests)
