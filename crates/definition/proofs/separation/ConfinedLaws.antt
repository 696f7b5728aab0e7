-- An instruction inside passes only its cycles, keeps the outside bytes and keeps GIE. Assumes nothing.
use Rattle.std.proofs.Common.{arith}
use Rattle.definition.specs.Laws.{InsideConfined}
use Rattle.definition.proofs.step.StepLaws.{next_inside}
use Rattle.definition.proofs.step.GieLaws.{next_gie}
use Rattle.definition.proofs.step.TouchLaws.{acted_own}

pub inside_confined : InsideConfined
unfolding InsideConfined
inside_confined S m mem i fit h free e =
    let own = acted_own S m mem i e in grind (arith, next_inside S m mem i e, next_gie S m mem i)
