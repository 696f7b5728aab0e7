-- A name and a sheet leave less text than there was.
use Rattle.std.proofs.Common.{length}
use Rattle.readings.proofs.reading.all.Given as goal

abbrev pub decreases-loop-left : goal.decreases-loop-left
decreases-loop-left g l = length l.left
