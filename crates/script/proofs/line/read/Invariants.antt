use Rattle.std.proofs.Common.{◌≤◌}
use Rattle.script.proofs.line.read.Given as goal

abbrev pub invariant-loop-piece : goal.invariant-loop-piece
invariant-loop-piece l = l.count ≤ 8
