use Rattle.std.proofs.Common.{◌≡◌, length, drop}
use Rattle.loader.specs.Setup.{pieces, memory_from}
use Rattle.loader.proofs.load.store_lines.Given as goal

abbrev pub invariant-loop-line : goal.invariant-loop-line
invariant-loop-line l = memory_from l.initial.mem (pieces l.sheet) ≡ memory_from l.mem (drop (length l.yielded) (pieces l.sheet))
