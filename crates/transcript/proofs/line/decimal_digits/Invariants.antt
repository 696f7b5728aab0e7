use Rattle.std.proofs.Common.{◌≡◌, length, drop}
use Rattle.transcript.specs.Transcript.{decimal_from, decimal_bytes}
use Rattle.transcript.proofs.line.decimal_digits.Given as goal

abbrev pub invariant-loop-i : goal.invariant-loop-i
invariant-loop-i l = (length l.text ≡ 20) × (decimal_bytes l.n ≡ decimal_from l.i l.rest (drop l.i l.text))
