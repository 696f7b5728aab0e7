use Rattle.std.specs.Prelude.{◌≡◌, drop}
use Rattle.text.specs.Number.{digits_from, decimal_of}
use Rattle.text.proofs.number.read_decimal.Given as goal

abbrev pub invariant-loop-b : goal.invariant-loop-b
invariant-loop-b l = decimal_of l.field ≡ digits_from l.n (drop l.b-index l.field)
